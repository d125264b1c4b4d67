-- What holds of 0, of the padding value and of every element of the operands holds of every element of the result.
-- Assumes nothing.
use mathlib.Core.List.{List, [], ◌∷◌}
use mathlib.Core.Bool.{Bool, true, false}
use Prim.Native.Nat.{ℕ, zero, suc, ◌-◌}
use lib.ListN.{length, set}
use lib.Dec.{ltb}
use Rattle.lists.specs.Lists.{pick, tab, All}
use Rattle.lists.proofs.AllLaw.{all-tab}
use Rattle.shape.specs.Index.{at, size, ravel, unravel, is_within, element_at}
use Rattle.maps.specs.Formulas.{gathered, reshaped}
use Rattle.maps.specs.Concatenation.{concat_from, concatenated}

module _ (P : ℕ → Type 0) (p : P 0) where
  at_all : (x : List ℕ) (k : ℕ) → All P x → P (at x k)
  at_all [] k a = p
  at_all (y ∷ x) zero a = a.0
  at_all (y ∷ x) (suc k) a = at_all x k a.1

  picked : (b : Bool) (y z : ℕ) → P y → P z → P (pick b y z)
  picked true y z a c = a
  picked false y z a c = c

  pub all-element : (x s i : List ℕ) (z : ℕ) → All P x → P z → P (element_at x s i z)
  all-element x s i z a q = picked (is_within s i) (at x (ravel s i)) z (at_all x (ravel s i) a) q

  -- of broadcast_in_dim, transpose, slice, reverse, pad and dynamic_slice
  pub all-gathered : (f : (ℕ → ℕ) → ℕ → ℕ) (from to x : List ℕ) (z : ℕ) → All P x → P z → All P (gathered f from to x z)
  all-gathered f from to x z a q = all-tab P (size to) _ (λ k h. all-element x from (tab (length from) (f (at (unravel to k)))) z a q)

  pub all-reshaped : (from to x : List ℕ) → All P x → All P (reshaped from to x)
  all-reshaped from to x a = all-tab P (size to) _ (λ k h. all-element x from (unravel from (ravel to (unravel to k))) 0 a p)

  all-concat-from : (dimension : ℕ) (i : List ℕ) (shapes inputs : List (List ℕ)) (t : ℕ) → All (All P) inputs → P (concat_from dimension i shapes inputs t)
  all-concat-from dimension i [] inputs t a = p
  all-concat-from dimension i (s ∷ shapes) [] t a = p
  all-concat-from dimension i (s ∷ shapes) (x ∷ inputs) t a =
      picked (ltb t (at s dimension)) _ _ (all-element x s (set i dimension t) 0 a.0 p) (all-concat-from dimension i shapes inputs (t - at s dimension) a.1)

  pub all-concatenated : (dimension : ℕ) (shapes inputs : List (List ℕ)) (to : List ℕ) → All (All P) inputs → All P (concatenated dimension shapes inputs to)
  all-concatenated dimension shapes inputs to a = all-tab P (size to) _ (λ k h. all-concat-from dimension (unravel to k) shapes inputs (at (unravel to k) dimension) a)
