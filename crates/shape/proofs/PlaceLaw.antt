-- The searches of std at the definitions of a shape.
-- Assumes nothing.
use mathlib.Core.Path.{◌≡◌, refl, sym, ap, ◌∙◌}
use mathlib.Core.Bool.{Bool, true, false}
use mathlib.Core.List.{List, [], ◌∷◌}
use Prim.Native.Nat.{ℕ, suc, ◌+◌, ◌≤◌}
use native.Mathlib.Omega.{arith}
use lib.ListN.{length}
use lib.Dec.{ltb}
use borrow.Author.Tests.{ltb-false}
use Rattle.std.specs.Prelude.{Option, Some, None, unwrap_or, cond}
use Rattle.std.specs.List.{position, position_or_len}
use Rattle.std.proofs.lemmas.List.Recursion.{is_position_or_len}
use Rattle.lists.specs.Lists.{pick, first_where}
use Rattle.lists.proofs.SearchLaw.{first-le}

first-where-cons : (t : ℕ → Bool) (x : ℕ) (xs : List ℕ) → first_where t (x ∷ xs) ≡ cond (t x) 0 (1 + first_where t xs)
unfolding first_where
first-where-cons t x xs = go (t x)
  where
    go : (b : Bool) → pick b 0 (suc (first_where t xs)) ≡ cond b 0 (1 + first_where t xs)
    go true = refl
    go false = omega arith

first-where-nil : (t : ℕ → Bool) → first_where t [] ≡ 0
unfolding first_where
first-where-nil t = refl

first-where-is : (t : ℕ → Bool) (l : List ℕ) → first_where t l ≡ position_or_len t l
first-where-is t l = is_position_or_len (first_where t) t (first-where-nil t) (first-where-cons t) l

-- the place that `position` finds, the length where it finds none
pub position-place : (t : ℕ → Bool) (l : List ℕ) (n : ℕ) → length l ≡ n → (r : Option ℕ) → r ≡ position t l → unwrap_or r n ≡ first_where t l
position-place t l n e r q = ap (λ (o : Option ℕ). unwrap_or o n) q ∙ go (ltb (position_or_len t l) (length l)) (ltb-false (position_or_len t l) (length l)) ∙ sym (first-where-is t l)
  where
    most : position_or_len t l ≤ length l
    most = rw (← first-where-is t l) (first-le t l)

    go : (b : Bool) → (b ≡ false → length l ≤ position_or_len t l) → unwrap_or (cond b (Some (position_or_len t l)) None) n ≡ position_or_len t l
    go true h = refl
    go false h = let g : length l ≤ position_or_len t l = h refl in omega (arith, most)
