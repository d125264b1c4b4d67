-- Laws of gathered: its element at an index, and that only the formula's values at the operand's dimensions count.
-- Assumes nothing.
use mathlib.Core.Path.{◌≡◌, sym, ap, ◌∙◌}
use mathlib.Core.List.{List}
use Prim.Native.Nat.{ℕ, ◌<◌}
use native.Mathlib.Omega.{arith}
use lib.ListN.{length}
use lib.Seq.{ext_get_or}
use Rattle.lists.specs.Lists.{tab}
use Rattle.lists.proofs.TabLaw.{length-tab, get_or-tab, tab-cong}
use Rattle.shape.specs.Index.{at, IndexOf, element_at}
use Rattle.shape.proofs.IndexLaw.{tabulate-cong}
use Rattle.shape.proofs.ElementLaw.{element-tabulate}
use Rattle.maps.specs.Formulas.{gathered}

-- "result[result_index] = operand[operand_index]"
pub gathered-at : (f : (ℕ → ℕ) → ℕ → ℕ) (from to x : List ℕ) (z : ℕ) (i : List ℕ) (w : ℕ) → IndexOf to i
    → element_at (gathered f from to x z) to i w ≡ element_at x from (tab (length from) (f (at i))) z
gathered-at f from to x z i w o = element-tabulate to (λ j. element_at x from (tab (length from) (f (at j))) z) i w o

pub gathered-cong : (f g : (ℕ → ℕ) → ℕ → ℕ) (from to x : List ℕ) (z : ℕ)
    → ((i : List ℕ) → IndexOf to i → (d : ℕ) → d < length from → f (at i) d ≡ g (at i) d) → gathered f from to x z ≡ gathered g from to x z
gathered-cong f g from to x z h =
    tabulate-cong to _ _ (λ i o. ap (λ (j : List ℕ). element_at x from j z) (tab-cong (length from) (f (at i)) (g (at i)) (λ d l. h i o d l)))

-- a list is the index that a formula gives, where its coordinates are
pub index_is : (n : ℕ) (f : ℕ → ℕ) (j : List ℕ) → length j ≡ n → ((d : ℕ) → d < n → f d ≡ at j d) → tab n f ≡ j
index_is n f j e h =
    ext_get_or 0 (tab n f) j (length-tab n f ∙ sym e)
    (λ d l. let b : d < n = omega (arith, length-tab n f) in get_or-tab n f d 0 b ∙ h d b)

-- a formula gives an index of a shape, where its coordinates are below the dimensions
pub index-of-tab : (s : List ℕ) (f : ℕ → ℕ) → ((d : ℕ) → d < length s → f d < at s d) → IndexOf s (tab (length s) f)
index-of-tab s f h = record { rank = length-tab (length s) f; within = λ d l. rw (get_or-tab (length s) f d 0 l) (h d l) }
