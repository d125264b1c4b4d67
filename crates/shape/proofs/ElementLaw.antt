-- The element at an index: of a tabulated tensor it is the element that was tabulated for the index.
-- Assumes nothing.
use mathlib.Core.Path.{◌≡◌, refl, sym, ap, ◌∙◌}
use mathlib.Core.List.{List, [], ◌∷◌, ◌++◌}
use mathlib.Core.Bool.{Bool, true, false, false≢true}
use Prim.Native.Nat.{ℕ, zero, suc, ◌+◌, ◌*◌}
use native.Mathlib.Nat.{suc-ne-zero, suc_inj, not-suc-le-zero, le_of_suc-le-suc, zero-lt-suc}
use lib.ListN.{length, drop}
use lib.Dec.{ltb}
use borrow.Author.Tests.{lt-ltb, ltb-true}
use Rattle.lists.specs.Lists.{pick}
use Rattle.lists.proofs.TabLaw.{get_or-tab}
use Rattle.shape.specs.Index.{at, size, unravel, ravel, Within, IndexOf, is_within, tabulate, element_at}
use Rattle.shape.proofs.IndexLaw.{ravel-lt, unravel-ravel, within-drop}

-- what stands behind an index of the shape's rank is not read
is_within-front : (s u z : List ℕ) → length u ≡ length s → is_within s (u ++ z) ≡ is_within s u
is_within-front [] u z e = refl
is_within-front (d ∷ ds) [] z e = absurd (suc-ne-zero (length ds) (sym e))
is_within-front (d ∷ ds) (x ∷ u) z e = ap (λ (b : Bool). pick (ltb x d) b false) (is_within-front ds u z (suc_inj e))

ravel-front : (s u z : List ℕ) → length u ≡ length s → ravel s (u ++ z) ≡ ravel s u
ravel-front [] u z e = refl
ravel-front (d ∷ ds) [] z e = absurd (suc-ne-zero (length ds) (sym e))
ravel-front (d ∷ ds) (x ∷ u) z e = ap (λ (n : ℕ). x * size ds + n) (ravel-front ds u z (suc_inj e))

pub element_at-front : (x s u z : List ℕ) (v : ℕ) → length u ≡ length s → element_at x s (u ++ z) v ≡ element_at x s u v
element_at-front x s u z v e = rw (is_within-front s u z e, ravel-front s u z e)

-- the test and the fact
pick_true : (b t : Bool) → pick b t false ≡ true → (b ≡ true) × (t ≡ true)
pick_true true t e = (refl, e)
pick_true false t e = absurd (false≢true e)

pub is_within-true : (s i : List ℕ) → is_within s i ≡ true → Within s i
is_within-true [] i e n l = absurd (not-suc-le-zero l)
is_within-true (d ∷ ds) i e zero l = ltb-true (at i 0) d (pick_true _ _ e).0
is_within-true (d ∷ ds) [] e (suc n) l = is_within-true ds [] (pick_true (ltb 0 d) _ e).1 n (le_of_suc-le-suc l)
is_within-true (d ∷ ds) (x ∷ i) e (suc n) l = is_within-true ds i (pick_true (ltb x d) _ e).1 n (le_of_suc-le-suc l)

pub true-is_within : (s i : List ℕ) → Within s i → is_within s i ≡ true
true-is_within [] i w = refl
true-is_within (d ∷ ds) i w = rw (lt-ltb (at i 0) d (w 0 (zero-lt-suc (length ds)))) (true-is_within ds (drop 1 i) (within-drop 1 (d ∷ ds) i w))

-- ---- elements

pub element-within : (x s i : List ℕ) (z : ℕ) → Within s i → element_at x s i z ≡ at x (ravel s i)
element-within x s i z w = rw (true-is_within s i w)

-- at no index of the shape the element is the default
pub element-default : (x s i : List ℕ) (z : ℕ) → (Within s i → ⊥) → element_at x s i z ≡ z
element-default x s i z n = go (is_within s i) (is_within-true s i)
  where
    go : (b : Bool) → (b ≡ true → Within s i) → pick b (at x (ravel s i)) z ≡ z
    go true f = absurd (n (f refl))
    go false f = refl

-- the element of a tabulated tensor at an index
pub element-tabulate : (s : List ℕ) (f : List ℕ → ℕ) (i : List ℕ) (z : ℕ) → IndexOf s i → element_at (tabulate s f) s i z ≡ f i
element-tabulate s f i z o =
    element-within (tabulate s f) s i z o.within
    ∙ get_or-tab (size s) (λ k. f (unravel s k)) (ravel s i) 0 (ravel-lt s i o.within)
    ∙ ap f (unravel-ravel s i o.rank o.within)
