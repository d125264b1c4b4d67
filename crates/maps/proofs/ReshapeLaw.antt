-- reshape keeps the canonical representation.
-- Assumes nothing.
use mathlib.Core.Path.{◌≡◌, sym, ap, ◌∙◌, subst}
use mathlib.Core.List.{List}
use Prim.Native.Nat.{ℕ, ◌<◌}
use lib.ListN.{length}
use Rattle.lists.specs.Lists.{tab}
use Rattle.lists.proofs.TabLaw.{tab-cong, tab-get_or}
use Rattle.shape.specs.Index.{at, size, ravel, unravel, element_at}
use Rattle.shape.proofs.IndexLaw.{ravel-unravel, within-unravel}
use Rattle.shape.proofs.ElementLaw.{element-within}
use Rattle.maps.specs.Formulas.{reshaped}

pub reshape-same : (from to x : List ℕ) → size from ≡ size to → length x ≡ size from → reshaped from to x ≡ x
reshape-same from to x e l =
    tab-cong (size to) (λ k. element_at x from (unravel from (ravel to (unravel to k))) 0) (at x)
    (λ k h.
    let b : k < size from = subst (λ (n : ℕ). k < n) (sym e) h in
    ap (λ (p : ℕ). element_at x from (unravel from p) 0) (ravel-unravel to k h)
    ∙ element-within x from (unravel from k) 0 (within-unravel from k b)
    ∙ ap (at x) (ravel-unravel from k b))
    ∙ ap (λ (n : ℕ). tab n (at x)) (sym (l ∙ e))
    ∙ tab-get_or x 0
