-- The operand's index, over the array that holds the dimensions.
-- Assumes nothing.
use mathlib.Core.Path.{◌≡◌, sym, ap, ◌∙◌}
use mathlib.Core.List.{List}
use Prim.Native.Nat.{ℕ, ◌≤◌}
use lib.ListN.{length, take}
use lib.Seq.{get_or-take, length-take-le}
use Rattle.lists.specs.Lists.{tab}
use Rattle.lists.proofs.TabLaw.{tab-cong}
use Rattle.shape.specs.Index.{at}
use Rattle.maps.specs.Kinds.{coord_of, operand_index}
use Rattle.maps.specs.declared.Map.{Map}

pub operand-index-dims : (m : Map) (dims : List ℕ) (rank : ℕ) (i : ℕ → ℕ) → rank ≤ length dims → tab rank (λ d. coord_of m (at dims d) i d) ≡ operand_index m (take rank dims) i
operand-index-dims m dims rank i h =
    tab-cong rank (λ d. coord_of m (at dims d) i d) (λ d. coord_of m (at (take rank dims) d) i d) (λ d b. ap (λ (n : ℕ). coord_of m n i d) (sym (get_or-take rank dims d 0 b)))
    ∙ ap (λ (n : ℕ). tab n (λ d. coord_of m (at (take rank dims) d) i d)) (sym (length-take-le rank dims h))
