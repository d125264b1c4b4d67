-- Whether an index is within a shape, as `all` finds it of their pairs.
-- Assumes nothing.
use mathlib.Core.Path.{◌≡◌, refl}
use mathlib.Core.Bool.{Bool, true, false, ◌&&◌}
use mathlib.Core.List.{List, [], ◌∷◌}
use Prim.Native.Nat.{ℕ, ◌≤◌}
use native.Mathlib.Omega.{arith}
use lib.ListN.{length}
use lib.Dec.{ltb}
use Rattle.std.specs.List.{list_all, zip}
use Rattle.lists.specs.Lists.{pick}
use Rattle.shape.specs.Index.{is_within}

pub all-within : (s i : List ℕ) → length s ≤ length i → list_all (λ (p : ℕ × ℕ). ltb p.1 p.0) (zip s i) ≡ is_within s i
all-within [] i h = refl
all-within (d ∷ s) [] h = absurd (omega arith)
all-within (d ∷ s) (x ∷ i) h = rw (all-within s i (omega arith)) (go (ltb x d) (is_within s i))
  where
    go : (b c : Bool) → (b && c) ≡ pick b c false
    go true c = refl
    go false c = refl
