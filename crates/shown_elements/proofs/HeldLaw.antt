-- From the tests of an example to what a division requires.
-- Assumes nothing.
use mathlib.Core.Path.{◌≡◌}
use mathlib.Core.Bool.{true}
use mathlib.Core.List.{List, [], ◌∷◌}
use Prim.Native.Nat.{ℕ}
use Rattle.lists.specs.Lists.{All}
use Rattle.lists.proofs.TestLaw.{both_true}
use Rattle.element.specs.Types.{is_value, SlotHolds}
use Rattle.element.specs.declared.ElementType.{ElementType}
use Rattle.elementwise.specs.Elementwise.{Holds}
use Rattle.shown_elements.specs.Held.{all_values, Held}

all-values : (t : ElementType) (x : List ℕ) → all_values t x ≡ true → All (SlotHolds t) x
all-values t [] e = tt
all-values t (v ∷ vs) e = let p = both_true (is_value t v) (all_values t vs) e in (p.0, all-values t vs p.1)

pub holds : (t : ElementType) (n : ℕ) (x : List ℕ) → Held t n x → Holds t n x
holds t n x h = record { sized = h.0; ranged = all-values t x h.1 }
