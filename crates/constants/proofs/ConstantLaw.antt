-- What `constant_into` leaves is what the op constant gives.
-- Assumes nothing.
use mathlib.Core.Path.{◌≡◌}
use mathlib.Core.List.{List}
use Prim.Native.Nat.{ℕ}
use Rattle.run.specs.Run.{gives}
use Rattle.run.specs.Ways.{by_fold}
use Rattle.elementwise.specs.Elementwise.{Tensor}
use Rattle.ops.specs.declared.Kind.TheVariants.{Constant}
use Rattle.ops.specs.Ops.{Node, hlo}

-- an op of the class constant with these elements, whatever the budget
pub constant-is : (o : Node) (args : List Tensor) (b : ℕ) {values new : Tensor} → o.kind ≡ Constant → o.values ≡ values → new ≡ values
    → by_fold hlo (hlo.way o args b) ≡ gives new
constant-is o args b k e h = rw (k, e, h)
