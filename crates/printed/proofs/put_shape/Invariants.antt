use mathlib.Core.Path.{◌≡◌}
use lib.ListN.{length, drop}
use Rattle.laid.specs.Laid.{laid, lay}
use Rattle.printed.specs.Printed.{shape_text}
use Rattle.printed.proofs.put_shape.Given as goal

abbrev pub invariant-loop-d : goal.invariant-loop-d
invariant-loop-d l = (length l.out ≡ length l.initial.out) × (lay (shape_text (drop l.d-index l.d-items)) (laid l.place l.out) ≡ lay (shape_text l.d-items) (laid l.from l.initial.out))
