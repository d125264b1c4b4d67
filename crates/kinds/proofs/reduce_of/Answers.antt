use mathlib.Core.Path.{◌≡◌, refl, ap}
use Rattle.std.specs.Prelude.{Option, Some, None, unwrap_or}
use Rattle.scalar.specs.declared.Body.{Body}
use Rattle.scalar.specs.declared.Body.TheVariants.{Add}
use Rattle.ops.specs.declared.Kind.TheVariants.{Reduce}
use Rattle.nodes.specs.Nodes.{operation_by, reducer_at}
use Rattle.kinds.proofs.reduce_of.Goals as goal

by-either : (r : Option Body) → unwrap_or r Add ≡ operation_by r
by-either None = refl
by-either (Some b) = refl

pub returns : goal.returns
unfolding reducer_at
returns c = rw (← c.place_of.ensures, ← c.body_row-body.ensures, ← c.op_row.ensures, c.unwrap_or.ensures) (ap Reduce (by-either c.op_row.result.reducer))
