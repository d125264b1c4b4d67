use mathlib.Core.Path.{refl}
use Rattle.scope.specs.Scope.{look}
use native.Mathlib.Omega.{arith}
use Rattle.scope.proofs.look_up.Goals as goal

pub returns-then-is_visible : goal.returns-then-is_visible
unfolding look
returns-then-is_visible c = record { answer = simp (← c.is_visible.ensures, c.if-is_visible.true); size = refl; room = omega arith; within = c.requires }

pub returns : goal.returns
unfolding look
returns c = record { answer = simp (← c.is_visible.ensures, c.if-is_visible.false); size = refl; room = omega arith; within = omega arith }
