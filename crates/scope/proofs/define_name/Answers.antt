use mathlib.Core.Path.{refl}
use Rattle.scope.specs.Scope.{define}
use Rattle.scope.proofs.ScopeLaw.{rescope}
use native.Mathlib.Omega.{arith}
use Rattle.scope.proofs.define_name.Goals as goal

pub returns-then-is_visible : goal.returns-then-is_visible
unfolding define
returns-then-is_visible c = record { answer = simp (← c.is_visible.ensures, c.if-is_visible.true); size = refl; room = omega arith; within = omega arith }

pub returns : goal.returns
unfolding define
returns c = rescope (simp (← c.is_visible.ensures, c.if-is_visible.false)) (omega arith) c.push.ensures
