use mathlib.Core.Path.{◌≡◌}
use native.Mathlib.Omega.{arith}
use borrow.Author.Rules.{rules}
use Rattle.std.specs.Prelude.{Err}
use Rattle.scope.specs.Scope.{placed, turned}
use Rattle.scope.proofs.ScopeLaw.{rescope, goes_on, stops}
use Rattle.scope.proofs.turn.Goals as goal

pub returns-in_err-settled : goal.returns-in_err-settled
unfolding turned
returns-in_err-settled c =
    let a = c.args in
    let e = c.in_err-settled in
    let same : c.from_residual.result ≡ Err e.field-0.0 = search rules in
    rw same (rescope (simp (← c.ends_op.ensures, c.if-ends_op.true)) (omega arith) (stops (placed a.text.now a.role a.a) _ e.ensures))

pub returns-then-ends_op : goal.returns-then-ends_op
unfolding turned
returns-then-ends_op c =
    let a = c.args in
    rescope (simp (← c.ends_op.ensures, c.if-ends_op.true)) (omega arith) (goes_on (placed a.text.now a.role a.a) c.place_name.result c.in_ok-settled.ensures c.place_name.ensures)

pub returns : goal.returns
unfolding turned
returns c = rescope (simp (← c.ends_op.ensures, c.if-ends_op.false)) (omega arith) c.place_name-2.ensures
