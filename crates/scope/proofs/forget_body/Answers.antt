use mathlib.Core.Path.{◌≡◌, refl, sym, ◌∙◌}
use lib.ListN.{length}
use borrow.Author.Tests.{eq-eqb, ne_eqb}
use Rattle.scope.proofs.ScopeLaw.{forget-next, forget-end}
use native.Mathlib.Omega.{arith}
use Rattle.scope.proofs.forget_body.Goals as goal

pub loop-i-init : goal.loop-i-init
loop-i-init c = (refl, omega arith, c.requires)

pub returns-then-entries-i-eq-BODY : goal.returns-then-entries-i-eq-BODY
returns-then-entries-i-eq-BODY c =
    let l = c.loop-i in
    let p = l.invariant.1 in
    record { left = sym (rw (← l.invariant.0, forget-next _ _ c.loop-i-test.true, eq-eqb _ _ c.if-entries-i-eq-BODY.true)); room = omega arith; within = omega arith }

pub loop-i-preserved : goal.loop-i-preserved
loop-i-preserved c =
    let l = c.loop-i in
    let p = l.invariant.1 in
    (rw (← l.invariant.0, forget-next _ _ c.loop-i-test.true, ne_eqb _ _ c.if-entries-i-eq-BODY.false), omega arith, omega arith)

pub returns : goal.returns
returns c =
    let l = c.loop-i in
    let q = l.invariant.1 in
    let w = l.invariant.2 in
    let e : l.i ≡ length c.args.entries.now = omega arith in
    record { left = rw (← e) (sym (forget-end c.args.entries.now l.i (omega arith)) ∙ l.invariant.0); room = omega arith; within = omega arith }
