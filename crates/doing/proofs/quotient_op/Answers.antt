use native.Mathlib.Omega.{arith}
use Rattle.doing.proofs.DoingLaw.{quotient-lent, quotient-filled, quotient-zeroed}
use Rattle.doing.proofs.quotient_op.Goals as goal

pub operand-x-requires : goal.operand-x-requires
operand-x-requires c = (c.requires.0.shaped, c.requires.1, omega arith)

pub operand-y-requires : goal.operand-y-requires
operand-y-requires c = (c.requires.0.shaped, c.requires.1, omega arith)

pub division_into-requires : goal.division_into-requires
division_into-requires c =
    let a = c.args in
    quotient-lent a.o a.places a.slots.now a.op c.requires.0 c.operand-x.ensures c.operand-y.ensures a.out.now c.requires.2 c.requires.1

pub returns-in-Err : goal.returns-in-Err
returns-in-Err c =
    let a = c.args in
    quotient-zeroed a.o a.places a.slots.now a.op c.requires.0 c.operand-x.ensures c.operand-y.ensures a.out.now c.requires.2 c.in-Err.ensures c.division_into.auto.out (c.fill.ensures.after (λ y h. h))

pub returns : goal.returns
returns c =
    let a = c.args in
    quotient-filled a.o a.places a.slots.now a.op c.requires.0 c.operand-x.ensures c.operand-y.ensures a.out.now c.requires.2 c.in_default.ensures
