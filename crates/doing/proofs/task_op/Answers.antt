use native.Mathlib.Omega.{arith}
use Rattle.doing.proofs.DoingLaw.{task-ready, task-gives}
use Rattle.doing.proofs.task_op.Goals as goal

pub operand-x-requires : goal.operand-x-requires
operand-x-requires c = let e = c in (e.requires.0.shaped, e.requires.2, omega arith)

pub operand-y-requires : goal.operand-y-requires
operand-y-requires c = let e = c in (e.requires.0.shaped, e.requires.2, omega arith)

pub operand-z-requires : goal.operand-z-requires
operand-z-requires c = let e = c in (e.requires.0.shaped, e.requires.2, omega arith)

pub fill-requires : goal.fill-requires
fill-requires c =
    let d = c in
    let e = d in
    let a = e.args in
    task-ready a.o a.places a.slots.now a.kind e.requires.0 e.requires.1 d.task_of.ensures d.operand-x.ensures
    d.operand-y.ensures d.operand-z.ensures e.requires.2 a.out.now e.requires.3

pub returns : goal.returns
returns c =
    let d = c in
    let e = d in
    let a = e.args in
    task-gives a.o a.places a.slots.now a.kind e.requires.0 e.requires.1 d.task_of.ensures d.operand-x.ensures
    d.operand-y.ensures d.operand-z.ensures c.starts_of.ensures c.fill.ensures
