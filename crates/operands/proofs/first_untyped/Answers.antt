use Prim.Native.Nat.{◌-◌}
use mathlib.Core.Path.{sym, ◌∙◌}
use native.Mathlib.Omega.{arith}
use Rattle.dimrules.proofs.CountLaw.{reach-none, reach-next, reach_here, reach-end}
use Rattle.operands.specs.Operands.{arity_of, operand_typed}
use Rattle.operands.proofs.OperandsLaw.{arity-few}
use Rattle.operands.proofs.first_untyped.Goals as goal

pub loop-j-init : goal.loop-j-init
loop-j-init c =
    let a = c.args in
    (c.arity_of-arity.ensures, omega arith, reach-none (arity_of a.op) (operand_typed a.text.now a.op a.values.list a.n))

pub operand_typed-requires : goal.operand_typed-requires
operand_typed-requires c = let m = arity-few c.args.op in let q = c.loop-j.invariant.0 in (omega arith, omega arith)

pub returns-then-not-operand_typed : goal.returns-then-not-operand_typed
returns-then-not-operand_typed c =
    let v = c.loop-j.invariant in
    let a = c.args in
    let h = c.loop-j-test.true in
    record { place = reach_here (arity_of a.op) (operand_typed a.text.now a.op a.values.list a.n) c.loop-j.j v.2 (rw (← v.0) h) (sym c.operand_typed.ensures ∙ c.if-not-operand_typed.true); within = omega arith }

pub loop-j-preserved : goal.loop-j-preserved
loop-j-preserved c =
    let v = c.loop-j.invariant in
    let a = c.args in
    let h = c.loop-j-test.true in
    (v.0, omega arith, reach-next (arity_of a.op) (operand_typed a.text.now a.op a.values.list a.n) c.loop-j.j v.2 (rw (← v.0) h) (sym c.operand_typed.ensures ∙ c.if-not-operand_typed.false))

pub returns : goal.returns
returns c =
    let v = c.loop-j.invariant in
    let a = c.args in
    record { place = reach-end (arity_of a.op) (operand_typed a.text.now a.op a.values.list a.n) c.loop-j.j v.2 (rw (← v.0) c.loop-j-test.false) (rw (← v.0) v.1); within = tt }
