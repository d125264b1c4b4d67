use Prim.Native.Nat.{◌-◌}
use mathlib.Core.Path.{sym, ◌∙◌}
use native.Mathlib.Omega.{arith}
use Rattle.dimrules.proofs.CountLaw.{reach-none, reach-next, reach_here, reach-end}
use Rattle.operands.specs.Operands.{arity_of}
use Rattle.outputs.specs.Outputs.{returned_at}
use Rattle.operands.proofs.OperandsLaw.{arity-few}
use Rattle.outputs.proofs.first_unlike.Goals as goal

pub loop-j-init : goal.loop-j-init
loop-j-init c =
    let a = c.args in
    (c.arity_of-arity.ensures, omega arith, reach-none (arity_of a.op) (returned_at a.text.now a.op a.header))

pub returned_at-requires : goal.returned_at-requires
returned_at-requires c = let m = arity-few c.args.op in let q = c.loop-j.invariant.0 in omega arith

pub returns-then-not-returned_at : goal.returns-then-not-returned_at
returns-then-not-returned_at c =
    let v = c.loop-j.invariant in
    let a = c.args in
    let h = c.loop-j-test.true in
    record { place = reach_here (arity_of a.op) (returned_at a.text.now a.op a.header) c.loop-j.j v.2 (rw (← v.0) h) (sym c.returned_at.ensures ∙ c.if-not-returned_at.true); within = omega arith }

pub loop-j-preserved : goal.loop-j-preserved
loop-j-preserved c =
    let v = c.loop-j.invariant in
    let a = c.args in
    let h = c.loop-j-test.true in
    (v.0, omega arith, reach-next (arity_of a.op) (returned_at a.text.now a.op a.header) c.loop-j.j v.2 (rw (← v.0) h) (sym c.returned_at.ensures ∙ c.if-not-returned_at.false))

pub returns : goal.returns
returns c =
    let v = c.loop-j.invariant in
    let a = c.args in
    record { place = reach-end (arity_of a.op) (returned_at a.text.now a.op a.header) c.loop-j.j v.2 (rw (← v.0) c.loop-j-test.false) (rw (← v.0) v.1); within = tt }
