use native.Mathlib.Omega.{arith}
use Rattle.inputs.proofs.InputsLaw.{past-none, past-here, past_next, past_end}
use Rattle.inputs.proofs.input_of.Goals as goal

pub loop-i-init : goal.loop-i-init
loop-i-init c = (omega arith, past-none c.args.vs c.args.s)

pub returns-then-s-offsets : goal.returns-then-s-offsets
returns-then-s-offsets c =
    let s = c in
    past-here s.args.vs s.args.offsets s.requires.0 s.requires.1 s.args.s c.loop-i.i c.loop-i.invariant.1
    c.loop-i-test.true c.if-s-offsets.true

pub loop-i-preserved : goal.loop-i-preserved
loop-i-preserved c =
    let s = c in (
      omega arith,
      past_next s.args.vs s.args.offsets s.requires.0 s.requires.1 s.args.s c.loop-i.i c.loop-i.invariant.1
          c.loop-i-test.true c.if-s-offsets.false,
    )

pub returns : goal.returns
returns c = past_end c.args.vs c.args.s c.loop-i.i c.loop-i.invariant.1 c.loop-i-test.false c.loop-i.invariant.0
