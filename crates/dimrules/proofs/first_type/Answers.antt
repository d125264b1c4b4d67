use Rattle.dimrules.proofs.CountLaw.{reach-none, reach-next, reach_here, reach-end}
use Rattle.dimrules.specs.Types.{operand_test}
use native.Mathlib.Omega.{arith}
use mathlib.Core.Path.{sym, ◌∙◌}
use Rattle.dimrules.proofs.first_type.Goals as goal

pub loop-j-init : goal.loop-j-init
loop-j-init c = (omega arith, reach-none c.args.n (operand_test c.args.t c.args.k c.args.x c.args.types c.args.from))

pub returns-then-not-type_test : goal.returns-then-not-type_test
returns-then-not-type_test c =
    let s = c in
    record { place = reach_here s.args.n (operand_test s.args.t s.args.k s.args.x s.args.types s.args.from) c.loop-j.j c.loop-j.invariant.1 (omega arith) (sym c.type_test.ensures ∙ c.if-not-type_test.true); within = omega arith }

pub loop-j-preserved : goal.loop-j-preserved
loop-j-preserved c =
    let s = c in
    (omega arith, reach-next s.args.n (operand_test s.args.t s.args.k s.args.x s.args.types s.args.from) c.loop-j.j c.loop-j.invariant.1 (omega arith) (sym c.type_test.ensures ∙ c.if-not-type_test.false))

pub returns : goal.returns
returns c =
    let s = c in
    record { place = reach-end s.args.n (operand_test s.args.t s.args.k s.args.x s.args.types s.args.from) c.loop-j.j c.loop-j.invariant.1 (omega arith) (omega arith); within = tt }
