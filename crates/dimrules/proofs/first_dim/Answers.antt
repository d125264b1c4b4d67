use Rattle.dimrules.proofs.CountLaw.{reach-none, reach-next, reach_here, reach-end}
use Rattle.dimrules.specs.Dims.{dim_test}
use native.Mathlib.Omega.{arith}
use mathlib.Core.Path.{sym, ◌∙◌}
use Rattle.dimrules.proofs.first_dim.Goals as goal

pub loop-d-init : goal.loop-d-init
loop-d-init c = (omega arith, reach-none c.args.count (dim_test c.args.t c.args.s))

pub returns-then-not-dim_test : goal.returns-then-not-dim_test
returns-then-not-dim_test c =
    let s = c in
    record { place = reach_here s.args.count (dim_test s.args.t s.args.s) c.loop-d.d c.loop-d.invariant.1 (omega arith) (sym c.dim_test.ensures ∙ c.if-not-dim_test.true); within = omega arith }

pub loop-d-preserved : goal.loop-d-preserved
loop-d-preserved c =
    let s = c in
    (omega arith, reach-next s.args.count (dim_test s.args.t s.args.s) c.loop-d.d c.loop-d.invariant.1 (omega arith) (sym c.dim_test.ensures ∙ c.if-not-dim_test.false))

pub returns : goal.returns
returns c =
    let s = c in
    record { place = reach-end s.args.count (dim_test s.args.t s.args.s) c.loop-d.d c.loop-d.invariant.1 (omega arith) (omega arith); within = tt }
