use Rattle.dimrules.proofs.CountLaw.{reach-none, reach-next, reach_here, reach-end}
use Rattle.opcheck.specs.Judged.{taken_at}
use native.Mathlib.Omega.{arith}
use mathlib.Core.Path.{sym, ◌∙◌}
use Rattle.opcheck.proofs.first_untaken.Goals as goal

pub loop-j-init : goal.loop-j-init
loop-j-init c = (omega arith, reach-none c.args.o.arity (taken_at c.args.row c.args.o))

pub returns-then-not-taken_at : goal.returns-then-not-taken_at
returns-then-not-taken_at c =
    let s = c in
    record { place = reach_here s.args.o.arity (taken_at s.args.row s.args.o) c.loop-j.j c.loop-j.invariant.1 (omega arith) (sym c.taken_at.ensures ∙ c.if-not-taken_at.true); within = omega arith }

pub loop-j-preserved : goal.loop-j-preserved
loop-j-preserved c =
    let s = c in
    (omega arith, reach-next s.args.o.arity (taken_at s.args.row s.args.o) c.loop-j.j c.loop-j.invariant.1 (omega arith) (sym c.taken_at.ensures ∙ c.if-not-taken_at.false))

pub returns : goal.returns
returns c =
    let s = c in
    record { place = reach-end s.args.o.arity (taken_at s.args.row s.args.o) c.loop-j.j c.loop-j.invariant.1 (omega arith) (omega arith); within = tt }
