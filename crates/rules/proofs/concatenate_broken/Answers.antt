use Rattle.rule_laws.proofs.Tests.{concatenate_tests}
use Rattle.rule_laws.proofs.JoinLaw.{same-concatenate}
use mathlib.Core.Path.{◌≡◌}
use mathlib.Core.Bool.{◌&&◌}
use lib.Dec.{eqb}
use Rattle.dimrules.specs.Dims.{dim}
use Rattle.dimrules.specs.Types.{same_but_one, type_at, sum_of_dims}
use Rattle.rules.proofs.concatenate_broken.Goals as goal
use Rattle.rules.proofs.concatenate_broken.Goals.{then-same_but_one, else-same_but_one}

pub returns : goal.returns
unfolding concatenate_tests
returns c =
    let a = c.args in
    let c6 : c.if-same_but_one.c6 ≡ (same_but_one (type_at a.types 0) a.r a.dimension && eqb (dim a.r.shape a.dimension) (sum_of_dims a.types a.arity a.dimension)) = elim c.if-same_but_one.branch [
      | then-same_but_one w ↦ simp (← c.same_but_one.ensures, w.if-same_but_one.true, w.dim_at.ensures, c.sum_dims-size.ensures, w.c6-is)
      | else-same_but_one w ↦ simp (← c.same_but_one.ensures, w.if-same_but_one.false, w.c6-is)
    ] in
    rw (same-concatenate _ a.arity a.dimension a.r) (simp (c.first_broken.ensures, c6, c.same_element-c5.ensures, c.below-c4.ensures, c.all_types-c2.ensures, c.all_types-c1.ensures))
