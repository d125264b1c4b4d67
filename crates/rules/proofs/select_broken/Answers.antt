use Rattle.rule_laws.proofs.Tests.{select_tests}
use Rattle.rule_laws.proofs.TypesLaw.{same_select}
use mathlib.Core.Path.{◌≡◌}
use mathlib.Core.Bool.{◌&&◌, ◌||◌}
use borrow.Author.Tests.{eq-eqb, ne_eqb}
use lib.Dec.{eqb}
use Rattle.dimrules.specs.Types.{same_shape, same_type}
use Rattle.rules.proofs.select_broken.Goals as goal
use Rattle.rules.proofs.select_broken.Goals.{then-pred-eq0, else-pred-eq0, then-same_type, else-same_type}

pub returns : goal.returns
unfolding select_tests
returns c =
    let a = c.args in
    let c1 : c.if-pred-eq0.c1 ≡ (eqb a.pred.shape.rank 0 || same_shape a.pred a.t) = elim c.if-pred-eq0.branch [
      | then-pred-eq0 w ↦ simp (eq-eqb _ _ w.if-pred-eq0.true, w.c1-is)
      | else-pred-eq0 w ↦ simp (ne_eqb _ _ w.if-pred-eq0.false, w.same_shape-c1.ensures, w.c1-is)
    ] in
    let c2 : c.if-same_type.c2 ≡ (same_type a.t a.f && same_type a.t a.r) = elim c.if-same_type.branch [
      | then-same_type w ↦ simp (← c.same_type.ensures, w.if-same_type.true, w.same_type-c2.ensures, w.c2-is)
      | else-same_type w ↦ simp (← c.same_type.ensures, w.if-same_type.false, w.c2-is)
    ] in
    rw (same_select a.pred a.t a.f a.r) (simp (c.first_broken.ensures, c1, c2))
