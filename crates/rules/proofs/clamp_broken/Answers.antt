use Rattle.rule_laws.proofs.Tests.{clamp_tests}
use Rattle.rule_laws.proofs.TypesLaw.{same-clamp}
use mathlib.Core.Path.{◌≡◌}
use mathlib.Core.Bool.{◌&&◌, ◌||◌}
use borrow.Author.Tests.{eq-eqb, ne_eqb}
use lib.Dec.{eqb}
use Rattle.dimrules.specs.Types.{same_shape, same_element}
use Rattle.rules.proofs.clamp_broken.Goals as goal
use Rattle.rules.proofs.clamp_broken.Goals.{then-min-eq0, else-min-eq0, then-max-eq0, else-max-eq0, then-same_element, else-same_element}

pub returns : goal.returns
unfolding clamp_tests
returns c =
    let a = c.args in
    let c1 : c.if-min-eq0.c1 ≡ (eqb a.min.shape.rank 0 || same_shape a.min a.x) = elim c.if-min-eq0.branch [
      | then-min-eq0 w ↦ simp (eq-eqb _ _ w.if-min-eq0.true, w.c1-is)
      | else-min-eq0 w ↦ simp (ne_eqb _ _ w.if-min-eq0.false, w.same_shape-c1.ensures, w.c1-is)
    ] in
    let c2 : c.if-max-eq0.c2 ≡ (eqb a.max.shape.rank 0 || same_shape a.max a.x) = elim c.if-max-eq0.branch [
      | then-max-eq0 w ↦ simp (eq-eqb _ _ w.if-max-eq0.true, w.c2-is)
      | else-max-eq0 w ↦ simp (ne_eqb _ _ w.if-max-eq0.false, w.same_shape-c2.ensures, w.c2-is)
    ] in
    let c3 : c.if-same_element.c3 ≡ (same_element a.min a.x && same_element a.x a.max) = elim c.if-same_element.branch [
      | then-same_element w ↦ simp (← c.same_element.ensures, w.if-same_element.true, w.same_element-c3.ensures, w.c3-is)
      | else-same_element w ↦ simp (← c.same_element.ensures, w.if-same_element.false, w.c3-is)
    ] in
    rw (same-clamp a.min a.x a.max a.r) (simp (c.first_broken.ensures, c1, c2, c3, c.same_type-c4.ensures))
