use Rattle.rule_laws.proofs.Tests.{compare_tests}
use Rattle.rule_laws.proofs.TypesLaw.{same-compare}
use mathlib.Core.Path.{◌≡◌}
use mathlib.Core.Bool.{◌&&◌}
use Rattle.dimrules.specs.Types.{same_shape}
use Rattle.rules.proofs.compare_broken.Goals as goal
use Rattle.rules.proofs.compare_broken.Goals.{then-same_shape, else-same_shape}

pub returns : goal.returns
unfolding compare_tests
returns c =
    let a = c.args in
    let c2 : c.if-same_shape.c2 ≡ (same_shape a.x a.y && same_shape a.x a.r) = elim c.if-same_shape.branch [
      | then-same_shape w ↦ simp (← c.same_shape.ensures, w.if-same_shape.true, w.same_shape-c2.ensures, w.c2-is)
      | else-same_shape w ↦ simp (← c.same_shape.ensures, w.if-same_shape.false, w.c2-is)
    ] in
    rw (same-compare a.x a.y a.choice a.r) (simp (c.first_broken.ensures, c2, c.compare_type_is-c3.ensures, c.same_element-c1.ensures))
