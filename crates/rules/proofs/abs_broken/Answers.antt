use Rattle.rule_laws.proofs.Tests.{abs_tests}
use Rattle.rule_laws.proofs.TypesLaw.{same-abs}
use Rattle.rules.proofs.abs_broken.Goals as goal

pub returns : goal.returns
unfolding abs_tests
returns c =
    let a = c.args in
    rw (same-abs a.x a.r) (simp (c.first_broken.ensures, c.same_element-c2.ensures, c.same_shape-c1.ensures))
