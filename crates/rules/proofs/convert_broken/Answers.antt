use Rattle.rule_laws.proofs.Tests.{convert_tests}
use Rattle.rule_laws.proofs.TypesLaw.{same-convert}
use Rattle.rules.proofs.convert_broken.Goals as goal

pub returns : goal.returns
unfolding convert_tests
returns c =
    let a = c.args in
    rw (same-convert a.x a.r) (simp (c.first_broken.ensures, c.same_shape-c1.ensures))
