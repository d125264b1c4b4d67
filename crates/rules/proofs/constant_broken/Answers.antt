use Rattle.rule_laws.proofs.Tests.{constant_tests}
use Rattle.rule_laws.proofs.TypesLaw.{same-constant}
use Rattle.rules.proofs.constant_broken.Goals as goal

pub returns : goal.returns
unfolding constant_tests
returns c =
    let a = c.args in
    rw (same-constant a.value a.r) (simp (c.first_broken.ensures, c.same_type-c1.ensures))
