use Rattle.rule_laws.proofs.Tests.{iota_tests}
use Rattle.rule_laws.proofs.JoinLaw.{same-iota}
use Rattle.rules.proofs.iota_broken.Goals as goal

pub returns : goal.returns
unfolding iota_tests
returns c =
    let a = c.args in
    rw (same-iota a.dimension a.r) (simp (c.first_broken.ensures, c.below-c1.ensures))
