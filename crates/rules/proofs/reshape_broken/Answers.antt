use Rattle.rule_laws.proofs.Tests.{reshape_tests}
use Rattle.rule_laws.proofs.TypesLaw.{same-reshape}
use Rattle.rules.proofs.reshape_broken.Goals as goal

pub returns : goal.returns
unfolding reshape_tests
returns c =
    let a = c.args in
    rw (same-reshape a.x a.r) (simp (c.first_broken.ensures, c.size_of-2.ensures, c.size_of.ensures, c.same_element-c1.ensures))
