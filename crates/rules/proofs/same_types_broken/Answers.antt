use Rattle.rule_laws.proofs.Tests.{same_types_tests}
use Rattle.rule_laws.proofs.TypesLaw.{same-same-types}
use Rattle.rules.proofs.same_types_broken.Goals as goal

pub returns : goal.returns
unfolding same_types_tests
returns c =
    let a = c.args in
    rw (same-same-types a.types a.arity a.r) (simp (c.first_broken.ensures, c.all_types-c1.ensures))
