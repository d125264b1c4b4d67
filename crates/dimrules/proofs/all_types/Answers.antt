use Rattle.std.proofs.Common.{rules, tests, refl, arith, ◌+◌}
use Rattle.std.proofs.lemmas.Iterator.{YieldsList-from_range}
use Rattle.std.proofs.lemmas.Iterator.Search.{all_from_yields_List}
use mathlib.Core.Path.{◌∙◌}
use Rattle.dimrules.specs.Types.{all_types, type_test, operand_test, type_at}
use Rattle.dimrules.proofs.CountLaw.{all-everywhere}
use Rattle.dimrules.proofs.all_types.Goals as goal

pub returns : goal.returns
unfolding all_types
returns c =
    let a = c.args in
    all_from_yields_List (λ j. type_test a.t a.k a.x (type_at a.types j)) _ _ c.all.result c.all.ensures.ran (YieldsList-from_range a.from (a.from + a.n) a.n refl (omega arith)) (λ x b q k. search (rules, tests))
    ∙ all-everywhere (λ j. type_test a.t a.k a.x (type_at a.types j)) a.from a.n (operand_test a.t a.k a.x a.types a.from) (λ k. refl)
