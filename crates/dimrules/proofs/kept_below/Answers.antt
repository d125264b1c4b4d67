use Rattle.std.proofs.Common.{rules, tests, arith, not}
use Rattle.std.proofs.lemmas.Iterator.{YieldsList-from_range}
use Rattle.std.proofs.lemmas.Iterator.Consumers.{YieldsList-from_filter, count_from_yields_List}
use mathlib.Core.Path.{◌∙◌}
use Rattle.shape.specs.Place.{is_in}
use Rattle.dimrules.specs.Dims.{list_of, kept_below}
use Rattle.dimrules.proofs.CountLaw.{count-below}
use Rattle.dimrules.proofs.kept_below.Goals as goal

pub returns : goal.returns
unfolding kept_below
returns c =
    let a = c.args in
    count_from_yields_List c.filter.result c.count.result c.count.ensures.ran
    (YieldsList-from_filter _ (λ e. not (is_in (list_of a.a) e)) (YieldsList-from_range 0 a.d a.d c.filter.ensures.source (omega arith)) c.filter.ensures.closure (λ x r q k. search (rules, tests)))
    ∙ count-below (λ e. not (is_in (list_of a.a) e)) a.d
