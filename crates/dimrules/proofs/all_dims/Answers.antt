use Rattle.std.proofs.Common.{rules, tests, arith, refl, ◌+◌}
use Rattle.std.proofs.lemmas.Iterator.{YieldsList-from_range}
use Rattle.std.proofs.lemmas.Iterator.Search.{all_from_yields_List}
use mathlib.Core.Path.{◌≡◌, ◌∙◌, sym, ap}
use Rattle.dimrules.specs.Dims.{dim_test}
use Rattle.dimrules.proofs.CountLaw.{all-everywhere}
use Rattle.dimrules.proofs.all_dims.Goals as goal

pub returns : goal.returns
returns c =
    let a = c.args in
    all_from_yields_List (dim_test a.t a.s) _ _ c.all.result c.all.ensures.ran (YieldsList-from_range 0 a.count a.count refl (omega arith)) (λ x b q k. search (rules, tests))
    ∙ all-everywhere (dim_test a.t a.s) 0 a.count (dim_test a.t a.s) (λ k. let e : 0 + k ≡ k = omega arith in ap (dim_test a.t a.s) (sym e))
