use Rattle.std.proofs.Common.{rules, tests, arith, refl, ◌+◌}
use Rattle.std.proofs.lemmas.Iterator.{YieldsList-from_range}
use Rattle.std.proofs.lemmas.Iterator.Search.{all_from_yields_List}
use mathlib.Core.Path.{◌≡◌, ◌∙◌, sym, ap}
use Rattle.dimrules.proofs.CountLaw.{all-everywhere}
use Rattle.opcheck.specs.Judged.{taken_at}
use Rattle.opcheck.proofs.operands_taken.Goals as goal

pub returns : goal.returns
returns c =
    let a = c.args in
    all_from_yields_List (taken_at a.row a.o) _ _ c.all.result c.all.ensures.ran (YieldsList-from_range 0 a.o.arity a.o.arity refl (omega arith)) (λ x b q k. search (rules, tests))
    ∙ all-everywhere (taken_at a.row a.o) 0 a.o.arity (taken_at a.row a.o) (λ k. let e : 0 + k ≡ k = omega arith in ap (taken_at a.row a.o) (sym e))
