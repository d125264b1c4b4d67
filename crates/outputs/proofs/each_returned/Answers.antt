use Rattle.std.proofs.Common.{rules, tests, arith, refl, ◌+◌}
use Rattle.std.proofs.lemmas.Iterator.{YieldsList-from_range}
use Rattle.std.proofs.lemmas.Iterator.Search.{all_from_yields_List}
use mathlib.Core.Path.{◌≡◌, ◌∙◌, sym, ap}
use Rattle.dimrules.proofs.CountLaw.{all-everywhere}
use Rattle.operands.specs.Operands.{arity_of}
use Rattle.outputs.specs.Outputs.{returned_at}
use Rattle.outputs.proofs.each_returned.Goals as goal

pub returns : goal.returns
returns c =
    let a = c.args in
    all_from_yields_List (returned_at a.text.now a.op a.header) _ _ c.all.result c.all.ensures.ran (YieldsList-from_range 0 c.arity_of.result (arity_of a.op) refl (omega (arith, c.arity_of.ensures))) (λ x b q k. search (rules, tests))
    ∙ all-everywhere (returned_at a.text.now a.op a.header) 0 (arity_of a.op) (returned_at a.text.now a.op a.header) (λ k. let e : 0 + k ≡ k = omega arith in ap (returned_at a.text.now a.op a.header) (sym e))
