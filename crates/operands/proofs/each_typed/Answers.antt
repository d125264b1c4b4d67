use Rattle.std.proofs.Common.{rules, tests, arith, refl, ◌+◌}
use Rattle.std.proofs.lemmas.Iterator.{YieldsList-from_range}
use Rattle.std.proofs.lemmas.Iterator.Search.{all_from_yields_List}
use mathlib.Core.Path.{◌≡◌, ◌∙◌, sym, ap}
use Rattle.dimrules.proofs.CountLaw.{all-everywhere}
use Rattle.operands.specs.Operands.{arity_of, operand_typed}
use Rattle.operands.proofs.each_typed.Goals as goal

pub returns : goal.returns
returns c =
    let a = c.args in
    all_from_yields_List (operand_typed a.text.now a.op a.values.list a.n) _ _ c.all.result c.all.ensures.ran (YieldsList-from_range 0 c.arity_of.result (arity_of a.op) refl (omega (arith, c.arity_of.ensures))) (λ x b q k. search (rules, tests))
    ∙ all-everywhere (operand_typed a.text.now a.op a.values.list a.n) 0 (arity_of a.op) (operand_typed a.text.now a.op a.values.list a.n) (λ k. let e : 0 + k ≡ k = omega arith in ap (operand_typed a.text.now a.op a.values.list a.n) (sym e))
