use mathlib.Core.Path.{ap, ◌∙◌}
use Rattle.evaluation.specs.Evaluated.{Evaluated}
use Rattle.answers.specs.FreeRuns.{FreeOfOrder}
use Rattle.bench.specs.Numbers.{three_numbers}
use Rattle.bench.proofs.bench_evaluate.Goals as goal

-- What is promised at the return is the whole claim of demand 3, for every order and all trees and of every tensor: not of the text's order, the fold's trees or
-- the results alone. It is of the text and the inputs of the call, of the answer's number and of the store that is left.
pub returns : goal.returns
returns c =
    let r = c.answer_of.ensures in
    let e = c.evaluate.ensures.store_after_2 in
    let whole-claim : FreeOfOrder c.args.text.now c.args.inputs.now c.answer_of.result.refusal c.evaluate.new.store = rw r c.evaluate.ensures.free_of_order in
    record { value = r ∙ ap (λ (a : Evaluated). three_numbers a.refusal) e; store_after = ap (λ (a : Evaluated). a.store) e; free_of_order = whole-claim }
