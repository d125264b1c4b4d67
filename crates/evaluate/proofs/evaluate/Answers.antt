use mathlib.Core.Path.{◌∙◌}
use Rattle.evaluation.proofs.OrderLaw.{order-free-answer}
use Rattle.answers.proofs.AnswerLaw.{answer-same, free-of-order}
use Rattle.evaluate.proofs.evaluate.Goals as goal

pub returns : goal.returns
returns c =
    let e = c.run_text.ensures in
    let claim = order-free-answer _ _ _ _ _ e in
    record { store_after = e; order_free_answer = claim; store_after_2 = e ∙ answer-same _ _ _; free_of_order = free-of-order _ _ _ _ claim }
