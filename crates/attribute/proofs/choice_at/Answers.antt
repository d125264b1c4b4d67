use mathlib.Core.Path.{◌∙◌, ap}
use Rattle.text.specs.declared.Token.{Token}
use Rattle.optable.specs.Find.{find_choice}
use Rattle.attribute.specs.Attribute.{choice_at}
use Rattle.attribute.proofs.choice_at.Goals as goal

pub returns-clause-found : goal.returns-clause-found
unfolding choice_at
returns-clause-found c = c.find_choice.ensures.found ∙ ap (λ (t : Token). find_choice c.args.text.now t.start t.end) c.token_after-choice.ensures
