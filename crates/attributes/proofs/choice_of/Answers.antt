use mathlib.Core.Path.{◌∙◌}
use Rattle.optable.specs.Table.{choices}
use Rattle.attributes.specs.Attributes.{choice_of}
use Rattle.attributes.proofs.choice_of.Goals as goal

pub returns-then-not-stands : goal.returns-then-not-stands
unfolding choice_of choices
returns-then-not-stands c = simp (c.if-not-stands.true, ← c.stands.ensures)

pub returns : goal.returns
unfolding choice_of choices
returns c = c.unwrap_or.ensures ∙ c.choice_at.ensures.found ∙ simp (← c.name_of.ensures, c.if-not-stands.false, ← c.stands.ensures)
