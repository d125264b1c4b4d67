use mathlib.Core.Path.{◌∙◌}
use Rattle.optable.specs.Table.{attributes}
use Rattle.attributes.specs.Attributes.{attribute_of}
use Rattle.attributes.proofs.attribute_of.Goals as goal

pub returns : goal.returns
unfolding attribute_of attributes
returns c = c.unwrap_or.ensures ∙ c.find_attribute.ensures.found ∙ simp (← c.token_at.ensures, ← c.place_of-at.ensures)
