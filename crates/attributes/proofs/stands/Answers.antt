use mathlib.Core.Path.{◌∙◌}
use Rattle.attributes.specs.Attributes.{stands}
use Rattle.attributes.proofs.AttributesLaw.{found-below}
use Rattle.attributes.proofs.stands.Goals as goal

pub returns : goal.returns
unfolding stands
returns c = c.is_some.ensures ∙ found-below c.stands_at.result _ _ c.stands_at.ensures.found c.stands_at.ensures.within
