use Rattle.attributes.specs.Attributes.{attribute_numbers}
use Rattle.attributes.proofs.numbers_of.Goals as goal

pub returns-then-not-stands : goal.returns-then-not-stands
unfolding attribute_numbers
returns-then-not-stands c = simp (c.if-not-stands.true, ← c.stands.ensures)

pub returns : goal.returns
unfolding attribute_numbers
returns c = simp (← c.attribute_kind.ensures, c.numbers_by.ensures, ← c.name_of.ensures, c.if-not-stands.false, ← c.stands.ensures)
