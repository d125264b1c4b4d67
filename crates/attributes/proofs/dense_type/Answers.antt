use Rattle.attributes.specs.Attributes.{dense_type}
use Rattle.attributes.proofs.dense_type.Goals as goal

pub returns-then-not-stands : goal.returns-then-not-stands
unfolding dense_type
returns-then-not-stands c = simp (← c.blank_type.ensures, c.if-not-stands.true, ← c.stands.ensures)

pub returns : goal.returns
unfolding dense_type
returns c = simp (← c.type_in.ensures, ← c.dense_at.ensures, ← c.name_of.ensures, c.if-not-stands.false, ← c.stands.ensures)
