use Rattle.typing.specs.Typing.{body_type}
use Rattle.typing.proofs.body_type.Goals as goal

pub returns-then-row : goal.returns-then-row
unfolding body_type
returns-then-row c = simp (← c.argument_type.ensures, ← c.place_of.ensures, c.if-row.true)

pub returns : goal.returns
unfolding body_type
returns c = simp (← c.blank_type.ensures, c.if-row.false)
