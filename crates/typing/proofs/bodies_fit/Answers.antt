use Rattle.typing.proofs.TypingLaw.{and-true}
use Rattle.typing.specs.Typing.{bodies_fit}
use Rattle.typing.proofs.bodies_fit.Goals as goal

pub returns : goal.returns
unfolding bodies_fit
returns c = rw (c.if-row.false, ← c.count_of-n.ensures, and-true _)
