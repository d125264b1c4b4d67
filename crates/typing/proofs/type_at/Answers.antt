use borrow.Author.Tests.{lt-ltb, le-ltb}
use Rattle.typing.specs.Typing.{types_of}
use Rattle.typing.proofs.type_at.Goals as goal

pub returns-then-j-arity_of : goal.returns-then-j-arity_of
unfolding types_of
returns-then-j-arity_of c = simp (← c.type_of.ensures, lt-ltb _ _ c.if-j-arity_of.true, ← c.arity_of.ensures)

pub returns : goal.returns
unfolding types_of
returns c = simp (← c.blank_type.ensures, le-ltb _ _ c.if-j-arity_of.false, ← c.arity_of.ensures)
