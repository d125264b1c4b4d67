use borrow.Author.Tests.{lt-ltb, le-ltb}
use Rattle.attribute.specs.Attribute.{with_number}
use Rattle.attribute.proofs.with_number.Goals as goal

pub returns-then-next-lt-LIST : goal.returns-then-next-lt-LIST
unfolding with_number
returns-then-next-lt-LIST c = simp (lt-ltb _ _ c.if-next-lt-LIST.true)

pub returns-else-next-lt-LIST : goal.returns-else-next-lt-LIST
unfolding with_number
returns-else-next-lt-LIST c = simp (le-ltb _ _ c.if-next-lt-LIST.false)
