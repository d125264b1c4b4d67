use borrow.Author.Tests.{lt-ltb, le-ltb}
use Rattle.laid.specs.Laid.{put}
use Rattle.laid.proofs.put.Goals as goal

pub returns-then-place-out : goal.returns-then-place-out
unfolding put
returns-then-place-out g c = simp (lt-ltb _ _ c.if-place-out.true)

pub returns : goal.returns
unfolding put
returns g c = simp (le-ltb _ _ c.if-place-out.false)
