use borrow.Author.Tests.{lt-ltb, le-ltb}
use Rattle.verdict_lines.specs.Lines.{whole_refusal}
use Rattle.verdict_lines.proofs.whole_refusal.Goals as goal

pub returns-then-len-gt-TEXT : goal.returns-then-len-gt-TEXT
unfolding whole_refusal
returns-then-len-gt-TEXT c = simp (lt-ltb _ _ c.if-len-gt-TEXT.true)

pub returns : goal.returns
unfolding whole_refusal
returns c = simp (le-ltb _ _ c.if-len-gt-TEXT.false)
