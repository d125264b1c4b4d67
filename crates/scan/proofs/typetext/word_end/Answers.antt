use Rattle.scan.specs.TypeText.{word_end}
use Rattle.scan.proofs.typetext.word_end.Goals as goal

pub returns-then-is_letter : goal.returns-then-is_letter
unfolding word_end
returns-then-is_letter c = simp (← c.byte_at.ensures, ← c.is_letter.ensures, c.if-is_letter.true, ← c.run_end.ensures)

pub returns-else-is_letter : goal.returns-else-is_letter
unfolding word_end
returns-else-is_letter c = simp (← c.byte_at.ensures, ← c.is_letter.ensures, c.if-is_letter.false)
