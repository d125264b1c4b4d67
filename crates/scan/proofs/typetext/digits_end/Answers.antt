use Rattle.scan.specs.TypeText.{digits_end}
use Rattle.scan.proofs.typetext.digits_end.Goals as goal

pub returns-then-is_digit : goal.returns-then-is_digit
unfolding digits_end
returns-then-is_digit c = simp (← c.byte_at.ensures, ← c.is_digit.ensures, c.if-is_digit.true, ← c.run_end.ensures)

pub returns-else-is_digit : goal.returns-else-is_digit
unfolding digits_end
returns-else-is_digit c = simp (← c.byte_at.ensures, ← c.is_digit.ensures, c.if-is_digit.false)
