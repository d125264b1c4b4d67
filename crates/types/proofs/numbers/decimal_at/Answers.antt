use Rattle.types.specs.Numbers.{magnitude_of, decimal_of}
use Rattle.types.proofs.DigitLaw.{signed-decimal}
use Rattle.types.proofs.numbers.decimal_at.Goals as goal

pub returns : goal.returns
unfolding decimal_of magnitude_of
returns c = rw (← c.byte_at.ensures, ← c.sign_end.ensures) (signed-decimal _ _ _ c.digits.ensures)
