use Rattle.scan.specs.Quantized.{integer_end}
use Rattle.scan.proofs.quantized.integer_end.Goals as goal

pub returns : goal.returns
unfolding integer_end
returns c = simp (← c.sign_end.ensures, ← c.digits_end.ensures)
