use Rattle.scan.specs.TypeText.{complex_end}
use Rattle.scan.proofs.typetext.complex_end.Goals as goal

pub returns : goal.returns
unfolding complex_end
returns c = simp (← c.word_end.ensures, ← c.byte_end.ensures)
