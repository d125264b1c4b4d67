use Rattle.scan.specs.Quantized.{quantized_end}
use Rattle.scan.proofs.quantized.quantized_end.Goals as goal

pub returns : goal.returns
unfolding quantized_end
returns c = simp (← c.word_end.ensures, ← c.storage_end-storage.ensures, ← c.byte_end.ensures, ← c.word_end-expressed.ensures, ← c.colon_end.ensures, ← c.byte_end-comma.ensures, ← c.parameters_end.ensures, ← c.byte_end-2.ensures)
