use Rattle.text.specs.Names.{name_bytes}
use Rattle.std.proofs.lemmas.List.{take_min}
use Rattle.text.proofs.names.name_bytes.Goals as goal

pub returns : goal.returns
unfolding name_bytes
returns c = rw (c.min.ensures, take_min, c.tail-rest.ensures)
