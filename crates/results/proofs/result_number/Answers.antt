use Rattle.results.specs.Results.{line_at}
use Rattle.results.proofs.result_number.Goals as goal

pub returns : goal.returns
unfolding line_at
returns c = simp (c.unwrap_or.ensures, c.value_named.ensures.place, ← c.place_of.ensures)
