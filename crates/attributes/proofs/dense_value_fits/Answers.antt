use Rattle.attributes.specs.Attributes.{dense_fits}
use Rattle.places.proofs.TypeInLaw.{type-in-sized}
use Rattle.attributes.proofs.dense_value_fits.Goals as goal

pub dense_fits-requires : goal.dense_fits-requires
dense_fits-requires c = rw c.type_in-t.ensures (type-in-sized _ _).rank

pub returns : goal.returns
unfolding dense_fits
returns c = cc (c.dense_fits.ensures, c.type_in-t.ensures, c.dense_at-c.ensures)
