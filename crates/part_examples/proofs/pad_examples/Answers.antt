use mathlib.Core.Path.{refl}
use Rattle.lists.specs.Lists.{all_below}
use Rattle.part_examples.proofs.pad_examples.Goals as goal

pub pad-requires : goal.pad-requires
unfolding all_below
pad-requires g c = ((refl, refl, refl), (refl, refl, refl), (refl, refl))

pub pad-requires-2 : goal.pad-requires-2
unfolding all_below
pad-requires-2 g c = ((refl, refl, refl), (refl, refl, refl), (refl, refl))
