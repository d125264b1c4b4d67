use mathlib.Core.Path.{refl}
use Rattle.lists.specs.Lists.{all_below}
use Rattle.part_examples.proofs.slice_examples.Goals as goal

pub slice-requires : goal.slice-requires
unfolding all_below
slice-requires g c = ((refl, refl, refl), (refl, refl, refl), (refl, refl))

pub slice-requires-2 : goal.slice-requires-2
unfolding all_below
slice-requires-2 g c = ((refl, refl, refl), (refl, refl, refl), (refl, refl))
