use mathlib.Core.Path.{refl}
use Rattle.lists.specs.Lists.{all_below}
use Rattle.part_examples.proofs.start_example.Goals as goal

pub dynamic_slice-requires : goal.dynamic_slice-requires
unfolding all_below
dynamic_slice-requires g c = ((refl, refl, refl), (refl, refl, refl), (refl, refl))
