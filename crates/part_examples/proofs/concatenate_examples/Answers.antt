use mathlib.Core.Path.{refl}
use Rattle.lists.specs.Lists.{all_below}
use Rattle.part_examples.proofs.concatenate_examples.Goals as goal

pub concatenate-requires : goal.concatenate-requires
unfolding all_below
concatenate-requires g c = ((refl, refl, refl), (refl, refl), (refl, refl, refl))
