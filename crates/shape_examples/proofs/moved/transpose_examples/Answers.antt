use mathlib.Core.Path.{refl}
use Rattle.lists.specs.Lists.{all_below, first_where}
use Rattle.shape_examples.proofs.moved.transpose_examples.Goals as goal

pub transpose_example-requires : goal.transpose_example-requires
unfolding all_below first_where
transpose_example-requires g c = (refl, refl, refl, (refl, refl, refl))

pub transpose_example-requires-2 : goal.transpose_example-requires-2
unfolding all_below first_where
transpose_example-requires-2 g c = (refl, refl, refl, (refl, refl, refl))
