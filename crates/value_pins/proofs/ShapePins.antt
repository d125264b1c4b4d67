-- The examples of shapes and of the ops over whole tensors hold, by computing the definitions.
-- Assumes nothing.
use mathlib.Core.Path.{◌≡◌, refl}
use Rattle.lists.specs.Lists.{concat, first_where}
use Rattle.element.specs.Types.{value_of, wrap_to, slot_for}
use Rattle.scalar.specs.Ops.{add_of, multiply_of, lt_of, maximum_of, minimum_of}
use Rattle.shape.specs.Index.{indices}
use Rattle.value_pins.specs.Shapes.{ShapePinsHold}

pub shape-pins : ShapePinsHold
unfolding concat first_where value_of wrap_to slot_for add_of multiply_of lt_of maximum_of minimum_of indices
shape-pins = refl
