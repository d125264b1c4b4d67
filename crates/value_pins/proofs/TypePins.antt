-- The examples of the element types hold, by computing the definitions.
-- Assumes nothing.
use mathlib.Core.Path.{◌≡◌, refl}
use Rattle.element.specs.Types.{is_value, value_of, wrap_to, slot_for}
use Rattle.value_pins.specs.Types.{TypePinsHold}

pub type-pins : TypePinsHold
unfolding is_value value_of wrap_to slot_for
type-pins = refl
