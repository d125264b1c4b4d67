-- The printed values hold, by computing the definitions.
-- Assumes nothing.
use mathlib.Core.Path.{◌≡◌, refl}
use Rattle.element.specs.Types.{value_of}
use Rattle.printed.specs.Printed.{digits_of, number_text, literal_text, items_text, value_text, shape_text, element_text, printed}
use Rattle.text_pins.specs.Prints.{PrintPinsHold}

pub print-pins : PrintPinsHold
unfolding value_of digits_of number_text literal_text items_text value_text shape_text element_text printed
print-pins = refl
