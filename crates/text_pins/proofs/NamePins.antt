-- Words and names compared, by computing the definitions.
-- Assumes nothing.
use mathlib.Core.Path.{◌≡◌, refl}
use Rattle.scan.specs.Bytes.{starts_with}
use Rattle.text.specs.Names.{word_is, same_bytes, name_bytes, same_name}
use Rattle.text_pins.specs.NameBytes.{NamePinsHold}

pub name-pins : NamePinsHold
unfolding starts_with word_is same_bytes name_bytes same_name
name-pins = record { names = refl; words = refl }
