-- The classes of bytes hold, by computing the definitions.
-- Assumes nothing.
use mathlib.Core.Path.{◌≡◌, refl}
use Rattle.scan.specs.Bytes.{is_letter, is_digit, is_space, is_sigil, is_sign, in_run}
use Rattle.text_pins.specs.Bytes.{BytePinsHold}

pub byte-pins : BytePinsHold
unfolding is_letter is_digit is_space is_sigil is_sign in_run
byte-pins = refl
