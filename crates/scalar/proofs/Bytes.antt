-- A Bool as a number: what `u64::from` gives. Assumes nothing.
use mathlib.Core.Path.{◌≡◌, refl}
use mathlib.Core.Bool.{Bool, true, false, not}
use mir.Val.{bool_byte}
use Rattle.lists.specs.Lists.{pick}

pub byte-pick : (b : Bool) → bool_byte b ≡ pick b 1 0
byte-pick true = refl
byte-pick false = refl

pub not-byte : (b : Bool) → bool_byte (not b) ≡ pick b 0 1
not-byte true = refl
not-byte false = refl
