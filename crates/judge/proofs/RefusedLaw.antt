-- A refusal's number is not 0.
-- Assumes nothing.
use mathlib.Core.Path.{◌≡◌}
use native.Mathlib.Omega.{arith}
use Rattle.std.specs.Prelude.{Err}
use Rattle.judge.specs.declared.Refused.{Refused}
use Rattle.judge.specs.declared.Refused.TheVariants.{TextTooLong, Grammar, UnknownName, SizePassed, Undefined, Redefined, Typing, Constraint, StoreShort, InputCount, ForeignInput, ZeroDivisor}
use Rattle.judge.specs.Refusals.{numbers_of}

pub refused-number : (e : Refused) → (numbers_of (Err e)).number ≡ 0 → ⊥
refused-number (TextTooLong a) q = omega arith
refused-number (Grammar a) q = omega arith
refused-number (UnknownName a) q = omega arith
refused-number (SizePassed a b) q = omega arith
refused-number (Undefined a) q = omega arith
refused-number (Redefined a) q = omega arith
refused-number (Typing a) q = omega arith
refused-number (Constraint a b) q = omega arith
refused-number (StoreShort a) q = omega arith
refused-number (InputCount a) q = omega arith
refused-number (ForeignInput a) q = omega arith
refused-number (ZeroDivisor a b) q = omega arith
