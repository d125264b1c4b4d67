-- An answer's three numbers (01, "The twelve refusals"), and what each refusal of the code answers.
-- Assumes nothing.
use Rattle.std.specs.Prelude.{ℕ, Result, Ok, Err}
use Rattle.judge.specs.declared.Refused.{Refused}
use Rattle.judge.specs.declared.Refused.TheVariants.{TextTooLong, Grammar, UnknownName, SizePassed, Undefined, Redefined, Typing, Constraint, StoreShort, InputCount, ForeignInput, ZeroDivisor}

-- refusal, A, B
pub record Refusal : Type 0 where
  pub number : ℕ
  pub a : ℕ
  pub b : ℕ

-- "An answer has three numbers: refusal, A, B. Unnamed ones are 0"
abbrev pub numbers_of : Result (Unit {0}) Refused → Refusal
numbers_of (Ok u) = record { number = 0; a = 0; b = 0 }
numbers_of (Err (TextTooLong a)) = record { number = 1; a = a; b = 0 }
numbers_of (Err (Grammar a)) = record { number = 2; a = a; b = 0 }
numbers_of (Err (UnknownName a)) = record { number = 3; a = a; b = 0 }
numbers_of (Err (SizePassed a b)) = record { number = 4; a = a; b = b }
numbers_of (Err (Undefined a)) = record { number = 5; a = a; b = 0 }
numbers_of (Err (Redefined a)) = record { number = 6; a = a; b = 0 }
numbers_of (Err (Typing a)) = record { number = 7; a = a; b = 0 }
numbers_of (Err (Constraint a b)) = record { number = 8; a = a; b = b }
numbers_of (Err (StoreShort a)) = record { number = 9; a = a; b = 0 }
numbers_of (Err (InputCount a)) = record { number = 10; a = a; b = 0 }
numbers_of (Err (ForeignInput a)) = record { number = 11; a = a; b = 0 }
numbers_of (Err (ZeroDivisor a b)) = record { number = 12; a = a; b = b }
