-- A refused value name (refusals 5 and 6) by numbers, and what each refusal of the code answers.
-- Assumes nothing.
use Rattle.std.specs.Prelude.{ℕ, Result, Ok, Err}
use Rattle.scope.specs.declared.BadName.{BadName}
use Rattle.scope.specs.declared.BadName.TheVariants.{Undefined, Redefined}

-- a refusal and the byte of its name; both 0 where no name is refused
pub record NameFault : Type 0 where
  pub refusal : ℕ
  pub a : ℕ

abbrev pub name_numbers : Result (Unit {0}) BadName → NameFault
name_numbers (Ok u) = record { refusal = 0; a = 0 }
name_numbers (Err (Undefined a)) = record { refusal = 5; a = a }
name_numbers (Err (Redefined a)) = record { refusal = 6; a = a }
