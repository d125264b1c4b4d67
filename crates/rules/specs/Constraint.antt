-- The number of an op's first broken constraint as a function answers it.
-- Assumes nothing.
use Rattle.std.specs.Prelude.{ℕ, zero, suc, Option, Some, None}

-- none for 0: 000 counts its constraints from C1
abbrev pub constraint_of : ℕ → Option ℕ
constraint_of zero = None
constraint_of (suc n) = Some (suc n)
