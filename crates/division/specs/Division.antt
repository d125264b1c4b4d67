-- Quotients and remainders (01, "Element by element": divide and remainder).
-- Assumes nothing.
use Rattle.std.specs.Prelude.{ℕ, ◌-◌, ◌^◌, ◌<◌, ℤ, eqb, true, Option, Some, None}
use Rattle.std.specs.Int.Signed.{quot_z, rem_z, mag}
use Rattle.lists.specs.Lists.{pick}
use Rattle.element.specs.Types.{width_of, value_of, wrap_to, wrap}
use Rattle.element.specs.declared.ElementType.{ElementType}
use Rattle.division.specs.declared.Division.{Division}
use Rattle.division.specs.declared.Division.TheVariants.{Divide, Remainder}

-- of two numbers of n bits: "divide drops the fraction toward zero"; "Lowest by -1: quotient lowest"
abbrev pub quotient_of : ℕ → ℤ → ℤ → ℤ
quotient_of n a b = wrap true n (quot_z a b)

-- "divide drops the fraction toward zero; remainder has the dividend's sign"
abbrev pub result_of : Division → ℤ → ℤ → ℤ
result_of Divide = quot_z
result_of Remainder = rem_z

-- the number is one of a signed type's
abbrev pub OfType : ElementType → ℤ → Type 0
OfType t z = mag z < 2 ^ (width_of t - 1)

-- an answer's refusal ("12 | zero divisor") and its value ("Unnamed ones are 0")
abbrev pub divided_numbers : Option ℕ → ℕ × ℕ
divided_numbers (Some v) = (0, v)
divided_numbers None = (12, 0)

-- refusal and value on slots of a type
unfoldable pub division_of : Division → ElementType → ℕ → ℕ → ℕ × ℕ
division_of op t a b = pick (eqb b 0) (12, 0) (0, wrap_to t (result_of op (value_of t a) (value_of t b)))
