-- The value of a number token.
-- Assumes nothing.
use Rattle.std.specs.Prelude.{ℕ, ◌+◌, ◌-◌, ◌*◌, ◌^◌, List, [], ◌∷◌, Bool, true, false, ◌&&◌, ℤ, pos, negsuc, neg_ℤ, drop, leb, ltb, eqb, Option, Some, None}
use Rattle.std.specs.Int.Signed.{mag}
use Rattle.lists.specs.Lists.{pick}
use Rattle.scan.specs.Bytes.{byte_at, is_digit}
use Rattle.scan.specs.Quantized.{sign_end}
use Rattle.element.specs.Types.{highest_of, signed_of, slot_for}
use Rattle.element.specs.declared.ElementType.{ElementType}
use Rattle.shape.specs.Whole.{pattern_of}

-- a decimal number of any length: its sign, whether the rest is 2^64 or more, and if it is not, the rest
pub record Decimal : Type 0 where
  pub negative : Bool
  pub big : Bool
  pub magnitude : ℕ

-- a number of a type as its slot, or an attribute number as its pattern, or that it does not fit
pub record NumberRead : Type 0 where
  pub fits : Bool
  pub bits : ℕ

-- the digits that come next, after those that gave v; a number has any length
unfoldable pub digits_from : ℕ → List ℕ → ℕ
digits_from v [] = v
digits_from v (b ∷ bs) = pick (is_digit b) (digits_from (v * 10 + (b - 48)) bs) v

-- the digits after the sign, if there is one
unfoldable pub magnitude_of : List ℕ → ℕ → ℕ
magnitude_of text start = digits_from 0 (drop (sign_end text start) text)

abbrev pub negative_at : List ℕ → ℕ → Bool
negative_at text start = eqb (byte_at text start) 45

-- IntegerLiteral ::= ['-' | '+'] DecimalDigits: the number whose token starts here ("numbers are decimal")
unfoldable pub decimal_number : List ℕ → ℕ → ℤ
decimal_number text start = pick (negative_at text start) (neg_ℤ (pos (magnitude_of text start))) (pos (magnitude_of text start))

-- the same as the code holds it: the sign, whether the rest is 2^64 or more, and if it is not, the rest
unfoldable pub as_decimal : Bool → ℕ → Decimal
as_decimal negative m = record { negative = negative; big = leb (2 ^ 64) m; magnitude = pick (leb (2 ^ 64) m) 0 m }

-- what the code holds
abbrev pub decimal_read : Bool → Option ℕ → Decimal
decimal_read negative (Some m) = record { negative = negative; big = false; magnitude = m }
decimal_read negative None = record { negative = negative; big = true; magnitude = 0 }

unfoldable pub decimal_of : List ℕ → ℕ → Decimal
decimal_of text start = as_decimal (negative_at text start) (magnitude_of text start)

-- the number lies in the type's range: -1 - n does where n does
unfoldable pub in_type : ElementType → ℤ → Bool
in_type t (pos n) = leb n (highest_of t)
in_type t (negsuc n) = signed_of t && leb n (highest_of t)

abbrev pub fitting : ℕ → NumberRead
fitting bits = record { fits = true; bits = bits }

abbrev pub unfit : NumberRead
unfit = record { fits = false; bits = 0 }

-- the bits of a number that fits, as the code holds them
abbrev pub number_read : Option ℕ → NumberRead
number_read (Some bits) = fitting bits
number_read None = unfit

-- a number of the type as its slot
unfoldable pub number_in : ElementType → ℤ → NumberRead
number_in t z = pick (in_type t z) (fitting (slot_for t z)) unfit

-- "An attribute number outside `dense` lies in the signed 64-bit range" (01, Sizes, 7): -1 - n does where n does
unfoldable pub is_attribute_number : ℤ → Bool
is_attribute_number z = ltb (mag z) (2 ^ 63)

-- an attribute number as its pattern
unfoldable pub pattern_in : ℤ → NumberRead
pattern_in z = pick (is_attribute_number z) (fitting (pattern_of z)) unfit
