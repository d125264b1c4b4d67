-- Element types and their slots (01, "Element types" and "The store").
-- Assumes nothing.
use Rattle.std.specs.Prelude.{◌≡◌, Bool, true, false, ◌&&◌, ◌||◌, ℕ, suc, ◌-◌, ◌%◌, ◌^◌, ℤ, pos, negsuc, ltb, leb}
use Rattle.lists.specs.Lists.{pick}
use Rattle.element.specs.declared.ElementType.{ElementType}
use Rattle.element.specs.declared.ElementType.TheVariants.{I1, I8, I16, I32, I64, U8, U16, U32, U64}

-- "`i1`, signed 8, 16, 32, 64 bits and unsigned `ui8` to `ui64`": bits of a value of the type
abbrev pub width_of : ElementType → ℕ
width_of I1 = 1
width_of I8 = 8
width_of I16 = 16
width_of I32 = 32
width_of I64 = 64
width_of U8 = 8
width_of U16 = 16
width_of U32 = 32
width_of U64 = 64

-- the type is one of the four signed ones
abbrev pub signed_of : ElementType → Bool
signed_of I1 = false
signed_of I8 = true
signed_of I16 = true
signed_of I32 = true
signed_of I64 = true
signed_of U8 = false
signed_of U16 = false
signed_of U32 = false
signed_of U64 = false

-- the type is `i1`
abbrev pub bool_of : ElementType → Bool
bool_of I1 = true
bool_of I8 = false
bool_of I16 = false
bool_of I32 = false
bool_of I64 = false
bool_of U8 = false
bool_of U16 = false
bool_of U32 = false
bool_of U64 = false

-- z modulo m, from 0 to m - 1
abbrev pub residue : ℕ → ℤ → ℕ
residue m (pos k) = k % m
residue m (negsuc k) = m - suc (k % m)

-- the number of n bits whose residue modulo 2^n is r: r itself, or in two's complement
abbrev pub read : Bool → ℕ → ℕ → ℤ
read signed n r = pick (signed && leb (2 ^ (n - 1)) r) (negsuc (2 ^ n - suc r)) (pos r)

-- "Integer results are taken modulo 2^n into the type's range": z taken into the range of n bits, signed or not
abbrev pub wrap : Bool → ℕ → ℤ → ℤ
wrap signed n z = read signed n (residue (2 ^ n) z)

-- "A slot is 64 bits: an unsigned or boolean value as itself, a signed one modulo 2^64"
abbrev pub slot_of : ℤ → ℕ
slot_of z = residue (2 ^ 64) z

-- the slot that holds the value z of a type
unfoldable pub slot_for : ElementType → ℤ → ℕ
slot_for t z = slot_of z

-- the value that a slot holds
unfoldable pub value_of : ElementType → ℕ → ℤ
value_of t s = read (signed_of t) 64 s

-- the slot of z taken into the type's range
unfoldable pub wrap_to : ElementType → ℤ → ℕ
wrap_to t z = slot_for t (wrap (signed_of t) (width_of t) z)

-- the lowest and the highest value of the type, as slots: -2^(n-1) and 2^(n-1) - 1, or 0 and 2^n - 1
abbrev pub lowest_of : ElementType → ℕ
lowest_of t = pick (signed_of t) (2 ^ 64 - 2 ^ (width_of t - 1)) 0

abbrev pub highest_of : ElementType → ℕ
highest_of t = pick (signed_of t) (2 ^ (width_of t - 1) - 1) (2 ^ width_of t - 1)

-- the bits of the type's width, all set
abbrev pub mask_of : ElementType → ℕ
mask_of t = 2 ^ width_of t - 1

-- the value of the type with all bits set, as a slot
abbrev pub all_of : ElementType → ℕ
all_of t = pick (signed_of t) (2 ^ 64 - 1) (mask_of t)

-- the slot holds a value of the type (refusal 11): one from 0 to the highest, or a signed one from the lowest to -1
unfoldable pub is_value : ElementType → ℕ → Bool
is_value t s = leb s (highest_of t) || (signed_of t && leb (lowest_of t) s && ltb s (2 ^ 64))

abbrev pub SlotHolds : ElementType → ℕ → Type 0
SlotHolds t s = is_value t s ≡ true
