-- The operations that a reduction's body may be (01, "Reductions"), and what makes a reduction by one independent of its tree.
-- Assumes nothing.
use Rattle.std.specs.Prelude.{◌≡◌, ℕ}
use Rattle.element.specs.Types.{lowest_of, highest_of, all_of}
use Rattle.element.specs.declared.ElementType.{ElementType}
use Rattle.scalar.specs.Ops.{add_of, multiply_of, maximum_of, minimum_of, and_of, or_of, xor_of}
use Rattle.scalar.specs.declared.Body.{Body}
use Rattle.scalar.specs.declared.Binary.{Binary}
use Rattle.scalar.specs.declared.Body.TheVariants.{Add, Multiply, Maximum, Minimum, And, Or, Xor}

-- "one op of add, multiply, maximum, minimum, and, or, xor"
abbrev pub body_of : Body → ElementType → ℕ → ℕ → ℕ
body_of Add = add_of
body_of Multiply = multiply_of
body_of Maximum = maximum_of
body_of Minimum = minimum_of
body_of And = and_of
body_of Or = or_of
body_of Xor = xor_of

-- the op on two values that a body's op is
abbrev pub binary_from : Body → Binary
binary_from Add = Binary.Add
binary_from Multiply = Binary.Multiply
binary_from Maximum = Binary.Maximum
binary_from Minimum = Binary.Minimum
binary_from And = Binary.And
binary_from Or = Binary.Or
binary_from Xor = Binary.Xor

-- "Identities: 0 for add, or, xor; 1 for multiply; lowest for maximum; highest for minimum; all bits set for and; on `i1` by the
-- logical meaning": there false is 0, the lowest, and true is 1, the highest and all bits set
abbrev pub identity_of : Body → ElementType → ℕ
identity_of Add t = 0
identity_of Multiply t = 1
identity_of Maximum t = lowest_of t
identity_of Minimum t = highest_of t
identity_of And t = all_of t
identity_of Or t = 0
identity_of Xor t = 0

-- on the values that satisfy ok, op gives such values and is associative, and e, one of them, is its identity on both sides
pub record Reducible (ok : ℕ → Type 0) (op : ℕ → ℕ → ℕ) (e : ℕ) : Type 0 where
  pub neutral : ok e
  pub closed : (a b : ℕ) → ok a → ok b → ok (op a b)
  pub assoc : (a b c : ℕ) → ok a → ok b → ok c → op (op a b) c ≡ op a (op b c)
  pub left : (a : ℕ) → ok a → op e a ≡ a
  pub right : (a : ℕ) → ok a → op a e ≡ a
