-- The seven body operations at every type, one law for all of them: associative with their identities, commutative, and which are
-- idempotent.
-- Assumes nothing.
use Rattle.std.proofs.Common.{◌≡◌, ℕ, Bool, true, false, arith}
use lib.Bits.{and_comm, or_comm, xor_comm, and_self, or_self}
use Rattle.element.specs.Types.{SlotHolds, bool_of}
use Rattle.element.specs.declared.ElementType.{ElementType}
use Rattle.scalar.specs.Body.{body_of, identity_of, Reducible}
use Rattle.scalar.specs.declared.Body.{Body}
use Rattle.scalar.specs.declared.Body.TheVariants.{Add, Multiply, Maximum, Minimum, And, Or, Xor}
use Rattle.scalar.proofs.Bitwise.{and-reducible, or-reducible, xor-reducible}
use Rattle.scalar.proofs.Order.{maximum-reducible, minimum-reducible, maximum-comm, minimum-comm, maximum-self, minimum-self}
use Rattle.scalar.proofs.Algebra.{add-reducible, multiply-reducible, add_comm, multiply-comm, add-self, multiply-self}

pub body-reducible : (b : Body) (t : ElementType) → Reducible (SlotHolds t) (body_of b t) (identity_of b t)
body-reducible Add t = add-reducible t
body-reducible Multiply t = multiply-reducible t
body-reducible Maximum t = maximum-reducible t
body-reducible Minimum t = minimum-reducible t
body-reducible And t = and-reducible t
body-reducible Or t = or-reducible t
body-reducible Xor t = xor-reducible t

pub body_closed : (b : Body) (t : ElementType) (a c : ℕ) → SlotHolds t a → SlotHolds t c → SlotHolds t (body_of b t a c)
body_closed b t = (body-reducible b t).closed

pub body-commutative : (b : Body) (t : ElementType) (a c : ℕ) → SlotHolds t a → SlotHolds t c → body_of b t a c ≡ body_of b t c a
body-commutative Add t a c u v = add_comm t a c
body-commutative Multiply t a c u v = multiply-comm t a c
body-commutative Maximum t a c u v = maximum-comm t a c u v
body-commutative Minimum t a c u v = minimum-comm t a c u v
body-commutative And t a c u v = and_comm a c
body-commutative Or t a c u v = or_comm a c
body-commutative Xor t a c u v = xor_comm a c

-- the operations that give a value itself for that value twice
abbrev pub idempotent : Body → ElementType → Bool
idempotent Add t = bool_of t
idempotent Multiply t = bool_of t
idempotent Maximum t = true
idempotent Minimum t = true
idempotent And t = true
idempotent Or t = true
idempotent Xor t = false

pub body-idempotent : (b : Body) (t : ElementType) → idempotent b t ≡ true → (a : ℕ) → body_of b t a a ≡ a
body-idempotent Add t e a = add-self t e a
body-idempotent Multiply t e a = multiply-self t e a
body-idempotent Maximum t e a = maximum-self t a
body-idempotent Minimum t e a = minimum-self t a
body-idempotent And t e a = and_self a
body-idempotent Or t e a = or_self a
body-idempotent Xor t e a = let z : ◌≡◌ {A = ℕ} 0 1 = cc in absurd (omega arith)
