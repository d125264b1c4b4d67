-- The premise of demand 3 (`ops` specs/Typed `StartsAtIdentity`) of small programs: each of the seven bodies on each element type, from its identity; and
-- from no other slot.
-- Assumes nothing.
use mathlib.Core.Path.{◌≡◌, refl, ap}
use mathlib.Core.Bool.{Bool, true, false}
use mathlib.Core.List.{List, [], ◌∷◌, ◌++◌, map}
use Prim.Native.Nat.{ℕ, suc}
use lib.IntN.{pos}
use lib.ListN.{get_or, drop}
use Rattle.lists.specs.Lists.{All}
use Rattle.run.specs.Run.{RunProgram}
use Rattle.element.specs.declared.ElementType.{ElementType}
use Rattle.element.specs.declared.ElementType.TheVariants.{I1, I8, I16, I32, I64, U8, U16, U32, U64}
use Rattle.scalar.specs.declared.Body.{Body}
use Rattle.scalar.specs.declared.Body.TheVariants.{Add, Multiply, Maximum, Minimum, And, Or, Xor}
use Rattle.ops.specs.declared.Kind.TheVariants.{Constant, Reduce}
use Rattle.ops.specs.OpAttributes.{no_attributes, attributes_by}
use Rattle.ops.specs.Ops.{TensorType, Node}
use Rattle.ops.specs.Typed.{StartsAtIdentity}
use Rattle.start_examples.proofs.IdentityTest.{starts_at_identity, starts-true, starts-false}

-- a body, an element type, and the slot at which a reduction starts
pub record Start : Type 0 where
  pub body : Body
  pub type : ElementType
  pub slot : ℕ

abbrev pub types : List ElementType
types = I1 ∷ I8 ∷ I16 ∷ I32 ∷ I64 ∷ U8 ∷ U16 ∷ U32 ∷ U64 ∷ []

-- a body on these types, each with its slot
abbrev pub starting : Body → List ElementType → List ℕ → List Start
starting body [] slots = []
starting body (t ∷ ts) [] = []
starting body (t ∷ ts) (s ∷ slots) = record { body = body; type = t; slot = s } ∷ starting body ts slots

-- "Identities: 0 for add, or, xor; 1 for multiply; lowest for maximum; highest for minimum; all bits set for and; on `i1` by the logical meaning";
-- "a signed one modulo 2^64"
abbrev pub starts : List Start
starts =
    starting Add types (0 ∷ 0 ∷ 0 ∷ 0 ∷ 0 ∷ 0 ∷ 0 ∷ 0 ∷ 0 ∷ [])
    ++ starting Multiply types (1 ∷ 1 ∷ 1 ∷ 1 ∷ 1 ∷ 1 ∷ 1 ∷ 1 ∷ 1 ∷ [])
    ++ starting Maximum types (0 ∷ 18446744073709551488 ∷ 18446744073709518848 ∷ 18446744071562067968 ∷ 9223372036854775808 ∷ 0 ∷ 0 ∷ 0 ∷ 0 ∷ [])
    ++ starting Minimum types (1 ∷ 127 ∷ 32767 ∷ 2147483647 ∷ 9223372036854775807 ∷ 255 ∷ 65535 ∷ 4294967295 ∷ 18446744073709551615 ∷ [])
    ++ starting And types (1 ∷ 18446744073709551615 ∷ 18446744073709551615 ∷ 18446744073709551615 ∷ 18446744073709551615 ∷ 255 ∷ 65535 ∷ 4294967295 ∷ 18446744073709551615 ∷ [])
    ++ starting Or types (0 ∷ 0 ∷ 0 ∷ 0 ∷ 0 ∷ 0 ∷ 0 ∷ 0 ∷ 0 ∷ [])
    ++ starting Xor types (0 ∷ 0 ∷ 0 ∷ 0 ∷ 0 ∷ 0 ∷ 0 ∷ 0 ∷ 0 ∷ [])

-- value 0 is an input of two elements, value 1 the start, value 2 the reduction
abbrev pub reduced : Start → RunProgram Node
reduced s =
    let one : TensorType = record { element = s.type; dims = [] } in
    let two : TensorType = record { element = s.type; dims = 2 ∷ [] } in
    record {
      inputs = 1;
      ops =
          record { kind = Constant; result = one; from = []; attributes = no_attributes; values = s.slot ∷ []; operands = [] }
          ∷ record { kind = Reduce s.body; result = one; from = two ∷ one ∷ []; attributes = attributes_by (Reduce s.body) (pos 0 ∷ []) []; values = []; operands = 0 ∷ 1 ∷ [] }
          ∷ [];
      returns = 2 ∷ [];
    }

-- the next slot
abbrev pub beside : Start → Start
beside s = record { body = s.body; type = s.type; slot = suc s.slot }

-- the identity meets the premise, the next slot does not
abbrev pub Meets : Start → Type 0
Meets s = StartsAtIdentity (reduced s) × (StartsAtIdentity (reduced (beside s)) → ⊥)

tested : (map (λ s. starts_at_identity (reduced s)) starts ≡ map (λ s. true) starts) × (map (λ s. starts_at_identity (reduced (beside s))) starts ≡ map (λ s. false) starts)
tested = (refl, refl)

all_meet : (ss : List Start) → map (λ s. starts_at_identity (reduced s)) ss ≡ map (λ s. true) ss → map (λ s. starts_at_identity (reduced (beside s))) ss ≡ map (λ s. false) ss → All Meets ss
all_meet [] e d = tt
all_meet (s ∷ ss) e d = (
  (
    starts-true (reduced s) (ap (λ (l : List Bool). get_or l 0 false) e),
    starts-false (reduced (beside s)) (ap (λ (l : List Bool). get_or l 0 true) d),
  ),
  all_meet ss (ap (λ (l : List Bool). drop 1 l) e) (ap (λ (l : List Bool). drop 1 l) d),
)

-- of the 63 programs
pub starts-meet : All Meets starts
starts-meet = all_meet starts tested.0 tested.1
