-- Texts whose reduction starts at its operation's identity, and texts whose reduction does not: demand 3's premise `StartsAtIdentity` (`ops`
-- specs/Typed) of their programs.
-- Assumes nothing.
use Rattle.std.specs.Prelude.{◌≡◌, List, [], ◌∷◌, ◌++◌, map, ℕ, eqb}
use Prim.Native.String.{String}
use Rattle.lists.specs.Lists.{pick, concat, All}
use Rattle.element.specs.declared.ElementType.{ElementType}
use Rattle.element.specs.declared.ElementType.TheVariants.{I1, I8, U16}
use Rattle.scalar.specs.declared.Body.{Body}
use Rattle.scalar.specs.declared.Body.TheVariants.{Add, Multiply, Maximum, Minimum, And, Or, Xor}
use Rattle.ops.specs.declared.Kind.TheVariants.{Constant, Reduce}
use Rattle.ops.specs.Ops.{Node, element_of}
use Rattle.ops.specs.Typed.{StartsAtIdentity}
use Rattle.scan.specs.Ascii.{ascii}
use Rattle.verify.specs.Verify.{verdict}
use Rattle.nodes.specs.Nodes.{nodes_of}

-- ---- texts of one reduction

-- the reduction of `%x` by op O from `%s` on elements of type T, and the end of the text
unfoldable pub reduction : List String
reduction =
    "%r = \"stablehlo.reduce\"(%x, %s) ({"
    ∷ "^b(%a: tensor<T>, %b: tensor<T>):"
    ∷ "%c = \"stablehlo.O\"(%a, %b) : (tensor<T>, tensor<T>) -> tensor<T>"
    ∷ "\"stablehlo.return\"(%c) : (tensor<T>) -> ()"
    ∷ "}) {dimensions = array<i64: 0>} : (tensor<2xT>, tensor<T>) -> tensor<T>"
    ∷ "\"func.return\"(%r) : (tensor<T>) -> ()"
    ∷ "}"
    ∷ []

-- `%s` is the constant S
unfoldable pub from_constant : List String
from_constant =
    "func.func @m(%x: tensor<2xT>) -> tensor<T> {"
    ∷ "%s = \"stablehlo.constant\"() {value = dense<S> : tensor<T>} : () -> tensor<T>"
    ∷ reduction

-- `%s` is an input
unfoldable pub from_input : List String
from_input = "func.func @m(%x: tensor<2xT>, %s: tensor<T>) -> tensor<T> {" ∷ reduction

-- the bytes of these lines, with what stands for O (byte 79), T (84) and S (83)
unfoldable pub filled_text : String → String → String → List String → List ℕ
filled_text op type start lines = concat (map (λ line. concat (map byte (ascii line)) ++ ascii "\n") lines)
  where
    byte : ℕ → List ℕ
    byte b = pick (eqb b 79) (ascii op) (pick (eqb b 84) (ascii type) (pick (eqb b 83) (ascii start) (b ∷ [])))

-- reduces two elements of the type by the op, from a constant
unfoldable pub reducing : String → String → String → List ℕ
reducing op type start = filled_text op type start from_constant

-- ---- the seven bodies on a signed type, an unsigned one and i1

-- a body, its op's name, and its identity as a literal of i8, of ui16 and of i1
pub record StartRow : Type 0 where
  pub body : Body
  pub op : String
  pub signed : String
  pub unsigned : String
  pub boolean : String

abbrev start_row : Body → String → String → String → String → StartRow
start_row body op signed unsigned boolean = record { body = body; op = op; signed = signed; unsigned = unsigned; boolean = boolean }

-- "Identities: 0 for add, or, xor; 1 for multiply; lowest for maximum; highest for minimum; all bits set for and; on `i1` by the logical
-- meaning"
unfoldable pub identities : List StartRow
identities =
    start_row Add "add" "0" "0" "false"
    ∷ start_row Multiply "multiply" "1" "1" "true"
    ∷ start_row Maximum "maximum" "-128" "0" "false"
    ∷ start_row Minimum "minimum" "127" "65535" "true"
    ∷ start_row And "and" "-1" "65535" "true"
    ∷ start_row Or "or" "0" "0" "false"
    ∷ start_row Xor "xor" "0" "0" "false"
    ∷ []

-- an element type, its name, and its literals in a row
pub record Column : Type 0 where
  pub type : ElementType
  pub name : String
  pub start : StartRow → String

abbrev pub signed : Column
signed = record { type = I8; name = "i8"; start = λ r. r.signed }

abbrev pub unsigned : Column
unsigned = record { type = U16; name = "ui16"; start = λ r. r.unsigned }

abbrev pub boolean : Column
boolean = record { type = I1; name = "i1"; start = λ r. r.boolean }

abbrev pub text_of : Column → StartRow → List ℕ
text_of c r = reducing r.op c.name (c.start r)

-- the text is accepted; its ops are a constant and a reduction by the row's body, on elements of the column's type; the reduction starts at the
-- identity
pub record Witness (c : Column) (r : StartRow) : Type 0 where
  pub accepted : (verdict (text_of c r)).number ≡ 0
  pub reduces : map (λ (o : Node). o.kind) (nodes_of (text_of c r)).ops ≡ Constant ∷ Reduce r.body ∷ []
  pub typed : map element_of (nodes_of (text_of c r)).ops ≡ c.type ∷ c.type ∷ []
  pub starts : StartsAtIdentity (nodes_of (text_of c r))

-- the seven bodies on one type
abbrev pub Witnessed : Column → Type 0
Witnessed c = All (Witness c) identities

-- ---- texts that are accepted without the premise

-- the text is accepted, and its reduction does not start at the identity
pub record Counterexample (text : List ℕ) : Type 0 where
  pub accepted : (verdict text).number ≡ 0
  pub apart : StartsAtIdentity (nodes_of text) → ⊥

-- add on i8 from an input, and from 1
abbrev pub Refuted : Type 0
Refuted = Counterexample (filled_text "add" "i8" "" from_input) × Counterexample (reducing "add" "i8" "1")
