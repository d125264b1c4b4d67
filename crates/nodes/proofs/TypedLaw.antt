-- An op that is typed and breaks no constraint: it is accepted by its class, and its operands are defined with the types that it writes.
-- Assumes nothing.
use mathlib.Core.Path.{◌≡◌, refl, ap, ◌∙◌}
use mathlib.Core.Bool.{true, ◌&&◌, false≢true}
use mathlib.Core.List.{List}
use Prim.Native.Nat.{ℕ, ◌<◌}
use native.Mathlib.Omega.{arith}
use lib.Dec.{ltb, eqb}
use lib.ListN.{length, get_or}
use borrow.Author.Tests.{ltb-true, lt-ltb}
use Rattle.lists.specs.Lists.{pick}
use Rattle.lists.proofs.TestLaw.{both_true}
use Rattle.shape.specs.Dims.{dims_of}
use Rattle.ops.specs.declared.Kind.{Kind}
use Rattle.ops.specs.declared.Kind.TheVariants.{Constant, Iota, Elementwise, Pairwise, Quotient, Compare, Convert, Select, Clamp, Moved, Pad, Concatenate, DynamicSlice, Reduce}
use Rattle.ops.specs.Typed.{NodeGranted}
use Rattle.optable.specs.Table.{comparison_direction, value, Direction, ops, row_at, choice_kind, direction_at, may_reduce}
use Rattle.optable.specs.declared.Row.{Row}
use Rattle.optable.specs.declared.Class.TheVariants as class
use Rattle.std.specs.Prelude.{Option, Some, None}
use Rattle.scalar.specs.declared.Body.{Body}
use Rattle.dimrules.specs.Count.{everywhere}
use Rattle.dimrules.proofs.CountLaw.{holds_at}
use Rattle.dimrules.specs.Types.{same_type, type_at}
use Rattle.dimrules.specs.declared.TensorType.{TensorType}
use Rattle.rules.proofs.FactLaw.{same-type}
use Rattle.opcheck.specs.Judged.{taken_by_tables, broken_by}
use Rattle.program.specs.declared.Parts.{Parts}
use Rattle.places.specs.Places.{op_name, operand_name, operand_type, body_open, count_of, place_of, type_of_part}
use Rattle.values.specs.declared.Value.{Value}
use Rattle.values.specs.Values.{no_value}
use Rattle.attributes.specs.Attributes.{attributes_fit, choice_of, stands, dense_fits, name_of}
use Rattle.program.specs.Parts.{body_at}
use Rattle.bodies.specs.Bodies.{row_named, body_counted, op_counted, inner_op, is_reducer, on_both, returns_it, one_type, formed, body_fits, body_row}
use Rattle.operands.specs.Operands.{value_named, arity_of, operand_typed, operands_typed}
use Rattle.typing.specs.Typing.{row_named_in, types_of, operation_of, results_are, bodies_fit, in_table, typed_op}
use Rattle.operands.proofs.OperandsLaw.{arity-few}
use Rattle.typing.proofs.TypingLaw.{types-at}
use Rattle.facts.specs.Facts.{ShapeRead, rule_of_kind, has_body, kind_by, OneNumber, RowFor, AcceptedAs, node_type, node_for}
use Rattle.facts.proofs.AcceptedLaw.{row-for, accepted}
use Rattle.facts.proofs.BridgeLaw.{alike-dims}
use Rattle.facts.proofs.NodeLaw.{node-granted}
use Rattle.nodes.specs.Nodes.{operation_by, reducer_at, op_kind, dense_elements}
use Rattle.nodes.proofs.ReadLaw.{operation-shaped, iota-number, concatenate-number, compare-choice, constant-reads, constant-elements}

-- two types of one meaning, by the lists of their dimensions
pub same-node-type : (x y : TensorType) → ShapeRead x.shape → ShapeRead y.shape → same_type x y ≡ true → node_type x ≡ node_type y
same-node-type x y p q e =
    let a = same-type x y e in
    let d : dims_of x.shape ≡ dims_of y.shape = alike-dims x.shape y.shape p q a.shape in
    let t : x.element ≡ y.element = a.element in
    rw (d, t)

-- ---- the parts of refusal 7

pub record TypedParts (text : List ℕ) (op : Parts) (row : Row) (values : List Value) (n : ℕ) : Type 0 where
  pub table : in_table text op ≡ true
  pub operands : operands_typed text op values n ≡ true
  pub results : results_are 1 op ≡ true
  pub attributes : attributes_fit text op row ≡ true
  pub taken : taken_by_tables row (operation_of text op row) ≡ true
  pub bodies : bodies_fit text op row ≡ true

pub typed-parts : (text : List ℕ) (op : Parts) (row : Row) (values : List Value) (n : ℕ) → typed_op text op row values n ≡ true → TypedParts text op row values n
unfolding typed_op
typed-parts text op row values n e =
    let o = operation_of text op row in
    let a = in_table text op in
    let b = operands_typed text op values n in
    let h = both_true (a && b && results_are 1 op && attributes_fit text op row && taken_by_tables row o) (bodies_fit text op row) e in
    let g = both_true (a && b && results_are 1 op && attributes_fit text op row) (taken_by_tables row o) h.0 in
    let f = both_true (a && b && results_are 1 op) (attributes_fit text op row) g.0 in
    let d = both_true (a && b) (results_are 1 op) f.0 in
    let c = both_true a b d.0 in
    record { table = c.0; operands = c.1; results = d.1; attributes = f.1; taken = g.1; bodies = h.1 }

-- ---- bodies

body_of : (r : Option Body) → may_reduce r ≡ true → r ≡ Some (operation_by r)
body_of None e = absurd (false≢true e)
body_of (Some b) e = refl

-- a body of the form is of an op that may be one
fits-reducer : (text : List ℕ) (at : ℕ) → body_fits text at ≡ true → is_reducer (body_row text at) ≡ true
unfolding body_fits formed body_row
fits-reducer text at e =
    let body = body_at text at in
    let op = inner_op text body in
    let a = body_counted body && op_counted body op in
    let r = is_reducer (row_named text (place_of body op_name 0)) in
    let h = both_true (a && r && on_both text body && returns_it text body) (one_type text body) e in
    let g = both_true (a && r && on_both text body) (returns_it text body) h.0 in
    let f = both_true (a && r) (on_both text body) g.0 in
    (both_true a r f.0).1

-- ---- operands

-- operand j names a value that is defined, and is written with its type
pub record Defined (text : List ℕ) (op : Parts) (values : List Value) (n j : ℕ) : Type 0 where
  pub before : value_named text values n (place_of op operand_name j) < n
  pub alike : same_type (type_of_part text op operand_type j) (get_or values (value_named text values n (place_of op operand_name j)) no_value).ty ≡ true

pub all-defined : (text : List ℕ) (op : Parts) (values : List Value) (n : ℕ) → operands_typed text op values n ≡ true → (j : ℕ) → j < arity_of op → Defined text op values n j
unfolding operands_typed operand_typed
all-defined text op values n e j l =
    let i = value_named text values n (place_of op operand_name j) in
    let t = holds_at (arity_of op) (operand_typed text op values n)
    (both_true (ltb (count_of op operand_name) 9 && eqb (count_of op operand_type) (count_of op operand_name)) (everywhere (arity_of op) (operand_typed text op values n)) e).1 j l in
    let h = both_true (ltb i n) (same_type (type_of_part text op operand_type j) (get_or values i no_value).ty) t in
    record { before = ltb-true i n h.0; alike = h.1 }

-- the type of operand j is the one that it writes
pub written_at : (text : List ℕ) (op : Parts) (row : Row) (j : ℕ) → j < arity_of op → type_at (operation_of text op row).types j ≡ type_of_part text op operand_type j
unfolding operation_of types_of
written_at text op row j l = let few = arity-few op in types-at text op j (omega arith) ∙ rw (lt-ltb j (arity_of op) l)

-- ---- the op

module _ (text : List ℕ) (op : Parts) (values : List Value) (n : ℕ) (typed : typed_op text op (row_named_in text op) values n ≡ true) where
  abbrev row : ℕ
  row = row_named text (place_of op op_name 0)

  parts : TypedParts text op (row_named_in text op) values n
  parts = typed-parts text op (row_named_in text op) values n typed

  inside : row < length ops
  unfolding in_table
  inside = ltb-true row (length ops) parts.table

  row-of-kind : RowFor (op_kind text op) (row_named_in text op)
  unfolding op_kind row_named_in
  row-of-kind = row-for (direction_at (choice_of text op comparison_direction)) (reducer_at (body_row text (place_of op body_open 0))) row inside

  one_number : (kind : Kind) → RowFor kind (row_named_in text op) → OneNumber kind (operation_of text op (row_named_in text op))
  unfolding row_named_in operation_of
  one_number Iota r = iota-number text op row inside parts.attributes r.rule
  one_number Concatenate r = concatenate-number text op row inside parts.attributes r.rule
  one_number Constant r = tt
  one_number (Elementwise o) r = tt
  one_number (Pairwise o) r = tt
  one_number (Quotient o) r = tt
  one_number (Compare d) r = tt
  one_number Convert r = tt
  one_number Select r = tt
  one_number Clamp r = tt
  one_number (Moved m) r = tt
  one_number Pad r = tt
  one_number DynamicSlice r = tt
  one_number (Reduce body) r = tt

  pub typed-constant : op_kind text op ≡ Constant → (stands text op value ≡ true) × (dense_fits text (name_of text op value) ≡ true)
  unfolding row_named_in
  typed-constant e = constant-reads text op row inside parts.attributes (row-of-kind.rule ∙ ap rule_of_kind e)

  -- a compare has its direction
  pub typed-direction : (row_named_in text op).class ≡ class.Compare → choice_kind (choice_of text op comparison_direction) ≡ Direction
  unfolding row_named_in op_kind
  typed-direction e =
      compare-choice text op row inside parts.attributes
      (row-of-kind.rule ∙ ap (λ c. rule_of_kind (kind_by (direction_at (choice_of text op comparison_direction)) (reducer_at (body_row text (place_of op body_open 0))) c)) e)

  -- the body of a reduce is of an op that may be one
  pub typed-reducer : (row_named_in text op).class ≡ class.Reduce
      → (row_at (body_row text (place_of op body_open 0))).reducer ≡ Some (reducer_at (body_row text (place_of op body_open 0)))
  unfolding op_kind bodies_fit is_reducer reducer_at
  typed-reducer e =
      let at = place_of op body_open 0 in
      let has : (row_named_in text op).body ≡ true =
      row-of-kind.body ∙ ap (λ c. has_body (kind_by (direction_at (choice_of text op comparison_direction)) (reducer_at (body_row text at)) c)) e in
      let fit = (both_true (eqb (count_of op body_open) (pick (row_named_in text op).body 1 0)) (pick (row_named_in text op).body (body_fits text at) true) parts.bodies).1 in
      body_of (row_at (body_row text at)).reducer (fits-reducer text at (rw has at fit))

  module _ (held : broken_by (row_named_in text op).rule (operation_of text op (row_named_in text op)) ≡ 0) where
    pub typed-accepted : AcceptedAs (op_kind text op) (operation_of text op (row_named_in text op))
    typed-accepted =
        accepted (op_kind text op) (row_named_in text op) (operation_of text op (row_named_in text op)) row-of-kind (operation-shaped text op (row_named_in text op))
        (one_number (op_kind text op) row-of-kind) parts.taken held

    -- a constant's elements are of its type
    pub typed-granted : (operands : List ℕ) → NodeGranted (node_for (op_kind text op) (operation_of text op (row_named_in text op)) (dense_elements text op) operands) (op_kind text op)
    unfolding row_named_in operation_of
    typed-granted operands =
        node-granted (op_kind text op) (operation_of text op (row_named_in text op)) typed-accepted (dense_elements text op) operands
        (λ e. constant-elements text op row inside parts.attributes (row-of-kind.rule ∙ ap rule_of_kind e))
