-- Op k of an accepted text: its operands stand in the slots with their types, what it gives is what its class gives on them, and that is of its
-- result's type.
-- Assumes nothing.
use mathlib.Core.Path.{◌≡◌, refl, sym, ap, ◌∙◌, subst}
use mathlib.Core.Bool.{true}
use mathlib.Core.List.{List, [], ◌∷◌, map}
use Prim.Native.Nat.{ℕ, zero, suc, ◌+◌, ◌≤◌, ◌<◌, suc-le-suc}
use native.Mathlib.Nat.{zero-lt-suc}
use native.Mathlib.Omega.{arith}
use lib.ListN.{length, get_or, take, drop}
use borrow.Author.Tests.{lt-ltb}
use Rattle.lists.specs.Lists.{tab}
use Rattle.lists.proofs.TabLaw.{get_or-tab, tab-cong, map-tab}
use Rattle.run.specs.Run.{Out, gives, values_at}
use Rattle.run.specs.Ways.{by_fold, language_of}
use Rattle.shape.specs.Index.{at, size}
use Rattle.shape.specs.Dims.{dims_of, Fills}
use Rattle.elementwise.specs.Elementwise.{Tensor, Holds}
use Rattle.ops.specs.declared.Kind.{Kind}
use Rattle.ops.specs.declared.Kind.TheVariants.{Constant, Iota, Elementwise, Pairwise, Quotient, Compare, Convert, Select, Clamp, Moved, Pad, Concatenate, DynamicSlice, Reduce}
use Rattle.ops.specs.Ops.{TensorType as NodeType, hlo, way_of}
use Rattle.ops.specs.Typed.{HoldAll}
use Rattle.ops.proofs.OpLaw.{result-holds}
use Rattle.optable.specs.Table.{value}
use Rattle.attribute.specs.Attribute.{dense_tokens}
use Rattle.dense.specs.Dense.{dense_value}
use Rattle.dimrules.specs.Types.{type_at}
use Rattle.opcheck.specs.declared.Operation.{Operation}
use Rattle.program.specs.declared.Parts.{Parts}
use Rattle.program.specs.declared.Program.{Program as Places}
use Rattle.program.specs.Parts.{op_at}
use Rattle.program.specs.Program.{program_of}
use Rattle.places.specs.Places.{operand_name, place_of, type_in}
use Rattle.values.specs.declared.Values.{Values}
use Rattle.values.specs.Values.{no_value, ops_of, values_in, values_of}
use Rattle.values.proofs.ValuesLaw.{inputs-few}
use Rattle.offsets.specs.Offsets.{size_at, offset_at, ValuesRead}
use Rattle.offsets.proofs.OffsetsLaw.{values-read, offset-next, offset-le}
use Rattle.attributes.specs.Attributes.{name_of, dense_type, dense_fits}
use Rattle.operands.specs.Operands.{value_named, arity_of}
use Rattle.operands.proofs.OperandsLaw.{arity-few}
use Rattle.typing.specs.Typing.{row_named_in, operation_of}
use Rattle.verify.specs.Verify.{verdict}
use Rattle.facts.specs.Facts.{AcceptedAs, node_type, node_for}
use Rattle.facts.proofs.NodeLaw.{hold-as}
use Rattle.nodes.specs.Nodes.{op_kind, dense_elements, operands_of, node_at}
use Rattle.nodes.proofs.AcceptedLaw.{op-accepted, operands-defined, node-result, node-accepted, constant-accepted}
use Rattle.layout.specs.Layout.{value_in, tensors_in}
use Rattle.spans.specs.Spans.{places_of, place_at}
use Rattle.doing.specs.Doing.{size_of, arg_in, args_in, arguments_at as denses_at, op_gives, OperandsPlaced, Readable}
use Rattle.steps.specs.Steps.{op_meaning, ValuesHeld, Accepts}

-- the numbers of the operands play no part in what an op gives, and a constant's elements none in another op
gives_same : (kind : Kind) (o : Operation) (xs ys : Tensor) (operands : List ℕ) (args : List Tensor) → (kind ≡ Constant → xs ≡ ys)
    → by_fold hlo (way_of (node_for kind o xs operands) kind args) ≡ by_fold hlo (way_of (node_for kind o ys []) kind args)
gives_same Constant o xs ys operands args h = ap gives (h refl)
gives_same Iota o xs ys operands args h = refl
gives_same (Elementwise op) o xs ys operands args h = refl
gives_same (Pairwise op) o xs ys operands args h = refl
gives_same (Quotient op) o xs ys operands args h = refl
gives_same (Compare d) o xs ys operands args h = refl
gives_same Convert o xs ys operands args h = refl
gives_same Select o xs ys operands args h = refl
gives_same Clamp o xs ys operands args h = refl
gives_same (Moved m) o xs ys operands args h = refl
gives_same Pad o xs ys operands args h = refl
gives_same Concatenate o xs ys operands args h = refl
gives_same DynamicSlice o xs ys operands args h = refl
gives_same (Reduce body) o xs ys operands args h = refl

-- tensors of their types, one by one
pub hold-tab : (n : ℕ) (t : ℕ → NodeType) (x : ℕ → Tensor) → ((j : ℕ) → j < n → Holds (t j).element (size (t j).dims) (x j)) → HoldAll (tab n t) (tab n x)
hold-tab zero t x h = tt
hold-tab (suc n) t x h = (h zero (zero-lt-suc n), hold-tab n (λ j. t (suc j)) (λ j. x (suc j)) (λ j l. h (suc j) (suc-le-suc l)))

module _ (text : List ℕ) (e : (verdict text).number ≡ 0) (k : ℕ) (l : k < ops_of (program_of text)) where
  abbrev p : Places
  p = program_of text

  abbrev vs : Values
  vs = values_in text p

  abbrev n : ℕ
  n = vs.inputs + k

  abbrev op : Parts
  op = op_at text (get_or p.ops k 0)

  abbrev o : Operation
  o = operation_of text op (row_named_in text op)

  abbrev literal : ℕ
  literal = (dense_tokens text (name_of text op value)).literal

  abbrev named : ℕ → ℕ
  named j = value_named text vs.list n (place_of op operand_name j)

  arity-is : o.arity ≡ arity_of op
  unfolding operation_of
  arity-is = refl

  before : (j : ℕ) → j < arity_of op → named j < n
  before j m = (operands-defined text e k l j m).0

  same-type : (j : ℕ) → j < arity_of op → node_type (type_at o.types j) ≡ node_type (get_or vs.list (named j) no_value).ty
  same-type j m = (operands-defined text e k l j m).1

  same_size : (j : ℕ) → j < arity_of op → size_of o j ≡ size_at vs (named j)
  unfolding size_at
  same_size j m = ap (λ (t : NodeType). size t.dims) (same-type j m)

  placed_at : (j : ℕ) → j < arity_of op → at (places_of text op vs n) j ≡ offset_at vs (named j)
  unfolding places_of
  placed_at j m = get_or-tab 8 (place_at text op vs n) j 0 (let f = arity-few op in omega arith) ∙ rw (lt-ltb j (arity_of op) m)

  arg_is : (slots : List ℕ) (j : ℕ) → j < arity_of op → arg_in o (places_of text op vs n) slots j ≡ value_in vs slots (named j)
  arg_is slots j m = ap (λ (i : ℕ). take (size_of o j) (drop i slots)) (placed_at j m) ∙ ap (λ (i : ℕ). take i (drop (offset_at vs (named j)) slots)) (same_size j m)

  -- a constant is readable
  pub op-readable : Readable (op_kind text op) o text literal
  unfolding operation_of dense_type dense_fits
  op-readable q = let c = constant-accepted text e k l q in rw c.0 c.1

  elements-are : op_kind text op ≡ Constant → dense_elements text op ≡ denses_at o text literal
  unfolding operation_of dense_type dense_elements
  elements-are q = let c = constant-accepted text e k l q in rw c.0

  module _ (slots : List ℕ) (h : ValuesHeld vs n slots) where
    -- the operands stand in the slots
    pub op-placed : OperandsPlaced o (places_of text op vs n) slots
    op-placed =
        record {
          inside = λ j m.
              let a : j < arity_of op = rw arity-is at m in
              rw (placed_at j a, same_size j a) (omega (arith, offset-next vs (named j), offset-le vs (named j + 1) n (let b = before j a in omega arith), h.room));
          holds = λ j m.
              let a : j < arity_of op = rw arity-is at m in
              subst (λ (x : Tensor). Holds (type_at o.types j).element (size_of o j) x) (sym (arg_is slots j a))
              (hold-as (ap (λ (t : NodeType). t.element) (sym (same-type j a))) (sym (same_size j a)) (h.holds (named j) (before j a)));
        }

    -- what it reads are its operands
    args_are : values_at (language_of hlo) (tensors_in vs slots n) (operands_of text op vs.list n) ≡ args_in o (places_of text op vs n) slots
    unfolding operands_of
    args_are =
        map-tab (λ i. get_or (tensors_in vs slots n) i []) (arity_of op) named
        ∙ tab-cong (arity_of op) (λ j. get_or (tensors_in vs slots n) (named j) []) (arg_in o (places_of text op vs n) slots)
        (λ j m. get_or-tab n (value_in vs slots) (named j) [] (before j m) ∙ sym (arg_is slots j m))
        ∙ ap (λ (a : ℕ). tab a (arg_in o (places_of text op vs n) slots)) (sym arity-is)

    -- what it gives is what its class gives on them
    pub op-means : op_meaning text k slots ≡ op_gives (op_kind text op) o (denses_at o text literal) (args_in o (places_of text op vs n) slots)
    unfolding op_meaning values_of node_at op_gives
    op-means =
        ap (λ (args : List Tensor). by_fold hlo (way_of (node_at text p vs k) (op_kind text op) args)) args_are
        ∙ gives_same (op_kind text op) o (dense_elements text op) (denses_at o text literal) (operands_of text op vs.list n) (args_in o (places_of text op vs n) slots) elements-are

    -- its stretch is as long as its result
    pub op-fills : (out : List ℕ) → length out ≡ size_at vs n → Fills out o.result.shape
    unfolding node_at size_at
    op-fills out f = f ∙ ap (λ (t : NodeType). size t.dims) (sym (node-result text e k l))

    -- and is of its result's type
    pub op-holds : (v : Tensor) → op_meaning text k slots ≡ gives v → Holds (get_or vs.list n no_value).ty.element (size_at vs n) v
    unfolding op_meaning values_of node_at size_at
    op-holds v r =
        let node = node_at text p vs k in
        subst (λ (t : NodeType). Holds t.element (size t.dims) v) (node-result text e k l)
        (result-holds node (args_in o (places_of text op vs n) slots) (hold-tab o.arity (λ j. node_type (type_at o.types j)) (arg_in o (places_of text op vs n) slots) op-placed.holds)
        (op_kind text op) (node-accepted text e k l) v
        (ap (λ (args : List Tensor). by_fold hlo (way_of node (op_kind text op) args)) (sym args_are) ∙ r))

-- ---- op k as the code has it

counted : (text : List ℕ) (k : ℕ) → k < ops_of (program_of text) → (values_in text (program_of text)).inputs + k < (values_in text (program_of text)).count
unfolding values_in
counted text k l = omega arith

-- what doing an op asks
abbrev Asks : List ℕ → Places → Values → ℕ → List ℕ → List ℕ → Type 0
Asks text p vs k slots out =
    let part = op_at text (get_or p.ops k 0) in
    let o = operation_of text part (row_named_in text part) in
    AcceptedAs (op_kind text part) o × OperandsPlaced o (places_of text part vs (vs.inputs + k)) slots
    × Readable (op_kind text part) o text (dense_tokens text (name_of text part value)).literal × Fills out o.result.shape

-- what it gives
abbrev Gives : List ℕ → Places → Values → ℕ → List ℕ → Out Tensor ℕ
Gives text p vs k slots =
    let part = op_at text (get_or p.ops k 0) in
    let o = operation_of text part (row_named_in text part) in
    op_gives (op_kind text part) o (denses_at o text (dense_tokens text (name_of text part value)).literal) (args_in o (places_of text part vs (vs.inputs + k)) slots)

module _ (text : List ℕ) (p : Places) (vs : Values) (starts : List ℕ) (a : Accepts text p vs starts) (k : ℕ) (slots : List ℕ) where
  -- a fact of the text's places and values is one of these
  as_read : (P : Places → Values → Type 0) → P (program_of text) (values_in text (program_of text)) → P p vs
  unfolding values_of
  as_read P x = subst (λ (q : Places). P q vs) (sym a.program) (subst (P (program_of text)) (sym a.values) x)

  pub step-asks : k < ops_of p → ValuesHeld vs (vs.inputs + k) slots → (out : List ℕ) → length out ≡ size_at vs (vs.inputs + k) → Asks text p vs k slots out
  step-asks =
      as_read (λ q ws. k < ops_of q → ValuesHeld ws (ws.inputs + k) slots → (out : List ℕ) → length out ≡ size_at ws (ws.inputs + k) → Asks text q ws k slots out)
      (λ l h out f. (op-accepted text a.verdict k l, op-placed text a.verdict k l slots h, op-readable text a.verdict k l, op-fills text a.verdict k l slots h out f))

  pub step-means : k < ops_of p → ValuesHeld vs (vs.inputs + k) slots → op_meaning text k slots ≡ Gives text p vs k slots
  step-means = as_read (λ q ws. k < ops_of q → ValuesHeld ws (ws.inputs + k) slots → op_meaning text k slots ≡ Gives text q ws k slots) (λ l h. op-means text a.verdict k l slots h)

  pub step-holds : k < ops_of p → ValuesHeld vs (vs.inputs + k) slots → (v : Tensor) → op_meaning text k slots ≡ gives v
      → Holds (get_or vs.list (vs.inputs + k) no_value).ty.element (size_at vs (vs.inputs + k)) v
  step-holds =
      as_read (λ q ws. k < ops_of q → ValuesHeld ws (ws.inputs + k) slots → (v : Tensor) → op_meaning text k slots ≡ gives v
      → Holds (get_or ws.list (ws.inputs + k) no_value).ty.element (size_at ws (ws.inputs + k)) v) (λ l h. op-holds text a.verdict k l slots h)

  pub step-read : ValuesRead vs
  step-read = as_read (λ q ws. ValuesRead ws) (values-read text (program_of text))

  -- op k's result is one of the values
  pub step-counted : k < ops_of p → vs.inputs + k < vs.count
  step-counted = as_read (λ q ws. k < ops_of q → ws.inputs + k < ws.count) (counted text k)

  -- "at most 256 ops", "At most 8 .. inputs"
  pub few-values : k < ops_of p → (k < 256) × (vs.inputs ≤ 8)
  unfolding ops_of
  few-values l = (omega arith, as_read (λ q ws. ws.inputs ≤ 8) (inputs-few text (program_of text)))
