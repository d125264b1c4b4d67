-- A program each of whose ops is typed and breaks no constraint, and whose return is typed, is accepted as evaluating and free runs take it.
-- Assumes nothing.
use mathlib.Core.Path.{◌≡◌, refl, sym, ap, ◌∙◌}
use mathlib.Core.Bool.{true}
use mathlib.Core.List.{List, ◌++◌, map}
use mathlib.Core.Option.{some}
use Prim.Native.Nat.{ℕ, zero, suc, ◌+◌, ◌-◌, ◌<◌}
use native.Mathlib.Nat.{not-suc-le-zero, le_of_suc-le-suc}
use native.Mathlib.Decide.{dec_lt}
use native.Mathlib.Omega.{arith}
use lib.ListN.{get_or, get_elem?, get_or-append}
use lib.Seq.{get_or-append-add}
use borrow.Author.Tests.{le-ltb}
use Rattle.lists.specs.Lists.{tab, All}
use Rattle.lists.proofs.TabLaw.{length-tab, get_or-tab, tab-cong, map-tab}
use Rattle.lists.proofs.AllLaw.{all-tab}
use Rattle.ops.specs.Ops.{Node, TensorType as NodeType, no_tensor_type}
use Rattle.ops.specs.Typed.{value_type_at, Accepted, NodeGranted}
use Rattle.opcheck.specs.Judged.{broken_by}
use Rattle.dimrules.specs.Types.{type_at as operand_at}
use Rattle.program.specs.declared.Parts.{Parts}
use Rattle.program.specs.declared.Program.{Program as Places}
use Rattle.program.specs.Parts.{op_at}
use Rattle.places.specs.Places.{operand_name, operand_type, place_of, type_of_part}
use Rattle.values.specs.declared.Value.{Value}
use Rattle.values.specs.declared.Values.{Values}
use Rattle.values.specs.Values.{no_value, result_value, inputs_of, ops_of, value_at, values_in}
use Rattle.values.proofs.ValuesLaw.{value-stands, value-sized, value-six}
use Rattle.operands.specs.Operands.{value_named, arity_of, operands_typed}
use Rattle.typing.specs.Typing.{row_named_in, operation_of, typed_op}
use Rattle.facts.specs.Facts.{node_type}
use Rattle.nodes.specs.Nodes.{operands_of, node_at, input_types, nodes_in}
use Rattle.nodes.proofs.ReadLaw.{part-read}
use Rattle.nodes.proofs.TypedLaw.{Defined, same-node-type, typed-parts, all-defined, written_at, typed-granted}

-- ---- a list that is tabulated

place-of-tab : {A : Type 0} (n : ℕ) (f : ℕ → A) (k : ℕ) → k < n → get_elem? (tab n f) k ≡ some (f k)
place-of-tab zero f k l = absurd (not-suc-le-zero l)
place-of-tab (suc n) f zero l = refl
place-of-tab (suc n) f (suc k) l = place-of-tab n (λ i. f (suc i)) k (le_of_suc-le-suc l)

-- what stands at a place of it
tab-place : {A : Type 0} (n : ℕ) (f : ℕ → A) (k : ℕ) (a : A) → get_elem? (tab n f) k ≡ some a → (k < n) × (f k ≡ a)
tab-place zero f k a e = absurd (let z : ◌≡◌ {A = ℕ} 0 1 = cc in omega arith)
tab-place (suc n) f zero a e = (omega arith, let z : f 0 ≡ a = cc in z)
tab-place (suc n) f (suc k) a e = let h = tab-place n (λ i. f (suc i)) k a e in (omega (arith, h.0), h.1)

-- ---- the program

-- an op that refusals 7 and 8 leave, after n values
pub record OpStands (text : List ℕ) (op : Parts) (values : List Value) (n : ℕ) : Type 0 where
  pub typed : typed_op text op (row_named_in text op) values n ≡ true
  pub held : broken_by (row_named_in text op).rule (operation_of text op (row_named_in text op)) ≡ 0

-- every op of a program, and the return after them
pub record OpsStand (text : List ℕ) (p : Places) (vs : Values) : Type 0 where
  pub each : (k : ℕ) → k < ops_of p → OpStands text (op_at text (get_or p.ops k 0)) vs.list (vs.inputs + k)
  pub last : operands_typed text (op_at text (get_or p.ops (ops_of p) 0)) vs.list (vs.inputs + ops_of p) ≡ true

module _ (text : List ℕ) (p : Places) where
  abbrev vs : Values
  vs = values_in text p

  abbrev op_of : ℕ → Parts
  op_of k = op_at text (get_or p.ops k 0)

  -- the type of value i
  abbrev value_type : ℕ → NodeType
  value_type i = node_type (get_or vs.list i no_value).ty

  pub result-is : (k : ℕ) → k < ops_of p → (node_at text p vs k).result ≡ value_type (vs.inputs + k)
  unfolding node_at operation_of values_in value_at result_value
  result-is k l =
      let i = inputs_of p + k in
      let z : i - inputs_of p ≡ k = omega arith in
      rw (value-stands text p i (omega arith), le-ltb i (inputs_of p) (omega arith), z)

  -- the inputs come first, then each op's result
  pub value-type : (i : ℕ) → i < vs.inputs + ops_of p → value_type_at (input_types vs) (nodes_in text p vs) i ≡ value_type i
  unfolding input_types nodes_in
  value-type i l = by_place (dec_lt i vs.inputs)
    where
      results : List NodeType
      results = map (λ o. o.result) (tab (ops_of p) (node_at text p vs))

      by_place : Dec (i < vs.inputs) → get_or (tab vs.inputs value_type ++ results) i no_tensor_type ≡ value_type i
      by_place (yes b) =
          get_or-append (tab vs.inputs value_type) results no_tensor_type i (rw (length-tab vs.inputs value_type) b) ∙ get_or-tab vs.inputs value_type i no_tensor_type b
      by_place (no b) =
          let k = i - vs.inputs in
          let e : vs.inputs + k ≡ i = omega arith in
          let q : k < ops_of p = omega arith in
          ap (λ (j : ℕ). get_or (tab vs.inputs value_type ++ results) j no_tensor_type) (sym (rw (length-tab vs.inputs value_type) e))
          ∙ get_or-append-add (tab vs.inputs value_type) results k no_tensor_type
          ∙ ap (λ (l : List NodeType). get_or l k no_tensor_type) (map-tab (λ (o : Node). o.result) (ops_of p) (node_at text p vs))
          ∙ get_or-tab (ops_of p) (λ k. (node_at text p vs k).result) k no_tensor_type q ∙ result-is k q ∙ ap value_type e

  -- a name that is defined is written with the type of its value
  pub defined-type : (op : Parts) (n j : ℕ) → Defined text op vs.list n j
      → node_type (type_of_part text op operand_type j) ≡ value_type (value_named text vs.list n (place_of op operand_name j))
  defined-type op n j d =
      let i = value_named text vs.list n (place_of op operand_name j) in
      same-node-type (type_of_part text op operand_type j) (get_or vs.list i no_value).ty (part-read text op operand_type j)
      (record { sized = value-sized text p i; six = value-six text p i }) d.alike

  module _ (s : OpsStand text p vs) where
    -- operand j of op k is defined
    op-defined : (k : ℕ) → k < ops_of p → (j : ℕ) → j < arity_of (op_of k) → Defined text (op_of k) vs.list (vs.inputs + k) j
    op-defined k l =
        all-defined text (op_of k) vs.list (vs.inputs + k) (typed-parts text (op_of k) (row_named_in text (op_of k)) vs.list (vs.inputs + k) (s.each k l).typed).operands

    -- it names a value before op k
    pub operand-before : (k : ℕ) → k < ops_of p → (j : ℕ) → j < arity_of (op_of k) → value_named text vs.list (vs.inputs + k) (place_of (op_of k) operand_name j) < vs.inputs + k
    operand-before k l j m = (op-defined k l j m).before

    -- and is written with its type
    pub operand_type_lem : (k : ℕ) → k < ops_of p → (j : ℕ) → j < arity_of (op_of k)
        → node_type (operand_at (operation_of text (op_of k) (row_named_in text (op_of k))).types j) ≡ value_type (value_named text vs.list (vs.inputs + k) (place_of (op_of k) operand_name j))
    operand_type_lem k l j m = rw (written_at text (op_of k) (row_named_in text (op_of k)) j m) (defined-type (op_of k) (vs.inputs + k) j (op-defined k l j m))

    -- so what the return names
    pub return-defined : (j : ℕ) → j < arity_of (op_of (ops_of p)) → Defined text (op_of (ops_of p)) vs.list (vs.inputs + ops_of p) j
    return-defined = all-defined text (op_of (ops_of p)) vs.list (vs.inputs + ops_of p) s.last

    scoped_at : (k : ℕ) → k < ops_of p → All (λ i. i < vs.inputs + k) (node_at text p vs k).operands
    unfolding node_at operands_of
    scoped_at k l = all-tab (λ i. i < vs.inputs + k) (arity_of (op_of k)) _ (operand-before k l)

    written_as : (k : ℕ) → k < ops_of p → (node_at text p vs k).from ≡ map (value_type_at (input_types vs) (nodes_in text p vs)) (node_at text p vs k).operands
    unfolding node_at operands_of operation_of
    written_as k l =
        let op = op_of k in
        let named : ℕ → ℕ = λ j. value_named text vs.list (vs.inputs + k) (place_of op operand_name j) in
        tab-cong (arity_of op) (λ j. node_type (operand_at (operation_of text op (row_named_in text op)).types j)) (λ j. value_type_at (input_types vs) (nodes_in text p vs) (named j))
        (λ j m. operand_type_lem k l j m ∙ sym (value-type (named j) (let b = operand-before k l j m in omega arith)))
        ∙ sym (map-tab (value_type_at (input_types vs) (nodes_in text p vs)) (arity_of op) named)

    pub granted-at : (k : ℕ) → k < ops_of p → NodeGranted (node_at text p vs k) (node_at text p vs k).kind
    unfolding node_at
    granted-at k l =
        let h = s.each k l in
        typed-granted text (op_of k) vs.list (vs.inputs + k) h.typed h.held (operands_of text (op_of k) vs.list (vs.inputs + k))

    pub nodes-accepted : Accepted (input_types vs) (nodes_in text p vs)
    unfolding nodes_in input_types operands_of
    nodes-accepted =
        let n = ops_of p in
        let node = node_at text p vs in
        record {
          inputs = length-tab vs.inputs value_type;
          scoped = λ k l.
              let m : k < n = rw (length-tab n node) at l in
              rw (place-of-tab n node k m) (scoped_at k m);
          returned = rw (length-tab n node) (all-tab (λ i. i < vs.inputs + n) (arity_of (op_of n)) _ (λ j m. (return-defined j m).before));
          written = λ k o e. let h = tab-place n node k o e in rw (← h.1) (written_as k h.0);
          granted = λ k o e. let h = tab-place n node k o e in rw (← h.1) (granted-at k h.0);
        }
