-- A text that is accepted (refusal 0): each op has what its class asks, its operands name earlier values and have their types, and the program
-- is one to which demand 3 applies.
-- Assumes nothing.
use mathlib.Core.Path.{◌≡◌, refl}
use mathlib.Core.Bool.{true}
use mathlib.Core.List.{List}
use Prim.Native.Nat.{ℕ, ◌+◌, ◌<◌, ◌≤◌}
use lib.ListN.{get_or}
use Rattle.run.specs.Ways.{OrderFree}
use Rattle.elementwise.specs.Elementwise.{Tensor}
use Rattle.ops.specs.Ops.{hlo}
use Rattle.ops.specs.declared.Kind.TheVariants.{Constant}
use Rattle.ops.specs.Typed.{HoldAll, NodeGranted, Accepted, StartsAtIdentity}
use Rattle.ops.proofs.ProgramLaw.{hlo-order-free}
use Rattle.judge.specs.Judge.{text_refusal}
use Rattle.optable.specs.Table.{value}
use Rattle.dimrules.specs.Types.{type_at}
use Rattle.program.specs.declared.Parts.{Parts}
use Rattle.program.specs.declared.Program.{Program as Places}
use Rattle.program.specs.Parts.{op_at}
use Rattle.program.specs.Program.{program_of}
use Rattle.places.specs.Places.{operand_name, operand_type, place_of, type_of_part}
use Rattle.values.specs.declared.Values.{Values}
use Rattle.values.specs.Values.{no_value, ops_of, values_in}
use Rattle.offsets.specs.Offsets.{needed_of}
use Rattle.known.specs.Known.{names_fault}
use Rattle.operands.specs.Operands.{value_named, arity_of}
use Rattle.attributes.specs.Attributes.{stands, dense_fits, name_of}
use Rattle.outputs.specs.Outputs.{typed_return}
use Rattle.typing.specs.Typing.{row_named_in, operation_of}
use Rattle.facts.specs.Facts.{AcceptedAs, node_type}
use Rattle.reading_laws.proofs.OpsLaw.{read-program}
use Rattle.reading_laws.proofs.ElementsLaw.{few-elements}
use Rattle.verify.specs.Verify.{program_refusal, verdict}
use Rattle.nodes.specs.Nodes.{op_kind, node_at, nodes_of, input_types_of}
use Rattle.nodes.proofs.TypedLaw.{typed-accepted, typed-constant}
use Rattle.nodes.proofs.NodesLaw.{OpStands, defined-type, return-defined, operand-before, operand_type_lem, result-is, granted-at, nodes-accepted}
use Rattle.nodes.proofs.VerdictLaw.{both_zero, ops-and-return, each-passed, op-stands, one-result, return-stands, ops-stand}

module _ (text : List ℕ) where
  -- its parts, its values, and op k
  abbrev p : Places
  p = program_of text

  abbrev vs : Values
  vs = values_in text (program_of text)

  abbrev op_of : ℕ → Parts
  op_of k = op_at text (get_or (program_of text).ops k 0)

  module _ (e : (verdict text).number ≡ 0) where
    -- refusals 1 to 4: reading passes the text
    text-passes : (text_refusal text).number ≡ 0
    unfolding verdict
    text-passes = (both_zero (text_refusal text).number (program_refusal text p vs) (text_refusal text) refl e).0

    text-counted : (0 < p.count) × (p.count ≤ 257)
    text-counted = let r = read-program text text-passes in (r.least, r.most)

    program-passes : (program_refusal text p vs).number ≡ 0
    unfolding verdict
    program-passes = (both_zero (text_refusal text).number (program_refusal text p vs) (text_refusal text) refl e).1

    -- "ops .., and `"func.return"` last": all of them are read
    pub accepted-count : ops_of p + 1 ≡ p.count
    accepted-count = ops-and-return text p vs text-counted program-passes

    -- size 3: the slots needed
    pub accepted-elements : needed_of vs ≤ 8192
    accepted-elements = few-elements text text-passes (one-result text p vs text-counted program-passes)

    -- refusals 5 and 6, of every op and of the return
    pub accepted-names : (k : ℕ) → k < p.count → (names_fault text vs.list (vs.inputs + k) (get_or p.ops k 0)).refusal ≡ 0
    accepted-names k l = (each-passed text p vs text-counted program-passes k l).names

    -- refusals 7 and 8
    pub accepted-stands : (k : ℕ) → k < ops_of p → OpStands text (op_of k) vs.list (vs.inputs + k)
    accepted-stands = op-stands text p vs text-counted program-passes

    pub accepted-return : typed_return text (op_of (ops_of p)) p.header vs.list (vs.inputs + ops_of p) ≡ true
    accepted-return = return-stands text p vs text-counted program-passes

    pub op-accepted : (k : ℕ) → k < ops_of p → AcceptedAs (op_kind text (op_of k)) (operation_of text (op_of k) (row_named_in text (op_of k)))
    op-accepted k l = let h = accepted-stands k l in typed-accepted text (op_of k) vs.list (vs.inputs + k) h.typed h.held

    -- operand j of op k: the value that it names, by its number, is an input or an earlier op's result, and has the type that is written
    pub operands-defined : (k : ℕ) → k < ops_of p → (j : ℕ) → j < arity_of (op_of k)
        → (value_named text vs.list (vs.inputs + k) (place_of (op_of k) operand_name j) < vs.inputs + k)
        × (node_type (type_at (operation_of text (op_of k) (row_named_in text (op_of k))).types j)
        ≡ node_type (get_or vs.list (value_named text vs.list (vs.inputs + k) (place_of (op_of k) operand_name j)) no_value).ty)
    operands-defined k l j m = (operand-before text p (ops-stand text p vs text-counted program-passes) k l j m, operand_type_lem text p (ops-stand text p vs text-counted program-passes) k l j m)

    -- so what the return names
    pub returns-defined : (j : ℕ) → j < arity_of (op_of (ops_of p))
        → (value_named text vs.list (vs.inputs + ops_of p) (place_of (op_of (ops_of p)) operand_name j) < vs.inputs + ops_of p)
        × (node_type (type_of_part text (op_of (ops_of p)) operand_type j)
        ≡ node_type (get_or vs.list (value_named text vs.list (vs.inputs + ops_of p) (place_of (op_of (ops_of p)) operand_name j)) no_value).ty)
    returns-defined j m =
        let d = return-defined text p (ops-stand text p vs text-counted program-passes) j m in
        (d.before, defined-type text p (op_of (ops_of p)) (vs.inputs + ops_of p) j d)

    -- op k as evaluating takes it: its result is value inputs + k, and it has what its class asks
    pub node-result : (k : ℕ) → k < ops_of p → (node_at text p vs k).result ≡ node_type (get_or vs.list (vs.inputs + k) no_value).ty
    node-result = result-is text p

    pub node-accepted : (k : ℕ) → k < ops_of p → NodeGranted (node_at text p vs k) (node_at text p vs k).kind
    node-accepted = granted-at text p (ops-stand text p vs text-counted program-passes)

    -- a constant has its dense value, which is one of its type
    pub constant-accepted : (k : ℕ) → k < ops_of p → op_kind text (op_of k) ≡ Constant
        → (stands text (op_of k) value ≡ true) × (dense_fits text (name_of text (op_of k) value) ≡ true)
    constant-accepted k l = typed-constant text (op_of k) vs.list (vs.inputs + k) (accepted-stands k l).typed

    pub accepted-program : Accepted (input_types_of text) (nodes_of text)
    unfolding input_types_of nodes_of
    accepted-program = nodes-accepted text p (ops-stand text p vs text-counted program-passes)

    -- demand 3 of 01 for the text's program
    pub text-order-free : StartsAtIdentity (nodes_of text) → (inputs : List Tensor) → HoldAll (input_types_of text) inputs → (b : ℕ) → OrderFree hlo (nodes_of text) inputs b
    text-order-free = hlo-order-free (input_types_of text) (nodes_of text) accepted-program
