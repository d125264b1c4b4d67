-- What stands in typing for an operand without a definition, and for more than eight operands: an op whose names are not refused does not meet it
-- (01: "op by op names (5, 6), 7, 8").
-- Assumes nothing.
use mathlib.Core.Path.{◌≡◌, ap, ◌∙◌}
use mathlib.Core.List.{List}
use mathlib.Core.Bool.{◌&&◌}
use Prim.Native.Nat.{ℕ, ◌+◌, ◌<◌}
use native.Mathlib.Omega.{arith}
use lib.Dec.{eqb}
use lib.ListN.{get_or}
use Rattle.judge.specs.Judge.{text_refusal}
use Rattle.dimrules.specs.Count.{everywhere}
use Rattle.dimrules.specs.Types.{same_type}
use Rattle.program.specs.declared.Parts.{Parts}
use Rattle.program.specs.declared.Program.{Program}
use Rattle.program.specs.Parts.{op_at}
use Rattle.program.specs.Program.{program_of}
use Rattle.places.specs.Places.{operand_name, operand_type, count_of, place_of, type_of_part}
use Rattle.values.specs.declared.Value.{Value}
use Rattle.values.specs.declared.Values.{Values}
use Rattle.values.specs.Values.{no_value, value_at, values_in}
use Rattle.values.proofs.ValuesLaw.{value-stands}
use Rattle.known.specs.Known.{names_fault}
use Rattle.operands.specs.Operands.{value_named, operand_typed, operands_typed}
use Rattle.scope_laws.proofs.PlaceBoundLaw.{names-within}
use Rattle.scope_laws.proofs.Theorems.{operand-by-type, text-operand-defined}
use Rattle.default_laws.proofs.EverywhereLaw.{everywhere-same}
use Rattle.default_laws.proofs.WrittenLaw.{all-operands, never-nine, all-ops}

module _ (text : List ℕ) (read : (text_refusal text).number ≡ 0) where
  abbrev p : Program
  p = program_of text

  abbrev vs : Values
  vs = values_in text (program_of text)

  abbrev op : ℕ → Parts
  op k = op_at text (get_or p.ops k 0)

  -- the value that operand j of op k names
  abbrev defined : ℕ → ℕ → ℕ
  defined k j = value_named text vs.list (vs.inputs + k) (place_of (op k) operand_name j)

  -- a value before op k is one of the program's: `no_value` is not read
  pub value_before : (k : ℕ) → k < p.count → (i : ℕ) → i < vs.inputs + k → get_or vs.list i no_value ≡ value_at text p i
  unfolding values_in
  value_before k h i l = let n = all-ops text read in value-stands text p i (omega arith)

  module _ (k : ℕ) (h : k < p.count) (passed : (names_fault text vs.list (vs.inputs + k) (get_or p.ops k 0)).refusal ≡ 0) where
    -- each operand has its definition before the op
    pub operand-before : (j : ℕ) → j < count_of (op k) operand_name → defined k j < vs.inputs + k
    operand-before j l = text-operand-defined text (vs.inputs + k) (get_or p.ops k 0) passed j (rw (all-operands text read k h) l)

    -- its written type is that of its definition, no more is asked of it
    pub operand-as-defined : (j : ℕ) → j < count_of (op k) operand_name →
        operand_typed text (op k) vs.list (vs.inputs + k) j ≡ same_type (type_of_part text (op k) operand_type j) (value_at text p (defined k j)).ty
    operand-as-defined j l =
        operand-by-type text vs.list (names-within text) (vs.inputs + k) (get_or p.ops k 0) passed j (rw (all-operands text read k h) l)
        ∙ ap (λ (v : Value). same_type (type_of_part text (op k) operand_type j) v.ty) (value_before k h (defined k j) (operand-before j l))

    -- "a written operand type that isn't that of its definition": all that typing asks of the operands
    pub operands-as-defined :
        operands_typed text (op k) vs.list (vs.inputs + k) ≡
        eqb (count_of (op k) operand_type) (count_of (op k) operand_name)
        && everywhere (count_of (op k) operand_name) (λ j. same_type (type_of_part text (op k) operand_type j) (value_at text p (defined k j)).ty)
    unfolding operands_typed
    operands-as-defined =
        let n = never-nine text read k h in
        let a = all-operands text read k h in
        let t = everywhere-same (count_of (op k) operand_name) (operand_typed text (op k) vs.list (vs.inputs + k)) (λ j. same_type (type_of_part text (op k) operand_type j) (value_at text p (defined k j)).ty) operand-as-defined in
        rw (n, a, t)
