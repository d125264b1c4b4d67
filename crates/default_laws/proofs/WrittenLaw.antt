-- What stands in the definitions for an op, a type or a number of parts that reading refuses: a text without refusals 1 to 4 does not meet it
-- (01: "Refusals 1 to 4 come first").
-- Assumes nothing.
use mathlib.Core.Path.{◌≡◌}
use mathlib.Core.List.{List, [], ◌∷◌}
use mathlib.Core.Bool.{true}
use Prim.Native.Nat.{ℕ, ◌+◌, ◌<◌, ◌≤◌}
use native.Mathlib.Omega.{arith}
use lib.Dec.{T, ltb}
use lib.ListN.{get_or}
use borrow.Author.Tests.{lt-ltb}
use Rattle.grammar.specs.Symbols.{among_symbols}
use Rattle.grammar.proofs.Within.{member-passes}
use Rattle.optable.specs.Table.{ops, op_names}
use Rattle.judge.specs.Judge.{text_refusal}
use Rattle.program.specs.declared.Parts.{Parts}
use Rattle.program.specs.declared.Program.{Program}
use Rattle.program.specs.Parts.{op_at, body_at}
use Rattle.program.specs.Program.{program_of}
use Rattle.places.specs.Places.{result_name, operand_name, operand_type, result_type, body_open, input_name, input_type, output_type, count_of, place_of, type_of_part}
use Rattle.values.specs.Values.{inputs_of, ops_of}
use Rattle.operands.specs.Operands.{arity_of}
use Rattle.bodies.specs.Bodies.{row_named}
use Rattle.typing.specs.Typing.{in_table}
use Rattle.reading_laws.proofs.OpsLaw.{read-program}
use Rattle.part_laws.specs.Granted.{type_parts, TypesStand}
use Rattle.part_laws.proofs.StandLaw.{type-said}
use Rattle.part_laws.proofs.GrantedLaw.{header-granted, op-granted, name-granted}
use Rattle.default_laws.specs.Written.{said, TypesWritten}

stands-said : (text : List ℕ) (p : Parts) → TypesStand text p → (k j : ℕ) → T (among_symbols type_parts k) → j < count_of p k → j < 8 → type_of_part text p k j ≡ said text (place_of p k j)
unfolding type_of_part
stands-said text p s k j t l m = type-said text (place_of p k j) (s k j t l m)

module _ (text : List ℕ) (read : (text_refusal text).number ≡ 0) where
  abbrev p : Program
  p = program_of text

  abbrev op : ℕ → Parts
  op k = op_at text (get_or p.ops k 0)

  -- `in_table`: "well-formed name of an op .. not in this paper" is refusal 3, so every op but the return has its row of the op table
  pub known-op : (k : ℕ) → k + 1 < p.count → in_table text (op k) ≡ true
  unfolding in_table row_named op_names ops
  known-op k h = lt-ltb _ _ (name-granted text read k h).known

  -- ---- `tensor<i1>` for a type that is refused: "a .. type not in this paper" is refusal 3, and sizes 1 and 2 are refusal 4

  -- the types of an op's operands and results, the return's too
  pub type-written : (k : ℕ) → k < p.count → TypesWritten text (op k) (operand_type ∷ result_type ∷ [])
  type-written k h part j t l =
      let g = op-granted text read k h in
      let few = g.few part (member-passes (among_symbols (result_name ∷ operand_name ∷ operand_type ∷ result_type ∷ [])) (operand_type ∷ result_type ∷ []) part tt t) in
      stands-said text (op k) g.types part j (member-passes (among_symbols type_parts) (operand_type ∷ result_type ∷ []) part tt t) l (omega arith)

  -- the types of the inputs and the outputs
  pub header-written : TypesWritten text p.header (input_type ∷ output_type ∷ [])
  header-written part j t l =
      let g = header-granted text read in
      let few = g.few part (member-passes (among_symbols (input_name ∷ input_type ∷ output_type ∷ [])) (input_type ∷ output_type ∷ []) part tt t) in
      stands-said text p.header g.types part j (member-passes (among_symbols type_parts) (input_type ∷ output_type ∷ []) part tt t) l (omega arith)

  -- the types in a body, of each part the first eight (a body of the form has at most three of each)
  pub body-written : (k i : ℕ) → k < p.count → i < count_of (op k) body_open → i < 8 → (part j : ℕ) → T (among_symbols type_parts part) →
      j < count_of (body_at text (place_of (op k) body_open i)) part → j < 8 →
      type_of_part text (body_at text (place_of (op k) body_open i)) part j ≡ said text (place_of (body_at text (place_of (op k) body_open i)) part j)
  body-written k i h l m part j t = stands-said text (body_at text (place_of (op k) body_open i)) ((op-granted text read k h).bodies i l m) part j t

  -- ---- the cuts at 8, 9, 256 and 257: "At most 8 operands of an op, inputs, or results" (size 5), "at most 256 ops, its return .. not counted" (size 4)

  pub few-operands : (k : ℕ) → k < p.count → count_of (op k) operand_name ≤ 8
  few-operands k h = (op-granted text read k h).few operand_name tt

  -- `arity_of` cuts nothing off
  pub all-operands : (k : ℕ) → k < p.count → arity_of (op k) ≡ count_of (op k) operand_name
  unfolding arity_of
  all-operands k h = let few = few-operands k h in omega arith

  -- the test of `operands_typed` for nine
  pub never-nine : (k : ℕ) → k < p.count → ltb (count_of (op k) operand_name) 9 ≡ true
  never-nine k h = let few = few-operands k h in lt-ltb (count_of (op k) operand_name) 9 (omega arith)

  -- nine result names, operand types or result types stand for no more either
  pub few-results : (k : ℕ) → k < p.count → (count_of (op k) result_name ≤ 8) × (count_of (op k) result_type ≤ 8) × (count_of (op k) operand_type ≤ 8)
  few-results k h = let few = (op-granted text read k h).few in (few result_name tt, few result_type tt, few operand_type tt)

  pub few-outputs : count_of p.header output_type ≤ 8
  few-outputs = (header-granted text read).few output_type tt

  -- `inputs_of` cuts nothing off
  pub all-inputs : inputs_of p ≡ count_of p.header input_name
  unfolding inputs_of
  all-inputs = let few = (header-granted text read).few input_name tt in omega arith

  -- `ops_of` cuts nothing off: the ops and the return
  pub all-ops : ops_of p + 1 ≡ p.count
  unfolding ops_of
  all-ops =
      let r = read-program text read in
      let least = r.least in
      let most = r.most in
      omega arith
