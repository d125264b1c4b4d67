-- Refusals 5 and 6 in the verdict of a text, by the definition of names: "Then duplicate input names, then op by op names (5, 6), 7, 8".
-- Assumes nothing.
use mathlib.Core.Path.{◌≡◌, refl, ap}
use mathlib.Core.List.{List}
use Prim.Native.Nat.{ℕ, ◌+◌}
use lib.Dec.{eqb}
use lib.ListN.{get_or}
use Rattle.lists.specs.Lists.{pick, tab}
use Rattle.judge.specs.Refusals.{Refusal}
use Rattle.judge.specs.Judge.{text_refusal}
use Rattle.program.specs.declared.Program.{Program}
use Rattle.program.specs.Program.{program_of}
use Rattle.places.specs.Places.{input_name, place_of}
use Rattle.values.specs.declared.Values.{Values}
use Rattle.values.specs.Values.{values_in}
use Rattle.scope.specs.Faults.{NameFault}
use Rattle.known.specs.Known.{known_names}
use Rattle.reading_laws.proofs.OpsLaw.{few_bytes}
use Rattle.names.specs.Names.{op_names_fault, input_names_fault}
use Rattle.names.proofs.SameLaw.{names_same, input-names-same}
use Rattle.opwise.specs.Opwise.{by_name, by_op, typing_of, op_refusal, ops_from}
use Rattle.verify.specs.Verify.{program_refusal}

module _ (text : List ℕ) where
  abbrev p : Program
  p = program_of text

  abbrev vs : Values
  vs = values_in text (program_of text)

  -- op k of a text that reading passes
  pub op-refusal : (text_refusal text).number ≡ 0 → (k : ℕ) → op_refusal text p vs k ≡
      (let f = op_names_fault text (get_or p.ops k 0) (known_names vs.list (vs.inputs + k)) in pick (eqb f.refusal 0) (by_op k (typing_of text p vs k)) (by_name f))
  unfolding op_refusal
  op-refusal e k =
      ap (λ (f : NameFault). pick (eqb f.refusal 0) (by_op k (typing_of text p vs k)) (by_name f)) (names_same text (few_bytes text e) (vs.inputs + k) (get_or p.ops k 0))

  -- the program
  pub program-refusal : program_refusal text p vs ≡
      (let f = input_names_fault text (tab vs.inputs (λ i. place_of p.header input_name i)) in pick (eqb f.refusal 0) (ops_from text p vs p.count 0) (by_name f))
  unfolding program_refusal
  program-refusal = ap (λ (f : NameFault). pick (eqb f.refusal 0) (ops_from text p vs p.count 0) (by_name f)) (input-names-same text vs.inputs)
