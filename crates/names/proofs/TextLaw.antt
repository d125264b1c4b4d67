-- The names of op k of a text that reading passes, the return too: what refusals 5 and 6 ask of them is the order of 01, "operands, body, result".
-- Assumes nothing.
use mathlib.Core.Path.{◌≡◌, refl, ap, subst, ◌∙◌}
use mathlib.Core.List.{List}
use Prim.Native.Nat.{ℕ, ◌+◌, ◌-◌, ◌<◌}
use native.Mathlib.Omega.{arith}
use native.Mathlib.Decide.{dec_lt}
use lib.ListN.{get_or}
use Rattle.grammar.specs.Symbols.{OpName, FuncReturn, Op}
use Rattle.syntax.specs.Readings.{readings_of}
use Rattle.judge.specs.Judge.{text_refusal}
use Rattle.program.specs.Program.{names_op, program_of}
use Rattle.values.specs.Values.{values_in}
use Rattle.known.specs.Known.{known_names, names_fault}
use Rattle.reading_laws.proofs.OpsLaw.{few_bytes, read-program}
use Rattle.names.specs.Names.{checked_fault, op_names_fault}
use Rattle.names.specs.InOrder.{operands_body_result}
use Rattle.names.proofs.SameLaw.{names_same}
use Rattle.names.proofs.OrderLaw.{op-names-in-order}

module _ (text : List ℕ) (e : (text_refusal text).number ≡ 0) (known : List ℕ) where
  abbrev InOrder : ℕ → Type 0
  InOrder at = op_names_fault text at known ≡ checked_fault (operands_body_result text (readings_of Op text at) known)

  pub op-in-order : (k : ℕ) → k < (program_of text).count → InOrder (get_or (program_of text).ops k 0)
  unfolding names_op
  op-in-order k h = go (dec_lt (k + 1) (program_of text).count)
    where
      go : Dec (k + 1 < (program_of text).count) → InOrder (get_or (program_of text).ops k 0)
      go (yes l) = op-names-in-order text OpName (get_or (program_of text).ops k 0) known refl ((read-program text e).each k l)
      go (no l) =
          let z : (program_of text).count - 1 ≡ k = omega arith in
          subst (λ (m : ℕ). InOrder (get_or (program_of text).ops m 0)) z
          (op-names-in-order text FuncReturn (get_or (program_of text).ops ((program_of text).count - 1) 0) known refl (read-program text e).last)

-- n values being defined before op k
pub names-in-order : (text : List ℕ) → (text_refusal text).number ≡ 0 → (n k : ℕ) → k < (program_of text).count →
    names_fault text (values_in text (program_of text)).list n (get_or (program_of text).ops k 0) ≡
    checked_fault (operands_body_result text (readings_of Op text (get_or (program_of text).ops k 0)) (known_names (values_in text (program_of text)).list n))
names-in-order text e n k h =
    names_same text (few_bytes text e) n (get_or (program_of text).ops k 0) ∙ op-in-order text e (known_names (values_in text (program_of text)).list n) k h
