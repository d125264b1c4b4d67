-- Refusals 0 to 8: the verdict in the words of 01 is the one that the code works out, for every text.
-- Assumes nothing.
use mathlib.Core.Path.{◌≡◌, refl, sym, ap, ◌∙◌, subst}
use mathlib.Core.List.{List, [], ◌∷◌, map}
use mathlib.Core.Bool.{Bool, true, false, not, ◌&&◌}
use Prim.Native.Nat.{ℕ, zero, suc, ◌+◌, ◌<◌, ◌≤◌, min}
use native.Mathlib.Nat.{not-suc-le-zero, le_of_suc-le-suc}
use native.Mathlib.Omega.{arith}
use lib.Dec.{eqb, ltb}
use lib.ListN.{length, get_or, length-map}
use borrow.Author.Tests.{eqb-true, ltb-true}
use Rattle.lists.specs.Lists.{pick}
use Rattle.lists.proofs.TestLaw.{both_true}
use Rattle.dimrules.specs.Count.{everywhere}
use Rattle.dimrules.proofs.CountLaw.{holds_at}
use Rattle.syntax.specs.Readings.{Reading, readings_of}
use Rattle.grammar.specs.Symbols.{Op}
use Rattle.optable.specs.declared.Row.{Row}
use Rattle.optable.specs.declared.Rule.{Rule}
use Rattle.optable.specs.declared.Rule.TheVariants as rule
use Rattle.optable.specs.Table.{OpRow, ops, row_at, row_of as row_for, value}
use Rattle.checks.specs.Check.{Check, broken_number}
use Rattle.judge.specs.Refusals.{Refusal}
use Rattle.judge.specs.Judge.{text_refusal}
use Rattle.program.specs.Program.{program_of}
use Rattle.places.specs.Places.{attribute_name, body_open, count_of, place_of}
use Rattle.values.specs.Values.{values_in}
use Rattle.opcheck.specs.Judged.{broken_by, checks_by}
use Rattle.attributes.specs.Attributes.{stands, attributes_fit, needed_at}
use Rattle.bodies.specs.Bodies.{row_named, body_fits, argument_type}
use Rattle.typing.specs.Typing.{row_named_in, operation_of, body_type, in_table, bodies_fit, typed_op}
use Rattle.verify.specs.Verify.{verdict}
use Rattle.source.specs.Source.{OpText, op_from, body_from, function_of}
use Rattle.verifier.specs.BodyForm.{op_number, of_body_form}
use Rattle.verifier.specs.Reasons.{wrong_attribute, wrong_dense}
use Rattle.verifier.specs.ConstraintRules.{checks_written, argument_type_of}
use Rattle.verifier.specs.Verdict.{no_op, row_written, verdict_of}
use Rattle.source_laws.specs.Listed.{SameParts, first_place}
use Rattle.source_laws.specs.Pieces.{op_place}
use Rattle.source_laws.proofs.SameLaw.{op-read}
use Rattle.default_laws.proofs.WrittenLaw.{known-op}
use Rattle.nodes.proofs.TypedLaw.{TypedParts, typed-parts}
use Rattle.attribute_laws.specs.AttributesRead.{AttributesNamed}
use Rattle.attribute_laws.proofs.Theorems.{op-attributes-fit, op-attributes-named}
use Rattle.body_form_laws.specs.SameBody.{SameBody}
use Rattle.body_form_laws.proofs.SameBodyLaw.{op-body}
use Rattle.verdict_laws.proofs.TypedSameLaw.{operands-long}
use Rattle.verdict_laws.proofs.ChecksSameLaw.{required-is, body_is, Read, checks-same}
use Rattle.verdict_laws.proofs.JoinLaw.{p, vs, op, o, same, number_same, row_same, OpAgrees, program-same}

module _ (text : List ℕ) (read : (text_refusal text).number ≡ 0) (k : ℕ) (h : k + 1 < (program_of text).count) where
  abbrev o-k : OpText
  o-k = o text read k

  abbrev r : OpRow
  r = row_written text o-k

  abbrev i : ℕ
  i = op_number text o-k

  -- its number in the op table
  number : row_named text (place_of (op text read k) 0 0) ≡ i
  number = number_same text read k (omega arith)

  pub inside : i < length ops
  unfolding in_table
  inside = let z = ltb-true (row_named text (place_of (op text read k) 0 0)) (length ops) (known-op text read k h) in rw number at z

  row-at : row_named_in text (op text read k) ≡ row_at i
  unfolding row_named_in
  row-at = ap row_at number

  pub fit : attributes_fit text (op text read k) (row_named_in text (op text read k)) ≡ not (wrong_attribute text r.required r.optional o-k) && not (wrong_dense text o-k)
  fit = rw row-at (op-attributes-fit text read k h (op_from []) i no_op inside)

  -- its body
  pub one-body : length o-k.bodies ≡ 1 → SameBody text (place_of (op text read k) body_open 0) (get_or o-k.bodies 0 [])
  one-body one = op-body text read k h (op_from []) one

  module _ (typed : typed_op text (op text read k) (row_named_in text (op text read k)) (vs text read).list ((vs text read).inputs + k) ≡ true) where
    abbrev parts : TypedParts text (op text read k) (row_named_in text (op text read k)) (vs text read).list ((vs text read).inputs + k)
    parts = typed-parts text (op text read k) (row_named_in text (op text read k)) (vs text read).list ((vs text read).inputs + k) typed

    pub named : AttributesNamed text (op text read k) o-k.attributes
    named = op-attributes-named text read k h i no_op inside (rw row-at at parts.attributes) (op_from [])

    row_is : (place : ℕ) × (row_named_in text (op text read k) ≡ row_for place r)
    row_is = row_same text read k h

    abbrev row : Row
    row = row_for row_is.0 r

    -- an op whose row has a body has one
    pub bodies-one : r.body ≡ true → length o-k.bodies ≡ 1
    unfolding bodies_fit
    bodies-one b =
        let f : bodies_fit text (op text read k) row ≡ true = rw row_is.1 at parts.bodies in
        let c = (both_true (eqb (count_of (op text read k) body_open) (pick r.body 1 0)) _ f).0 in
        let m : eqb (count_of (op text read k) body_open) 1 ≡ true = rw b at c in
        let s = (same text read k (omega arith)).bodies.count ∙ ap (λ (n : ℕ). min n 9) (length-map o-k.bodies first_place) in
        let q = eqb-true (count_of (op text read k) body_open) 1 m in
        omega arith

    -- a reduce has its body
    body-there : r.rule ≡ rule.Reduce → (r.body ≡ true) × (length o-k.bodies ≡ 1)
    body-there e = let b = body_is i inside e in (b, bodies-one b)

    written : Read text (op text read k) o-k (same text read k (omega arith)) r row_is.0 (operands-long text (op text read k) o-k (same text read k (omega arith)) (vs text read).list ((vs text read).inputs + k) parts.operands)
    unfolding body_type
    written =
        record {
          numbers = named.numbers;
          choice = named.compared;
          dense = λ e. named.type;
          argument = λ e j l. let b = body-there e in rw b.0 ((one-body b.1).types j (omega arith));
        }

    broken : broken_by (row_named_in text (op text read k)).rule (operation_of text (op text read k) (row_named_in text (op text read k))) ≡ broken_number (checks_written text o-k r.rule)
    unfolding broken_by
    broken =
        rw row_is.1
        (ap broken_number (checks-same text (op text read k) o-k (same text read k (omega arith)) r row_is.0 (operands-long text (op text read k) o-k (same text read k (omega arith)) (vs text read).list ((vs text read).inputs + k) parts.operands)
        r.rule refl (required-is i inside) written))

  agrees : OpAgrees text read k
  agrees = record { fit = fit; formed = λ b one. (one-body one).form; broken = broken }

-- the verdict
pub verdict-same : (text : List ℕ) → verdict text ≡ verdict_of text
unfolding verdict verdict_of
verdict-same text = go (eqb (text_refusal text).number 0) refl
  where
    go : (b : Bool) → eqb (text_refusal text).number 0 ≡ b → verdict text ≡ verdict_of text
    go true e =
        let read = eqb-true (text_refusal text).number 0 e in
        rw e (program-same text read (λ k h. agrees text read k h))
    go false e = rw e refl
