-- Op by op (01: "then op by op names (5, 6), 7, 8"): an op is judged where every op before it has passed, so each value before it is one that the text writes.
-- Assumes nothing.
use mathlib.Core.Path.{◌≡◌, refl, ap, ◌∙◌}
use mathlib.Core.List.{List}
use mathlib.Core.Bool.{Bool, true, false}
use mathlib.Core.Logic.{◌⊎◌, inl, inr}
use Prim.Native.Nat.{ℕ, zero, suc, ◌+◌, ◌<◌}
use native.Mathlib.Decide.{ℕ_discrete}
use native.Mathlib.Omega.{arith}
use lib.Dec.{eqb}
use lib.ListN.{get_or}
use borrow.Author.Tests.{ne_eqb}
use Rattle.lists.specs.Lists.{pick}
use Rattle.judge.specs.Refusals.{Refusal}
use Rattle.opcheck.specs.Judged.{broken_by}
use Rattle.program.specs.declared.Parts.{Parts}
use Rattle.program.specs.declared.Program.{Program}
use Rattle.program.specs.Parts.{op_at}
use Rattle.places.specs.Places.{result_name, result_type, count_of}
use Rattle.values.specs.declared.Value.{Value}
use Rattle.values.specs.declared.Values.{Values}
use Rattle.known.specs.Known.{names_fault}
use Rattle.typing.specs.Typing.{Judged}
use Rattle.typing.specs.Typing.{row_named_in, operation_of, typed_op, op_judged}
use Rattle.opwise.specs.Opwise.{by_name, by_op, typing_of, op_refusal, ops_from}
use Rattle.opwise.proofs.OpwiseLaw.{refused, goes_on, none_left}
use Rattle.nodes.proofs.VerdictLaw.{both_zero}
use Rattle.default_laws.proofs.TypedLaw.{one-result}

judged-typed : (text : List ℕ) (op : Parts) (values : List Value) (n : ℕ) → (op_judged text op values n).refusal ≡ 0 → typed_op text op (row_named_in text op) values n ≡ true
unfolding op_judged
judged-typed text op values n e = by-types (typed_op text op (row_named_in text op) values n) e
  where
    c : ℕ
    c = broken_by (row_named_in text op).rule (operation_of text op (row_named_in text op))

    by-types : (b : Bool) → (pick {A = Judged} b (record { refusal = pick (eqb c 0) 0 8; b = c }) (record { refusal = 7; b = 0 })).refusal ≡ 0 → b ≡ true
    by-types true e = refl
    by-types false e = absurd (omega arith)

module _ (text : List ℕ) (p : Program) (vs : Values) where
  abbrev op : ℕ → Parts
  op k = op_at text (get_or p.ops k 0)

  -- an op that is not refused is typed
  pub passed-typed : (k : ℕ) → k + 1 < p.count → (op_refusal text p vs k).number ≡ 0 → typed_op text (op k) (row_named_in text (op k)) vs.list (vs.inputs + k) ≡ true
  unfolding op_refusal by_name by_op typing_of
  passed-typed k h e =
      let f = names_fault text vs.list (vs.inputs + k) (get_or p.ops k 0) in
      let t : (typing_of text p vs k).refusal ≡ 0 = (both_zero f.refusal (by_op k (typing_of text p vs k)) (by_name f) refl e).1 in
      judged-typed text (op k) vs.list (vs.inputs + k) (rw (ne_eqb (k + 1) p.count (λ q. omega arith)) at t)

  -- the ops before op k pass
  abbrev pub AllPass : ℕ → Type 0
  AllPass k = (i : ℕ) → i < k → (op_refusal text p vs i).number ≡ 0

  -- each op before one that is judged has one result name and one result type: what `result_value` has for an op without is not read
  pub one-result-before : (k : ℕ) → k < p.count → AllPass k → (i : ℕ) → i < k → (count_of (op i) result_name ≡ 1) × (count_of (op i) result_type ≡ 1)
  one-result-before k h before i l = one-result text (op i) (row_named_in text (op i)) vs.list (vs.inputs + i) (passed-typed i (omega arith) (before i l))

  -- an answer other than 0 is that of an op before which all pass
  pub record FirstRefused (left k : ℕ) : Type 0 where
    pub first : ℕ
    pub within : first < left
    pub before : (i : ℕ) → i < first → (op_refusal text p vs (k + i)).number ≡ 0
    pub answer : ops_from text p vs left k ≡ op_refusal text p vs (k + first)

  later : (left k : ℕ) → (op_refusal text p vs k).number ≡ 0 → FirstRefused left (suc k) → FirstRefused (suc left) k
  later left k e r =
      let z : suc k + r.first ≡ k + suc r.first = omega arith in
      record {
        first = suc r.first;
        within = let w = r.within in omega arith;
        before = earlier;
        answer = goes_on text p vs (suc left) k left refl e ∙ r.answer ∙ ap (op_refusal text p vs) z;
      }
    where
      earlier : (i : ℕ) → i < suc r.first → (op_refusal text p vs (k + i)).number ≡ 0
      earlier zero l = let z : k + 0 ≡ k = omega arith in rw z e
      earlier (suc i) l = let z : k + suc i ≡ suc k + i = omega arith in rw z (r.before i (omega arith))

  here : (left k : ℕ) → ((op_refusal text p vs k).number ≡ 0 → ⊥) → FirstRefused (suc left) k
  here left k e =
      let z : k ≡ k + 0 = omega arith in
      record { first = 0; within = omega arith; before = λ i l. absurd (omega arith); answer = refused text p vs (suc left) k left refl e ∙ ap (op_refusal text p vs) z }

  pub answered : (left k : ℕ) → ((ops_from text p vs left k).number ≡ 0) ⊎ FirstRefused left k
  answered zero k = inl (ap (λ (r : Refusal). r.number) (none_left text p vs k))
  answered (suc left) k = by-op (ℕ_discrete (op_refusal text p vs k).number 0) (answered left (suc k))
    where
      by-op : Dec ((op_refusal text p vs k).number ≡ 0) → ((ops_from text p vs left (suc k)).number ≡ 0) ⊎ FirstRefused left (suc k) → ((ops_from text p vs (suc left) k).number ≡ 0) ⊎ FirstRefused (suc left) k
      by-op (no e) r = inr (here left k e)
      by-op (yes e) (inl z) = inl (ap (λ (r : Refusal). r.number) (goes_on text p vs (suc left) k left refl e) ∙ z)
      by-op (yes e) (inr r) = inr (later left k e r)
