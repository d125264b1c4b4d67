-- From a program that is not refused to each of its ops: no fault in its names, typed, no constraint broken.
-- Assumes nothing.
use mathlib.Core.Path.{◌≡◌, refl, sym, ◌∙◌}
use mathlib.Core.Bool.{Bool, true, false, ◌&&◌}
use mathlib.Core.List.{List}
use Prim.Native.Nat.{ℕ, zero, suc, ◌+◌, ◌<◌, ◌≤◌}
use native.Mathlib.Nat.{not-suc-le-zero, le_of_suc-le-suc}
use native.Mathlib.Omega.{arith}
use lib.Dec.{eqb}
use lib.ListN.{get_or}
use borrow.Author.Tests.{eqb-true, eqb-false, eq-eqb, ne_eqb}
use Rattle.lists.specs.Lists.{pick}
use Rattle.judge.specs.Refusals.{Refusal}
use Rattle.opcheck.specs.Judged.{broken_by}
use Rattle.program.specs.declared.Parts.{Parts}
use Rattle.program.specs.declared.Program.{Program}
use Rattle.program.specs.Parts.{op_at}
use Rattle.places.specs.Places.{result_name, result_type, attribute_name, body_open, count_of}
use Rattle.values.specs.declared.Value.{Value}
use Rattle.values.specs.declared.Values.{Values}
use Rattle.values.specs.Values.{ops_of}
use Rattle.known.specs.Known.{names_fault, inputs_fault}
use Rattle.typing.specs.Typing.{Judged}
use Rattle.operands.specs.Operands.{operands_typed}
use Rattle.outputs.specs.Outputs.{returns_header, typed_return, return_judged}
use Rattle.typing.specs.Typing.{row_named_in, operation_of, results_are, typed_op, op_judged}
use Rattle.opwise.specs.Opwise.{by_name, by_op, typing_of, op_refusal, ops_from}
use Rattle.verify.specs.Verify.{program_refusal}
use Rattle.lists.proofs.TestLaw.{both_true}
use Rattle.nodes.proofs.TypedLaw.{typed-parts}
use Rattle.nodes.proofs.NodesLaw.{OpStands, OpsStand}

-- one answer and, where it is 0, the next: both are 0
pub both_zero : (n : ℕ) (next first : Refusal) → first.number ≡ n → (pick (eqb n 0) next first).number ≡ 0 → (n ≡ 0) × (next.number ≡ 0)
both_zero n next first q e = by-test (eqb n 0) refl e
  where
    by-test : (b : Bool) → eqb n 0 ≡ b → (pick b next first).number ≡ 0 → (n ≡ 0) × (next.number ≡ 0)
    by-test true t e = (eqb-true n 0 t, e)
    by-test false t e = absurd (eqb-false n 0 t (sym q ∙ e))

-- ---- refusals 7 and 8 of an op

judged-op : (text : List ℕ) (op : Parts) (values : List Value) (n : ℕ) → (op_judged text op values n).refusal ≡ 0 → OpStands text op values n
unfolding op_judged
judged-op text op values n e = by-types (typed_op text op (row_named_in text op) values n) refl e
  where
    c : ℕ
    c = broken_by (row_named_in text op).rule (operation_of text op (row_named_in text op))

    by-rules : (b : Bool) → eqb c 0 ≡ b → ◌≡◌ {A = ℕ} (pick b 0 8) 0 → c ≡ 0
    by-rules true t e = eqb-true c 0 t
    by-rules false t e = absurd (omega arith)

    by-types : (b : Bool) → typed_op text op (row_named_in text op) values n ≡ b → (pick {A = Judged} b (record { refusal = pick (eqb c 0) 0 8; b = c }) (record { refusal = 7; b = 0 })).refusal ≡ 0
        → OpStands text op values n
    by-types true t e = record { typed = t; held = by-rules (eqb c 0) refl e }
    by-types false t e = absurd (omega arith)

judged-return : (text : List ℕ) (op header : Parts) (values : List Value) (n : ℕ) → (return_judged text op header values n).refusal ≡ 0 → typed_return text op header values n ≡ true
unfolding return_judged
judged-return text op header values n e = by-types (typed_return text op header values n) e
  where
    by-types : (b : Bool) → ◌≡◌ {A = ℕ} (pick b 0 7) 0 → b ≡ true
    by-types true e = refl
    by-types false e = absurd (omega arith)

return-operands : (text : List ℕ) (op header : Parts) (values : List Value) (n : ℕ) → typed_return text op header values n ≡ true → operands_typed text op values n ≡ true
unfolding typed_return
return-operands text op header values n e =
    let a = operands_typed text op values n in
    let b = a && results_are 0 op in
    let c = b && eqb (count_of op attribute_name) 0 in
    let d = c && eqb (count_of op body_open) 0 in
    (both_true a (results_are 0 op) (both_true b (eqb (count_of op attribute_name) 0) (both_true c (eqb (count_of op body_open) 0) (both_true d (returns_header text op header) e).0).0).0).0

-- ---- op by op

module _ (text : List ℕ) (p : Program) (vs : Values) where
  each-op : (left k : ℕ) → (ops_from text p vs left k).number ≡ 0 → (i : ℕ) → i < left → (op_refusal text p vs (k + i)).number ≡ 0
  unfolding ops_from
  each-op zero k e i l = absurd (not-suc-le-zero l)
  each-op (suc left) k e zero l =
      let z : k + 0 ≡ k = omega arith in
      rw z (both_zero (op_refusal text p vs k).number (ops_from text p vs left (suc k)) (op_refusal text p vs k) refl e).0
  each-op (suc left) k e (suc i) l =
      let h = both_zero (op_refusal text p vs k).number (ops_from text p vs left (suc k)) (op_refusal text p vs k) refl e in
      let z : suc k + i ≡ k + suc i = omega arith in
      rw (← z) (each-op left (suc k) h.1 i (le_of_suc-le-suc l))

  -- what an op that is not refused has
  pub record OpPassed (k : ℕ) : Type 0 where
    pub names : (names_fault text vs.list (vs.inputs + k) (get_or p.ops k 0)).refusal ≡ 0
    pub typing : (typing_of text p vs k).refusal ≡ 0

  passed : (k : ℕ) → (op_refusal text p vs k).number ≡ 0 → OpPassed k
  unfolding op_refusal by_name by_op
  passed k e =
      let f = names_fault text vs.list (vs.inputs + k) (get_or p.ops k 0) in
      let h = both_zero f.refusal (by_op k (typing_of text p vs k)) (by_name f) refl e in
      record { names = h.0; typing = h.1 }

  module _ (n : (0 < p.count) × (p.count ≤ 257)) (e : (program_refusal text p vs).number ≡ 0) where
    ops-pass : (ops_from text p vs p.count 0).number ≡ 0
    unfolding program_refusal by_name
    ops-pass =
        let f = inputs_fault text p.header vs.inputs in
        (both_zero f.refusal (ops_from text p vs p.count 0) (by_name f) refl e).1

    -- the return is the last op
    pub ops-and-return : ops_of p + 1 ≡ p.count
    unfolding ops_of
    ops-and-return =
        let least = n.0 in
        let most = n.1 in
        omega arith

    -- each op, and the return
    pub each-passed : (k : ℕ) → k < p.count → OpPassed k
    each-passed k l = passed k (let z : 0 + k ≡ k = omega arith in rw z at (each-op p.count 0 ops-pass k l))

    pub op-stands : (k : ℕ) → k < ops_of p → OpStands text (op_at text (get_or p.ops k 0)) vs.list (vs.inputs + k)
    unfolding typing_of
    op-stands k l =
        let r = ops-and-return in
        let t = (each-passed k (omega arith)).typing in
        judged-op text (op_at text (get_or p.ops k 0)) vs.list (vs.inputs + k) (rw (ne_eqb (k + 1) p.count (λ q. omega arith)) at t)

    -- "a wrong number .. of results (one ..)": one result type
    pub one-result : (k : ℕ) → k < ops_of p → count_of (op_at text (get_or p.ops k 0)) result_type ≡ 1
    unfolding results_are
    one-result k l =
        let op = op_at text (get_or p.ops k 0) in
        let t = typed-parts text op (row_named_in text op) vs.list (vs.inputs + k) (op-stands k l).typed in
        eqb-true (count_of op result_type) 1 (both_true (eqb (count_of op result_name) 1) (eqb (count_of op result_type) 1) t.results).1

    pub return-stands : typed_return text (op_at text (get_or p.ops (ops_of p) 0)) p.header vs.list (vs.inputs + ops_of p) ≡ true
    unfolding typing_of
    return-stands =
        let r = ops-and-return in
        let k = ops_of p in
        let t = (each-passed k (omega arith)).typing in
        judged-return text (op_at text (get_or p.ops k 0)) p.header vs.list (vs.inputs + k) (rw (eq-eqb (k + 1) p.count r) at t)

    pub ops-stand : OpsStand text p vs
    ops-stand =
        record {
          each = op-stands;
          last = return-operands text (op_at text (get_or p.ops (ops_of p) 0)) p.header vs.list (vs.inputs + ops_of p) return-stands;
        }
