-- Demand 3 holds of every answer of the bench.
-- Assumes nothing.
use mathlib.Core.Path.{◌≡◌, refl, sym, ap, ◌∙◌, subst}
use mathlib.Core.Bool.{Bool, true, false, not}
use mathlib.Core.List.{List, [], ◌∷◌, ◌++◌, map}
use mathlib.Core.Option.{some}
use Prim.Native.Nat.{ℕ, zero, suc, ◌+◌, ◌≤◌, ◌<◌}
use native.Mathlib.Omega.{arith}
use lib.Dec.{eqb, ltb}
use lib.ListN.{length, take, drop, get_or}
use lib.Seq.{length-take-le, take_all, take_at}
use borrow.Author.Tests.{eq-eqb, eqb-true, ltb-false}
use Rattle.lists.specs.Lists.{pick, All, concat}
use Rattle.lists.proofs.TabLaw.{get_or-tab, length-tab}
use Rattle.lists.proofs.AllLaw.{all_map}
use Rattle.run.specs.Run.{Out, gives, stops, Answer, results, stopped, RunEnd, ended, Claim, evaluate_from}
use Rattle.run.specs.Ways.{language_of, free_run}
use Rattle.elementwise.specs.Elementwise.{Tensor}
use Rattle.ops.specs.Ops.{Node, hlo}
use Rattle.ops.specs.Typed.{HoldAll}
use Rattle.judge.specs.Refusals.{Refusal}
use Rattle.judge.specs.Judge.{refuse}
use Rattle.program.specs.Program.{program_of}
use Rattle.values.specs.declared.Values.{Values}
use Rattle.values.specs.Values.{no_value, ops_of, values_in, values_of}
use Rattle.offsets.specs.Offsets.{size_at, offset_at, needed_of}
use Rattle.verify.specs.Verify.{verdict}
use Rattle.facts.specs.Facts.{node_type}
use Rattle.nodes.specs.Nodes.{node_at, input_types, nodes_in, nodes_of, input_types_of}
use Rattle.nodes.proofs.AcceptedLaw.{accepted-program, text-order-free}
use Rattle.layout.specs.Layout.{value_in, tensors_in}
use Rattle.layout.proofs.LayoutLaw.{tensors-concat, tensors-kept}
use Rattle.inputs.specs.Inputs.{input_slots, slot_fits, first_foreign}
use Rattle.inputs.proofs.InputsLaw.{failing-le, inputs-hold}
use Rattle.steps.specs.Steps.{op_meaning}
use Rattle.steps.proofs.StepsLaw.{hold-tab}
use Rattle.evaluation.specs.Evaluated.{Evaluated, answer, tensors_of, evaluation_of, refusal_of, store_after, ran, fitted, evaluated}
use Rattle.evaluation.specs.Order.{Claimed, OrderFreeAnswer}
use Rattle.evaluation.specs.State.{State}
use Rattle.evaluation.proofs.StateLaw.{no-ops, stands-still, state-next, state-start}

-- ---- evaluating

-- the values are the inputs and the ops' results
count-is : (text : List ℕ) → (values_of text).count ≡ (values_of text).inputs + ops_of (program_of text)
unfolding values_of values_in
count-is text = refl

-- the results of evaluating are the tensors of all values as some slots hold them, so each has its value's length
abbrev Kept : List ℕ → Answer Tensor ℕ → Type 0
Kept text (results ts) =
    let vs = values_of text in
    let n = vs.inputs + ops_of (program_of text) in
    (slots : List ℕ) × (offset_at vs n ≤ length slots) × (ts ≡ tensors_in vs slots n)
Kept text (stopped ts k w) = Unit {0}

module _ (text inputs old : List ℕ) (e : (verdict text).number ≡ 0) where
  -- evaluating goes on from a state with d ops left
  kept_from : (d k : ℕ) → k + d ≡ ops_of (program_of text) → (done store : List ℕ) → State text inputs old k done store → Kept text (evaluation_of text inputs)
  kept_from zero k q done store s =
      let vs = values_of text in
      let all : ℕ = ops_of (program_of text) in
      let z : k ≡ all = omega arith in
      let t : State text inputs old all done store = subst (λ (j : ℕ). State text inputs old j done store) z s in
      subst (Kept text)
      (sym (ap (λ (os : List Node). evaluate_from (language_of hlo) all os (tensors_in vs done (vs.inputs + all)) 0) (no-ops text)) ∙ t.goes_on)
      (done, t.held.room, refl)
  kept_from (suc d) k q done store s = by-meaning (op_meaning text k done) refl (kept_from d (k + 1) (omega arith))
    where
      by-meaning : (m : Out Tensor ℕ) → op_meaning text k done ≡ m
          → ((done store : List ℕ) → State text inputs old (k + 1) done store → Kept text (evaluation_of text inputs)) → Kept text (evaluation_of text inputs)
      by-meaning (gives v) r ih = ih _ _ (state-next text inputs old e k (omega arith) done store s v [] _ r refl)
      by-meaning (stops w) r ih = subst (Kept text) (sym (stands-still text k (omega arith) done w r) ∙ s.goes_on) tt

-- ---- inputs that fit

module _ (text inputs : List ℕ) (full : length inputs ≡ input_slots (values_of text)) (none : first_foreign (values_of text) inputs ≡ input_slots (values_of text)) where
  -- they hold values of their types
  inputs-typed : HoldAll (input_types_of text) (tensors_of text inputs)
  unfolding input_types_of input_types tensors_of values_of size_at
  inputs-typed =
      let vs = values_in text (program_of text) in
      hold-tab vs.inputs (λ i. node_type (get_or vs.list i no_value).ty) (value_in vs inputs) (inputs-hold vs inputs full none)

  -- evaluating starts from them
  evaluation-kept : (verdict text).number ≡ 0 → Kept text (evaluation_of text inputs)
  evaluation-kept e =
      let slots : ℕ = input_slots (values_of text) in
      let same : take slots inputs ≡ inputs = take_all slots inputs (omega arith) in
      let fit : first_foreign (values_of text) (take slots inputs) ≡ slots = ap (first_foreign (values_of text)) same ∙ none in
      kept_from text inputs inputs e (ops_of (program_of text)) 0 (omega arith) inputs inputs
      (subst (λ (i : List ℕ). State text i inputs 0 inputs inputs) same (state-start text inputs inputs (omega arith) (omega arith) refl fit))

-- ---- what is claimed

-- the return names values
returned-below : (text : List ℕ) → (verdict text).number ≡ 0 → All (λ i. i < (values_of text).inputs + ops_of (program_of text)) (nodes_of text).returns
unfolding nodes_of nodes_in values_of
returned-below text e =
    let p = program_of text in
    let vs = values_in text p in
    subst (λ (n : ℕ). All (λ i. i < vs.inputs + n) (nodes_of text).returns) (length-tab (ops_of p) (node_at text p vs)) (accepted-program text e).returned

-- functions that are alike on every element of a list
map_same : {A B : Type 0} (f g : A → B) (l : List A) → All (λ x. f x ≡ g x) l → map f l ≡ map g l
map_same f g [] a = refl
map_same f g (x ∷ l) a = λ i. a.0 i ∷ map_same f g l a.1 i

module _ (text : List ℕ) (e : RunEnd Tensor ℕ) where
  abbrev vs : Values
  vs = values_of text

  abbrev n : ℕ
  n = (values_of text).inputs + ops_of (program_of text)

  -- the results of evaluating stand in the store
  tensors-stored : (ts : List Tensor) → Kept text (results ts) → (rest : List ℕ) → tensors_in vs (concat ts ++ rest) n ≡ ts
  tensors-stored ts (slots, room, is) rest =
      let all : concat ts ≡ take (offset_at vs n) slots = ap concat is ∙ tensors-concat vs slots n room in
      let long : length (concat ts) ≡ offset_at vs n = ap length all ∙ length-take-le (offset_at vs n) slots room in
      tensors-kept vs (concat ts ++ rest) slots n (take_at (concat ts) rest (offset_at vs n) long ∙ all) ∙ sym is

  -- what evaluating says of a free run's end is what the answer claims
  claimed-answer : (verdict text).number ≡ 0 → (needed : ℕ) (old : List ℕ) (a : Answer Tensor ℕ) → Kept text a
      → Claim (language_of hlo) (nodes_of text).returns a e → Claimed text (refusal_of a).number (store_after needed a old) e
  claimed-answer z needed old (results ts) kept c =
      let store : List ℕ = concat ts ++ drop needed old in
      let is : tensors_in vs store n ≡ ts = tensors-stored ts kept (drop needed old) in
      let each : (i : ℕ) → i < n → get_or ts i [] ≡ value_in vs store i = λ i h. ap (λ (l : List Tensor). get_or l i []) (sym is) ∙ get_or-tab n (value_in vs store) i [] h in
      let alike = all_map each (nodes_of text).returns (returned-below text z) in
      record {
        values = λ q. c.0 ∙ ap (λ (l : List Tensor). ended (map some l)) (sym is ∙ ap (tensors_in vs store) (sym (count-is text)));
        returned = λ q. c.1 ∙ ap some (map_same (λ i. get_or ts i []) (value_in vs store) (nodes_of text).returns alike);
        zero-divisor = λ q. absurd (omega arith);
      }
  claimed-answer z needed old (stopped ts k w) kept c =
      record { values = λ q. absurd (omega arith); returned = λ q. absurd (omega arith); zero-divisor = λ q. c }

  -- of an answer and the store with it
  abbrev ClaimedBy : Evaluated → Type 0
  ClaimedBy x = Claimed text x.refusal.number x.store e

  -- refusals 1 to 11 claim nothing
  claimed-none : (number : ℕ) (store : List ℕ) → (number ≡ 0 → ⊥) → (number ≡ 12 → ⊥) → Claimed text number store e
  claimed-none number store a b = record { values = λ q. absurd (a q); returned = λ q. absurd (a q); zero-divisor = λ q. absurd (b q) }

  -- of an accepted text: where inputs and store fit the answer is evaluating's, else one of refusals 9, 10 and 11
  claimed-fitted : (inputs old : List ℕ)
      → (length inputs ≡ input_slots vs → first_foreign vs inputs ≡ input_slots vs → ClaimedBy (ran text inputs old)) → ClaimedBy (fitted text inputs old)
  unfolding fitted first_foreign
  claimed-fitted inputs old ran-claimed =
      few (ltb (length old) (needed_of vs)) _ (other (eqb (length inputs) (input_slots vs)) refl)
    where
      few : (b : Bool) (x : Evaluated) → ClaimedBy x → ClaimedBy (pick b (answer (refuse 9 (needed_of vs) 0) old) x)
      few true x c = claimed-none _ old (λ q. omega arith) (λ q. omega arith)
      few false x c = c

      foreign : length inputs ≡ input_slots vs → (b : Bool) → ltb (first_foreign vs inputs) (input_slots vs) ≡ b
          → ClaimedBy (pick b (answer (refuse 11 (first_foreign vs inputs) 0) old) (ran text inputs old))
      foreign full true q = claimed-none _ old (λ q. omega arith) (λ q. omega arith)
      foreign full false q =
          ran-claimed full (omega (arith, failing-le (input_slots vs) (slot_fits vs inputs), ltb-false (first_foreign vs inputs) (input_slots vs) q))

      other : (b : Bool) → eqb (length inputs) (input_slots vs) ≡ b → ClaimedBy (pick (not b) (answer (refuse 10 (input_slots vs) 0) old)
          (pick (ltb (first_foreign vs inputs) (input_slots vs)) (answer (refuse 11 (first_foreign vs inputs) 0) old) (ran text inputs old)))
      other true q = foreign (eqb-true (length inputs) (input_slots vs) q) (ltb (first_foreign vs inputs) (input_slots vs)) refl
      other false q = claimed-none _ old (λ q. omega arith) (λ q. omega arith)

-- demand 3 holds of every answer of the bench: of the refusal r and the store with it
pub order-free-answer : (text inputs old : List ℕ) (r : Refusal) (store : List ℕ) → answer r store ≡ evaluated text inputs old → OrderFreeAnswer text inputs r.number store
unfolding OrderFreeAnswer evaluated ran evaluation_of
order-free-answer text inputs old r store is e starts order o trees t =
    let end : RunEnd Tensor ℕ = free_run hlo (nodes_of text) (tensors_of text inputs) order trees 0 in
    subst (ClaimedBy text end) (sym is)
    (rw (eq-eqb (verdict text).number 0 e) (claimed-fitted text end inputs old (λ full none.
    claimed-answer text end e (needed_of (values_of text)) old (evaluation_of text inputs) (evaluation-kept text inputs full none e)
    (text-order-free text e starts (tensors_of text inputs) (inputs-typed text inputs full none) 0 order o trees t))))
