-- The answer of the bench in the words of 01 is the one that the code works out, for every text, every input slice and every store; and demand 3 of it.
-- Assumes nothing.
use mathlib.Core.Path.{◌≡◌, refl, sym, ap, ◌∙◌, subst}
use mathlib.Core.List.{List, [], ◌∷◌, ◌++◌, map}
use mathlib.Core.Option.{some}
use mathlib.Core.Bool.{Bool, true, false, not}
use Prim.Native.Nat.{ℕ, zero, suc, ◌+◌, ◌-◌, ◌<◌, ◌≤◌}
use native.Mathlib.Nat.{not-suc-le-zero, le_of_suc-le-suc}
use native.Mathlib.Omega.{arith}
use lib.Dec.{eqb, ltb, leb}
use lib.ListN.{length, get_or, take}
use borrow.Author.Tests.{eqb-true, ltb-true, ltb-false}
use Rattle.lists.specs.Lists.{pick, tab, first_where, All}
use Rattle.lists.proofs.AllLaw.{all_map}
use Rattle.lists.proofs.TabLaw.{tab-cong, get_or-tab, length-tab}
use Rattle.element.specs.declared.ElementType.{ElementType}
use Rattle.element.specs.declared.ElementType.TheVariants.{I1}
use Rattle.element.specs.Types.{is_value}
use Rattle.elementwise.specs.Elementwise.{Tensor}
use Rattle.dimrules.specs.Count.{first_failing, everywhere}
use Rattle.dimrules.proofs.CountLaw.{holds_at}
use Rattle.inputs.proofs.InputsLaw.{input-at}
use Rattle.run.specs.Run.{RunProgram, Answer, RunEnd, ended, results_of}
use Rattle.run.specs.Tree.{Tree}
use Rattle.run.specs.Ways.{OrderOf, TreesAllowed, free_run, evaluation}
use Rattle.ops.specs.Ops.{Node, hlo}
use Rattle.ops.specs.Typed.{StartsAtIdentity}
use Rattle.judge.specs.Refusals.{Refusal}
use Rattle.judge.specs.Judge.{text_refusal, refuse}
use Rattle.program.specs.Program.{program_of}
use Rattle.values.specs.declared.Value.{Value}
use Rattle.values.specs.Values.{no_value, ops_of, values_in, values_of}
use Rattle.offsets.specs.Offsets.{size_at, offset_at, needed_of}
use Rattle.offsets.proofs.OffsetsLaw.{offset-next, offset-le}
use Rattle.layout.specs.Layout.{value_in, tensors_in}
use Rattle.inputs.specs.Inputs.{input_slots, input_of, slot_fits, first_foreign}
use Rattle.verify.specs.Verify.{program_refusal, verdict}
use Rattle.nodes.specs.Nodes.{node_at, nodes_in, nodes_of}
use Rattle.nodes.proofs.VerdictLaw.{both_zero}
use Rattle.nodes.proofs.AcceptedLaw.{accepted-count, accepted-stands, op-accepted, accepted-program}
use Rattle.evaluation.specs.Evaluated.{Evaluated, answer, tensors_of, evaluation_of, refusal_of, store_after, ran, fitted, evaluated}
use Rattle.evaluation.specs.Order.{Claimed, OrderFreeAnswer}
use Rattle.source.specs.Source.{OpText, op_from, function_of}
use Rattle.verifier.specs.DefinedValues.{inputs_defined, result_defined}
use Rattle.verifier.specs.Reasons.{value_of_name}
use Rattle.verifier.specs.Verdict.{verdict_of}
use Rattle.source_laws.specs.ListedValues.{SameValues}
use Rattle.source_laws.proofs.SameLaw.{ops-count}
use Rattle.source_laws.proofs.HeaderLaw.{same-header}
use Rattle.source_laws.proofs.ValuesLaw.{same-values, with-length}
use Rattle.verdict_laws.proofs.TypedSameLaw.{KnownBefore}
use Rattle.verdict_laws.proofs.JoinLaw.{p, vs, op, o, known-first, known_next, From, from_next, from-here}
use Rattle.verdict_laws.proofs.VerdictLaw.{verdict-same}
use Rattle.answers.specs.WrittenNodes.{node_written, nodes_written, defined_after, returned_names, values_written, program_written}
use Rattle.answers.specs.Answered.{slots_of, slots_of_all, tensors_from, slot_types, inputs_written, unfit_slot, evaluation_written, answer_accepted, answer_of}
use Rattle.answers.specs.FreeRuns.{AnswerStands, FreeOfOrder}
use Rattle.answers.proofs.SlotsLaw.{slots_before, size_same, before_same, slots_same, tensors-same, slot-type}
use Rattle.answers.proofs.OpNodeLaw.{operands-at, node-same}

-- ---- a search over numbers

first_alike : (t u : ℕ → Bool) (n : ℕ) (f : ℕ → ℕ) → ((i : ℕ) → i < n → t (f i) ≡ u (f i)) → first_where t (tab n f) ≡ first_where u (tab n f)
unfolding first_where
first_alike t u zero f h = refl
first_alike t u (suc n) f h = rw (h 0 (omega arith), first_alike t u n (λ i. f (suc i)) (λ i q. h (suc i) (omega arith))) refl

-- a slot before the end of n values is one of theirs
slot-in : (text : List ℕ) (read : (text_refusal text).number ≡ 0) (s n : ℕ) → s < offset_at (vs text read) n →
    (i : ℕ) × (k : ℕ) × ((i < n) × (k < size_at (vs text read) i) × (s ≡ offset_at (vs text read) i + k))
unfolding offset_at
slot-in text read s zero h = absurd (not-suc-le-zero h)
slot-in text read s (suc n) h = go (λ l. slot-in text read s n l) (ltb s (offset_at (vs text read) n)) refl
  where
    go : (s < offset_at (vs text read) n → (i : ℕ) × (k : ℕ) × ((i < n) × (k < size_at (vs text read) i) × (s ≡ offset_at (vs text read) i + k))) → (b : Bool) → ltb s (offset_at (vs text read) n) ≡ b →
        (i : ℕ) × (k : ℕ) × ((i < suc n) × (k < size_at (vs text read) i) × (s ≡ offset_at (vs text read) i + k))
    go before true e = let w = before (ltb-true s (offset_at (vs text read) n) e) in (w.0, w.1, ((let z = w.2.0 in omega arith), w.2.1, w.2.2))
    go before false e =
        let l = ltb-false s (offset_at (vs text read) n) e in
        let z : s < offset_at (vs text read) n + size_at (vs text read) n = h in
        (n, s - offset_at (vs text read) n, (omega arith, omega arith, omega arith))

module _ (text : List ℕ) (accepted : (verdict text).number ≡ 0) where
  read : (text_refusal text).number ≡ 0
  unfolding verdict
  read = (both_zero (text_refusal text).number (program_refusal text (program_of text) (values_in text (program_of text))) (text_refusal text) refl accepted).0

  count : ops_of (program_of text) + 1 ≡ (program_of text).count
  count = accepted-count text accepted

  values : SameValues text (vs text read) (function_of text)
  values = same-values text read

  -- ---- the ops

  node_at_lem : (k : ℕ) → k + 1 < (program_of text).count → (known : List Value) → KnownBefore (vs text read).list ((vs text read).inputs + k) known →
      node_at text (program_of text) (vs text read) k ≡ node_written text known (o text read k)
  node_at_lem k h known before =
      let c = count in
      node-same text read k h (accepted-stands text accepted k (omega arith)).typed (op-accepted text accepted k (omega arith)).shaped known before

  nodes-from : (left k : ℕ) → suc left + k ≡ (program_of text).count → (known : List Value) → KnownBefore (vs text read).list ((vs text read).inputs + k) known →
      (rest : List OpText) → From text read k (suc left) rest → tab left (λ j. node_at text (program_of text) (vs text read) (k + j)) ≡ nodes_written text known rest
  unfolding nodes_written
  nodes-from left k e known before [] w = absurd (let c : 0 ≡ suc left = w.count in omega arith)
  nodes-from zero k e known before (x ∷ []) w = refl
  nodes-from zero k e known before (x ∷ (y ∷ rest)) w = absurd (let c : suc (suc (length rest)) ≡ 1 = w.count in omega arith)
  nodes-from (suc left) k e known before (x ∷ []) w = absurd (let c : 1 ≡ suc (suc left) = w.count in omega arith)
  nodes-from (suc left) k e known before (x ∷ (y ∷ rest)) w =
      let here = from-here text read k (suc (suc left)) x (y ∷ rest) w in
      let next = from_next text read k (suc left) x (y ∷ rest) w in
      let head : node_at text (program_of text) (vs text read) (k + 0) ≡ node_written text known x =
      (let z : k + 0 ≡ k = omega arith in ap (λ (m : ℕ). node_at text (program_of text) (vs text read) m) z) ∙ node_at_lem k (omega arith) known before ∙ ap (node_written text known) (sym here) in
      let later : tab left (λ j. node_at text (program_of text) (vs text read) (suc k + j)) ≡ nodes_written text (known ++ (result_defined text (o text read k) ∷ [])) (y ∷ rest) =
      nodes-from left (suc k) (omega arith) (known ++ (result_defined text (o text read k) ∷ [])) (known_next text read k (omega arith) known before) (y ∷ rest) next in
      let tail : tab left (λ j. node_at text (program_of text) (vs text read) (k + suc j)) ≡ nodes_written text (known ++ (result_defined text x ∷ [])) (y ∷ rest) =
      tab-cong left (λ j. node_at text (program_of text) (vs text read) (k + suc j)) (λ j. node_at text (program_of text) (vs text read) (suc k + j))
      (λ j q. let z : k + suc j ≡ suc k + j = omega arith in ap (λ (m : ℕ). node_at text (program_of text) (vs text read) m) z)
      ∙ later ∙ ap (λ (t : OpText). nodes_written text (known ++ (result_defined text t ∷ [])) (y ∷ rest)) (sym here) in
      rw (head, tail) refl

  -- the values after all ops, and what the return names
  after-known : (left k : ℕ) → suc left + k ≡ (program_of text).count → (known : List Value) → KnownBefore (vs text read).list ((vs text read).inputs + k) known →
      (rest : List OpText) → From text read k (suc left) rest → KnownBefore (vs text read).list ((vs text read).inputs + (k + left)) (defined_after text known rest) × (returned_names rest ≡ (o text read (k + left)).operands)
  unfolding defined_after
  after-known left k e known before [] w = absurd (let c : 0 ≡ suc left = w.count in omega arith)
  after-known zero k e known before (x ∷ []) w =
      let z : k ≡ k + 0 = omega arith in
      (subst (λ (m : ℕ). KnownBefore (vs text read).list ((vs text read).inputs + m) known) z before, ap (λ (t : OpText). t.operands) (from-here text read k 1 x [] w) ∙ ap (λ (m : ℕ). (o text read m).operands) z)
  after-known zero k e known before (x ∷ (y ∷ rest)) w = absurd (let c : suc (suc (length rest)) ≡ 1 = w.count in omega arith)
  after-known (suc left) k e known before (x ∷ []) w = absurd (let c : 1 ≡ suc (suc left) = w.count in omega arith)
  after-known (suc left) k e known before (x ∷ (y ∷ rest)) w =
      let here = from-here text read k (suc (suc left)) x (y ∷ rest) w in
      let z : suc k + left ≡ k + suc left = omega arith in
      let later = after-known left (suc k) (omega arith) (known ++ (result_defined text (o text read k) ∷ [])) (known_next text read k (omega arith) known before) (y ∷ rest) (from_next text read k (suc left) x (y ∷ rest) w) in (
        subst (λ (t : OpText). KnownBefore (vs text read).list ((vs text read).inputs + (k + suc left)) (defined_after text (known ++ (result_defined text t ∷ [])) (y ∷ rest))) (sym here)
            (subst (λ (m : ℕ). KnownBefore (vs text read).list ((vs text read).inputs + m) (defined_after text (known ++ (result_defined text (o text read k) ∷ [])) (y ∷ rest))) z later.0),
        later.1 ∙ ap (λ (m : ℕ). (o text read m).operands) z,
      )

  whole : From text read 0 (suc (ops_of (program_of text))) (function_of text).ops
  whole = let c = count in let n = ops-count text read in record { count = omega arith; item = λ j. let z : j ≡ 0 + j = omega arith in ap (o text read) z }

  ended-known : KnownBefore (vs text read).list ((vs text read).inputs + ops_of (program_of text)) (values_written text) × (returned_names (function_of text).ops ≡ (o text read (ops_of (program_of text))).operands)
  unfolding values_written
  ended-known =
      let c = count in
      let r = after-known (ops_of (program_of text)) 0 (omega arith) (inputs_defined text (function_of text)) (known-first text read) (function_of text).ops whole in
      let z : 0 + ops_of (program_of text) ≡ ops_of (program_of text) = omega arith in
      (subst (λ (m : ℕ). KnownBefore (vs text read).list ((vs text read).inputs + m) (defined_after text (inputs_defined text (function_of text)) (function_of text).ops)) z r.0, r.1 ∙ ap (λ (m : ℕ). (o text read m).operands) z)

  inputs-known : KnownBefore (vs text read).list (vs text read).inputs (inputs_written text)
  unfolding inputs_written
  inputs-known = let z : (vs text read).inputs + 0 ≡ (vs text read).inputs = omega arith in subst (λ (m : ℕ). KnownBefore (vs text read).list m (inputs_defined text (function_of text))) z (known-first text read)

  all_known : KnownBefore (vs text read).list (vs text read).count (values_written text)
  all_known =
      let a = values.inputs in
      let b = values.count in
      let c = count in
      let n = ops-count text read in
      let z : (vs text read).inputs + ops_of (program_of text) ≡ (vs text read).count = omega arith in
      subst (λ (m : ℕ). KnownBefore (vs text read).list m (values_written text)) z ended-known.0

  pub program-same : nodes_of text ≡ program_written text
  unfolding nodes_of nodes_in program_written inputs_defined
  program-same =
      let s = same-header text read in
      let n : (vs text read).inputs ≡ length (function_of text).inputs = values.inputs ∙ with-length text (function_of text).inputs (function_of text).input_types s.even in
      let c = count in
      let ops : tab (ops_of (program_of text)) (node_at text (program_of text) (vs text read)) ≡ nodes_written text (inputs_defined text (function_of text)) (function_of text).ops =
      tab-cong (ops_of (program_of text)) (node_at text (program_of text) (vs text read)) (λ j. node_at text (program_of text) (vs text read) (0 + j)) (λ j q. let z : j ≡ 0 + j = omega arith in ap (λ (m : ℕ). node_at text (program_of text) (vs text read) m) z)
      ∙ nodes-from (ops_of (program_of text)) 0 (omega arith) (inputs_defined text (function_of text)) (known-first text read) (function_of text).ops whole in
      let returns = operands-at text read (ops_of (program_of text)) (omega arith) (values_written text) ended-known.0 ∙ ap (map (value_of_name text (values_written text))) (sym ended-known.1) in
      three n ops returns
    where
      three : {a b : ℕ} {x y : List Node} {r s : List ℕ} → a ≡ b → x ≡ y → r ≡ s → ◌≡◌ {A = RunProgram Node} (record { inputs = a; ops = x; returns = r }) (record { inputs = b; ops = y; returns = s })
      three e1 e2 e3 = rw (e1, e2, e3) refl

  -- ---- slots

  needed-same : slots_of_all (values_written text) ≡ needed_of (vs text read)
  unfolding needed_of
  needed-same = slots_same (vs text read) (vs text read).count (values_written text) all_known

  given-same : slots_of_all (inputs_written text) ≡ input_slots (vs text read)
  unfolding input_slots
  given-same = slots_same (vs text read) (vs text read).inputs (inputs_written text) inputs-known

  slot-typed : (s : ℕ) → s < input_slots (vs text read) → get_or (slot_types (inputs_written text)) s I1 ≡ (get_or (vs text read).list (input_of (vs text read) s) no_value).ty.element
  unfolding input_slots
  slot-typed s h =
      let w = slot-in text read s (vs text read).inputs h in
      let i = w.0 in
      let k = w.1 in
      let inside = w.2.0 in
      let below = w.2.1 in
      let place = w.2.2 in
      let c = inputs-known.count in
      let size = size_same (vs text read) (vs text read).inputs (inputs_written text) inputs-known i inside in
      let begins : slots_before (inputs_written text) i + k ≡ s = ap (λ (n : ℕ). n + k) (before_same (vs text read) (vs text read).inputs (inputs_written text) inputs-known i (omega arith)) ∙ sym place in
      let belongs : input_of (vs text read) s ≡ i = ap (input_of (vs text read)) place ∙ input-at (vs text read) i k inside below in
      ap (λ (m : ℕ). get_or (slot_types (inputs_written text)) m I1) (sym begins) ∙ slot-type (inputs_written text) i k (omega arith) (omega arith)
      ∙ ap (λ (v : Value). v.ty.element) (inputs-known.held i inside) ∙ ap (λ (m : ℕ). (get_or (vs text read).list m no_value).ty.element) (sym belongs)

  unfit-same : (inputs : List ℕ) → unfit_slot (inputs_written text) inputs ≡ first_foreign (vs text read) inputs
  unfolding unfit_slot first_foreign first_failing slot_fits
  unfit-same inputs =
      ap (λ (n : ℕ). first_where (λ s. not (is_value (get_or (slot_types (inputs_written text)) s I1) (get_or inputs s 0))) (tab n (λ s. s))) given-same
      ∙ first_alike (λ s. not (is_value (get_or (slot_types (inputs_written text)) s I1) (get_or inputs s 0))) (λ s. not (slot_fits (vs text read) inputs s)) (input_slots (vs text read)) (λ s. s)
      (λ s h. ap (λ (e : ElementType). not (is_value e (get_or inputs s 0))) (slot-typed s h))

  -- ---- the answer of an accepted text

  tensors-given : (inputs : List ℕ) → tensors_from (inputs_written text) inputs ≡ tensors_of text inputs
  unfolding tensors_of values_of
  tensors-given inputs = tensors-same (vs text read) (vs text read).inputs (inputs_written text) inputs-known inputs

  tensors-stand : (store : List ℕ) → tensors_from (values_written text) store ≡ tensors_in (values_of text) store (values_of text).count
  unfolding values_of
  tensors-stand store = tensors-same (vs text read) (vs text read).count (values_written text) all_known store

  evaluation-same : (inputs : List ℕ) → evaluation_of text inputs ≡ evaluation_written text inputs
  unfolding evaluation_of evaluation_written
  evaluation-same inputs = ap (λ (q : RunProgram Node). evaluation hlo q (tensors_of text inputs) 0) program-same ∙ ap (λ (x : List Tensor). evaluation hlo (program_written text) x 0) (sym (tensors-given inputs))

  accepted-same : (inputs old : List ℕ) → fitted text inputs old ≡ answer_accepted text inputs old
  unfolding fitted answer_accepted ran values_of
  accepted-same inputs old =
      four needed-same given-same (unfit-same inputs) (evaluation-same inputs)
    where
      abbrev_answer : ℕ → ℕ → ℕ → Answer Tensor ℕ → Evaluated
      abbrev_answer needed given unfit e =
          pick (ltb (length old) needed) (answer (refuse 9 needed 0) old)
          (pick (not (eqb (length inputs) given)) (answer (refuse 10 given 0) old)
          (pick (ltb unfit given) (answer (refuse 11 unfit 0) old)
          (answer (refusal_of e) (store_after needed e old))))

      four : {a b c d x y : ℕ} {e f : Answer Tensor ℕ} → b ≡ a → d ≡ c → y ≡ x → e ≡ f → abbrev_answer a c x e ≡ abbrev_answer b d y f
      four p q r s = rw (p, q, r, s) refl

  -- ---- demand 3 of it

  returned-within : All (λ i. i < (values_of text).count) (program_written text).returns
  unfolding values_of nodes_of nodes_in
  returned-within =
      let a = (accepted-program text accepted).returned in
      let v = values.inputs in
      let w = values.count in
      let c = count in
      let n = ops-count text read in
      let l = length-tab (ops_of (program_of text)) (node_at text (program_of text) (vs text read)) in
      let z : (vs text read).inputs + length (tab (ops_of (program_of text)) (node_at text (program_of text) (vs text read))) ≡ (vs text read).count = omega arith in
      subst (λ (q : RunProgram Node). All (λ i. i < (vs text read).count) q.returns) program-same (all_map (λ i b. rw z at b) (nodes_of text).returns a)

  returned-at : (store : List ℕ) (is : List ℕ) → All (λ i. i < (values_of text).count) is → map (value_in (values_of text) store) is ≡ map (λ i. get_or (tensors_from (values_written text) store) i []) is
  returned-at store [] a = refl
  returned-at store (i ∷ is) a =
      let z : get_or (tensors_from (values_written text) store) i [] ≡ value_in (values_of text) store i = ap (λ (l : List Tensor). get_or l i []) (tensors-stand store) ∙ get_or-tab (values_of text).count (value_in (values_of text) store) i [] a.0 in
      rw (z, returned-at store is a.1) refl

  returned-same : (store : List ℕ) → map (value_in (values_of text) store) (nodes_of text).returns ≡ map (λ i. get_or (tensors_from (values_written text) store) i []) (program_written text).returns
  returned-same store = ap (λ (q : RunProgram Node). map (value_in (values_of text) store) q.returns) program-same ∙ returned-at store (program_written text).returns returned-within

  claim-same : (inputs : List ℕ) (number : ℕ) (store : List ℕ) → OrderFreeAnswer text inputs number store → FreeOfOrder text inputs number store
  unfolding OrderFreeAnswer FreeOfOrder values_of nodes_of nodes_in
  claim-same inputs number store claim v starts order ordered trees allowed =
      let c = claim accepted (subst StartsAtIdentity (sym program-same) starts) order (subst (λ (q : RunProgram Node). OrderOf hlo q order) (sym program-same) ordered) trees (subst (λ (q : RunProgram Node). TreesAllowed hlo q trees) (sym program-same) allowed) in
      let run : free_run hlo (nodes_of text) (tensors_of text inputs) order trees 0 ≡ free_run hlo (program_written text) (tensors_from (inputs_written text) inputs) order trees 0 =
      ap (λ (q : RunProgram Node). free_run hlo q (tensors_of text inputs) order trees 0) program-same ∙ ap (λ (x : List Tensor). free_run hlo (program_written text) x order trees 0) (sym (tensors-given inputs)) in
      subst (λ (e : RunEnd Tensor ℕ). AnswerStands text number store e) run
      (record {
        values = λ z. c.values z ∙ ap (λ (l : List Tensor). ended (map some l)) (sym (tensors-stand store));
        returned = λ z. ap (λ (q : RunProgram Node). results_of q.returns (free_run hlo (nodes_of text) (tensors_of text inputs) order trees 0)) (sym program-same) ∙ c.returned z ∙ ap some (returned-same store);
        zero-divisor = c.zero-divisor;
      })

  -- and back: the claim in the words of 01 says no less
  claim-back : (inputs : List ℕ) (number : ℕ) (store : List ℕ) → FreeOfOrder text inputs number store → OrderFreeAnswer text inputs number store
  unfolding OrderFreeAnswer FreeOfOrder values_of nodes_of nodes_in
  claim-back inputs number store claim v starts order ordered trees allowed =
      let c = claim (ap (λ (r : Refusal). r.number) (sym (verdict-same text)) ∙ v) (subst StartsAtIdentity program-same starts) order (subst (λ (q : RunProgram Node). OrderOf hlo q order) program-same ordered) trees
      (subst (λ (q : RunProgram Node). TreesAllowed hlo q trees) program-same allowed) in
      let run : free_run hlo (program_written text) (tensors_from (inputs_written text) inputs) order trees 0 ≡ free_run hlo (nodes_of text) (tensors_of text inputs) order trees 0 =
      ap (λ (q : RunProgram Node). free_run hlo q (tensors_from (inputs_written text) inputs) order trees 0) (sym program-same) ∙ ap (λ (x : List Tensor). free_run hlo (nodes_of text) x order trees 0) (tensors-given inputs) in
      subst (λ (e : RunEnd Tensor ℕ). Claimed text number store e) run
      (record {
        values = λ z. c.values z ∙ ap (λ (l : List Tensor). ended (map some l)) (tensors-stand store);
        returned = λ z. ap (λ (q : RunProgram Node). results_of q.returns (free_run hlo (program_written text) (tensors_from (inputs_written text) inputs) order trees 0)) program-same ∙ c.returned z ∙ ap some (sym (returned-same store));
        zero-divisor = c.zero-divisor;
      })

-- the bench, for every text, input slice and store
pub answer-same : (text inputs old : List ℕ) → evaluated text inputs old ≡ answer_of text inputs old
unfolding evaluated answer_of
answer-same text inputs old = go (eqb (verdict text).number 0) refl
  where
    go : (b : Bool) → eqb (verdict text).number 0 ≡ b → evaluated text inputs old ≡ answer_of text inputs old
    go true e = rw (sym (verdict-same text), e) (accepted-same text (eqb-true (verdict text).number 0 e) inputs old)
    go false e = rw (sym (verdict-same text), e) refl

-- demand 3 of its answer
pub free-of-order : (text inputs : List ℕ) (number : ℕ) (store : List ℕ) → OrderFreeAnswer text inputs number store → FreeOfOrder text inputs number store
unfolding FreeOfOrder
free-of-order text inputs number store claim v = claim-same text (ap (λ (r : Refusal). r.number) (verdict-same text) ∙ v) inputs number store claim v

-- and back, so that it says no less
pub order-free-again : (text inputs : List ℕ) (number : ℕ) (store : List ℕ) → FreeOfOrder text inputs number store → OrderFreeAnswer text inputs number store
unfolding OrderFreeAnswer
order-free-again text inputs number store claim v = claim-back text v inputs number store claim v
