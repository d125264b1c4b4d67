-- The loop over the ops: what it starts from, what a turn makes of the state, and how it ends.
-- Assumes nothing.
use mathlib.Core.Path.{◌≡◌, refl, sym, ap, ◌∙◌, subst}
use mathlib.Core.List.{List, [], ◌∷◌, ◌++◌}
use Prim.Native.Nat.{ℕ, ◌+◌, ◌-◌, ◌≤◌, ◌<◌}
use native.Mathlib.Omega.{arith}
use lib.ListN.{length, take, drop, replicate, length-replicate, length-append, length-drop}
use lib.Seq.{length-take-le, take_at}
use Rattle.run.specs.Run.{Out, gives, stops, on_out}
use Rattle.std.specs.Prelude.{Result, Ok, Err}
use Rattle.elementwise.specs.declared.ZeroDivisor.{ZeroDivisor}
use Rattle.elementwise.specs.Elementwise.{Tensor, step_numbers, out_numbers}
use Rattle.judge.specs.Refusals.{Refusal}
use Rattle.judge.specs.Judge.{refuse, accepted}
use Rattle.program.specs.declared.Program.{Program as Places}
use Rattle.program.specs.Program.{program_of}
use Rattle.values.specs.declared.Values.{Values}
use Rattle.values.specs.Values.{ops_of, values_of}
use Rattle.offsets.specs.Offsets.{offset_at, offsets_of, needed_of, ValuesRead}
use Rattle.offsets.proofs.OffsetsLaw.{values-read, offset-next, offset-le}
use Rattle.verify.specs.Verify.{verdict}
use Rattle.nodes.proofs.AcceptedLaw.{accepted-elements}
use Rattle.inputs.specs.Inputs.{input_slots, first_foreign}
use Rattle.steps.specs.Steps.{op_meaning, ValuesHeld, Accepts}
use Rattle.evaluation.specs.Evaluated.{ran, answer}
use Rattle.evaluation.specs.State.{State, Written, zeroed, copied, InputsStarted}
use Rattle.evaluation.proofs.StateLaw.{drop-two, drop-further, within-needed, first-slots, state-start, state-next, state-stop, state-end, ran-copied}

-- a stop is no tensor, and a tensor no stop
module _ (number : ℕ) (m : Out Tensor ℕ) (r : Result (Unit {0}) ZeroDivisor) (e : step_numbers r ≡ out_numbers number m) where
  filled-gives : r ≡ Ok tt → (v : Tensor) × (m ≡ gives v)
  filled-gives f = by_out m (ap step_numbers (sym f) ∙ e)
    where
      by_out : (o : Out Tensor ℕ) → step_numbers (Ok tt) ≡ out_numbers number o → (v : Tensor) × (o ≡ gives v)
      by_out (gives v) q = (v, refl)
      by_out (stops w) q = let z : ◌≡◌ {A = ℕ} 0 12 = ap (λ n. n.0) q in absurd (omega arith)

  -- an op that answers k and z has met a zero divisor, and its three numbers are those of refusal 12
  zero-stops : (z : ZeroDivisor) → r ≡ Err z → (w : ℕ) × (m ≡ stops w) × (refuse 12 z.op z.element ≡ refuse 12 number w)
  zero-stops z f = by_out m (ap step_numbers (sym f) ∙ e)
    where
      by_out : (o : Out Tensor ℕ) → step_numbers (Err z) ≡ out_numbers number o → (w : ℕ) × (o ≡ stops w) × (refuse 12 z.op z.element ≡ refuse 12 number w)
      by_out (gives v) q = let p : ◌≡◌ {A = ℕ} 12 0 = ap (λ n. n.0) q in absurd (omega arith)
      by_out (stops w) q = (w, refl, ap (λ n. refuse n.0 n.1 n.2) q)

few-slots : (text : List ℕ) → (verdict text).number ≡ 0 → needed_of (values_of text) ≤ 8192
unfolding values_of
few-slots text e = accepted-elements text e

pub text-read : (text : List ℕ) → ValuesRead (values_of text)
unfolding values_of
text-read text = values-read text (program_of text)

-- ---- of the text's own places and values

module _ (text inputs old : List ℕ) (k : ℕ) (done store : List ℕ) (s : State text inputs old k done store) where
  abbrev vs : Values
  vs = values_of text

  abbrev n : ℕ
  n = (values_of text).inputs + k

  module _ (a : Places) (starts : List ℕ) (e : Accepts text a (values_of text) starts) (l : k < ops_of (program_of text)) (r : Result (Unit {0}) ZeroDivisor) (done2 store2 : List ℕ)
      (w : Written k (op_meaning text k done) (offset_at vs n) (offset_at vs (n + 1)) r done done2 store store2) where
    next : r ≡ Ok tt → State text inputs old (k + 1) done2 store2
    next f =
        let g = filled-gives k (op_meaning text k done) r w.answers f in
        let d : done2 ≡ take (offset_at vs n) done ++ (g.0 ++ drop (offset_at vs (n + 1)) done) = rw g.1 at w.done-is in
        let t : store2 ≡ take (offset_at vs n) store ++ (g.0 ++ drop (offset_at vs (n + 1)) store) = rw g.1 at w.store_is in
        rw (d, t) (state-next text inputs old e.verdict k l done store s g.0 (drop (offset_at vs (n + 1)) done) (drop (offset_at vs (n + 1)) store) g.1
        (ap (λ (m : ℕ). drop m store) (sym (offset-next vs n))))

    stop : (z : ZeroDivisor) → r ≡ Err z → needed_of vs ≤ length store
        → answer (refuse 12 z.op z.element) (zeroed (offset_at vs n) (needed_of vs) store2) ≡ ran text inputs old
    stop z f room =
        let at : ℕ = offset_at vs n in
        let end : ℕ = offset_at vs (n + 1) in
        let needed : ℕ = needed_of vs in
        let one : n + 1 ≡ vs.inputs + (k + 1) = omega arith in
        let up : end ≤ needed = rw one (within-needed text (k + 1) (omega arith)) in
        let up2 : at ≤ end = offset-le vs n (n + 1) (omega arith) in
        let met = zero-stops k (op_meaning text k done) r w.answers z f in
        let m : op_meaning text k done ≡ stops met.0 = met.1 in
        let long : length (take at store) ≡ at = length-take-le at store (omega arith) in
        let is : store2 ≡ take at store ++ (replicate (end - at) 0 ++ drop end store) = rw m at w.store_is in
        let whole : at + (end - at) ≡ end = omega arith in
        let front : take at store2 ≡ take at store = ap (take at) is ∙ take_at (take at store) (replicate (end - at) 0 ++ drop end store) at long in
        let behind : drop end store2 ≡ drop end store =
        ap (drop end) is ∙ subst (λ (i : ℕ). drop i (take at store ++ (replicate (end - at) 0 ++ drop end store)) ≡ drop end store) whole
        (drop-two (take at store) (replicate (end - at) 0) (drop end store) at (end - at) long (length-replicate (end - at) 0)) in
        ap (λ (u : List ℕ). answer (refuse 12 z.op z.element) (u ++ (replicate (needed - at) 0 ++ drop needed store2))) front
        ∙ ap (λ (u : List ℕ). answer (refuse 12 z.op z.element) (take at store ++ (replicate (needed - at) 0 ++ u))) (drop-further end needed store2 store up behind)
        ∙ ap (λ (f : Refusal). answer f (take at store ++ (replicate (needed - at) 0 ++ drop needed store))) met.2
        ∙ state-stop text inputs old e.verdict k l done store s met.0 m room

-- ---- of the places and values that the code has

module _ (text : List ℕ) (p : Places) (vs : Values) (starts : List ℕ) (a : Accepts text p vs starts) where
  -- a fact of the text's places and values is one of these
  as_read : (P : Places → Values → Type 0) → P (program_of text) (values_of text) → P p vs
  as_read P x = subst (λ (q : Places). P q vs) (sym a.program) (subst (P (program_of text)) (sym a.values) x)

  own : Accepts text (program_of text) (values_of text) starts
  own = record { verdict = a.verdict; program = refl; values = refl; offsets = subst (λ (ws : Values). starts ≡ offsets_of ws) a.values a.offsets }

  pub run-start : (done store : List ℕ) → InputsStarted vs done store → State text (take (input_slots vs) store) store 0 done store
  run-start done store =
      as_read (λ q ws. InputsStarted ws done store → State text (take (input_slots ws) store) store 0 done store)
      (λ s.
      let le : input_slots (values_of text) ≤ needed_of (values_of text) = rw (first-slots text done store) (within-needed text 0 (omega arith)) in
      let r = s.room in
      let q = s.space in
      state-start text done store (omega arith) (omega arith) s.same s.fit)

  module _ (inputs old : List ℕ) (k : ℕ) (done store : List ℕ) (s : State text inputs old k done store) where
    pub run-held : ValuesHeld vs (vs.inputs + k) done
    run-held = as_read (λ q ws. ValuesHeld ws (ws.inputs + k) done) s.held

    module _ (l : k < ops_of p) (r : Result (Unit {0}) ZeroDivisor) (done2 store2 : List ℕ)
        (w : Written k (op_meaning text k done) (offset_at vs (vs.inputs + k)) (offset_at vs (vs.inputs + k + 1)) r done done2 store store2) where
      pub run-next : r ≡ Ok tt → State text inputs old (k + 1) done2 store2
      run-next =
          as_read (λ q ws. k < ops_of q → Written k (op_meaning text k done) (offset_at ws (ws.inputs + k)) (offset_at ws (ws.inputs + k + 1)) r done done2 store store2
          → r ≡ Ok tt → State text inputs old (k + 1) done2 store2)
          (λ m v. next text inputs old k done store s (program_of text) starts own m r done2 store2 v) l w

      -- zeros from the op's first slot to the last needed one
      run-stop : (z : ZeroDivisor) → r ≡ Err z → needed_of vs ≤ length store
          → answer (refuse 12 z.op z.element) (zeroed (offset_at vs (vs.inputs + k)) (needed_of vs) store2) ≡ ran text inputs old
      run-stop z =
          as_read (λ q ws. k < ops_of q → Written k (op_meaning text k done) (offset_at ws (ws.inputs + k)) (offset_at ws (ws.inputs + k + 1)) r done done2 store store2
          → r ≡ Err z → needed_of ws ≤ length store
          → answer (refuse 12 z.op z.element) (zeroed (offset_at ws (ws.inputs + k)) (needed_of ws) store2) ≡ ran text inputs old)
          (λ m v. stop text inputs old k done store s (program_of text) starts own m r done2 store2 v z) l w

      pub run-stopped : (z : ZeroDivisor) (at end : ℕ) (final : List ℕ) → r ≡ Err z → needed_of vs ≤ length store → final ≡ zeroed at end store2 → at ≡ offset_at vs (vs.inputs + k) → end ≡ needed_of vs
          → answer (refuse 12 z.op z.element) final ≡ ran text inputs old
      run-stopped z at end final f room e q u = rw (e, q, u) (run-stop z f room)

  -- op k begins within the slots needed
  pub run-within : (k : ℕ) → k ≤ ops_of p → offset_at vs (vs.inputs + k) ≤ needed_of vs
  run-within k = as_read (λ q ws. k ≤ ops_of q → offset_at ws (ws.inputs + k) ≤ needed_of ws) (within-needed text k)

  pub run_end : (inputs old : List ℕ) (k : ℕ) (done store : List ℕ) → State text inputs old k done store → k ≡ ops_of p → answer accepted store ≡ ran text inputs old
  run_end inputs old k done store s e =
      state-end text inputs old done store (subst (λ (j : ℕ). State text inputs old j done store) (e ∙ ap ops_of a.program) s)

  -- "Inputs and op results together at most 8,192 elements"
  pub run_small : needed_of vs ≤ 8192
  run_small = as_read (λ q ws. needed_of ws ≤ 8192) (few-slots text a.verdict)

  -- ---- the inputs, copied to `done` and to the store

  slots-within : input_slots vs ≤ needed_of vs
  slots-within = as_read (λ q ws. input_slots ws ≤ needed_of ws) (rw (first-slots text [] []) (within-needed text 0 (omega arith)))

  module _ (inputs done store : List ℕ) (e : length inputs ≡ input_slots vs) (f : first_foreign vs inputs ≡ input_slots vs) (room : needed_of vs ≤ length done) (space : needed_of vs ≤ length store) where
    pub slots-fit : (length inputs ≤ length done) × (length inputs ≤ length store)
    slots-fit = let w = slots-within in (omega (arith, e), omega (arith, e))

    copied-length : (s : List ℕ) → needed_of vs ≤ length s → needed_of vs ≤ length (copied inputs s)
    copied-length s h =
        let w = slots-within in
        let l = length-append inputs (drop (length inputs) s) in
        let d = length-drop (length inputs) s in
        omega (arith, e, l, d)

    pub copied-started : InputsStarted vs (copied inputs done) (copied inputs store)
    copied-started =
        let front : (s : List ℕ) → take (input_slots vs) (copied inputs s) ≡ inputs = λ s. take_at inputs (drop (length inputs) s) (input_slots vs) e in
        record {
          room = copied-length done room;
          space = copied-length store space;
          same = front done ∙ sym (front store);
          fit = ap (first_foreign vs) (front store) ∙ f;
        }

    pub copied-ran : ran text (take (input_slots vs) (copied inputs store)) (copied inputs store) ≡ ran text inputs store
    copied-ran = as_read (λ q ws. length inputs ≡ input_slots ws → ran text (take (input_slots ws) (copied inputs store)) (copied inputs store) ≡ ran text inputs store) (ran-copied text inputs store) e
