-- What an op makes of the state, and what the last state, or an op that stops, makes of the answer.
-- Assumes nothing.
use mathlib.Core.Path.{◌≡◌, refl, sym, ap, ◌∙◌, subst}
use mathlib.Core.List.{List, [], ◌∷◌, ◌++◌, append_assoc}
use Prim.Native.Nat.{ℕ, suc, ◌+◌, ◌-◌, ◌≤◌, ◌<◌, min}
use native.Mathlib.Decide.{dec_lt}
use native.Mathlib.Numerals.{add-one}
use native.Mathlib.Nat.{add-zero}
use native.Mathlib.Omega.{arith}
use lib.ListN.{length, get_or, take, drop, replicate, length-take, length-drop, length-append, drop_of_length-le, take-append-drop}
use lib.Seq.{drop-cons, drop-drop, length-take-le, take_all, take_at, drop_at}
use Rattle.lists.specs.Lists.{tab, concat}
use Rattle.lists.proofs.TabLaw.{get_or-tab, length-tab}
use Rattle.run.specs.Run.{Out, gives, stops, on_out, Answer, results, stopped, evaluate_from}
use Rattle.run.specs.Ways.{language_of}
use Rattle.elementwise.specs.Elementwise.{Tensor, Holds}
use Rattle.ops.specs.Ops.{Node, hlo}
use Rattle.judge.specs.Judge.{refuse, accepted}
use Rattle.program.specs.Program.{program_of}
use Rattle.values.specs.declared.Values.{Values}
use Rattle.values.specs.Values.{no_value, ops_of, values_in, values_of}
use Rattle.offsets.specs.Offsets.{size_at, offset_at, needed_of}
use Rattle.offsets.proofs.OffsetsLaw.{offset-next, offset-le}
use Rattle.verify.specs.Verify.{verdict}
use Rattle.nodes.specs.Nodes.{node_at, nodes_in, nodes_of}
use Rattle.layout.specs.Layout.{value_in, tensors_in}
use Rattle.layout.proofs.LayoutLaw.{tensors-concat, value-kept, tensors-kept, value_written, tensors-next}
use Rattle.inputs.specs.Inputs.{input_slots, first_foreign}
use Rattle.inputs.proofs.InputsLaw.{inputs-hold}
use Rattle.steps.specs.Steps.{op_meaning, ValuesHeld}
use Rattle.steps.proofs.StepsLaw.{op-holds}
use Rattle.evaluation.specs.Evaluated.{tensors_of, evaluation_of, refusal_of, store_after, ran, answer}
use Rattle.evaluation.specs.State.{slots_before_op, State, copied}

take-two : (u v z : List ℕ) (a b : ℕ) → length u ≡ a → length v ≡ b → take (a + b) (u ++ (v ++ z)) ≡ u ++ v
take-two u v z a b e f = ap (take (a + b)) (sym (append_assoc u v z)) ∙ take_at (u ++ v) z (a + b) (length-append u v ∙ (omega (arith, e, f)))

pub drop-two : (u v z : List ℕ) (a b : ℕ) → length u ≡ a → length v ≡ b → drop (a + b) (u ++ (v ++ z)) ≡ z
drop-two u v z a b e f = ap (drop (a + b)) (sym (append_assoc u v z)) ∙ drop_at (u ++ v) z (a + b) (length-append u v ∙ (omega (arith, e, f)))

-- slots from further back
pub drop-further : (a b : ℕ) (x y : List ℕ) → a ≤ b → drop a x ≡ drop a y → drop b x ≡ drop b y
drop-further a b x y h e =
    let z : a + (b - a) ≡ b = omega arith in
    subst (λ (k : ℕ). drop k x ≡ drop k y) z (sym (drop-drop (b - a) a x) ∙ ap (drop (b - a)) e ∙ drop-drop (b - a) a y)

-- the slots needed are those of every value
needed-is : (text : List ℕ) → needed_of (values_of text) ≡ slots_before_op text (ops_of (program_of text))
unfolding needed_of values_of values_in
needed-is text = refl

pub within-needed : (text : List ℕ) (k : ℕ) → k ≤ ops_of (program_of text) → slots_before_op text k ≤ needed_of (values_of text)
within-needed text k h = rw (needed-is text) (offset-le (values_of text) ((values_of text).inputs + k) ((values_of text).inputs + ops_of (program_of text)) (omega arith))

-- behind the last op there is none
pub no-ops : (text : List ℕ) → drop (ops_of (program_of text)) (nodes_of text).ops ≡ []
unfolding nodes_of nodes_in
no-ops text =
    let p = program_of text in
    drop_of_length-le (tab (ops_of p) (node_at text p (values_in text p))) {i = ops_of p} (let e : length (tab (ops_of p) (node_at text p (values_in text p))) ≡ ops_of p = length-tab _ _ in omega arith)

module _ (text : List ℕ) (k : ℕ) (l : k < ops_of (program_of text)) where
  -- the ops from op k on
  ops-from : drop k (nodes_of text).ops ≡ node_at text (program_of text) (values_of text) k ∷ drop (suc k) (nodes_of text).ops
  unfolding nodes_of nodes_in values_of
  ops-from =
      let p = program_of text in
      let f = node_at text p (values_in text p) in
      drop-cons (tab (ops_of p) f) k (f k) (rw (length-tab (ops_of p) f) l)
      ∙ ap (λ (o : Node). o ∷ drop (suc k) (tab (ops_of p) f)) (get_or-tab (ops_of p) f k (f k) l)

  module _ (done : List ℕ) where
    abbrev tensors : List Tensor
    tensors = tensors_in (values_of text) done ((values_of text).inputs + k)

    -- a turn of evaluating
    turn : evaluate_from (language_of hlo) k (drop k (nodes_of text).ops) tensors 0
        ≡ on_out (op_meaning text k done) (λ v. evaluate_from (language_of hlo) (suc k) (drop (suc k) (nodes_of text).ops) (tensors ++ v ∷ []) 0) (λ w. stopped tensors k w)
    unfolding op_meaning
    turn = ap (λ (os : List Node). evaluate_from (language_of hlo) k os tensors 0) ops-from

    goes : (v : Tensor) → op_meaning text k done ≡ gives v
        → evaluate_from (language_of hlo) k (drop k (nodes_of text).ops) tensors 0
        ≡ evaluate_from (language_of hlo) (suc k) (drop (suc k) (nodes_of text).ops) (tensors ++ v ∷ []) 0
    goes v r =
        turn ∙ ap (λ (m : Out Tensor ℕ). on_out m (λ v. evaluate_from (language_of hlo) (suc k) (drop (suc k) (nodes_of text).ops) (tensors ++ v ∷ []) 0) (λ w. stopped tensors k w)) r

    pub stands-still : (w : ℕ) → op_meaning text k done ≡ stops w → evaluate_from (language_of hlo) k (drop k (nodes_of text).ops) tensors 0 ≡ stopped tensors k w
    stands-still w r =
        turn ∙ ap (λ (m : Out Tensor ℕ). on_out m (λ v. evaluate_from (language_of hlo) (suc k) (drop (suc k) (nodes_of text).ops) (tensors ++ v ∷ []) 0) (λ w. stopped tensors k w)) r

module _ (text inputs old : List ℕ) (e : (verdict text).number ≡ 0) (k : ℕ) (l : k < ops_of (program_of text)) (done store : List ℕ) (s : State text inputs old k done store) where
  abbrev vs : Values
  vs = values_of text

  abbrev n : ℕ
  n = (values_of text).inputs + k

  abbrev at : ℕ
  at = slots_before_op text k

  -- what op k gives is of the type of value n
  pub gives-held : (v : Tensor) → op_meaning text k done ≡ gives v → Holds (get_or vs.list n no_value).ty.element (size_at vs n) v
  unfolding values_of
  gives-held v r = op-holds text e k l done s.held v r

  held_next : (v rest : List ℕ) → Holds (get_or vs.list n no_value).ty.element (size_at vs n) v → ValuesHeld vs (n + 1) (take at done ++ (v ++ rest))
  held_next v rest h =
      let long : length (take at done) ≡ at = length-take-le at done s.held.room in
      record {
        room =
            omega (arith, offset-next vs n, h.sized, long, length-append (take at done) (v ++ rest), length-append v rest);
        holds = λ i b. by_place i b (dec_lt i n);
      }
    where
      by_place : (i : ℕ) → i < n + 1 → Dec (i < n) → Holds (get_or vs.list i no_value).ty.element (size_at vs i) (value_in vs (take at done ++ (v ++ rest)) i)
      by_place i b (yes q) =
          rw (value-kept vs (take at done ++ (v ++ rest)) done n i q (take_at (take at done) (v ++ rest) at (length-take-le at done s.held.room))) (s.held.holds i q)
      by_place i b (no q) =
          let z : i ≡ n = omega arith in
          rw (z, value_written vs (take at done) v rest n (length-take-le at done s.held.room) h.sized) h

  -- op k gives a tensor: it stands behind the values before it, in the store and in `done`
  pub state-next : (v rest behind : List ℕ) → op_meaning text k done ≡ gives v → drop (at + size_at vs n) store ≡ behind
      → State text inputs old (k + 1) (take at done ++ (v ++ rest)) (take at store ++ (v ++ behind))
  state-next v rest behind r d =
      let h = gives-held v r in
      let same : n + 1 ≡ vs.inputs + (k + 1) = omega arith in
      let next : at + size_at vs n ≡ slots_before_op text (k + 1) = sym (offset-next vs n) ∙ ap (offset_at vs) same in
      let long : length (take at done) ≡ at = length-take-le at done s.held.room in
      let long2 : length (take at store) ≡ at = ap length s.front ∙ long in
      let done2 : List ℕ = take at done ++ (v ++ rest) in
      record {
        held = subst (λ (m : ℕ). ValuesHeld vs m done2) same (held_next v rest h);
        front = subst (λ (m : ℕ). take m (take at store ++ (v ++ behind)) ≡ take m done2) next
            (take-two (take at store) v behind at (size_at vs n) long2 h.sized ∙ ap (λ (u : List ℕ). u ++ v) s.front ∙ sym (take-two (take at done) v rest at (size_at vs n) long h.sized));
        rest = subst (λ (m : ℕ). drop m (take at store ++ (v ++ behind)) ≡ drop m old) next
            (drop-two (take at store) v behind at (size_at vs n) long2 h.sized ∙ sym d ∙ drop-further at (at + size_at vs n) store old (omega arith) s.rest);
        goes_on =
            ap (λ (m : ℕ). evaluate_from (language_of hlo) (k + 1) (drop (k + 1) (nodes_of text).ops) (tensors_in vs done2 m) 0) (sym same)
            ∙ ap (λ (ts : List Tensor). evaluate_from (language_of hlo) (k + 1) (drop (k + 1) (nodes_of text).ops) ts 0) (tensors-next vs (take at done) v rest done n long h.sized refl)
            ∙ ap (λ (j : ℕ). evaluate_from (language_of hlo) j (drop j (nodes_of text).ops) (tensors_in vs done n ++ v ∷ []) 0) (add-one k)
            ∙ sym (goes text k l done v r) ∙ s.goes_on;
      }

  -- op k meets a zero divisor: zeros from its first slot to the last needed one
  pub state-stop : (w : ℕ) → op_meaning text k done ≡ stops w → needed_of vs ≤ length store
      → answer (refuse 12 k w) (take at store ++ (replicate (needed_of vs - at) 0 ++ drop (needed_of vs) store)) ≡ ran text inputs old
  unfolding ran
  state-stop w r room =
      let needed : ℕ = needed_of vs in
      let is : evaluation_of text inputs ≡ stopped (tensors_in vs done n) k w = sym s.goes_on ∙ stands-still text k l done w r in
      let all : concat (tensors_in vs done n) ≡ take at store = tensors-concat vs done n s.held.room ∙ sym s.front in
      let long : length (take at store) ≡ at = ap length s.front ∙ length-take-le at done s.held.room in
      sym (ap (λ (a : Answer Tensor ℕ). answer (refusal_of a) (store_after needed a old)) is
      ∙ ap (λ (ts : List ℕ). answer (refuse 12 k w) (ts ++ (replicate (needed - length ts) 0 ++ drop needed old))) all
      ∙ ap (λ (a : ℕ). answer (refuse 12 k w) (take at store ++ (replicate (needed - a) 0 ++ drop needed old))) long
      ∙ ap (λ (z : List ℕ). answer (refuse 12 k w) (take at store ++ (replicate (needed - at) 0 ++ z))) (sym (drop-further at needed store old (within-needed text k (omega arith)) s.rest)))

-- after the last op the store holds the values of all
pub state-end : (text inputs old : List ℕ) (done store : List ℕ) → State text inputs old (ops_of (program_of text)) done store → answer accepted store ≡ ran text inputs old
unfolding ran
state-end text inputs old done store s =
    let vs = values_of text in
    let k = ops_of (program_of text) in
    let needed : ℕ = needed_of vs in
    let at : ℕ = slots_before_op text k in
    let is : evaluation_of text inputs ≡ results (tensors_in vs done (vs.inputs + k)) = sym s.goes_on ∙ ap (λ (os : List Node). evaluate_from (language_of hlo) k os (tensors_in vs done (vs.inputs + k)) 0) (no-ops text) in
    let all : concat (tensors_in vs done (vs.inputs + k)) ≡ take at store = tensors-concat vs done (vs.inputs + k) s.held.room ∙ sym s.front in
    sym (ap (λ (a : Answer Tensor ℕ). answer (refusal_of a) (store_after needed a old)) is
    ∙ ap (λ (ts : List ℕ). answer accepted (ts ++ drop needed old)) all
    ∙ ap (λ (m : ℕ). answer accepted (take at store ++ drop m old)) (needed-is text)
    ∙ ap (λ (z : List ℕ). answer accepted (take at store ++ z)) (sym s.rest)
    ∙ ap (answer accepted) (take-append-drop at store))

-- the inputs stand in the store and in `done`
module _ (text done store : List ℕ) where
  abbrev slots : ℕ
  slots = input_slots (values_of text)

  slots-are : input_slots (values_of text) ≡ offset_at (values_of text) (values_of text).inputs
  unfolding input_slots
  slots-are = refl

  pub first-slots : input_slots (values_of text) ≡ slots_before_op text 0
  first-slots = slots-are ∙ ap (offset_at (values_of text)) (sym (add-zero (values_of text).inputs))

  pub state-start : slots ≤ length store → slots ≤ length done → take slots done ≡ take slots store → first_foreign (values_of text) (take slots store) ≡ slots
      → State text (take slots store) store 0 done store
  unfolding evaluation_of tensors_of
  state-start room room2 same fit =
      let vs = values_of text in
      let m : vs.inputs + 0 ≡ vs.inputs = add-zero vs.inputs in
      let long : length (take slots store) ≡ slots = length-take-le slots store room in
      let twice : take slots (take slots store) ≡ take slots store = take_all slots (take slots store) (omega arith) in
      let first : take (offset_at vs vs.inputs) done ≡ take (offset_at vs vs.inputs) (take slots store) = subst (λ (a : ℕ). take a done ≡ take a (take slots store)) slots-are (same ∙ sym twice) in
      record {
        held = record {
          room = rw (sym first-slots) room2;
          holds = λ i b.
              let q : i < vs.inputs = omega arith in
              rw (value-kept vs done (take slots store) vs.inputs i q first) (inputs-hold vs (take slots store) long fit i q);
        };
        front = subst (λ (a : ℕ). take a store ≡ take a done) first-slots (sym same);
        rest = refl;
        goes_on = ap (λ (j : ℕ). evaluate_from (language_of hlo) 0 (nodes_of text).ops (tensors_in vs done j) 0) m
            ∙ ap (λ (ts : List Tensor). evaluate_from (language_of hlo) 0 (nodes_of text).ops ts 0) (tensors-kept vs done (take slots store) vs.inputs first);
      }

-- ---- the answer of a text whose inputs and store fit

-- of the store only what stands behind the needed slots counts
after-behind : (needed : ℕ) (e : Answer Tensor ℕ) (a b : List ℕ) → drop needed a ≡ drop needed b → store_after needed e a ≡ store_after needed e b
after-behind needed (results vs) a b q = ap (λ (z : List ℕ). concat vs ++ z) q
after-behind needed (stopped vs k w) a b q = ap (λ (z : List ℕ). concat vs ++ (replicate (needed - length (concat vs)) 0 ++ z)) q

-- the inputs, copied to the front of the store
pub ran-copied : (text inputs old : List ℕ) → length inputs ≡ input_slots (values_of text)
    → ran text (take (input_slots (values_of text)) (copied inputs old)) (copied inputs old) ≡ ran text inputs old
unfolding ran
ran-copied text inputs old e =
    let needed : ℕ = needed_of (values_of text) in
    let store : List ℕ = copied inputs old in
    let m : ℕ = length inputs in
    let le : m ≤ needed = rw (e ∙ first-slots text [] []) (within-needed text 0 (omega arith)) in
    ap (λ (i : List ℕ). answer (refusal_of (evaluation_of text i)) (store_after needed (evaluation_of text i) store)) (take_at inputs (drop (length inputs) old) _ e)
    ∙ ap (answer (refusal_of (evaluation_of text inputs)))
    (after-behind needed (evaluation_of text inputs) store old (drop-further m needed store old le (drop_at inputs (drop m old) m refl)))
