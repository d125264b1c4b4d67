-- What the bench answers to a text and its inputs, and what the store then holds (01, "The twelve refusals", "The store").
-- Assumes nothing.
use Rattle.std.specs.Prelude.{not, List, ◌++◌, ℕ, ◌-◌, eqb, ltb, length, drop, replicate}
use Rattle.lists.specs.Lists.{pick, concat}
use Rattle.run.specs.Run.{Answer, results, stopped}
use Rattle.run.specs.Ways.{evaluation}
use Rattle.elementwise.specs.Elementwise.{Tensor}
use Rattle.ops.specs.Ops.{hlo}
use Rattle.judge.specs.Refusals.{Refusal}
use Rattle.judge.specs.Judge.{refuse, accepted}
use Rattle.values.specs.Values.{values_of}
use Rattle.offsets.specs.Offsets.{needed_of}
use Rattle.verify.specs.Verify.{verdict}
use Rattle.nodes.specs.Nodes.{nodes_of}
use Rattle.layout.specs.Layout.{tensors_in}
use Rattle.inputs.specs.Inputs.{input_slots, first_foreign}

-- the inputs' tensors, one after the other in the input slice
unfoldable pub tensors_of : List ℕ → List ℕ → List Tensor
tensors_of text inputs = tensors_in (values_of text) inputs (values_of text).inputs

-- the ops in text order, by the rules of 000 and 01 for each op
unfoldable pub evaluation_of : List ℕ → List ℕ → Answer Tensor ℕ
evaluation_of text inputs = evaluation hlo (nodes_of text) (tensors_of text inputs) 0

-- an answer's three numbers, and the store afterwards
pub record Evaluated : Type 0 where
  pub refusal : Refusal
  pub store : List ℕ

abbrev pub answer : Refusal → List ℕ → Evaluated
answer r store = record { refusal = r; store = store }

-- "12 | zero divisor | op | element"
abbrev pub refusal_of : Answer Tensor ℕ → Refusal
refusal_of (results vs) = accepted
refusal_of (stopped vs k w) = refuse 12 k w

-- "The inputs come first, then each op's result in text order"; "Refusal 12 leaves inputs and earlier results in place and zero from the refusing op's
-- first slot to the last needed slot. Slots past the needed ones never change."
abbrev pub store_after : ℕ → Answer Tensor ℕ → List ℕ → List ℕ
store_after needed (results vs) old = concat vs ++ drop needed old
store_after needed (stopped vs k w) old = concat vs ++ (replicate (needed - length (concat vs)) 0 ++ drop needed old)

-- the answer of a text whose inputs and store fit
unfoldable pub ran : List ℕ → List ℕ → List ℕ → Evaluated
ran text inputs old =
    let e = evaluation_of text inputs in
    answer (refusal_of e) (store_after (needed_of (values_of text)) e old)

-- of an accepted text: "Then 9, 10, 11 at the lowest such slot, and 12"; "Refusals 1 to 11 leave the store unchanged"
unfoldable pub fitted : List ℕ → List ℕ → List ℕ → Evaluated
fitted text inputs old =
    let vs = values_of text in
    pick (ltb (length old) (needed_of vs)) (answer (refuse 9 (needed_of vs) 0) old)
    (pick (not (eqb (length inputs) (input_slots vs))) (answer (refuse 10 (input_slots vs) 0) old)
    (pick (ltb (first_foreign vs inputs) (input_slots vs)) (answer (refuse 11 (first_foreign vs inputs) 0) old)
    (ran text inputs old)))

-- the bench: refusals 1 to 8 come before all others
unfoldable pub evaluated : List ℕ → List ℕ → List ℕ → Evaluated
evaluated text inputs old = pick (eqb (verdict text).number 0) (fitted text inputs old) (answer (verdict text) old)
