-- What the bench answers to a text and its inputs, and what the store then holds (01, "The twelve refusals", "The store").
-- Assumes nothing.
use Rattle.std.specs.Prelude.{ℕ, ◌+◌, ◌-◌, List, [], ◌∷◌, ◌++◌, map, Bool, not, eqb, ltb, length, get_or, take, drop, replicate}
use Rattle.lists.specs.Lists.{pick, tab, concat, first_where}
use Rattle.element.specs.declared.ElementType.{ElementType}
use Rattle.element.specs.declared.ElementType.TheVariants.{I1}
use Rattle.element.specs.Types.{is_value}
use Rattle.shape.specs.Index.{size}
use Rattle.shape.specs.Dims.{dims_of}
use Rattle.elementwise.specs.Elementwise.{Tensor}
use Rattle.run.specs.Run.{Answer}
use Rattle.run.specs.Ways.{evaluation}
use Rattle.ops.specs.Ops.{hlo}
use Rattle.values.specs.declared.Value.{Value}
use Rattle.judge.specs.Judge.{refuse}
use Rattle.judge.specs.Refusals.{Refusal}
use Rattle.evaluation.specs.Evaluated.{Evaluated, answer, refusal_of, store_after}
use Rattle.source.specs.Source.{function_of}
use Rattle.verifier.specs.DefinedValues.{inputs_defined}
use Rattle.verifier.specs.Verdict.{verdict_of}
use Rattle.answers.specs.WrittenNodes.{values_written, program_written}

-- ---- values in slots

-- the slots of a value, and of values one after the other
abbrev pub slots_of : Value → ℕ
slots_of v = size (dims_of v.ty.shape)

abbrev pub slots_of_all : List Value → ℕ
slots_of_all [] = 0
slots_of_all (v ∷ vs) = slots_of v + slots_of_all vs

-- the tensors of values that stand one after the other in slots
abbrev pub tensors_from : List Value → List ℕ → List Tensor
tensors_from [] slots = []
tensors_from (v ∷ vs) slots = take (slots_of v) slots ∷ tensors_from vs (drop (slots_of v) slots)

-- the element type of each of their slots
abbrev pub slot_types : List Value → List ElementType
slot_types [] = []
slot_types (v ∷ vs) = replicate (slots_of v) v.ty.element ++ slot_types vs

-- ---- the inputs

unfoldable pub inputs_written : List ℕ → List Value
inputs_written text = inputs_defined text (function_of text)

-- "input slot not a value of its type", "at the lowest such slot": the number of slots where there is none
unfoldable pub unfit_slot : List Value → List ℕ → ℕ
unfit_slot vs inputs = first_where (λ s. not (is_value (get_or (slot_types vs) s I1) (get_or inputs s 0))) (tab (slots_of_all vs) (λ s. s))

-- ---- the answer

-- the ops in text order, by the rules of 000 and 01 for each op
unfoldable pub evaluation_written : List ℕ → List ℕ → Answer Tensor ℕ
evaluation_written text inputs = evaluation hlo (program_written text) (tensors_from (inputs_written text) inputs) 0

-- of an accepted text: "Then 9, 10, 11 at the lowest such slot, and 12"; "Refusals 1 to 11 leave the store unchanged"
unfoldable pub answer_accepted : List ℕ → List ℕ → List ℕ → Evaluated
answer_accepted text inputs old =
    let needed = slots_of_all (values_written text) in
    let given = slots_of_all (inputs_written text) in
    let unfit = unfit_slot (inputs_written text) inputs in
    let e = evaluation_written text inputs in
    pick (ltb (length old) needed) (answer (refuse 9 needed 0) old)
    (pick (not (eqb (length inputs) given)) (answer (refuse 10 given 0) old)
    (pick (ltb unfit given) (answer (refuse 11 unfit 0) old)
    (answer (refusal_of e) (store_after needed e old))))

-- the bench: refusals 1 to 8 come before all others
unfoldable pub answer_of : List ℕ → List ℕ → List ℕ → Evaluated
answer_of text inputs old = pick (eqb (verdict_of text).number 0) (answer_accepted text inputs old) (answer (verdict_of text) old)
