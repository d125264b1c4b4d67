-- Texts on inputs and stores with their whole answer: refusal, A, B and every slot afterwards (01, "The store").
-- Assumes nothing.
use mathlib.Core.Path.{◌≡◌, refl}
use mathlib.Core.List.{List, [], ◌∷◌, map}
use Prim.Native.Nat.{ℕ}
use Rattle.lists.specs.Lists.{concat}
use Rattle.element.specs.Types.{value_of, wrap_to, is_value}
use Rattle.division.specs.Division.{division_of}
use Rattle.scalar.specs.Ops.{add_of, not_of}
use Rattle.run.specs.Tree.{count_from}
use Rattle.scan.specs.Ascii.{ascii}
use Rattle.optable.specs.Table.{said_at}
use Rattle.judge.specs.Refusals.{Refusal}
use Rattle.judge.specs.Judge.{refuse}
use Rattle.values.specs.Values.{values_of}
use Rattle.offsets.specs.Offsets.{size_at, offset_at, needed_of}
use Rattle.inputs.specs.Inputs.{input_slots, input_of, slot_fits, first_foreign}
use Rattle.evaluation.specs.Evaluated.{tensors_of, evaluation_of, answer, ran, fitted, evaluated}
use Rattle.start_examples.proofs.Computing.{reading}

-- 6 input slots, 15 slots in all; op 0 is a sum, op 1 a quotient, op 2 turns the sum's bits
unfoldable pub quotients : List ℕ
quotients = ascii "func.func @m(%a: tensor<3xi8>, %b: tensor<3xi8>) -> tensor<3xi8> {%s = \"stablehlo.add\"(%a, %b) : (tensor<3xi8>, tensor<3xi8>) -> tensor<3xi8> %q = \"stablehlo.divide\"(%a, %b) : (tensor<3xi8>, tensor<3xi8>) -> tensor<3xi8> %n = \"stablehlo.not\"(%s) : (tensor<3xi8>) -> tensor<3xi8> \"func.return\"(%q) : (tensor<3xi8>) -> ()}"

-- a sum of i8 given as i16
unfoldable pub refused_sum : List ℕ
refused_sum = ascii "func.func @m(%a: tensor<3xi8>) {%s = \"stablehlo.add\"(%a, %a) : (tensor<3xi8>, tensor<3xi8>) -> tensor<3xi16> \"func.return\"() : () -> ()}"

-- a text, its inputs, how many slots the store has, the answer, and the store afterwards
pub record EvaluatedPin : Type 0 where
  pub text : List ℕ
  pub inputs : List ℕ
  pub slots : ℕ
  pub refusal : Refusal
  pub after : List ℕ

abbrev pub answered : List ℕ → List ℕ → ℕ → ℕ → ℕ → ℕ → List ℕ → EvaluatedPin
answered text inputs slots number a b after = record { text = text; inputs = inputs; slots = slots; refusal = refuse number a b; after = after }

-- the store before: slot k holds 100 + k
abbrev pub before : ℕ → List ℕ
before slots = count_from 100 slots

unfoldable pub evaluated_pins : List EvaluatedPin
evaluated_pins =
    -- "Refusals 1 to 11 leave the store unchanged": 8 before 9 and 10
    answered refused_sum ([]) 1 8 0 1 (100 ∷ []) ∷
    -- 9: one slot short; before 10
    answered quotients ([]) 14 9 15 0 (100 ∷ 101 ∷ 102 ∷ 103 ∷ 104 ∷ 105 ∷ 106 ∷ 107 ∷ 108 ∷ 109 ∷ 110 ∷ 111 ∷ 112 ∷ 113 ∷ []) ∷
    -- 10: one input slot fewer, before 11; just enough slots in the store
    answered quotients (1 ∷ 2 ∷ 3 ∷ 4 ∷ 128 ∷ []) 15 10 6 0 (100 ∷ 101 ∷ 102 ∷ 103 ∷ 104 ∷ 105 ∷ 106 ∷ 107 ∷ 108 ∷ 109 ∷ 110 ∷ 111 ∷ 112 ∷ 113 ∷ 114 ∷ []) ∷
    -- 11 at the lowest slot that is no i8, before 12
    answered quotients (1 ∷ 2 ∷ 3 ∷ 0 ∷ 128 ∷ 200 ∷ []) 15 11 4 0 (100 ∷ 101 ∷ 102 ∷ 103 ∷ 104 ∷ 105 ∷ 106 ∷ 107 ∷ 108 ∷ 109 ∷ 110 ∷ 111 ∷ 112 ∷ 113 ∷ 114 ∷ []) ∷
    -- 12 at op 1, element 2: inputs and sums stand, zeros from the quotient's first slot to the last needed one
    answered quotients (1 ∷ 2 ∷ 3 ∷ 4 ∷ 5 ∷ 0 ∷ []) 17 12 1 2 (1 ∷ 2 ∷ 3 ∷ 4 ∷ 5 ∷ 0 ∷ 5 ∷ 7 ∷ 3 ∷ 0 ∷ 0 ∷ 0 ∷ 0 ∷ 0 ∷ 0 ∷ 115 ∷ 116 ∷ []) ∷
    -- accepted: inputs, sums, quotients toward zero, the sums' bits turned, and slots past the needed ones
    answered quotients (7 ∷ 18446744073709551609 ∷ 127 ∷ 2 ∷ 2 ∷ 1 ∷ []) 17 0 0 0 (7 ∷ 18446744073709551609 ∷ 127 ∷ 2 ∷ 2 ∷ 1 ∷ 9 ∷ 18446744073709551611 ∷ 18446744073709551488 ∷ 3 ∷ 18446744073709551613 ∷ 127 ∷ 18446744073709551606 ∷ 4 ∷ 127 ∷ 115 ∷ 116 ∷ []) ∷
    []

pub evaluated-pinned : map (λ p. evaluated p.text p.inputs (before p.slots)) evaluated_pins ≡ map (λ p. answer p.refusal p.after) evaluated_pins
unfolding quotients refused_sum evaluated_pins reading said_at concat values_of evaluated fitted ran evaluation_of tensors_of needed_of offset_at size_at input_slots input_of slot_fits first_foreign is_value value_of wrap_to add_of not_of division_of
evaluated-pinned = refl
