-- Short texts, evaluated: which attribute, operand and element each op takes, by every slot of the store afterwards.
-- Assumes nothing.
use mathlib.Core.Path.{◌≡◌, refl}
use mathlib.Core.List.{List, [], ◌∷◌, map}
use Prim.Native.Nat.{ℕ}
use lib.ListN.{length}
use Rattle.lists.specs.Lists.{concat}
use Rattle.element.specs.Types.{value_of, wrap_to, is_value}
use Rattle.scalar.specs.Ops.{iota_of, convert_of, lt_of, compare_of, maximum_of, minimum_of, clamp_of, select_of}
use Rattle.run.specs.Tree.{count_from}
use Rattle.scan.specs.Ascii.{ascii}
use Rattle.optable.specs.Table.{said_at}
use Rattle.judge.specs.Judge.{accepted}
use Rattle.values.specs.Values.{values_of}
use Rattle.offsets.specs.Offsets.{size_at, offset_at, needed_of}
use Rattle.inputs.specs.Inputs.{input_slots, input_of, slot_fits, first_foreign}
use Rattle.evaluation.specs.Evaluated.{tensors_of, evaluation_of, answer, ran, fitted, evaluated}
use Rattle.start_examples.proofs.Computing.{reading}

-- iota along dimension 1; reverse along dimension 1
unfoldable pub counted_text : List ℕ
counted_text = ascii "func.func @m() {%i = \"stablehlo.iota\"() {iota_dimension = 1 : i64} : () -> tensor<2x3xi8> %v = \"stablehlo.reverse\"(%i) {dimensions = array<i64: 1>} : (tensor<2x3xi8>) -> tensor<2x3xi8> \"func.return\"() : () -> ()}"

-- transpose, reshape
unfoldable pub transposed_text : List ℕ
transposed_text = ascii "func.func @m(%a: tensor<2x3xi8>) {%t = \"stablehlo.transpose\"(%a) {permutation = array<i64: 1, 0>} : (tensor<2x3xi8>) -> tensor<3x2xi8> %s = \"stablehlo.reshape\"(%t) : (tensor<3x2xi8>) -> tensor<6xi8> \"func.return\"() : () -> ()}"

-- concatenate along dimension 1, operands of two shapes
unfoldable pub joined_text : List ℕ
joined_text = ascii "func.func @m(%a: tensor<2x1xi8>, %b: tensor<2x2xi8>) {%k = \"stablehlo.concatenate\"(%a, %b) {dimension = 1 : i64} : (tensor<2x1xi8>, tensor<2x2xi8>) -> tensor<2x3xi8> \"func.return\"() : () -> ()}"

-- compare of i8: -1 is less than 2; select by the result
unfoldable pub compared_text : List ℕ
compared_text = ascii "func.func @m(%n: tensor<3xi8>, %i: tensor<3xi8>) {%c = \"stablehlo.compare\"(%n, %i) {comparison_direction = #stablehlo<comparison_direction LT>} : (tensor<3xi8>, tensor<3xi8>) -> tensor<3xi1> %e = \"stablehlo.select\"(%c, %i, %n) : (tensor<3xi1>, tensor<3xi8>, tensor<3xi8>) -> tensor<3xi8> \"func.return\"() : () -> ()}"

-- broadcast_in_dim into dimension 1; convert to ui8
unfoldable pub broadcast_text : List ℕ
broadcast_text = ascii "func.func @m(%n: tensor<3xi8>) {%b = \"stablehlo.broadcast_in_dim\"(%n) {broadcast_dimensions = array<i64: 1>} : (tensor<3xi8>) -> tensor<2x3xi8> %w = \"stablehlo.convert\"(%n) : (tensor<3xi8>) -> tensor<3xui8> \"func.return\"() : () -> ()}"

-- clamp by a min, by a max of rank 0
unfoldable pub spread_text : List ℕ
spread_text = ascii "func.func @m(%o: tensor<i8>, %n: tensor<3xi8>, %i: tensor<3xi8>) {%l = \"stablehlo.clamp\"(%o, %n, %i) : (tensor<i8>, tensor<3xi8>, tensor<3xi8>) -> tensor<3xi8> %h = \"stablehlo.clamp\"(%i, %n, %o) : (tensor<3xi8>, tensor<3xi8>, tensor<i8>) -> tensor<3xi8> \"func.return\"() : () -> ()}"

-- select by a predicate of rank 0
unfoldable pub chosen_text : List ℕ
chosen_text = ascii "func.func @m(%y: tensor<i1>, %n: tensor<3xi8>, %i: tensor<3xi8>) {%d = \"stablehlo.select\"(%y, %n, %i) : (tensor<i1>, tensor<3xi8>, tensor<3xi8>) -> tensor<3xi8> \"func.return\"() : () -> ()}"

-- a text, its inputs, and the store afterwards
pub record WayPin : Type 0 where
  pub text : List ℕ
  pub inputs : List ℕ
  pub after : List ℕ

abbrev way_pin : List ℕ → List ℕ → List ℕ → WayPin
way_pin text inputs after = record { text = text; inputs = inputs; after = after }

unfoldable pub way_pins : List WayPin
way_pins =
    way_pin counted_text [] (0 ∷ 1 ∷ 2 ∷ 0 ∷ 1 ∷ 2 ∷ 2 ∷ 1 ∷ 0 ∷ 2 ∷ 1 ∷ 0 ∷ []) ∷
    way_pin transposed_text (1 ∷ 2 ∷ 3 ∷ 4 ∷ 5 ∷ 6 ∷ []) (1 ∷ 2 ∷ 3 ∷ 4 ∷ 5 ∷ 6 ∷ 1 ∷ 4 ∷ 2 ∷ 5 ∷ 3 ∷ 6 ∷ 1 ∷ 4 ∷ 2 ∷ 5 ∷ 3 ∷ 6 ∷ []) ∷
    way_pin joined_text (5 ∷ 6 ∷ 1 ∷ 2 ∷ 3 ∷ 4 ∷ []) (5 ∷ 6 ∷ 1 ∷ 2 ∷ 3 ∷ 4 ∷ 5 ∷ 1 ∷ 2 ∷ 6 ∷ 3 ∷ 4 ∷ []) ∷
    way_pin compared_text (2 ∷ 3 ∷ 18446744073709551615 ∷ 0 ∷ 1 ∷ 2 ∷ []) (2 ∷ 3 ∷ 18446744073709551615 ∷ 0 ∷ 1 ∷ 2 ∷ 0 ∷ 0 ∷ 1 ∷ 2 ∷ 3 ∷ 2 ∷ []) ∷
    way_pin broadcast_text (2 ∷ 3 ∷ 18446744073709551615 ∷ []) (2 ∷ 3 ∷ 18446744073709551615 ∷ 2 ∷ 3 ∷ 18446744073709551615 ∷ 2 ∷ 3 ∷ 18446744073709551615 ∷ 2 ∷ 3 ∷ 255 ∷ []) ∷
    way_pin spread_text (1 ∷ 2 ∷ 3 ∷ 18446744073709551615 ∷ 0 ∷ 1 ∷ 2 ∷ []) (1 ∷ 2 ∷ 3 ∷ 18446744073709551615 ∷ 0 ∷ 1 ∷ 2 ∷ 0 ∷ 1 ∷ 1 ∷ 1 ∷ 1 ∷ 1 ∷ []) ∷
    way_pin chosen_text (1 ∷ 2 ∷ 3 ∷ 18446744073709551615 ∷ 0 ∷ 1 ∷ 2 ∷ []) (1 ∷ 2 ∷ 3 ∷ 18446744073709551615 ∷ 0 ∷ 1 ∷ 2 ∷ 2 ∷ 3 ∷ 18446744073709551615 ∷ []) ∷
    []

-- the store before: as many slots, slot k holds 100 + k
pub ways-pinned : map (λ p. evaluated p.text p.inputs (count_from 100 (length p.after))) way_pins ≡ map (λ p. answer accepted p.after) way_pins
unfolding counted_text transposed_text joined_text compared_text broadcast_text spread_text chosen_text way_pins reading said_at concat values_of evaluated fitted ran evaluation_of tensors_of needed_of offset_at size_at input_slots input_of slot_fits first_foreign is_value value_of wrap_to iota_of convert_of lt_of compare_of maximum_of minimum_of clamp_of select_of
ways-pinned = refl
