-- Verdicts that the other tables of texts leave out.
-- Assumes nothing.
use mathlib.Core.Path.{refl}
use mathlib.Core.List.{List, [], ◌∷◌, ◌++◌}
use Rattle.lists.proofs.AllLaw.{all_append}
use Rattle.optable.specs.Table.{said_at}
use Rattle.start_examples.proofs.Computing.{reading}
use Rattle.verdict_pins.proofs.Pin.{Pin, pin, Right, Pinned, pinned}

-- refusal 8: the C number of 000 where the element types differ
unfoldable pub number_pins : List Pin
number_pins =
    -- broadcast_in_dim: C1
    pin "func.func @m(%m: tensor<2xi8>) {%r = \"stablehlo.broadcast_in_dim\"(%m) {broadcast_dimensions = array<i64: 0>} : (tensor<2xi8>) -> tensor<2xi16> \"func.return\"() : () -> ()}" 8 0 1 ∷
    -- dynamic_slice: C1, and C3 where the starts differ
    pin "func.func @m(%m: tensor<2xi8>, %z: tensor<i8>) {%r = \"stablehlo.dynamic_slice\"(%m, %z) {slice_sizes = array<i64: 1>} : (tensor<2xi8>, tensor<i8>) -> tensor<1xi16> \"func.return\"() : () -> ()}" 8 0 1 ∷
    pin "func.func @m(%m: tensor<2x3xi8>, %z: tensor<i8>, %y: tensor<i16>) {%r = \"stablehlo.dynamic_slice\"(%m, %z, %y) {slice_sizes = array<i64: 1, 1>} : (tensor<2x3xi8>, tensor<i8>, tensor<i16>) -> tensor<1x1xi8> \"func.return\"() : () -> ()}" 8 0 3 ∷
    -- reshape, reverse, slice, transpose: C1
    pin "func.func @m(%m: tensor<2xi8>) {%r = \"stablehlo.reshape\"(%m) : (tensor<2xi8>) -> tensor<2x1xi16> \"func.return\"() : () -> ()}" 8 0 1 ∷
    pin "func.func @m(%m: tensor<2xi8>) {%r = \"stablehlo.reverse\"(%m) {dimensions = array<i64: 0>} : (tensor<2xi8>) -> tensor<2xi16> \"func.return\"() : () -> ()}" 8 0 1 ∷
    pin "func.func @m(%m: tensor<2xi8>) {%r = \"stablehlo.slice\"(%m) {start_indices = array<i64: 0>, limit_indices = array<i64: 2>, strides = array<i64: 1>} : (tensor<2xi8>) -> tensor<2xi16> \"func.return\"() : () -> ()}" 8 0 1 ∷
    pin "func.func @m(%m: tensor<2xi8>) {%r = \"stablehlo.transpose\"(%m) {permutation = array<i64: 0>} : (tensor<2xi8>) -> tensor<2xi16> \"func.return\"() : () -> ()}" 8 0 1 ∷
    []

numbers-pinned : Pinned number_pins
unfolding number_pins reading said_at
numbers-pinned = pinned number_pins refl

-- what reading takes, and refusal 3
unfoldable pub reading_pins : List Pin
reading_pins =
    -- a ninth output type that 01 lacks: 3 before 4
    pin "func.func @m() -> tensor<i8>, tensor<i8>, tensor<i8>, tensor<i8>, tensor<i8>, tensor<i8>, tensor<i8>, tensor<i8>, tensor<f32>" 3 114 0 ∷
    -- an op of a body that 01 lacks
    pin "func.func @m(%a: tensor<2xi8>, %z: tensor<i8>) {%r = \"stablehlo.reduce\"(%a, %z) ({^b(%p: tensor<i8>, %q: tensor<i8>): %s = \"mhlo.or\"(%p, %q)" 3 123 0 ∷
    -- properties and no body
    pin "func.func @m() {%b = \"stablehlo.iota\"() <{iota_dimension = 0 : i64}> : () -> tensor<2xi8> \"func.return\"() : () -> ()}" 0 0 0 ∷
    -- a list of lists with elements
    pin "func.func @m() {%b = \"stablehlo.constant\"() {value = dense<[[1, 2], [3, 4]]> : tensor<2x2xi8>} : () -> tensor<2x2xi8> \"func.return\"() : () -> ()}" 0 0 0 ∷
    -- words of the grammar as the name of an attribute, of a kind of choice, of a choice
    pin "func.func @m() {\"stablehlo.iota\"() {array" 3 36 0 ∷
    pin "func.func @m() {\"stablehlo.iota\"() {dense" 3 36 0 ∷
    pin "func.func @m() {\"stablehlo.iota\"() {true" 3 36 0 ∷
    pin "func.func @m() {\"stablehlo.iota\"() {false" 3 36 0 ∷
    pin "func.func @m() {\"stablehlo.iota\"() {i64" 3 36 0 ∷
    pin "func.func @m() {\"stablehlo.iota\"() {tuple" 3 36 0 ∷
    pin "func.func @m() {\"stablehlo.compare\"() {compare_type = #stablehlo<array" 3 65 0 ∷
    pin "func.func @m() {\"stablehlo.compare\"() {compare_type = #stablehlo<dense" 3 65 0 ∷
    pin "func.func @m() {\"stablehlo.compare\"() {compare_type = #stablehlo<true" 3 65 0 ∷
    pin "func.func @m() {\"stablehlo.compare\"() {compare_type = #stablehlo<i64" 3 65 0 ∷
    pin "func.func @m() {\"stablehlo.compare\"() {compare_type = #stablehlo<token" 3 65 0 ∷
    pin "func.func @m() {\"stablehlo.compare\"() {compare_type = #stablehlo<comparison_type array" 3 81 0 ∷
    pin "func.func @m() {\"stablehlo.compare\"() {compare_type = #stablehlo<comparison_type dense" 3 81 0 ∷
    pin "func.func @m() {\"stablehlo.compare\"() {compare_type = #stablehlo<comparison_type true" 3 81 0 ∷
    pin "func.func @m() {\"stablehlo.compare\"() {compare_type = #stablehlo<comparison_type i64" 3 81 0 ∷
    pin "func.func @m() {\"stablehlo.compare\"() {compare_type = #stablehlo<comparison_type tuple" 3 81 0 ∷
    -- token and tuple as the type of an output, operand, result, argument
    pin "func.func @m() -> token" 3 18 0 ∷
    pin "func.func @m() -> tuple" 3 18 0 ∷
    pin "func.func @m() {\"stablehlo.not\"() : (token" 3 37 0 ∷
    pin "func.func @m() {\"stablehlo.not\"() : (tuple" 3 37 0 ∷
    pin "func.func @m() {\"stablehlo.not\"() : () -> token" 3 42 0 ∷
    pin "func.func @m() {\"stablehlo.not\"() : () -> tuple" 3 42 0 ∷
    pin "func.func @m() {\"stablehlo.reduce\"() ({^b(%p: token" 3 46 0 ∷
    pin "func.func @m() {\"stablehlo.reduce\"() ({^b(%p: tuple" 3 46 0 ∷
    []

readings-pinned : Pinned reading_pins
unfolding reading_pins reading said_at
readings-pinned = pinned reading_pins refl

-- the whole table
unfoldable pub refused_pins : List Pin
refused_pins = number_pins ++ reading_pins

pub refused-pinned : Pinned refused_pins
unfolding refused_pins
refused-pinned = all_append Right number_pins reading_pins numbers-pinned readings-pinned
