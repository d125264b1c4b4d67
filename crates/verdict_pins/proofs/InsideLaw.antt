-- Texts just inside the rules: accepted.
-- Assumes nothing.
use mathlib.Core.Path.{refl}
use mathlib.Core.List.{List, [], ◌∷◌}
use Rattle.optable.specs.Table.{said_at}
use Rattle.start_examples.proofs.Computing.{reading}
use Rattle.verdict_pins.proofs.Pin.{Pin, pin, Pinned, pinned}

unfoldable pub inside_pins : List Pin
inside_pins =
    -- eight inputs
    pin "func.func @m(%0: tensor<i8>, %1: tensor<i8>, %2: tensor<i8>, %3: tensor<i8>, %4: tensor<i8>, %5: tensor<i8>, %6: tensor<i8>, %7: tensor<i8>) -> tensor<i8> {\"func.return\"(%7) : (tensor<i8>) -> ()}" 0 0 0 ∷
    -- convert to another type
    pin "func.func @m(%a: tensor<i8>) {%b = \"stablehlo.convert\"(%a) : (tensor<i8>) -> tensor<ui16> \"func.return\"() : () -> ()}" 0 0 0 ∷
    -- select by a predicate of the full shape, of rank 0
    pin "func.func @m(%a: tensor<2xi1>, %c: tensor<2xi8>) {%r = \"stablehlo.select\"(%a, %c, %c) : (tensor<2xi1>, tensor<2xi8>, tensor<2xi8>) -> tensor<2xi8> \"func.return\"() : () -> ()}" 0 0 0 ∷
    pin "func.func @m(%a: tensor<i1>, %c: tensor<2xi8>) {%r = \"stablehlo.select\"(%a, %c, %c) : (tensor<i1>, tensor<2xi8>, tensor<2xi8>) -> tensor<2xi8> \"func.return\"() : () -> ()}" 0 0 0 ∷
    -- clamp by rank 0
    pin "func.func @m(%a: tensor<i8>, %c: tensor<2xi8>) {%r = \"stablehlo.clamp\"(%a, %c, %a) : (tensor<i8>, tensor<2xi8>, tensor<i8>) -> tensor<2xi8> \"func.return\"() : () -> ()}" 0 0 0 ∷
    -- compare_type absent, SIGNED, UNSIGNED
    pin "func.func @m(%a: tensor<i8>) {%b = \"stablehlo.compare\"(%a, %a) {comparison_direction = #stablehlo<comparison_direction LT>} : (tensor<i8>, tensor<i8>) -> tensor<i1> \"func.return\"() : () -> ()}" 0 0 0 ∷
    pin "func.func @m(%a: tensor<i8>) {%b = \"stablehlo.compare\"(%a, %a) {comparison_direction = #stablehlo<comparison_direction LT>, compare_type = #stablehlo<comparison_type SIGNED>} : (tensor<i8>, tensor<i8>) -> tensor<i1> \"func.return\"() : () -> ()}" 0 0 0 ∷
    pin "func.func @m(%a: tensor<i1>) {%b = \"stablehlo.compare\"(%a, %a) {compare_type = #stablehlo<comparison_type UNSIGNED>, comparison_direction = #stablehlo<comparison_direction LT>} : (tensor<i1>, tensor<i1>) -> tensor<i1> \"func.return\"() : () -> ()}" 0 0 0 ∷
    -- slice from the end; pad that crops; the ceiling
    pin "func.func @m(%m: tensor<2x3xi8>) {%r = \"stablehlo.slice\"(%m) {start_indices = array<i64: 2, 3>, limit_indices = array<i64: 2, 3>, strides = array<i64: 1, 1>} : (tensor<2x3xi8>) -> tensor<0x0xi8> \"func.return\"() : () -> ()}" 0 0 0 ∷
    pin "func.func @m(%m: tensor<2x3xi8>, %z: tensor<i8>) {%r = \"stablehlo.pad\"(%m, %z) {edge_padding_low = array<i64: 0, -1>, edge_padding_high = array<i64: 0, 0>, interior_padding = array<i64: 1, 1>} : (tensor<2x3xi8>, tensor<i8>) -> tensor<3x4xi8> \"func.return\"() : () -> ()}" 0 0 0 ∷
    pin "func.func @m(%m: tensor<2x3xi8>) {%r = \"stablehlo.slice\"(%m) {start_indices = array<i64: 0, 0>, limit_indices = array<i64: 2, 3>, strides = array<i64: 1, 2>} : (tensor<2x3xi8>) -> tensor<2x2xi8> \"func.return\"() : () -> ()}" 0 0 0 ∷
    -- transpose of rank 3: dim(result, d) = dim(operand, permutation[d])
    pin "func.func @m(%a: tensor<2x3x4xi8>) {%r = \"stablehlo.transpose\"(%a) {permutation = array<i64: 1, 2, 0>} : (tensor<2x3x4xi8>) -> tensor<3x4x2xi8> \"func.return\"() : () -> ()}" 0 0 0 ∷
    -- "`[[], []]` for 2x0, `[]` for 0x2"; the lowest and the highest value
    pin "func.func @m() {%b = \"stablehlo.constant\"() {value = dense<[[], []]> : tensor<2x0xi8>} : () -> tensor<2x0xi8> %c = \"stablehlo.constant\"() {value = dense<[]> : tensor<0x2xi8>} : () -> tensor<0x2xi8> %d = \"stablehlo.constant\"() {value = dense<[-128, 127]> : tensor<2xsi8>} : () -> tensor<2xi8> \"func.return\"() : () -> ()}" 0 0 0 ∷
    -- the body either way round
    pin "func.func @m(%a: tensor<2xi8>, %z: tensor<i8>) {%r = \"stablehlo.reduce\"(%a, %z) ({^b(%p: tensor<i8>, %q: tensor<i8>): %s = \"stablehlo.or\"(%q, %p) : (tensor<i8>, tensor<i8>) -> tensor<i8> \"stablehlo.return\"(%s) : (tensor<i8>) -> ()}) {dimensions = array<i64: 0>} : (tensor<2xi8>, tensor<i8>) -> tensor<i8> \"func.return\"() : () -> ()}" 0 0 0 ∷
    -- dynamic_slice of rank 0, with no start
    pin "func.func @m(%a: tensor<i8>) {%r = \"stablehlo.dynamic_slice\"(%a) {slice_sizes = array<i64>} : (tensor<i8>) -> tensor<i8> \"func.return\"() : () -> ()}" 0 0 0 ∷
    []

pub inside-pinned : Pinned inside_pins
unfolding inside_pins reading said_at
inside-pinned = pinned inside_pins refl
