-- Refusal 8 with its op and its C number in 000.
-- Assumes nothing.
use mathlib.Core.Path.{refl}
use mathlib.Core.List.{List, [], ◌∷◌, ◌++◌}
use Rattle.lists.proofs.AllLaw.{all_append}
use Rattle.optable.specs.Table.{said_at}
use Rattle.start_examples.proofs.Computing.{reading}
use Rattle.verdict_pins.proofs.Pin.{Pin, pin, Right, Pinned, pinned}

-- element by element
unfoldable pub element_pins : List Pin
element_pins =
    -- abs: shape, element type; both: "the lowest C number first"
    pin "func.func @m(%m: tensor<2x3xi8>) {%r = \"stablehlo.abs\"(%m) : (tensor<2x3xi8>) -> tensor<2xi8> \"func.return\"() : () -> ()}" 8 0 1 ∷
    pin "func.func @m(%a: tensor<2x3xi8>) {%m = \"stablehlo.not\"(%a) : (tensor<2x3xi8>) -> tensor<2x3xi8> %r = \"stablehlo.abs\"(%m) : (tensor<2x3xi8>) -> tensor<2x3xi16> \"func.return\"() : () -> ()}" 8 1 2 ∷
    pin "func.func @m(%m: tensor<2x3xi8>) {%r = \"stablehlo.abs\"(%m) : (tensor<2x3xi8>) -> tensor<2xi16> \"func.return\"() : () -> ()}" 8 0 1 ∷
    -- compare: element types, shapes, compare_type
    pin "func.func @m(%a: tensor<i8>, %c: tensor<ui8>) {%r = \"stablehlo.compare\"(%a, %c) {comparison_direction = #stablehlo<comparison_direction LT>} : (tensor<i8>, tensor<ui8>) -> tensor<i1> \"func.return\"() : () -> ()}" 8 0 1 ∷
    pin "func.func @m(%a: tensor<i8>) {%r = \"stablehlo.compare\"(%a, %a) {comparison_direction = #stablehlo<comparison_direction LT>} : (tensor<i8>, tensor<i8>) -> tensor<1xi1> \"func.return\"() : () -> ()}" 8 0 2 ∷
    pin "func.func @m(%a: tensor<i8>) {%b = \"stablehlo.not\"(%a) : (tensor<i8>) -> tensor<i8> %r = \"stablehlo.compare\"(%a, %b) {comparison_direction = #stablehlo<comparison_direction LT>, compare_type = #stablehlo<comparison_type UNSIGNED>} : (tensor<i8>, tensor<i8>) -> tensor<i1> \"func.return\"() : () -> ()}" 8 1 3 ∷
    -- select: pred, then the types
    pin "func.func @m(%a: tensor<2xi1>, %c: tensor<3xi8>) {%r = \"stablehlo.select\"(%a, %c, %c) : (tensor<2xi1>, tensor<3xi8>, tensor<3xi8>) -> tensor<3xi8> \"func.return\"() : () -> ()}" 8 0 1 ∷
    pin "func.func @m(%a: tensor<i1>, %c: tensor<3xi8>) {%r = \"stablehlo.select\"(%a, %c, %c) : (tensor<i1>, tensor<3xi8>, tensor<3xi8>) -> tensor<2xi8> \"func.return\"() : () -> ()}" 8 0 2 ∷
    -- clamp: min, max, element types, result
    pin "func.func @m(%m: tensor<2x3xi8>, %w: tensor<2xi8>) {%r = \"stablehlo.clamp\"(%w, %m, %m) : (tensor<2xi8>, tensor<2x3xi8>, tensor<2x3xi8>) -> tensor<2x3xi8> \"func.return\"() : () -> ()}" 8 0 1 ∷
    pin "func.func @m(%m: tensor<2x3xi8>, %w: tensor<2xi8>) {%r = \"stablehlo.clamp\"(%m, %m, %w) : (tensor<2x3xi8>, tensor<2x3xi8>, tensor<2xi8>) -> tensor<2x3xi8> \"func.return\"() : () -> ()}" 8 0 2 ∷
    pin "func.func @m(%m: tensor<2x3xi8>, %w: tensor<i16>) {%r = \"stablehlo.clamp\"(%m, %m, %w) : (tensor<2x3xi8>, tensor<2x3xi8>, tensor<i16>) -> tensor<2x3xi8> \"func.return\"() : () -> ()}" 8 0 3 ∷
    pin "func.func @m(%m: tensor<2x3xi8>) {%r = \"stablehlo.clamp\"(%m, %m, %m) : (tensor<2x3xi8>, tensor<2x3xi8>, tensor<2x3xi8>) -> tensor<2x3xi16> \"func.return\"() : () -> ()}" 8 0 4 ∷
    []

elements-pinned : Pinned element_pins
unfolding element_pins reading said_at
elements-pinned = pinned element_pins refl

-- shape by shape
unfoldable pub shape_pins : List Pin
shape_pins =
    -- slice: "slice start 3, limit 2: refusal 8, B 3"; the list's length, a stride of 0, the result
    pin "func.func @m(%a: tensor<2x3xi8>) {%m = \"stablehlo.not\"(%a) : (tensor<2x3xi8>) -> tensor<2x3xi8> %r = \"stablehlo.slice\"(%m) {start_indices = array<i64: 0, 3>, limit_indices = array<i64: 2, 2>, strides = array<i64: 1, 1>} : (tensor<2x3xi8>) -> tensor<2x0xi8> \"func.return\"() : () -> ()}" 8 1 3 ∷
    pin "func.func @m(%m: tensor<2x3xi8>) {%r = \"stablehlo.slice\"(%m) {start_indices = array<i64: 0>, limit_indices = array<i64: 2, 3>, strides = array<i64: 1, 1>} : (tensor<2x3xi8>) -> tensor<2x3xi8> \"func.return\"() : () -> ()}" 8 0 2 ∷
    pin "func.func @m(%m: tensor<2x3xi8>) {%r = \"stablehlo.slice\"(%m) {start_indices = array<i64: 0, 0>, limit_indices = array<i64: 2, 3>, strides = array<i64: 1, 0>} : (tensor<2x3xi8>) -> tensor<2x3xi8> \"func.return\"() : () -> ()}" 8 0 4 ∷
    pin "func.func @m(%m: tensor<2x3xi8>) {%r = \"stablehlo.slice\"(%m) {start_indices = array<i64: 0, 0>, limit_indices = array<i64: 2, 3>, strides = array<i64: 1, 2>} : (tensor<2x3xi8>) -> tensor<2x1xi8> \"func.return\"() : () -> ()}" 8 0 5 ∷
    -- pad: lists, interior, result
    pin "func.func @m(%m: tensor<2x3xi8>, %z: tensor<i8>) {%r = \"stablehlo.pad\"(%m, %z) {edge_padding_low = array<i64: 0>, edge_padding_high = array<i64: 0, 0>, interior_padding = array<i64: 0, 0>} : (tensor<2x3xi8>, tensor<i8>) -> tensor<2x3xi8> \"func.return\"() : () -> ()}" 8 0 2 ∷
    pin "func.func @m(%m: tensor<2x3xi8>, %z: tensor<i8>) {%r = \"stablehlo.pad\"(%m, %z) {edge_padding_low = array<i64: 0, 0>, edge_padding_high = array<i64: 0, 0>, interior_padding = array<i64: 0, -1>} : (tensor<2x3xi8>, tensor<i8>) -> tensor<2x3xi8> \"func.return\"() : () -> ()}" 8 0 3 ∷
    pin "func.func @m(%a: tensor<2x3xi8>, %z: tensor<i8>) {%m = \"stablehlo.not\"(%a) : (tensor<2x3xi8>) -> tensor<2x3xi8> %r = \"stablehlo.pad\"(%m, %z) {edge_padding_low = array<i64: 0, 1>, edge_padding_high = array<i64: 0, 1>, interior_padding = array<i64: 0, 1>} : (tensor<2x3xi8>, tensor<i8>) -> tensor<2x6xi8> \"func.return\"() : () -> ()}" 8 1 4 ∷
    -- transpose: not a permutation; the result of the inverse
    pin "func.func @m(%m: tensor<2x3xi8>) {%r = \"stablehlo.transpose\"(%m) {permutation = array<i64: 0, 0>} : (tensor<2x3xi8>) -> tensor<2x2xi8> \"func.return\"() : () -> ()}" 8 0 2 ∷
    pin "func.func @m(%a: tensor<2x3xi8>) {%m = \"stablehlo.not\"(%a) : (tensor<2x3xi8>) -> tensor<2x3xi8> %r = \"stablehlo.transpose\"(%m) {permutation = array<i64: 1, 0>} : (tensor<2x3xi8>) -> tensor<2x3xi8> \"func.return\"() : () -> ()}" 8 1 3 ∷
    -- concatenate: "none breaks C3"; dimension, result
    pin "func.func @m() {%r = \"stablehlo.concatenate\"() {dimension = 0 : i64} : () -> tensor<i8> \"func.return\"() : () -> ()}" 8 0 3 ∷
    pin "func.func @m(%a: tensor<2x3xi8>) {%m = \"stablehlo.not\"(%a) : (tensor<2x3xi8>) -> tensor<2x3xi8> %r = \"stablehlo.concatenate\"(%m, %m) {dimension = 0 : i64} : (tensor<2x3xi8>, tensor<2x3xi8>) -> tensor<2x6xi8> \"func.return\"() : () -> ()}" 8 1 6 ∷
    -- broadcast_in_dim, reshape, reverse, iota, convert, constant
    pin "func.func @m(%m: tensor<2x3xi8>) {%r = \"stablehlo.broadcast_in_dim\"(%m) {broadcast_dimensions = array<i64: 0, 1>} : (tensor<2x3xi8>) -> tensor<2x4xi8> \"func.return\"() : () -> ()}" 8 0 5 ∷
    pin "func.func @m(%m: tensor<2x3xi8>) {%r = \"stablehlo.reshape\"(%m) : (tensor<2x3xi8>) -> tensor<5xi8> \"func.return\"() : () -> ()}" 8 0 2 ∷
    pin "func.func @m(%m: tensor<2x3xi8>) {%r = \"stablehlo.reverse\"(%m) {dimensions = array<i64: 1, 1>} : (tensor<2x3xi8>) -> tensor<2x3xi8> \"func.return\"() : () -> ()}" 8 0 2 ∷
    pin "func.func @m(%m: tensor<2x3xi8>) {%r = \"stablehlo.iota\"() {iota_dimension = 2 : i64} : () -> tensor<2x3xi8> \"func.return\"() : () -> ()}" 8 0 1 ∷
    pin "func.func @m(%m: tensor<2x3xi8>) {%r = \"stablehlo.convert\"(%m) : (tensor<2x3xi8>) -> tensor<3x2xi8> \"func.return\"() : () -> ()}" 8 0 1 ∷
    pin "func.func @m(%m: tensor<2x3xi8>) {%r = \"stablehlo.constant\"() {value = dense<1> : tensor<i8>} : () -> tensor<i16> \"func.return\"() : () -> ()}" 8 0 1 ∷
    -- dynamic_slice: starts, sizes
    pin "func.func @m(%m: tensor<2x3xi8>, %z: tensor<i8>) {%r = \"stablehlo.dynamic_slice\"(%m, %z) {slice_sizes = array<i64: 1, 1>} : (tensor<2x3xi8>, tensor<i8>) -> tensor<1x1xi8> \"func.return\"() : () -> ()}" 8 0 2 ∷
    pin "func.func @m(%m: tensor<2x3xi8>, %z: tensor<i8>) {%r = \"stablehlo.dynamic_slice\"(%m, %z, %z) {slice_sizes = array<i64: 1, 4>} : (tensor<2x3xi8>, tensor<i8>, tensor<i8>) -> tensor<1x4xi8> \"func.return\"() : () -> ()}" 8 0 4 ∷
    []

shapes-pinned : Pinned shape_pins
unfolding shape_pins reading said_at
shapes-pinned = pinned shape_pins refl

-- reductions
unfoldable pub reduction_pins : List Pin
reduction_pins =
    -- reduce: "a start that differs breaks C2, body arguments C6, a result C8"
    pin "func.func @m(%a: tensor<2xi8>, %z: tensor<i16>) {%r = \"stablehlo.reduce\"(%a, %z) ({^b(%p: tensor<i8>, %q: tensor<i8>): %s = \"stablehlo.or\"(%p, %q) : (tensor<i8>, tensor<i8>) -> tensor<i8> \"stablehlo.return\"(%s) : (tensor<i8>) -> ()}) {dimensions = array<i64: 0>} : (tensor<2xi8>, tensor<i16>) -> tensor<i8> \"func.return\"() : () -> ()}" 8 0 2 ∷
    pin "func.func @m(%a: tensor<2xi8>, %z: tensor<i8>) {%r = \"stablehlo.reduce\"(%a, %z) ({^b(%p: tensor<i16>, %q: tensor<i16>): %s = \"stablehlo.or\"(%p, %q) : (tensor<i16>, tensor<i16>) -> tensor<i16> \"stablehlo.return\"(%s) : (tensor<i16>) -> ()}) {dimensions = array<i64: 0>} : (tensor<2xi8>, tensor<i8>) -> tensor<i8> \"func.return\"() : () -> ()}" 8 0 6 ∷
    pin "func.func @m(%a: tensor<2xi8>, %c: tensor<i8>) {%z = \"stablehlo.not\"(%c) : (tensor<i8>) -> tensor<i8> %r = \"stablehlo.reduce\"(%a, %z) ({^b(%p: tensor<i8>, %q: tensor<i8>): %s = \"stablehlo.or\"(%p, %q) : (tensor<i8>, tensor<i8>) -> tensor<i8> \"stablehlo.return\"(%s) : (tensor<i8>) -> ()}) {dimensions = array<i64: 0>} : (tensor<2xi8>, tensor<i8>) -> tensor<i16> \"func.return\"() : () -> ()}" 8 1 8 ∷
    []

reductions-pinned : Pinned reduction_pins
unfolding reduction_pins reading said_at
reductions-pinned = pinned reduction_pins refl

-- the whole table
unfoldable pub constraint_pins : List Pin
constraint_pins = element_pins ++ (shape_pins ++ reduction_pins)

pub constraints-pinned : Pinned constraint_pins
unfolding constraint_pins
constraints-pinned = all_append Right element_pins (shape_pins ++ reduction_pins) elements-pinned (all_append Right shape_pins reduction_pins shapes-pinned reductions-pinned)
