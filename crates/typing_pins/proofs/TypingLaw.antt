-- Refusal 7, each of its reasons (01, "The twelve refusals"), and its place before 8.
-- Assumes nothing.
use mathlib.Core.Path.{refl}
use mathlib.Core.List.{List, [], ◌∷◌, ◌++◌}
use Rattle.lists.proofs.AllLaw.{all_append}
use Rattle.optable.specs.Table.{said_at}
use Rattle.start_examples.proofs.Computing.{reading}
use Rattle.verdict_pins.proofs.Pin.{Pin, pin, Right, Pinned, pinned}

-- operands, results, bodies, written types
unfoldable pub count_pins : List Pin
count_pins =
    -- "a wrong number of operands": one more, one fewer
    pin "func.func @m(%a: tensor<i8>) {%b = \"stablehlo.abs\"(%a, %a) : (tensor<i8>, tensor<i8>) -> tensor<i8> \"func.return\"() : () -> ()}" 7 0 0 ∷
    pin "func.func @m(%a: tensor<i8>) {%b = \"stablehlo.not\"(%a) : (tensor<i8>) -> tensor<i8> %c = \"stablehlo.add\"(%a) : (tensor<i8>) -> tensor<i8> \"func.return\"() : () -> ()}" 7 1 0 ∷
    -- "dynamic_slice: from 1"
    pin "func.func @m() {%b = \"stablehlo.dynamic_slice\"() {slice_sizes = array<i64>} : () -> tensor<i8> \"func.return\"() : () -> ()}" 7 0 0 ∷
    -- "of results (one ..": no name, no type, neither, two
    pin "func.func @m(%a: tensor<i8>) {\"stablehlo.not\"(%a) : (tensor<i8>) -> tensor<i8> \"func.return\"() : () -> ()}" 7 0 0 ∷
    pin "func.func @m(%a: tensor<i8>) {%b = \"stablehlo.not\"(%a) : (tensor<i8>) -> () \"func.return\"() : () -> ()}" 7 0 0 ∷
    pin "func.func @m(%a: tensor<i8>) {\"stablehlo.not\"(%a) : (tensor<i8>) -> () \"func.return\"() : () -> ()}" 7 0 0 ∷
    pin "func.func @m(%a: tensor<i8>) {%b, %c = \"stablehlo.not\"(%a) : (tensor<i8>) -> (tensor<i8>, tensor<i8>) \"func.return\"() : () -> ()}" 7 0 0 ∷
    -- ".. return: none)"
    pin "func.func @m(%a: tensor<i8>) {%b = \"stablehlo.not\"(%a) : (tensor<i8>) -> tensor<i8> %c = \"func.return\"() : () -> ()}" 7 1 0 ∷
    -- "or of bodies": one of an op without, none and two of reduce
    pin "func.func @m(%a: tensor<i8>) {%b = \"stablehlo.not\"(%a) ({^b(): \"stablehlo.return\"() : () -> ()}) : (tensor<i8>) -> tensor<i8> \"func.return\"() : () -> ()}" 7 0 0 ∷
    pin "func.func @m(%a: tensor<2xi8>, %z: tensor<i8>) {%r = \"stablehlo.reduce\"(%a, %z) {dimensions = array<i64: 0>} : (tensor<2xi8>, tensor<i8>) -> tensor<i8> \"func.return\"() : () -> ()}" 7 0 0 ∷
    pin "func.func @m(%a: tensor<2xi8>, %z: tensor<i8>) {%r = \"stablehlo.reduce\"(%a, %z) ({^b(%p: tensor<i8>, %q: tensor<i8>): %s = \"stablehlo.or\"(%p, %q) : (tensor<i8>, tensor<i8>) -> tensor<i8> \"stablehlo.return\"(%s) : (tensor<i8>) -> ()}, {^b(%p: tensor<i8>, %q: tensor<i8>): %s = \"stablehlo.or\"(%p, %q) : (tensor<i8>, tensor<i8>) -> tensor<i8> \"stablehlo.return\"(%s) : (tensor<i8>) -> ()}) {dimensions = array<i64: 0>} : (tensor<2xi8>, tensor<i8>) -> tensor<i8> \"func.return\"() : () -> ()}" 7 0 0 ∷
    -- "a written operand type that isn't that of its definition"; one more than operands
    pin "func.func @m(%a: tensor<i8>) {%b = \"stablehlo.not\"(%a) : (tensor<i8>) -> tensor<i8> %c = \"stablehlo.not\"(%b) : (tensor<ui8>) -> tensor<ui8> \"func.return\"() : () -> ()}" 7 1 0 ∷
    pin "func.func @m(%a: tensor<i8>) {%b = \"stablehlo.not\"(%a) : (tensor<i8>, tensor<i8>) -> tensor<i8> \"func.return\"() : () -> ()}" 7 0 0 ∷
    []

counts-pinned : Pinned count_pins
unfolding count_pins reading said_at
counts-pinned = pinned count_pins refl

-- attributes and dense values
unfoldable pub attribute_pins : List Pin
attribute_pins =
    -- "an attribute missing, doubled, foreign to the op or of the wrong kind"
    pin "func.func @m() {%b = \"stablehlo.iota\"() : () -> tensor<2xi8> \"func.return\"() : () -> ()}" 7 0 0 ∷
    pin "func.func @m() {%b = \"stablehlo.iota\"() {iota_dimension = 0 : i64, iota_dimension = 0 : i64} : () -> tensor<2xi8> \"func.return\"() : () -> ()}" 7 0 0 ∷
    pin "func.func @m() {%b = \"stablehlo.iota\"() {iota_dimension = 0 : i64, dimension = 0 : i64} : () -> tensor<2xi8> \"func.return\"() : () -> ()}" 7 0 0 ∷
    pin "func.func @m() {%b = \"stablehlo.iota\"() {iota_dimension = array<i64: 0>} : () -> tensor<2xi8> \"func.return\"() : () -> ()}" 7 0 0 ∷
    -- a choice of the other kind
    pin "func.func @m(%a: tensor<i8>) {%b = \"stablehlo.not\"(%a) : (tensor<i8>) -> tensor<i8> %c = \"stablehlo.compare\"(%a, %b) {comparison_direction = #stablehlo<comparison_direction LT>, compare_type = #stablehlo<comparison_type LT>} : (tensor<i8>, tensor<i8>) -> tensor<i1> \"func.return\"() : () -> ()}" 7 1 0 ∷
    pin "func.func @m(%a: tensor<i8>) {%b = \"stablehlo.not\"(%a) : (tensor<i8>) -> tensor<i8> %c = \"stablehlo.compare\"(%a, %b) {comparison_direction = #stablehlo<comparison_direction SIGNED>} : (tensor<i8>, tensor<i8>) -> tensor<i1> \"func.return\"() : () -> ()}" 7 1 0 ∷
    pin "func.func @m(%a: tensor<i8>) {%c = \"stablehlo.compare\"(%a, %a) {comparison_direction = #stablehlo<comparison_type LT>} : (tensor<i8>, tensor<i8>) -> tensor<i1> \"func.return\"() : () -> ()}" 7 0 0 ∷
    -- "a dense value of other sizes, kind or range than its type"
    pin "func.func @m() {%b = \"stablehlo.constant\"() {value = dense<[1, 2, 3]> : tensor<2xi8>} : () -> tensor<2xi8> \"func.return\"() : () -> ()}" 7 0 0 ∷
    pin "func.func @m() {%b = \"stablehlo.constant\"() {value = dense<true> : tensor<i8>} : () -> tensor<i8> \"func.return\"() : () -> ()}" 7 0 0 ∷
    pin "func.func @m() {%b = \"stablehlo.constant\"() {value = dense<128> : tensor<i8>} : () -> tensor<i8> \"func.return\"() : () -> ()}" 7 0 0 ∷
    pin "func.func @m() {%b = \"stablehlo.constant\"() {value = dense<-129> : tensor<i8>} : () -> tensor<i8> \"func.return\"() : () -> ()}" 7 0 0 ∷
    []

attributes-pinned : Pinned attribute_pins
unfolding attribute_pins reading said_at
attributes-pinned = pinned attribute_pins refl

-- tables, bodies, the return; 7 and 8
unfoldable pub form_pins : List Pin
form_pins =
    -- "an element type or rank that the op's Inputs or Outputs table in 000 doesn't take"
    pin "func.func @m(%a: tensor<ui8>) {%b = \"stablehlo.abs\"(%a) : (tensor<ui8>) -> tensor<ui8> \"func.return\"() : () -> ()}" 7 0 0 ∷
    pin "func.func @m(%a: tensor<i1>) {%b = \"stablehlo.negate\"(%a) : (tensor<i1>) -> tensor<i1> \"func.return\"() : () -> ()}" 7 0 0 ∷
    pin "func.func @m(%a: tensor<i8>) {%b = \"stablehlo.compare\"(%a, %a) {comparison_direction = #stablehlo<comparison_direction LT>} : (tensor<i8>, tensor<i8>) -> tensor<i8> \"func.return\"() : () -> ()}" 7 0 0 ∷
    pin "func.func @m(%a: tensor<i8>) {%b = \"stablehlo.select\"(%a, %a, %a) : (tensor<i8>, tensor<i8>, tensor<i8>) -> tensor<i8> \"func.return\"() : () -> ()}" 7 0 0 ∷
    pin "func.func @m(%a: tensor<1xi8>) {%b = \"stablehlo.pad\"(%a, %a) {edge_padding_low = array<i64: 0>, edge_padding_high = array<i64: 0>, interior_padding = array<i64: 0>} : (tensor<1xi8>, tensor<1xi8>) -> tensor<1xi8> \"func.return\"() : () -> ()}" 7 0 0 ∷
    -- "a reduction body faulty inside or not of the form": subtract; one argument twice; an argument returned; 8 inside
    pin "func.func @m(%a: tensor<2xi8>, %z: tensor<i8>) {%r = \"stablehlo.reduce\"(%a, %z) ({^b(%p: tensor<i8>, %q: tensor<i8>): %s = \"stablehlo.subtract\"(%p, %q) : (tensor<i8>, tensor<i8>) -> tensor<i8> \"stablehlo.return\"(%s) : (tensor<i8>) -> ()}) {dimensions = array<i64: 0>} : (tensor<2xi8>, tensor<i8>) -> tensor<i8> \"func.return\"() : () -> ()}" 7 0 0 ∷
    pin "func.func @m(%a: tensor<2xi8>, %z: tensor<i8>) {%r = \"stablehlo.reduce\"(%a, %z) ({^b(%p: tensor<i8>, %q: tensor<i8>): %s = \"stablehlo.or\"(%p, %p) : (tensor<i8>, tensor<i8>) -> tensor<i8> \"stablehlo.return\"(%s) : (tensor<i8>) -> ()}) {dimensions = array<i64: 0>} : (tensor<2xi8>, tensor<i8>) -> tensor<i8> \"func.return\"() : () -> ()}" 7 0 0 ∷
    pin "func.func @m(%a: tensor<2xi8>, %z: tensor<i8>) {%r = \"stablehlo.reduce\"(%a, %z) ({^b(%p: tensor<i8>, %q: tensor<i8>): %s = \"stablehlo.or\"(%p, %q) : (tensor<i8>, tensor<i8>) -> tensor<i8> \"stablehlo.return\"(%p) : (tensor<i8>) -> ()}) {dimensions = array<i64: 0>} : (tensor<2xi8>, tensor<i8>) -> tensor<i8> \"func.return\"() : () -> ()}" 7 0 0 ∷
    pin "func.func @m(%a: tensor<2xi8>, %z: tensor<i8>) {%r = \"stablehlo.reduce\"(%a, %z) ({^b(%p: tensor<i8>, %q: tensor<i8>): %s = \"stablehlo.or\"(%p, %q) : (tensor<i8>, tensor<i8>) -> tensor<2xi8> \"stablehlo.return\"(%s) : (tensor<2xi8>) -> ()}) {dimensions = array<i64: 0>} : (tensor<2xi8>, tensor<i8>) -> tensor<i8> \"func.return\"() : () -> ()}" 7 0 0 ∷
    -- "return types that aren't the header's": another, the header's but not the value's, fewer, more
    pin "func.func @m(%a: tensor<i8>) -> tensor<ui8> {%b = \"stablehlo.not\"(%a) : (tensor<i8>) -> tensor<i8> \"func.return\"(%b) : (tensor<i8>) -> ()}" 7 1 0 ∷
    pin "func.func @m(%a: tensor<i8>) -> tensor<ui8> {%b = \"stablehlo.not\"(%a) : (tensor<i8>) -> tensor<i8> \"func.return\"(%b) : (tensor<ui8>) -> ()}" 7 1 0 ∷
    pin "func.func @m(%a: tensor<i8>) -> tensor<i8> {%b = \"stablehlo.not\"(%a) : (tensor<i8>) -> tensor<i8> \"func.return\"() : () -> ()}" 7 1 0 ∷
    pin "func.func @m(%a: tensor<i8>) {%b = \"stablehlo.not\"(%a) : (tensor<i8>) -> tensor<i8> \"func.return\"(%b) : (tensor<i8>) -> ()}" 7 1 0 ∷
    -- an attribute of the return
    pin "func.func @m(%a: tensor<i8>) {%b = \"stablehlo.not\"(%a) : (tensor<i8>) -> tensor<i8> \"func.return\"() {dimension = 0 : i64} : () -> ()}" 7 1 0 ∷
    -- "7, 8": abs of i8 to 2xui8 breaks C1 too
    pin "func.func @m(%a: tensor<i8>) {%b = \"stablehlo.not\"(%a) : (tensor<i8>) -> tensor<i8> %c = \"stablehlo.abs\"(%b) : (tensor<i8>) -> tensor<2xui8> \"func.return\"() : () -> ()}" 7 1 0 ∷
    -- 8 at op 0 before 7 at op 1
    pin "func.func @m(%a: tensor<i8>) {%b = \"stablehlo.not\"(%a) : (tensor<i8>) -> tensor<i16> %c = \"stablehlo.not\"() : () -> tensor<i8> \"func.return\"() : () -> ()}" 8 0 1 ∷
    []

forms-pinned : Pinned form_pins
unfolding form_pins reading said_at
forms-pinned = pinned form_pins refl

-- the whole table
unfoldable pub typing_pins : List Pin
typing_pins = count_pins ++ (attribute_pins ++ form_pins)

pub typing-pinned : Pinned typing_pins
unfolding typing_pins
typing-pinned = all_append Right count_pins (attribute_pins ++ form_pins) counts-pinned (all_append Right attribute_pins form_pins attributes-pinned forms-pinned)
