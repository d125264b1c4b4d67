-- Reduction bodies that are not of the form: refusal 7 at the reduce (01, "The twelve refusals", "Reductions").
-- Assumes nothing.
use mathlib.Core.Path.{refl}
use mathlib.Core.List.{List, [], ◌∷◌}
use Rattle.optable.specs.Table.{said_at}
use Rattle.start_examples.proofs.Computing.{reading}
use Rattle.verdict_pins.proofs.Pin.{Pin, pin, Pinned, pinned}

-- "a reduction body faulty inside or not of the form": 7
unfoldable pub body_pins : List Pin
body_pins =
    -- one argument, three, of two types
    pin "func.func @m(%a: tensor<2xi8>, %z: tensor<i8>) {%r = \"stablehlo.reduce\"(%a, %z) ({^b(%p: tensor<i8>): %s = \"stablehlo.or\"(%p, %p) : (tensor<i8>, tensor<i8>) -> tensor<i8> \"stablehlo.return\"(%s) : (tensor<i8>) -> ()}) {dimensions = array<i64: 0>} : (tensor<2xi8>, tensor<i8>) -> tensor<i8> \"func.return\"() : () -> ()}" 7 0 0 ∷
    pin "func.func @m(%a: tensor<2xi8>, %z: tensor<i8>) {%r = \"stablehlo.reduce\"(%a, %z) ({^b(%p: tensor<i8>, %q: tensor<i8>, %t: tensor<i8>): %s = \"stablehlo.or\"(%p, %q) : (tensor<i8>, tensor<i8>) -> tensor<i8> \"stablehlo.return\"(%s) : (tensor<i8>) -> ()}) {dimensions = array<i64: 0>} : (tensor<2xi8>, tensor<i8>) -> tensor<i8> \"func.return\"() : () -> ()}" 7 0 0 ∷
    pin "func.func @m(%a: tensor<2xi8>, %z: tensor<i8>) {%r = \"stablehlo.reduce\"(%a, %z) ({^b(%p: tensor<i8>, %q: tensor<i16>): %s = \"stablehlo.or\"(%p, %q) : (tensor<i8>, tensor<i16>) -> tensor<i8> \"stablehlo.return\"(%s) : (tensor<i8>) -> ()}) {dimensions = array<i64: 0>} : (tensor<2xi8>, tensor<i8>) -> tensor<i8> \"func.return\"() : () -> ()}" 7 0 0 ∷
    -- no op, two ops
    pin "func.func @m(%a: tensor<2xi8>, %z: tensor<i8>) {%r = \"stablehlo.reduce\"(%a, %z) ({^b(%p: tensor<i8>, %q: tensor<i8>): \"stablehlo.return\"(%p) : (tensor<i8>) -> ()}) {dimensions = array<i64: 0>} : (tensor<2xi8>, tensor<i8>) -> tensor<i8> \"func.return\"() : () -> ()}" 7 0 0 ∷
    pin "func.func @m(%a: tensor<2xi8>, %z: tensor<i8>) {%r = \"stablehlo.reduce\"(%a, %z) ({^b(%p: tensor<i8>, %q: tensor<i8>): %s = \"stablehlo.or\"(%p, %q) : (tensor<i8>, tensor<i8>) -> tensor<i8> %t = \"stablehlo.or\"(%p, %q) : (tensor<i8>, tensor<i8>) -> tensor<i8> \"stablehlo.return\"(%s) : (tensor<i8>) -> ()}) {dimensions = array<i64: 0>} : (tensor<2xi8>, tensor<i8>) -> tensor<i8> \"func.return\"() : () -> ()}" 7 0 0 ∷
    -- an attribute, a body of its op
    pin "func.func @m(%a: tensor<2xi8>, %z: tensor<i8>) {%r = \"stablehlo.reduce\"(%a, %z) ({^b(%p: tensor<i8>, %q: tensor<i8>): %s = \"stablehlo.or\"(%p, %q) {dimension = 0 : i64} : (tensor<i8>, tensor<i8>) -> tensor<i8> \"stablehlo.return\"(%s) : (tensor<i8>) -> ()}) {dimensions = array<i64: 0>} : (tensor<2xi8>, tensor<i8>) -> tensor<i8> \"func.return\"() : () -> ()}" 7 0 0 ∷
    pin "func.func @m(%a: tensor<2xi8>, %z: tensor<i8>) {%r = \"stablehlo.reduce\"(%a, %z) ({^b(%p: tensor<i8>, %q: tensor<i8>): %s = \"stablehlo.or\"(%p, %q) ({^c(): \"stablehlo.return\"() : () -> ()}) : (tensor<i8>, tensor<i8>) -> tensor<i8> \"stablehlo.return\"(%s) : (tensor<i8>) -> ()}) {dimensions = array<i64: 0>} : (tensor<2xi8>, tensor<i8>) -> tensor<i8> \"func.return\"() : () -> ()}" 7 0 0 ∷
    -- a name of its return
    pin "func.func @m(%a: tensor<2xi8>, %z: tensor<i8>) {%r = \"stablehlo.reduce\"(%a, %z) ({^b(%p: tensor<i8>, %q: tensor<i8>): %s = \"stablehlo.or\"(%p, %q) : (tensor<i8>, tensor<i8>) -> tensor<i8> %t = \"stablehlo.return\"(%s) : (tensor<i8>) -> ()}) {dimensions = array<i64: 0>} : (tensor<2xi8>, tensor<i8>) -> tensor<i8> \"func.return\"() : () -> ()}" 7 0 0 ∷
    []

pub bodies-pinned : Pinned body_pins
unfolding body_pins reading said_at
bodies-pinned = pinned body_pins refl
