-- Value names: refusals 5 and 6, and their place among the others (01, "The twelve refusals").
-- Assumes nothing.
use mathlib.Core.Path.{refl}
use mathlib.Core.List.{List, [], ◌∷◌}
use Rattle.optable.specs.Table.{said_at}
use Rattle.start_examples.proofs.Computing.{reading}
use Rattle.verdict_pins.proofs.Pin.{Pin, pin, Pinned, pinned}

unfoldable pub name_pins : List Pin
name_pins =
    -- "Then duplicate input names, then op by op"
    pin "func.func @m(%a: tensor<i8>, %a: tensor<i8>) {\"func.return\"(%y) : (tensor<i8>) -> ()}" 6 29 0 ∷
    -- "Names are checked in each op as operands, body, result": the second operand, before the result that is defined twice
    pin "func.func @m(%a: tensor<i8>) {%a = \"stablehlo.add\"(%a, %y) : (tensor<i8>, tensor<i8>) -> tensor<i8> \"func.return\"() : () -> ()}" 5 55 0 ∷
    -- a result is not defined before its own op
    pin "func.func @m(%a: tensor<i8>) {%b = \"stablehlo.not\"(%b) : (tensor<i8>) -> tensor<i8> \"func.return\"() : () -> ()}" 5 51 0 ∷
    -- a result with an input's name
    pin "func.func @m(%a: tensor<i8>) {%a = \"stablehlo.not\"(%a) : (tensor<i8>) -> tensor<i8> \"func.return\"() : () -> ()}" 6 30 0 ∷
    -- two results with one name, before their number
    pin "func.func @m(%a: tensor<i8>) {%b, %b = \"stablehlo.not\"(%a) : (tensor<i8>) -> tensor<i8> \"func.return\"() : () -> ()}" 6 34 0 ∷
    -- names before 7: a wrong number of operands and of written types
    pin "func.func @m() {%b = \"stablehlo.abs\"(%q, %q) : () -> tensor<i8> \"func.return\"() : () -> ()}" 5 37 0 ∷
    -- op by op: 7 at op 0 before a name at op 1
    pin "func.func @m(%a: tensor<i8>) {%b = \"stablehlo.not\"() : () -> tensor<i8> %c = \"stablehlo.not\"(%y) : (tensor<i8>) -> tensor<i8> \"func.return\"() : () -> ()}" 7 0 0 ∷
    -- the return is the last op
    pin "func.func @m(%a: tensor<i8>) -> tensor<i8> {%b = \"stablehlo.not\"(%a) : (tensor<i8>) -> tensor<i8> \"func.return\"(%y) : (tensor<i8>) -> ()}" 5 112 0 ∷
    -- a body: an argument with an outer name, before the body's op and the result
    pin "func.func @m(%a: tensor<2xi8>, %z: tensor<i8>) {%z = \"stablehlo.reduce\"(%a, %z) ({^b(%a: tensor<i8>): \"stablehlo.return\"(%y) : (tensor<i8>) -> ()}) {dimensions = array<i64: 0>} : (tensor<2xi8>, tensor<i8>) -> tensor<i8> \"func.return\"() : () -> ()}" 6 85 0 ∷
    -- a name of a body that is not defined
    pin "func.func @m(%a: tensor<2xi8>, %z: tensor<i8>) {%r = \"stablehlo.reduce\"(%a, %z) ({^b(): \"stablehlo.return\"(%y) : (tensor<i8>) -> ()}) {dimensions = array<i64: 0>} : (tensor<2xi8>, tensor<i8>) -> tensor<i8> \"func.return\"() : () -> ()}" 5 107 0 ∷
    -- "body names are forgotten at its closing brace"
    pin "func.func @m(%a: tensor<2xi8>, %z: tensor<i8>) -> tensor<i8> {%r = \"stablehlo.reduce\"(%a, %z) ({^b(%p: tensor<i8>, %q: tensor<i8>): %s = \"stablehlo.or\"(%p, %q) : (tensor<i8>, tensor<i8>) -> tensor<i8> \"stablehlo.return\"(%s) : (tensor<i8>) -> ()}) {dimensions = array<i64: 0>} : (tensor<2xi8>, tensor<i8>) -> tensor<i8> \"func.return\"(%s) : (tensor<i8>) -> ()}" 5 333 0 ∷
    -- and may be defined again
    pin "func.func @m(%a: tensor<2xi8>, %z: tensor<i8>) {%s = \"stablehlo.reduce\"(%a, %z) ({^b(%p: tensor<i8>, %q: tensor<i8>): %s = \"stablehlo.or\"(%p, %q) : (tensor<i8>, tensor<i8>) -> tensor<i8> \"stablehlo.return\"(%s) : (tensor<i8>) -> ()}) {dimensions = array<i64: 0>} : (tensor<2xi8>, tensor<i8>) -> tensor<i8> \"func.return\"() : () -> ()}" 0 0 0 ∷
    -- "Refusals 1 to 4 come first": size 8 of the last name
    pin "func.func @m() {%b = \"stablehlo.not\"(%y) : () -> tensor<i8> \"func.return\"(%mmmmmmmmmmmmmmmmmmmmmmmmmmmmmmmm) : () -> ()}" 4 74 8 ∷
    []

pub names-pinned : Pinned name_pins
unfolding name_pins reading said_at
names-pinned = pinned name_pins refl
