-- Refusal 4 at the token that passes a size, with the size's number (01, "Sizes"), where `judge` proofs/Examples has no text for it.
-- Assumes nothing.
use mathlib.Core.Path.{◌≡◌, refl}
use mathlib.Core.Bool.{true}
use mathlib.Core.List.{List, [], ◌∷◌, map}
use Prim.Native.Nat.{ℕ}
use Prim.Native.String.{String}
use lib.ListN.{replicate}
use Rattle.scan.specs.Ascii.{ascii}
use Rattle.grammar.specs.Symbols.{OpName, BodyOpName}
use Rattle.syntax.specs.Readings.{Reading}
use Rattle.judge.specs.Tally.{at_start}
use Rattle.judge.specs.Judge.{accepted, refuse, earliest, text_refusal}
use Rattle.verdict_pins.proofs.Pin.{Pin, pin}
use Rattle.start_examples.proofs.Computing.{reading}

unfoldable pub size_pins : List Pin
size_pins =
    -- size 5: operands of an op, their types, result types, outputs, a body's arguments; eight, and the ninth
    pin "func.func @m() {\"stablehlo.concatenate\"(%0, %1, %2, %3, %4, %5, %6, %7) : (tensor<i8>, tensor<i8>, tensor<i8>, tensor<i8>, tensor<i8>, tensor<i8>, tensor<i8>, tensor<i8>) -> (tensor<i8>, tensor<i8>, tensor<i8>, tensor<i8>, tensor<i8>, tensor<i8>, tensor<i8>, tensor<i8>" 2 269 0 ∷
    pin "func.func @m() {\"stablehlo.concatenate\"(%0, %1, %2, %3, %4, %5, %6, %7, %8" 4 72 5 ∷
    pin "func.func @m() {\"stablehlo.concatenate\"() : (tensor<i8>, tensor<i8>, tensor<i8>, tensor<i8>, tensor<i8>, tensor<i8>, tensor<i8>, tensor<i8>, tensor<i8>" 4 141 5 ∷
    pin "func.func @m() {\"stablehlo.add\"() : () -> (tensor<i8>, tensor<i8>, tensor<i8>, tensor<i8>, tensor<i8>, tensor<i8>, tensor<i8>, tensor<i8>, tensor<i8>" 4 139 5 ∷
    pin "func.func @m() -> tensor<i8>, tensor<i8>, tensor<i8>, tensor<i8>, tensor<i8>, tensor<i8>, tensor<i8>, tensor<i8>, tensor<i8>" 4 114 5 ∷
    pin "func.func @m() {\"stablehlo.reduce\"() ({^b(%0: tensor<i8>, %1: tensor<i8>, %2: tensor<i8>, %3: tensor<i8>, %4: tensor<i8>, %5: tensor<i8>, %6: tensor<i8>, %7: tensor<i8>, %8: tensor<i8>" 4 170 5 ∷
    -- size 7 in a list; sizes 6 and 7 at one token; not in `dense`
    pin "func.func @m() {\"stablehlo.slice\"() {strides = array<i64: -9223372036854775809" 4 58 7 ∷
    pin "func.func @m() {\"stablehlo.slice\"() {strides = array<i64: 1, 1, 1, 1, 1, 1, 9223372036854775808" 4 76 6 ∷
    pin "func.func @m() {\"stablehlo.constant\"() {value = dense<9223372036854775808" 2 73 0 ∷
    -- size 8 of an operand and of a body's label
    pin "func.func @m() {\"stablehlo.not\"(%mmmmmmmmmmmmmmmmmmmmmmmmmmmmmmmm" 4 32 8 ∷
    pin "func.func @m() {\"stablehlo.reduce\"() ({^mmmmmmmmmmmmmmmmmmmmmmmmmmmmmmmm" 4 39 8 ∷
    -- size 3: a result of no elements at the limit, and one element more in the same list
    pin "func.func @m(%a: tensor<4096xi8>, %b: tensor<4096xi8>) {\"stablehlo.not\"() : () -> (tensor<0xi8>, tensor<i8>" 4 97 3 ∷
    []

-- Size 4 is counted on readings: the quoted name of an op, read again and again
unfoldable pub or_name : List ℕ
or_name = ascii "\"stablehlo.or\""

-- n names of ops, in the function or in a body
abbrev pub names : ℕ → ℕ → List Reading
names role n = replicate n (record { fits = true; role = role; token = record { kind = 6; start = 0; end = 14 } })

-- the table; "One function has at most 256 ops, its return and body ops not counted"
pub sizes-pinned :
    (map (λ p. text_refusal (ascii p.text)) size_pins ≡ map (λ p. p.refusal) size_pins)
    × (earliest or_name at_start (names OpName 256) ≡ accepted) × (earliest or_name at_start (names OpName 257) ≡ refuse 4 0 4)
    × (earliest or_name at_start (names BodyOpName 257) ≡ accepted)
unfolding size_pins or_name reading
sizes-pinned = (refl, refl, refl, refl)
