-- Every type that is read is within sizes 1 and 2 of 01, and has six dimensions in its array.
-- Assumes nothing.
use mathlib.Core.Path.{◌≡◌, refl}
use mathlib.Core.Bool.{Bool, true, false, ◌&&◌}
use mathlib.Core.List.{List}
use Prim.Native.Nat.{ℕ, ◌+◌}
use lib.ListN.{length, drop, replicate}
use lib.Dec.{eqb}
use native.Mathlib.Omega.{arith}
use borrow.Author.Tests.{eqb-true}
use Rattle.lists.proofs.TestLaw.{both_true}
use Rattle.lists.specs.Lists.{pick}
use Rattle.shape.specs.Dims.{Sized}
use Rattle.types.specs.Tensors.{TypeRead}
use Rattle.types.specs.Tensors.{element_named, bytes_between, dimensions_from, byte_count, type_of, type_after, typed, foreign}
use Rattle.scan.specs.Ascii.{ascii}
use Rattle.scan.specs.Bytes.{starts_with}
use Rattle.scan.specs.TypeText.{shape_end}
use Rattle.scan.specs.TensorText.{type_close}
use Rattle.element.specs.declared.ElementType.{ElementType}
use Rattle.types.proofs.TypeLaw.{type-sized}
use Rattle.dimrules.specs.declared.TensorType.{TensorType}
use Rattle.program.specs.declared.Parts.{Parts}
use Rattle.places.specs.Places.{blank_type, type_said, type_in, place_of, type_of_part}

pub blank-sized : Sized blank_type.shape
blank-sized = record { rank = omega arith; volume = omega arith }

said-sized : (t : TypeRead) (b : Bool) → (b ≡ true → Sized t.shape) → Sized (pick b (record { element = t.element; shape = t.shape }) blank_type).shape
said-sized t true h = h refl
said-sized t false h = blank-sized

pub type-in-sized : (text : List ℕ) (at : ℕ) → Sized (type_in text at).shape
unfolding type_in
type-in-sized text at =
    let t = type_of text at in
    said-sized t (t.known && eqb t.passed 0)
    (λ e. let h = both_true t.known (eqb t.passed 0) e in type-sized text at h.0 (eqb-true t.passed 0 h.1))

-- six dimensions stand in the array
abbrev Six : TypeRead → Type 0
Six t = length t.shape.dims ≡ 6

pick-six : (b : Bool) (x y : TypeRead) → Six x → Six y → Six (pick b x y)
pick-six true x y p q = p
pick-six false x y p q = q

typed-six : (t : ElementType) (ds : List ℕ) → Six (typed t ds)
unfolding typed
typed-six t ds = refl

foreign-six : Six foreign
unfolding foreign
foreign-six = refl

after-six : (text : List ℕ) (at : ℕ) → Six (type_after text at)
unfolding type_after
after-six text at =
    let name = element_named text (shape_end text at) (type_close text at) in
    let shape = bytes_between at (shape_end text at) text in
    pick-six (name.known && eqb (byte_count 63 shape) 0) (typed name.element (dimensions_from 0 shape)) foreign
    (typed-six name.element (dimensions_from 0 shape)) foreign-six

read-six : (text : List ℕ) (at : ℕ) → Six (type_of text at)
unfolding type_of
read-six text at = pick-six (starts_with (ascii "tensor<") (drop at text)) (type_after text (at + 7)) foreign (after-six text (at + 7)) foreign-six

said-six : (t : TypeRead) (b : Bool) → Six t → length (pick b (record { element = t.element; shape = t.shape }) blank_type).shape.dims ≡ 6
said-six t true h = h
said-six t false h = refl

pub type-in-six : (text : List ℕ) (at : ℕ) → length (type_in text at).shape.dims ≡ 6
unfolding type_in
type-in-six text at = said-six (type_of text at) ((type_of text at).known && eqb (type_of text at).passed 0) (read-six text at)

pub part-sized : (text : List ℕ) (p : Parts) (k j : ℕ) → Sized (type_of_part text p k j).shape
unfolding type_of_part
part-sized text p k j = type-in-sized text (place_of p k j)
