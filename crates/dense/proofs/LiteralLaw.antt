-- The slot of a literal is a value of its type.
-- Assumes nothing.
use mathlib.Core.Path.{◌≡◌, refl}
use mathlib.Core.Bool.{Bool, true, false}
use mathlib.Core.List.{List}
use Prim.Native.Nat.{ℕ}
use lib.IntN.{ℤ}
use lib.Dec.{eqb}
use Rattle.lists.specs.Lists.{pick}
use Rattle.scan.specs.Ascii.{ascii}
use Rattle.text.specs.Names.{word_is}
use Rattle.text.specs.declared.Token.{Token}
use Rattle.element.specs.Types.{bool_of, slot_for, SlotHolds}
use Rattle.element.specs.declared.ElementType.{ElementType}
use Rattle.element.proofs.Ends.{ends, zero-value}
use Rattle.types.specs.Numbers.{decimal_number, in_type, number_in}
use Rattle.types.specs.Numbers.{NumberRead}
use Rattle.types.proofs.NumberLaw.{fits-value}
use Rattle.dense.specs.Dense.{boolean_of, literal_of}

abbrev Slot : ElementType → NumberRead → Type 0
Slot t v = v.fits ≡ true → SlotHolds t v.bits

number-value : (t : ElementType) (z : ℤ) → Slot t (number_in t z)
unfolding number_in
number-value t z = go (in_type t z) (fits-value t z)
  where
    go : (b : Bool) → (b ≡ true → SlotHolds t (slot_for t z)) → Slot t (pick b (record { fits = true; bits = slot_for t z }) (record { fits = false; bits = 0 }))
    go true h o = h refl
    go false h o = zero-value t

pub literal-value : (e : ElementType) (text : List ℕ) (t : Token) → Slot e (literal_of e text t)
unfolding literal_of boolean_of
literal-value e text t = go (bool_of e) (word_is (ascii "true") text t.start t.end) (eqb t.kind 2)
  where
    go : (b w n : Bool) → Slot e (pick b (pick w (record { fits = true; bits = 1 }) (record { fits = word_is (ascii "false") text t.start t.end; bits = 0 }))
        (pick n (number_in e (decimal_number text t.start)) (record { fits = false; bits = 0 })))
    go true true n o = (ends e).one
    go true false n o = zero-value e
    go false w true o = number-value e (decimal_number text t.start) o
    go false w false o = zero-value e
