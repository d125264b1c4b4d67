-- Worked examples of the input slice, by computation.
-- Assumes nothing.
use mathlib.Core.Path.{◌≡◌, refl}
use mathlib.Core.List.{[], ◌∷◌}
use Prim.Native.Nat.{ℕ}
use lib.IntN.{pos, neg_ℤ}
use Rattle.lists.specs.Lists.{first_where}
use Rattle.element.specs.Types.{is_value, slot_for}
use Rattle.element.specs.declared.ElementType.{ElementType}
use Rattle.element.specs.declared.ElementType.TheVariants.{I1, I8, U8}
use Rattle.dimrules.specs.Count.{first_failing}
use Rattle.values.specs.declared.Value.{Value}
use Rattle.values.specs.declared.Values.{Values}
use Rattle.offsets.specs.Offsets.{size_at, offset_at}
use Rattle.inputs.specs.Inputs.{input_slots, input_of, slot_fits, first_foreign}

abbrev value : ElementType → ℕ → Value
value e n = record { name = 0; ty = record { element = e; shape = record { rank = 1; dims = n ∷ [] } } }

-- inputs tensor<2xi8>, tensor<0xui8>, tensor<3xi1>
abbrev three : Values
three = record { inputs = 3; count = 3; list = value I8 2 ∷ value U8 0 ∷ value I1 3 ∷ [] }

slots : (input_slots three ≡ 5) × (input_of three 1 ≡ 0) × (input_of three 2 ≡ 2) × (input_of three 4 ≡ 2)
unfolding input_slots input_of offset_at size_at first_failing first_where
slots = (refl, refl, refl, refl)

-- every slot a value; 256 is no i8, 2 no i1, and of both the lower slot counts
foreign : (first_foreign three (127 ∷ slot_for I8 (neg_ℤ (pos 1)) ∷ 1 ∷ 0 ∷ 1 ∷ []) ≡ 5) × (first_foreign three (127 ∷ 256 ∷ 1 ∷ 0 ∷ 1 ∷ []) ≡ 1) ×
    (first_foreign three (127 ∷ 0 ∷ 2 ∷ 0 ∷ 1 ∷ []) ≡ 2) × (first_foreign three (256 ∷ 0 ∷ 1 ∷ 0 ∷ 2 ∷ []) ≡ 0)
unfolding first_foreign slot_fits input_slots input_of offset_at size_at first_failing first_where is_value slot_for
foreign = (refl, refl, refl, refl)
