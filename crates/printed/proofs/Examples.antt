-- Values as they are printed.
-- Assumes nothing.
use mathlib.Core.Path.{◌≡◌, refl}
use mathlib.Core.List.{[], ◌∷◌}
use Rattle.scan.specs.Ascii.{ascii}
use lib.IntN.{pos, neg_ℤ}
use Rattle.element.specs.Types.{value_of, slot_for}
use Rattle.element.specs.declared.ElementType.TheVariants.{I1, I8, I32, U16, U64}
use Rattle.printed.specs.Printed.{digits_of, number_text, literal_text, items_text, value_text, shape_text, element_text, printed}

-- 01's sample
sample : printed U16 (1 ∷ []) (1725 ∷ []) ≡ ascii "dense<[1725]> : tensor<1xui16>"
unfolding digits_of number_text literal_text items_text value_text shape_text element_text printed value_of
sample = refl

-- and of [[1, 2], [3, 4]], [[5, 6], [7, 8]] (01, "Table of examples")
nested : printed I32 (2 ∷ 2 ∷ []) (1 ∷ 2 ∷ 3 ∷ 0 ∷ []) ≡ ascii "dense<[[1, 2], [3, 0]]> : tensor<2x2xi32>"
unfolding digits_of number_text literal_text items_text value_text shape_text element_text printed value_of
nested = refl

-- "Rank 0 takes only the literal"
lowest : printed I8 [] (slot_for I8 (neg_ℤ (pos 128)) ∷ []) ≡ ascii "dense<-128> : tensor<i8>"
unfolding digits_of number_text literal_text items_text value_text shape_text element_text printed value_of slot_for
lowest = refl

highest : printed U64 [] (18446744073709551615 ∷ []) ≡ ascii "dense<18446744073709551615> : tensor<ui64>"
unfolding digits_of number_text literal_text items_text value_text shape_text element_text printed value_of
highest = refl

-- "(`[[], []]` for 2x0, `[]` for 0x2)"
empty-rows : printed I8 (2 ∷ 0 ∷ []) [] ≡ ascii "dense<[[], []]> : tensor<2x0xi8>"
unfolding digits_of number_text literal_text items_text value_text shape_text element_text printed value_of
empty-rows = refl

no_rows : printed I8 (0 ∷ 2 ∷ []) [] ≡ ascii "dense<[]> : tensor<0x2xi8>"
unfolding digits_of number_text literal_text items_text value_text shape_text element_text printed value_of
no_rows = refl

boolean : printed I1 [] (1 ∷ []) ≡ ascii "dense<true> : tensor<i1>"
unfolding digits_of number_text literal_text items_text value_text shape_text element_text printed value_of
boolean = refl
