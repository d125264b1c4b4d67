-- A line as it is printed.
-- Assumes nothing.
use mathlib.Core.Path.{◌≡◌, refl}
use mathlib.Core.List.{[], ◌∷◌, ◌++◌}
use Rattle.scan.specs.Ascii.{ascii}
use Rattle.element.specs.Types.{value_of}
use Rattle.element.specs.declared.ElementType.TheVariants.{U16}
use Rattle.printed.specs.Printed.{digits_of, number_text, literal_text, items_text, value_text, shape_text, element_text, printed}
use Rattle.values.specs.declared.Values.{Values}
use Rattle.offsets.specs.Offsets.{size_at, offset_at}
use Rattle.results.specs.Results.{line_of}

-- one value, of type tensor<1xui16>
abbrev one : Values
one = record { inputs = 0; count = 1; list = record { name = 0; ty = record { element = U16; shape = record { rank = 1; dims = 1 ∷ 0 ∷ 0 ∷ 0 ∷ 0 ∷ 0 ∷ [] } } } ∷ [] }

-- 01's sample
sample : line_of one (1725 ∷ []) 0 ≡ ascii "dense<[1725]> : tensor<1xui16>" ++ (10 ∷ [])
unfolding digits_of number_text literal_text items_text value_text shape_text element_text printed value_of size_at offset_at line_of
sample = refl
