-- The values that each attribute takes, by names: refusal 7, "an attribute .. of the wrong kind".
-- Assumes nothing.
use Rattle.std.specs.Prelude.{◌≡◌, List, [], ◌∷◌, ◌++◌, map, ℕ, length}
use Prim.Native.String.{String}
use Rattle.lists.specs.Lists.{pick}
use Rattle.scan.specs.Ascii.{ascii}
use Rattle.optable.specs.Table.{Direction, CompareType, no_kind, attribute_kind, choice_form, choice_kind, choice_named}
use Rattle.optable.specs.Find.{find_attribute, find_choice_kind}
use Rattle.attributes.specs.Attributes.{kind_fits}

-- "Number lists are `array<i64: ..>` (empty: `array<i64>`), single numbers `0 : i64`, .. choices `#stablehlo<comparison_direction LT>`, constants
-- `dense<..> : type`"; the last two are a choice of the other kind, so of no kind
abbrev forms : List String
forms =
    "array<i64: 1>"
    ∷ "array<i64>"
    ∷ "0 : i64"
    ∷ "dense<1> : tensor<i8>"
    ∷ "#stablehlo<comparison_direction LT>"
    ∷ "#stablehlo<comparison_type SIGNED>"
    ∷ "#stablehlo<comparison_type LT>"
    ∷ "#stablehlo<comparison_direction UNSIGNED>"
    ∷ []

-- whether the value is of the kind that the attribute takes, on the text `name = value`
abbrev fits_in : String → String → ℕ
fits_in name form =
    let n = ascii name in
    let text = n ++ ascii " = " ++ ascii form in
    pick (kind_fits text 0 (attribute_kind (find_attribute text 0 (length n)))) 1 0

-- an attribute, and which of the forms above it takes
pub record Takeable : Type 0 where
  pub name : String
  pub fits : List ℕ

abbrev takeable : String → List ℕ → Takeable
takeable n fits = record { name = n; fits = fits }

abbrev a_list : List ℕ
a_list = 1 ∷ 1 ∷ 0 ∷ 0 ∷ 0 ∷ 0 ∷ 0 ∷ 0 ∷ []

abbrev a_number : List ℕ
a_number = 0 ∷ 0 ∷ 1 ∷ 0 ∷ 0 ∷ 0 ∷ 0 ∷ 0 ∷ []

abbrev a_dense : List ℕ
a_dense = 0 ∷ 0 ∷ 0 ∷ 1 ∷ 0 ∷ 0 ∷ 0 ∷ 0 ∷ []

abbrev a_direction : List ℕ
a_direction = 0 ∷ 0 ∷ 0 ∷ 0 ∷ 1 ∷ 0 ∷ 0 ∷ 0 ∷ []

abbrev a_compare_type : List ℕ
a_compare_type = 0 ∷ 0 ∷ 0 ∷ 0 ∷ 0 ∷ 1 ∷ 0 ∷ 0 ∷ []

-- 000's Inputs tables: "1-dimensional tensor constant of type `si64`" is a list, "constant of type `si64`" a number
abbrev pub takeables : List Takeable
takeables =
    takeable "value" a_dense
    ∷ takeable "iota_dimension" a_number
    ∷ takeable "broadcast_dimensions" a_list
    ∷ takeable "permutation" a_list
    ∷ takeable "start_indices" a_list
    ∷ takeable "limit_indices" a_list
    ∷ takeable "strides" a_list
    ∷ takeable "dimension" a_number
    ∷ takeable "edge_padding_low" a_list
    ∷ takeable "edge_padding_high" a_list
    ∷ takeable "interior_padding" a_list
    ∷ takeable "dimensions" a_list
    ∷ takeable "slice_sizes" a_list
    ∷ takeable "comparison_direction" a_direction
    ∷ takeable "compare_type" a_compare_type
    ∷ []

-- every value of an attribute fits where it should, and nowhere else; the kind of each choice: "enum of `EQ`, `NE`, `GE`, `GT`, `Le`, and `Lt`" are
-- directions, SIGNED and UNSIGNED types; the kind that a choice's first word begins
pub record AttributeKindPinsHold : Type 0 where
  pub attributes : map (λ (a : Takeable). map (fits_in a.name) forms) takeables ≡ map (λ (a : Takeable). a.fits) takeables
  pub choices :
      map (λ n. choice_kind (choice_named n)) ("EQ" ∷ "NE" ∷ "GE" ∷ "GT" ∷ "LE" ∷ "LT" ∷ "SIGNED" ∷ "UNSIGNED" ∷ "FLOAT" ∷ [])
      ≡ Direction ∷ Direction ∷ Direction ∷ Direction ∷ Direction ∷ Direction ∷ CompareType ∷ CompareType ∷ no_kind ∷ []
  pub words :
      map (λ n. choice_form (find_choice_kind (ascii n) 0 (length (ascii n)))) ("comparison_direction" ∷ "comparison_type" ∷ "compare_type" ∷ [])
      ≡ Direction ∷ CompareType ∷ no_kind ∷ []
