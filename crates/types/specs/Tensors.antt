-- What a tensor type token says: its element type, its shape, and which size it passes.
-- Assumes nothing.
use Rattle.std.specs.Prelude.{ℕ, ◌+◌, ◌-◌, ◌*◌, min, List, [], ◌∷◌, Bool, true, false, ◌&&◌, length, get_or, take, drop, replicate, ltb, leb, eqb, Option, Some, None}
use Rattle.lists.specs.Lists.{pick, tab}
use Rattle.scan.specs.Ascii.{ascii}
use Rattle.scan.specs.Bytes.{starts_with}
use Rattle.scan.specs.TypeText.{shape_end}
use Rattle.scan.specs.TensorText.{type_close}
use Rattle.text.specs.Names.{word_is}
use Rattle.shape.specs.Index.{volume}
use Rattle.element.specs.declared.ElementType.{ElementType}
use Rattle.element.specs.declared.ElementType.TheVariants.{I1, I8, I16, I32, I64, U8, U16, U32, U64}
use Rattle.shape.specs.declared.Shape.{Shape}
use Rattle.types.specs.declared.tensors.WrittenType.{WrittenType}
use Rattle.types.specs.declared.tensors.Passed.{Passed}
use Rattle.types.specs.declared.tensors.Passed.TheVariants.{Rank, Volume}

-- the element type that a name stands for, if it is one of 01's
pub record NamedElement : Type 0 where
  pub known : Bool
  pub element : ElementType

-- a tensor type: whether it is in 01; if so its element type, its shape, of which `dims` has the first six, and the first of sizes 1 and 2 that it passes
pub record TypeRead : Type 0 where
  pub known : Bool
  pub element : ElementType
  pub shape : Shape
  pub passed : ℕ

abbrev pub named_element : ElementType → NamedElement
named_element t = record { known = true; element = t }

abbrev pub unnamed : NamedElement
unnamed = record { known = false; element = I1 }

-- an element type as the code holds it
abbrev pub named_of : Option ElementType → NamedElement
named_of (Some t) = named_element t
named_of None = unnamed

-- "8, 16, 32, 64 bits": the type of that width among four, by the bytes from start up to end
unfoldable pub width_named : ElementType → ElementType → ElementType → ElementType → List ℕ → ℕ → ℕ → NamedElement
width_named t8 t16 t32 t64 text start end =
    pick (word_is (ascii "8") text start end) (named_element t8)
    (pick (word_is (ascii "16") text start end) (named_element t16)
    (pick (word_is (ascii "32") text start end) (named_element t32)
    (pick (word_is (ascii "64") text start end) (named_element t64) unnamed)))

-- 01, "Element types": "`i1`, signed 8, 16, 32, 64 bits (written `i8` or `si8`, one meaning) and unsigned `ui8` to `ui64`"
unfoldable pub element_named : List ℕ → ℕ → ℕ → NamedElement
element_named text start end =
    pick (word_is (ascii "i1") text start end) (named_element I1)
    (pick (starts_with (ascii "i") (drop start text)) (width_named I8 I16 I32 I64 text (start + 1) end)
    (pick (starts_with (ascii "si") (drop start text)) (width_named I8 I16 I32 I64 text (start + 2) end)
    (pick (starts_with (ascii "ui") (drop start text)) (width_named U8 U16 U32 U64 text (start + 2) end) unnamed)))

-- the bytes of a text from a place up to another
abbrev pub bytes_between : ℕ → ℕ → List ℕ → List ℕ
bytes_between at end text = take (end - at) (drop at text)

-- the dimensions of a shape's text, where v is the value of the digits before it: each ends in an 'x'
unfoldable pub dimensions_from : ℕ → List ℕ → List ℕ
dimensions_from v [] = []
dimensions_from v (b ∷ bs) =
    let x = eqb b 120 in
    let rest = dimensions_from (pick x 0 (v * 10 + (b - 48))) bs in
    pick x (v ∷ rest) rest

-- how often a byte stands in a text
unfoldable pub byte_count : ℕ → List ℕ → ℕ
byte_count b [] = 0
byte_count b (x ∷ xs) = pick (eqb x b) (byte_count b xs + 1) (byte_count b xs)

-- 01, "Sizes", 2: "Each dimension .. at most 4,096"
unfoldable pub all_fit : List ℕ → Bool
all_fit [] = true
all_fit (d ∷ ds) = leb d 4096 && all_fit ds

-- 01, "Sizes": the first of sizes 1 and 2 that is passed, else 0
unfoldable pub type_size_passed : List ℕ → ℕ
type_size_passed ds = pick (ltb 6 (length ds)) 1 (pick (all_fit ds && leb (volume ds) 4096) 0 2)

-- the first six dimensions, 0 where there are fewer; one above 4,096 is kept as 4,097
abbrev pub first_six : List ℕ → List ℕ
first_six ds = tab 6 (λ k. min (get_or ds k 0) 4097)

unfoldable pub typed : ElementType → List ℕ → TypeRead
typed t ds = record { known = true; element = t; shape = record { rank = length ds; dims = first_six ds }; passed = type_size_passed ds }

-- a type that is not in 01 (refusal 3): an unknown element, or a '?' ("Left out: .. unknown sizes")
unfoldable pub foreign : TypeRead
foreign = record { known = false; element = I1; shape = record { rank = 0; dims = replicate 6 0 }; passed = 0 }

-- a size as the code holds it
abbrev pub passed_number : Option Passed → ℕ
passed_number (Some Rank) = 1
passed_number (Some Volume) = 2
passed_number None = 0

-- a type as the code holds it
abbrev pub type_read : Option WrittenType → TypeRead
type_read (Some t) = record { known = true; element = t.element; shape = t.shape; passed = passed_number t.passed }
type_read None = record { known = false; element = I1; shape = record { rank = 0; dims = replicate 6 0 }; passed = 0 }

-- the type whose token's `tensor<` ends here
unfoldable pub type_after : List ℕ → ℕ → TypeRead
type_after text at =
    let end = shape_end text at in
    let name = element_named text end (type_close text at) in
    let shape = bytes_between at end text in
    pick (name.known && eqb (byte_count 63 shape) 0) (typed name.element (dimensions_from 0 shape)) foreign

-- the type whose token starts here
unfoldable pub type_of : List ℕ → ℕ → TypeRead
type_of text start = pick (starts_with (ascii "tensor<") (drop start text)) (type_after text (start + 7)) foreign
