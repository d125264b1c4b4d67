-- Dense values: for each reason to refuse one, a text that is refused and one beside it that is accepted, with its elements (01, "The text"; refusal 7,
-- "a dense value of other sizes, kind or range than its type").
-- Assumes nothing.
use Rattle.std.specs.Prelude.{◌≡◌, Bool, true, false, List, [], ◌∷◌, map, ℕ}
use Prim.Native.String.{String}
use Rattle.lists.specs.Lists.{pick}
use Rattle.scan.specs.Ascii.{ascii}
use Rattle.element.specs.declared.ElementType.{ElementType}
use Rattle.element.specs.declared.ElementType.TheVariants.{I1, I8, I16, I32, I64, U8, U16, U32, U64}
use Rattle.dense.specs.Dense.{dense_value}

-- whether a literal is a value of the type, and its elements if it is
pub record DenseJudged : Type 0 where
  pub fits : Bool
  pub elements : List ℕ

-- the text after `dense<`, for a tensor type of this element type and shape
pub record DenseText : Type 0 where
  pub element : ElementType
  pub dims : List ℕ
  pub text : String
  pub judged : DenseJudged

abbrev reads : ElementType → List ℕ → String → List ℕ → DenseText
reads e dims text elements = record { element = e; dims = dims; text = text; judged = record { fits = true; elements = elements } }

abbrev refuses : ElementType → List ℕ → String → DenseText
refuses e dims text = record { element = e; dims = dims; text = text; judged = record { fits = false; elements = [] } }

abbrev judge : DenseText → DenseJudged
judge d =
    let r = dense_value d.element d.dims (ascii d.text) 0 in
    record { fits = r.ok; elements = pick r.ok r.elements [] }

abbrev pub dense_texts : List DenseText
dense_texts =
    -- "Rank 0 takes only the literal"
    reads I8 [] "5>" (5 ∷ [])
    ∷ refuses I8 [] "[5]>"
    ∷ refuses I8 [] "[]>"
    -- "one literal for every element", also where there is none
    ∷ reads I8 (3 ∷ []) "7>" (7 ∷ 7 ∷ 7 ∷ [])
    ∷ reads I8 (2 ∷ 2 ∷ []) "-1>" (18446744073709551615 ∷ 18446744073709551615 ∷ 18446744073709551615 ∷ 18446744073709551615 ∷ [])
    ∷ reads I8 (0 ∷ []) "7>" []
    ∷ reads I1 (2 ∷ []) "true>" (1 ∷ 1 ∷ [])
    -- "lists nested one level per dimension with exactly the sizes of the shape"
    ∷ reads I8 (1 ∷ []) "[5]>" (5 ∷ [])
    ∷ refuses I8 (1 ∷ []) "[[5]]>"
    ∷ refuses I8 (1 ∷ 1 ∷ []) "[5]>"
    ∷ reads I8 (1 ∷ 1 ∷ []) "[[5]]>" (5 ∷ [])
    ∷ reads I8 (2 ∷ []) "[1, 2]>" (1 ∷ 2 ∷ [])
    ∷ refuses I8 (2 ∷ []) "[1]>"
    ∷ refuses I8 (2 ∷ []) "[1, 2, 3]>"
    ∷ reads I8 (2 ∷ 3 ∷ []) "[[1, 2, 3], [4, 5, 6]]>" (1 ∷ 2 ∷ 3 ∷ 4 ∷ 5 ∷ 6 ∷ [])
    ∷ refuses I8 (2 ∷ 3 ∷ []) "[[1, 2], [3, 4], [5, 6]]>"
    ∷ refuses I8 (2 ∷ 3 ∷ []) "[[1, 2, 3], [4, 5]]>"
    ∷ refuses I8 (2 ∷ 3 ∷ []) "[1, 2, 3, 4, 5, 6]>"
    ∷ refuses I8 (2 ∷ 2 ∷ []) "[[1, 2], 3]>"
    ∷ refuses I8 (2 ∷ 2 ∷ []) "[1, [2, 3]]>"
    -- "(`[[], []]` for 2x0, `[]` for 0x2)"
    ∷ reads I8 (2 ∷ 0 ∷ []) "[[], []]>" []
    ∷ refuses I8 (2 ∷ 0 ∷ []) "[]>"
    ∷ refuses I8 (2 ∷ 0 ∷ []) "[[]]>"
    ∷ reads I8 (0 ∷ 2 ∷ []) "[]>" []
    ∷ refuses I8 (0 ∷ 2 ∷ []) "[[], []]>"
    ∷ refuses I8 (0 ∷ 2 ∷ []) "[[]]>"
    ∷ refuses I8 (0 ∷ []) "[1]>"
    -- commas between items, and brackets
    ∷ refuses I8 (2 ∷ []) "[1 2]>"
    ∷ refuses I8 (2 ∷ []) "[1, 2,]>"
    ∷ refuses I8 (2 ∷ []) "[, 1, 2]>"
    ∷ refuses I8 (2 ∷ []) "[1, 2"
    ∷ refuses I8 (2 ∷ []) "(1, 2)>"
    ∷ reads I8 (2 ∷ []) " [ 1 ,2 ]>" (1 ∷ 2 ∷ [])
    -- "Booleans are `true` and `false`"; a number is none of them, and they are no numbers
    ∷ reads I1 [] "true>" (1 ∷ [])
    ∷ reads I1 [] "false>" (0 ∷ [])
    ∷ refuses I1 [] "1>"
    ∷ refuses I1 [] "0>"
    ∷ refuses I1 [] "True>"
    ∷ refuses I1 [] "truer>"
    ∷ refuses I8 [] "true>"
    ∷ refuses U8 [] "false>"
    ∷ refuses I1 (2 ∷ []) "[true, 0]>"
    ∷ reads I1 (2 ∷ []) "[true, false]>" (1 ∷ 0 ∷ [])
    ∷ refuses I8 [] "x>"
    ∷ refuses I8 [] "-x>"
    -- "numbers are decimal", with a sign
    ∷ reads I8 [] "+5>" (5 ∷ [])
    ∷ reads I8 [] "-5>" (18446744073709551611 ∷ [])
    ∷ reads I8 [] "005>" (5 ∷ [])
    ∷ reads U8 [] "-0>" (0 ∷ [])
    -- the ends of each type's range, and one beyond
    ∷ reads I8 [] "127>" (127 ∷ [])
    ∷ refuses I8 [] "128>"
    ∷ reads I8 [] "-128>" (18446744073709551488 ∷ [])
    ∷ refuses I8 [] "-129>"
    ∷ reads I16 [] "32767>" (32767 ∷ [])
    ∷ refuses I16 [] "32768>"
    ∷ reads I16 [] "-32768>" (18446744073709518848 ∷ [])
    ∷ refuses I16 [] "-32769>"
    ∷ reads I32 [] "2147483647>" (2147483647 ∷ [])
    ∷ refuses I32 [] "2147483648>"
    ∷ reads I32 [] "-2147483648>" (18446744071562067968 ∷ [])
    ∷ refuses I32 [] "-2147483649>"
    ∷ reads I64 [] "9223372036854775807>" (9223372036854775807 ∷ [])
    ∷ refuses I64 [] "9223372036854775808>"
    ∷ reads I64 [] "-9223372036854775808>" (9223372036854775808 ∷ [])
    ∷ refuses I64 [] "-9223372036854775809>"
    ∷ reads U8 [] "255>" (255 ∷ [])
    ∷ refuses U8 [] "256>"
    ∷ refuses U8 [] "-1>"
    ∷ reads U16 [] "65535>" (65535 ∷ [])
    ∷ refuses U16 [] "65536>"
    ∷ refuses U16 [] "-1>"
    ∷ reads U32 [] "4294967295>" (4294967295 ∷ [])
    ∷ refuses U32 [] "4294967296>"
    ∷ refuses U32 [] "-1>"
    ∷ reads U64 [] "18446744073709551615>" (18446744073709551615 ∷ [])
    ∷ refuses U64 [] "18446744073709551616>"
    ∷ refuses U64 [] "-1>"
    ∷ refuses I64 [] "18446744073709551616>"
    ∷ refuses U64 [] "36893488147419103233>"
    -- kind and range of a literal for no element
    ∷ refuses I8 (0 ∷ []) "128>"
    ∷ refuses I8 (0 ∷ []) "true>"
    ∷ []

abbrev pub DensePinsHold : Type 0
DensePinsHold = map judge dense_texts ≡ map (λ (d : DenseText). d.judged) dense_texts
