-- A result as the evaluating program prints it (01, "Table of examples": it "prints one line per result, `, ` between items").
-- Assumes nothing.
use Rattle.std.specs.Prelude.{ℕ, zero, suc, ◌+◌, ◌/◌, ◌%◌, List, [], ◌∷◌, ◌++◌, Bool, true, false, ◌||◌, ℤ, pos, negsuc, get_or, drop, ltb, eqb}
use Rattle.lists.specs.Lists.{pick}
use Rattle.scan.specs.Ascii.{ascii}
use Rattle.element.specs.Types.{width_of, signed_of, bool_of, value_of}
use Rattle.element.specs.declared.ElementType.{ElementType}
use Rattle.shape.specs.Index.{size}

-- decimal digits without leading zeros, at most `most` of them
unfoldable pub digits_of : ℕ → ℕ → List ℕ
digits_of zero n = []
digits_of (suc most) n =
    let front = digits_of most (n / 10) in
    pick (ltb n 10) ((48 + n) ∷ []) (front ++ ((48 + n % 10) ∷ []))

-- a number below 2^64 has at most 20 digits
abbrev pub decimal : ℕ → List ℕ
decimal n = digits_of 20 n

unfoldable pub number_text : ℤ → List ℕ
number_text (pos n) = decimal n
number_text (negsuc n) = 45 ∷ decimal (suc n)

-- "Booleans are `true` and `false`; numbers are decimal"
unfoldable pub literal_text : ElementType → ℕ → List ℕ
literal_text e s = pick (bool_of e) (pick (eqb s 0) (ascii "false") (ascii "true")) (number_text (value_of e s))

-- n items of `size` slots each, "`, ` between items"
unfoldable pub items_text : (List ℕ → List ℕ) → ℕ → ℕ → Bool → List ℕ → List ℕ
items_text item size zero first slots = []
items_text item size (suc n) first slots =
    pick first [] (ascii ", ") ++ (item slots ++ items_text item size n false (drop size slots))

-- a literal for rank 0, else "lists nested one level per dimension with exactly the sizes of the shape": the first elements of the slots
unfoldable pub value_text : ElementType → List ℕ → List ℕ → List ℕ
value_text e [] slots = literal_text e (get_or slots 0 0)
value_text e (d ∷ ds) slots = 91 ∷ (items_text (λ s. value_text e ds s) (size ds) d true slots ++ (93 ∷ []))

-- the sizes of a shape, each followed by an 'x'
unfoldable pub shape_text : List ℕ → List ℕ
shape_text [] = []
shape_text (d ∷ ds) = decimal d ++ (120 ∷ shape_text ds)

-- `i1`, `i8` to `i64`, `ui8` to `ui64` ("`i8` or `si8`, one meaning; printed as `i8`")
unfoldable pub element_text : ElementType → List ℕ
element_text e = pick (signed_of e || bool_of e) [] (ascii "u") ++ (105 ∷ decimal (width_of e))

-- 01's sample: `dense<[1725]> : tensor<1xui16>`. Full lists, never one literal for every element
unfoldable pub printed : ElementType → List ℕ → List ℕ → List ℕ
printed e dims slots = ascii "dense<" ++ (value_text e dims slots ++ (ascii "> : tensor<" ++ (shape_text dims ++ (element_text e ++ ascii ">"))))
