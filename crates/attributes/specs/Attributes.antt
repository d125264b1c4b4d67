-- The attributes of an op against its row of the op table. 01, refusal 7: "an attribute missing, doubled, foreign to the op or of the wrong kind; a dense value of
-- other sizes, kind or range than its type".
-- Assumes nothing.
use Rattle.std.specs.Prelude.{ℕ, min, List, [], ◌∷◌, Bool, true, ◌&&◌, length, get_or, set, replicate, ltb, eqb}
use Rattle.lists.specs.Lists.{pick, tab, first_where}
use Rattle.shape.specs.Dims.{dims_of}
use Rattle.text.specs.Lex.{token_at}
use Rattle.optable.specs.Table.{NumbersKind as NumberList, Number, DenseKind, Direction, CompareType, no_attribute, no_choice, attribute_kind, choice_kind}
use Rattle.optable.specs.Find.{find_attribute, slot_in}
use Rattle.optable.specs.declared.Row.{Row}
use Rattle.attribute.specs.Attribute.{form_at, number_at, numbers_at, choice_at, dense_tokens}
use Rattle.dense.specs.Dense.{dense_value}
use Rattle.dimrules.specs.Count.{everywhere}
use Rattle.dimrules.specs.Dims.{no_numbers}
use Rattle.dimrules.specs.declared.Numbers.{Numbers}
use Rattle.dimrules.specs.declared.TensorType.{TensorType}
use Rattle.program.specs.declared.Parts.{Parts}
use Rattle.places.specs.Places.{attribute_name, count_of, place_of, blank_type, type_in}

-- how many attributes are told apart, at most eight
unfoldable pub attributes_of : Parts → ℕ
attributes_of op = min (count_of op attribute_name) 8

-- attribute j of an op: its number in the op table
unfoldable pub attribute_of : List ℕ → Parts → ℕ → ℕ
attribute_of text op j = let at = place_of op attribute_name j in find_attribute text at (token_at text at).end

-- where attribute k of the op table first stands among an op's attributes; their number where it does not
unfoldable pub stands_at : List ℕ → Parts → ℕ → ℕ
stands_at text op k = first_where (λ j. eqb (attribute_of text op j) k) (tab (attributes_of op) (λ j. j))

-- attribute k of the op table is one of the op's
unfoldable pub stands : List ℕ → Parts → ℕ → Bool
stands text op k = ltb (stands_at text op k) (attributes_of op)

-- a choice of its own kind: `#stablehlo<comparison_direction SIGNED>` is of the wrong kind
unfoldable pub choice_fits : List ℕ → ℕ → ℕ → Bool
choice_fits text name kind = eqb (choice_kind (choice_at text name).choice) kind

-- "a dense value of other sizes, kind or range than its type"
unfoldable pub dense_fits : List ℕ → ℕ → Bool
dense_fits text name =
    let c = dense_tokens text name in
    let t = type_in text c.ty in
    (dense_value t.element (dims_of t.shape) text c.literal).ok

-- the value of the attribute whose name is at a byte is of this kind
unfoldable pub kind_fits : List ℕ → ℕ → ℕ → Bool
kind_fits text name kind =
    eqb (form_at text name) kind
    && pick (eqb kind DenseKind) (dense_fits text name) (pick (eqb kind Direction) (choice_fits text name kind) (pick (eqb kind CompareType) (choice_fits text name kind) true))

-- the three columns of a row for its attributes
abbrev pub columns : Row → List ℕ
columns row = row.a ∷ row.b ∷ row.c ∷ []

-- attribute j is neither foreign nor doubled nor of the wrong kind
unfoldable pub attribute_fits : List ℕ → Parts → Row → ℕ → Bool
attribute_fits text op row j =
    let k = attribute_of text op j in
    ltb k no_attribute && ltb (slot_in row k) (length (columns row)) && eqb (stands_at text op k) j && kind_fits text (place_of op attribute_name j) (attribute_kind k)

-- the number of the attribute that must stand at place s of a row
unfoldable pub needed_at : Row → ℕ → ℕ
needed_at row s = get_or (columns row) s no_attribute

-- the attributes are those of the row: each fits, and none is missing that must stand
unfoldable pub attributes_fit : List ℕ → Parts → Row → Bool
attributes_fit text op row =
    ltb (count_of op attribute_name) 9
    && everywhere (attributes_of op) (attribute_fits text op row)
    && everywhere row.needed (λ s. stands text op (needed_at row s))

-- ---- the values of attributes

-- the byte of attribute k's name; 0 where it does not stand
unfoldable pub name_of : List ℕ → Parts → ℕ → ℕ
name_of text op k = pick (stands text op k) (place_of op attribute_name (stands_at text op k)) 0

-- the numbers of the attribute whose name is at a byte: a list, or a number alone as the first of its list
unfoldable pub numbers_by : List ℕ → ℕ → ℕ → Numbers
numbers_by text name kind =
    pick (eqb kind NumberList) (record { count = (numbers_at text name).count; list = (numbers_at text name).list })
    (pick (eqb kind Number) (record { count = 1; list = set (replicate 6 0) 0 (number_at text name) }) no_numbers)

-- the numbers of attribute k; none where it does not stand
unfoldable pub attribute_numbers : List ℕ → Parts → ℕ → Numbers
attribute_numbers text op k = pick (stands text op k) (numbers_by text (name_of text op k) (attribute_kind k)) no_numbers

-- the choice of attribute k; no choice where it does not stand
unfoldable pub choice_of : List ℕ → Parts → ℕ → ℕ
choice_of text op k = pick (stands text op k) (choice_at text (name_of text op k)).choice no_choice

-- the type written after the dense value of attribute k; tensor<i1> where it does not stand
unfoldable pub dense_type : List ℕ → Parts → ℕ → TensorType
dense_type text op k = pick (stands text op k) (type_in text (dense_tokens text (name_of text op k)).ty) blank_type
