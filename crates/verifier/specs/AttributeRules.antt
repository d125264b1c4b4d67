-- The attributes of an op by their names, with their values as whole numbers (01, "The text", and refusal 7).
-- Assumes nothing.
use Rattle.std.specs.Prelude.{ℕ, List, [], ◌∷◌, ◌++◌, map, Bool, true, false, not, ◌&&◌, ◌||◌, ltb, eqb, ℤ, length, get_or}
use Rattle.lists.specs.Lists.{pick}
use Rattle.scan.specs.Bytes.{among}
use Rattle.text.specs.Lex.{token_at}
use Rattle.types.specs.Numbers.{decimal_number}
use Rattle.shape.specs.Dims.{dims_of}
use Rattle.dimrules.specs.declared.TensorType.{TensorType}
use Rattle.dense.specs.Dense.{Read, dense_value}
use Rattle.places.specs.Places.{type_in}
use Rattle.optable.specs.Table.{NumbersKind, Number, DenseKind, attribute_kind, choice_form, choice_kind, no_choice}
use Rattle.optable.specs.Find.{find_attribute, find_choice_kind, find_choice}
use Rattle.source.specs.Source.{AttributeText}

-- the first token of a list that has one
abbrev pub first_token : List ℕ → ℕ
first_token tokens = get_or tokens 0 0

-- a test holds of an item of the list
abbrev pub some_of : {A : Type 0} → (A → Bool) → List A → Bool
some_of test [] = false
some_of test (x ∷ xs) = test x || some_of test xs

-- two lists of one length, whose items pass the test pair by pair
abbrev pub pairwise : (ℕ → ℕ → Bool) → List ℕ → List ℕ → Bool
pairwise test [] [] = true
pairwise test [] (y ∷ ys) = false
pairwise test (x ∷ xs) [] = false
pairwise test (x ∷ xs) (y ∷ ys) = test x y && pairwise test xs ys

-- the place in the op table of the attribute's name, of the first word of a choice, of a choice
abbrev pub attribute_number : List ℕ → AttributeText → ℕ
attribute_number text a = let at = first_token a.names in find_attribute text at (token_at text at).end

abbrev pub choice_word : List ℕ → AttributeText → ℕ
choice_word text a = let at = first_token a.kinds in find_choice_kind text at (token_at text at).end

abbrev pub choice_number : List ℕ → AttributeText → ℕ
choice_number text a = let at = first_token a.choices in find_choice text at (token_at text at).end

-- "Number lists are `array<i64: ..>` (empty: `array<i64>`), single numbers `0 : i64`, choices `#stablehlo<comparison_direction LT>`, constants
-- `dense<..> : type`": the kind of the value
abbrev pub value_kind : List ℕ → AttributeText → ℕ
value_kind text a =
    pick (ltb 0 (length a.single)) Number
    (pick (ltb 0 (length a.types)) DenseKind
    (pick (ltb 0 (length a.kinds)) (choice_form (choice_word text a)) NumbersKind))

-- its numbers, as they are written
abbrev pub numbers_written : List ℕ → AttributeText → List ℤ
numbers_written text a = map (decimal_number text) (a.single ++ a.listed)

-- the type after its `dense<..>`, and what is read of the literal by that type
abbrev pub type_written : List ℕ → AttributeText → TensorType
type_written text a = type_in text (first_token a.types)

abbrev pub dense_written : List ℕ → AttributeText → Read
dense_written text a = let t = type_written text a in dense_value t.element (dims_of t.shape) text (first_token a.literals)

-- ---- the value of an attribute by its name, which is its place in the op table

-- the first that has this name; one without a value where none has
abbrev pub no_attribute_text : AttributeText
no_attribute_text = record { names = []; single = []; listed = []; kinds = []; choices = []; literals = []; types = [] }

abbrev pub attribute_with : List ℕ → ℕ → List AttributeText → AttributeText
attribute_with text k [] = no_attribute_text
attribute_with text k (a ∷ attrs) = let rest = attribute_with text k attrs in pick (eqb (attribute_number text a) k) a rest

-- its numbers; its choice, or that it is absent
abbrev pub numbers_named : List ℕ → ℕ → List AttributeText → List ℤ
numbers_named text k attrs = numbers_written text (attribute_with text k attrs)

abbrev pub choice_named_by : List ℕ → ℕ → List AttributeText → ℕ
choice_named_by text k attrs = let a = attribute_with text k attrs in pick (ltb 0 (length a.choices)) (choice_number text a) no_choice

-- ---- 01, refusal 7

-- "an attribute missing": one that must stand and does not
abbrev pub missing_attribute : List ℕ → List ℕ → List AttributeText → Bool
missing_attribute text required attrs = some_of (λ k. not (among (map (attribute_number text) attrs) k)) required

-- "doubled": it stands twice
abbrev pub doubled_attribute : List ℕ → List AttributeText → Bool
doubled_attribute text [] = false
doubled_attribute text (a ∷ attrs) = among (map (attribute_number text) attrs) (attribute_number text a) || doubled_attribute text attrs

-- "foreign to the op"
abbrev pub foreign_attribute : List ℕ → List ℕ → List AttributeText → Bool
foreign_attribute text allowed attrs = some_of (λ a. not (among allowed (attribute_number text a))) attrs

-- "or of the wrong kind": `#stablehlo<comparison_direction SIGNED>` is a choice of the other kind
abbrev pub unlike_kind : List ℕ → AttributeText → Bool
unlike_kind text a =
    let kind = attribute_kind (attribute_number text a) in
    not (eqb (value_kind text a) kind) || (ltb 0 (length a.choices) && not (eqb (choice_kind (choice_number text a)) kind))

-- "a dense value of other sizes, kind or range than its type"
abbrev pub unfit_dense : List ℕ → AttributeText → Bool
unfit_dense text a = ltb 0 (length a.types) && not (dense_written text a).ok
