-- What the code reads of an op's attributes, against the lists of the same op's tokens.
-- Assumes nothing.
use Rattle.std.specs.Prelude.{ℕ, ◌≡◌, true, false, List, ℤ, ltb, length}
use Rattle.lists.specs.Lists.{tab}
use Rattle.dimrules.specs.Whole.{number_of}
use Rattle.dimrules.specs.Dims.{num}
use Rattle.dimrules.specs.declared.Numbers.{Numbers}
use Rattle.program.specs.declared.Parts.{Parts}
use Rattle.places.specs.Places.{attribute_name, place_of}
use Rattle.optable.specs.Table.{value, compare_type, comparison_direction}
use Rattle.attribute.specs.Attribute.{form_at, choice_at, dense_tokens}
use Rattle.attributes.specs.Attributes.{attribute_of, stands, attribute_numbers, choice_of, dense_type}
use Rattle.nodes.specs.Nodes.{dense_elements}
use Rattle.source.specs.Source.{AttributeText}
use Rattle.verifier.specs.AttributeRules.{first_token, no_attribute_text, attribute_number, choice_number, value_kind, type_written, dense_written, attribute_with, numbers_named, choice_named_by}

-- attribute j of an op by its place and by its lists: the name, its number in the op table, the kind of the value; the choice, the literal and the type where there are such
pub record AttributeRead (text : List ℕ) (op : Parts) (j : ℕ) (a : AttributeText) : Type 0 where
  pub name : place_of op attribute_name j ≡ first_token a.names
  pub number : attribute_of text op j ≡ attribute_number text a
  pub kind : form_at text (place_of op attribute_name j) ≡ value_kind text a
  pub choice : ltb 0 (length a.choices) ≡ true → (choice_at text (place_of op attribute_name j)).choice ≡ choice_number text a
  pub literal : ltb 0 (length a.types) ≡ true → (dense_tokens text (place_of op attribute_name j)).literal ≡ first_token a.literals
  pub type : ltb 0 (length a.types) ≡ true → (dense_tokens text (place_of op attribute_name j)).ty ≡ first_token a.types

-- the numbers of an attribute list as whole numbers
abbrev pub wholes : Numbers → List ℤ
wholes a = tab a.count (λ d. number_of (num a d))

-- the values of an op's attributes by their names: numbers (of an attribute that is absent, none), the two choices of a compare, the type of a
-- dense value, and its elements where there is one
pub record AttributesNamed (text : List ℕ) (op : Parts) (attrs : List AttributeText) : Type 0 where
  pub numbers : (k : ℕ) → wholes (attribute_numbers text op k) ≡ numbers_named text k attrs
  pub direction : choice_of text op comparison_direction ≡ choice_named_by text comparison_direction attrs
  pub compared : choice_of text op compare_type ≡ choice_named_by text compare_type attrs
  pub type : dense_type text op value ≡ type_written text (attribute_with text value attrs)
  pub elements : stands text op value ≡ true → dense_elements text op ≡ (dense_written text (attribute_with text value attrs)).elements
  pub dense : stands text op value ≡ true → ltb 0 (length (attribute_with text value attrs).types) ≡ true
  pub absent : stands text op value ≡ false → attribute_with text value attrs ≡ no_attribute_text
