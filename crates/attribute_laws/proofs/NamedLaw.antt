-- The value of an attribute by its name in the op table, where the attributes fit a row: the choice, the type of a dense value and its elements are those that the lists say.
-- Assumes nothing.
use mathlib.Core.Path.{◌≡◌, refl, sym, ap, subst, ◌∙◌}
use mathlib.Core.List.{List, [], ◌∷◌, map}
use mathlib.Core.Bool.{Bool, true, false}
use Prim.Native.Nat.{ℕ, zero, suc, ◌<◌}
use native.Mathlib.Nat.{not-suc-le-zero, le_of_suc-le-suc}
use native.Mathlib.Omega.{arith}
use lib.Dec.{ltb, eqb}
use lib.ListN.{length, get_or}
use borrow.Author.Tests.{eqb-true, eq-eqb, ne_eqb}
use Rattle.lists.specs.Lists.{pick, first_where, All}
use Rattle.lists.proofs.TestLaw.{both_true}
use Rattle.shape.specs.Dims.{dims_of}
use Rattle.dense.specs.Dense.{dense_value}
use Rattle.optable.specs.Table.{DenseKind, Direction, CompareType, attributes, attribute_names, attribute_kind, no_choice, value, comparison_direction, compare_type}
use Rattle.optable.specs.Find.{name_place, same}
use Rattle.optable.specs.declared.Row.{Row}
use Rattle.program.specs.declared.Parts.{Parts}
use Rattle.places.specs.Places.{attribute_name, place_of, type_in}
use Rattle.attribute.specs.Attribute.{form_at, choice_at, dense_tokens}
use Rattle.attributes.specs.Attributes.{stands_at, stands, kind_fits, attributes_fit, name_of, choice_of, dense_type}
use Rattle.nodes.specs.Nodes.{dense_elements}
use Rattle.source.specs.Source.{AttributeText}
use Rattle.verifier.specs.AttributeRules.{first_token, attribute_number, choice_number, type_written, dense_written, no_attribute_text, attribute_with, choice_named_by}
use Rattle.source_laws.specs.Listed.{PartListed}
use Rattle.default_laws.proofs.AttributeLaw.{stands-there, kind_fits_lem}
use Rattle.attribute_laws.specs.ValueForms.{FormedAttribute, choice}
use Rattle.attribute_laws.proofs.PiecesLaw.{Piece}
use Rattle.attribute_laws.proofs.ReadLaw.{choice-is, literal-is, type-is, is-choice, is-dense}
use Rattle.attribute_laws.proofs.SomeLaw.{doubled-false}
use Rattle.attribute_laws.proofs.FitLaw.{RowNames, attribute-number, attribute-place, piece, stands-nowhere, all_told, few, none-doubled}

-- the kinds of the attributes that are not numbers
pub value-dense : attribute_kind value ≡ DenseKind
unfolding attribute_kind attributes attribute_names name_place same first_where
value-dense = refl

pub direction-chosen : attribute_kind comparison_direction ≡ Direction
unfolding attribute_kind attributes attribute_names name_place same first_where
direction-chosen = refl

pub compared-chosen : attribute_kind compare_type ≡ CompareType
unfolding attribute_kind attributes attribute_names name_place same first_where
compared-chosen = refl

-- the first attribute of a name
with_at : (text : List ℕ) (k : ℕ) (l : List AttributeText) (j : ℕ) → j < length l → attribute_number text (get_or l j no_attribute_text) ≡ k →
    ((i : ℕ) → i < j → attribute_number text (get_or l i no_attribute_text) ≡ k → ⊥) → attribute_with text k l ≡ get_or l j no_attribute_text
with_at text k [] j h e n = absurd (not-suc-le-zero h)
with_at text k (a ∷ l) zero h e n = rw (eq-eqb (attribute_number text a) k e)
with_at text k (a ∷ l) (suc j) h e n =
    let q = ne_eqb (attribute_number text a) k (n 0 (omega arith)) in
    let ih = with_at text k l j (le_of_suc-le-suc h) e (λ i g. n (suc i) (omega arith)) in
    rw q ih

with_none : (text : List ℕ) (k : ℕ) (l : List AttributeText) → ((j : ℕ) → j < length l → attribute_number text (get_or l j no_attribute_text) ≡ k → ⊥) → attribute_with text k l ≡ no_attribute_text
with_none text k [] n = refl
with_none text k (a ∷ l) n =
    let q = ne_eqb (attribute_number text a) k (n 0 (omega arith)) in
    let ih = with_none text k l (λ j h. n (suc j) (omega arith)) in
    rw q ih

module _ (text : List ℕ) (op : Parts) (attrs : List AttributeText) (listed : PartListed op attribute_name (map (λ a. first_token a.names) attrs)) (formed : All (Piece text) attrs)
    (row : Row) (required optional : List ℕ) (names : RowNames row required optional) (fit : attributes_fit text op row ≡ true) where
  -- an attribute that stands: which of the op's attributes it is, and the kind of its value
  pub record Stood (k : ℕ) : Type 0 where
    pub place : ℕ
    pub below : place < length attrs
    pub few : place < 8
    pub name : name_of text op k ≡ place_of op attribute_name place
    pub written : FormedAttribute text (name_of text op k) (attribute_with text k attrs)
    pub form : form_at text (name_of text op k) ≡ attribute_kind k

  pub stood : (k : ℕ) → stands text op k ≡ true → Stood k
  unfolding name_of kind_fits
  stood k e =
      let s = stands-there text op row fit k e in
      let j = stands_at text op k in
      let t = all_told text op attrs listed formed row required optional names fit in
      let h : j < length attrs = omega arith in
      let f = few text op attrs listed formed row required optional names fit j h in
      let q : attribute_number text (get_or attrs j no_attribute_text) ≡ k = sym (attribute-number text op attrs listed formed j f) ∙ s.1 in
      let d = none-doubled text op attrs listed formed row required optional names fit in
      let w : attribute_with text k attrs ≡ get_or attrs j no_attribute_text =
      with_at text k attrs j h q (λ i g z. doubled-false text no_attribute_text attrs d i j g h (z ∙ sym q)) in
      let n : name_of text op k ≡ place_of op attribute_name j = rw e in
      let p : FormedAttribute text (name_of text op k) (attribute_with text k attrs) =
      subst (λ (n : ℕ). FormedAttribute text n (attribute_with text k attrs)) (sym (n ∙ attribute-place text op attrs listed formed j f))
      (subst (λ (a : AttributeText). FormedAttribute text (first_token (get_or attrs j no_attribute_text).names) a) (sym w) (piece text op attrs listed formed j h)) in
      record {
        place = j;
        below = h;
        few = f;
        name = n;
        written = p;
        form = eqb-true (form_at text (name_of text op k)) (attribute_kind k) (both_true (eqb (form_at text (name_of text op k)) (attribute_kind k)) _ (kind_fits_lem text op row fit k e)).0;
      }

  -- one that does not stand has no value
  pub gone : (k : ℕ) → stands text op k ≡ false → attribute_with text k attrs ≡ no_attribute_text
  gone k e =
      let t = all_told text op attrs listed formed row required optional names fit in
      with_none text k attrs
      (λ j h q. stands-nowhere text op attrs listed formed k e j (omega arith) (attribute-number text op attrs listed formed j (few text op attrs listed formed row required optional names fit j h) ∙ q))

  -- the choice of attribute k of the op table, which is a choice
  pub choice-named : (k : ℕ) → 3 < attribute_kind k → choice_of text op k ≡ choice_named_by text k attrs
  unfolding choice_of
  choice-named k c = by-test (stands text op k) refl
    where
      by-test : (b : Bool) → stands text op k ≡ b → pick b (choice_at text (name_of text op k)).choice no_choice ≡ choice_named_by text k attrs
      by-test true e =
          let s = stood k e in
          let i = is-choice text s.written (let f = s.form in omega arith) in
          choice-is text s.written i ∙ sym (ap (λ (b : Bool). pick b (choice_number text (attribute_with text k attrs)) no_choice) i)
      by-test false e = sym (ap (λ (a : AttributeText). pick (ltb 0 (length a.choices)) (choice_number text a) no_choice) (gone k e))

  -- the type written after the dense value of attribute k, which stands
  pub type-named : (k : ℕ) → attribute_kind k ≡ DenseKind → stands text op k ≡ true → dense_type text op k ≡ type_written text (attribute_with text k attrs)
  unfolding dense_type
  type-named k c e =
      let s = stood k e in
      let i = is-dense text s.written (s.form ∙ c) in
      rw e (ap (type_in text) (type-is text s.written i))

  -- a constant has a dense value
  pub dense-named : stands text op value ≡ true → ltb 0 (length (attribute_with text value attrs).types) ≡ true
  dense-named e = let s = stood value e in is-dense text s.written (s.form ∙ value-dense)

  -- the elements of a constant's dense value
  pub elements-named : stands text op value ≡ true → dense_elements text op ≡ (dense_written text (attribute_with text value attrs)).elements
  unfolding dense_elements
  elements-named e =
      let s = stood value e in
      let i = is-dense text s.written (s.form ∙ value-dense) in
      let c = dense_tokens text (name_of text op value) in
      let a = attribute_with text value attrs in
      rw e (
      ap (λ (l : ℕ). (dense_value (type_in text c.ty).element (dims_of (type_in text c.ty).shape) text l).elements) (literal-is text s.written i)
      ∙ ap (λ (t : ℕ). (dense_value (type_in text t).element (dims_of (type_in text t).shape) text (first_token a.literals)).elements) (type-is text s.written i))
