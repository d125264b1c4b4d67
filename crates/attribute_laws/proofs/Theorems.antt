-- The attributes of an op of a text that reading passes (refusals 1 to 4: none), by their names and as whole numbers, are those that the code reads; and they fit the op's row
-- where none of refusal 7's reasons for attributes holds.
-- Assumes nothing.
use mathlib.Core.Path.{◌≡◌, refl, sym, ap, subst, ◌∙◌}
use mathlib.Core.List.{List, [], ◌∷◌, map}
use mathlib.Core.Bool.{Bool, true, false, not, ◌&&◌, ◌||◌}
use Prim.Native.Nat.{ℕ, ◌+◌, ◌<◌, min}
use native.Mathlib.Omega.{arith}
use lib.Dec.{eqb}
use lib.ListN.{length, get_or}
use borrow.Author.Tests.{ne_eqb}
use Rattle.lists.specs.Lists.{All}
use Rattle.grammar.specs.Symbols.{OpName, Op as OpSymbol}
use Rattle.syntax.specs.Readings.{readings_of}
use Rattle.syntax.specs.OpsAlone.{OpAlone}
use Rattle.judge.specs.Judge.{text_refusal}
use Rattle.program.specs.declared.Parts.{Parts}
use Rattle.program.specs.Parts.{no_parts, parts_from, op_at}
use Rattle.program.specs.Program.{program_of}
use Rattle.places.specs.Places.{attribute_name, count_of, place_of}
use Rattle.optable.specs.Table.{OpRow, ops, row_at, comparison_direction, compare_type, value}
use Rattle.attribute.specs.Attribute.{form_at}
use Rattle.attributes.specs.Attributes.{stands, attributes_fit, name_of, numbers_by, attribute_numbers, dense_type}
use Rattle.source.specs.Source.{AttributeText, OpText, op_from, function_of}
use Rattle.verifier.specs.AttributeRules.{first_token, some_of, no_attribute_text, numbers_written, numbers_named, type_written, attribute_with, doubled_attribute, unlike_kind}
use Rattle.verifier.specs.Reasons.{wrong_attribute, wrong_dense}
use Rattle.reading_laws.proofs.OpsLaw.{read-program}
use Rattle.source_laws.specs.Listed.{PartListed}
use Rattle.source_laws.specs.Pieces.{op_place}
use Rattle.source_laws.proofs.ListedLaw.{part-listed}
use Rattle.source_laws.proofs.CutLaw.{attribute-names}
use Rattle.source_laws.proofs.SameLaw.{op-parts, op-read, same_parts}
use Rattle.default_laws.proofs.NumberLaw.{number-in-range}
use Rattle.default_laws.proofs.NumbersLaw.{list_written, list_read}
use Rattle.attribute_laws.specs.ValueForms.{FormedAttribute}
use Rattle.attribute_laws.specs.AttributesRead.{AttributeRead, wholes, AttributesNamed}
use Rattle.attribute_laws.proofs.PiecesLaw.{Piece, attributes-formed}
use Rattle.attribute_laws.proofs.ReadLaw.{form-is, choice-is, literal-is, type-is}
use Rattle.attribute_laws.proofs.SomeLaw.{length-map}
use Rattle.attribute_laws.proofs.FitLaw.{attribute-count, attribute-place, attribute-number, piece, attributes-fit}
use Rattle.attribute_laws.proofs.RowLaw.{row_named}
use Rattle.attribute_laws.proofs.NamedLaw.{Stood, stood, gone, choice-named, type-named, elements-named, dense-named, value-dense, direction-chosen, compared-chosen}
use Rattle.attribute_laws.proofs.BlankLaw.{no-type-first}
use Rattle.attribute_laws.proofs.WholeLaw.{numbers-whole}

module _ (text : List ℕ) (read : (text_refusal text).number ≡ 0) where
  -- ---- an op that is read alone from a byte on

  -- its attributes
  abbrev pub alone : ℕ → List AttributeText
  alone at = (op_from (readings_of OpSymbol text at)).attributes

  pub alone-listed : (at : ℕ) → PartListed (op_at text at) attribute_name (map (λ a. first_token a.names) (alone at))
  alone-listed at =
      let xs = readings_of OpSymbol text at in
      subst (λ (p : Parts). PartListed p attribute_name (map (λ a. first_token a.names) (alone at))) (sym (op-parts text read at))
      (subst (PartListed (parts_from 0 no_parts 0 xs) attribute_name) (sym (attribute-names 0 0 xs)) (part-listed attribute_name 0 xs (omega arith)))

  module _ (role at : ℕ) (o : OpAlone text role at) where
    abbrev op : Parts
    op = op_at text at

    abbrev attrs : List AttributeText
    attrs = alone at

    abbrev formed : All (Piece text) attrs
    formed = attributes-formed text role at o

    -- attribute j
    pub attribute-read : (j : ℕ) → j < 8 → j < length attrs → AttributeRead text op j (get_or attrs j no_attribute_text)
    attribute-read j h l =
        let n = attribute-place text op attrs (alone-listed at) formed j h in
        let p : FormedAttribute text (place_of op attribute_name j) (get_or attrs j no_attribute_text) =
        subst (λ (n : ℕ). FormedAttribute text n (get_or attrs j no_attribute_text)) (sym n) (piece text op attrs (alone-listed at) formed j l) in
        record {
          name = n;
          number = attribute-number text op attrs (alone-listed at) formed j h;
          kind = form-is text p;
          choice = choice-is text p;
          literal = literal-is text p;
          type = type-is text p;
        }

    -- its attributes fit row i of the op table where none of the reasons holds
    pub alone-fit : (i : ℕ) (d : OpRow) → i < length ops → attributes_fit text op (row_at i) ≡
        not (wrong_attribute text (get_or ops i d).required (get_or ops i d).optional (op_from (readings_of OpSymbol text at))) && not (wrong_dense text (op_from (readings_of OpSymbol text at)))
    alone-fit i d h = attributes-fit text op attrs (alone-listed at) formed (row_at i) (get_or ops i d).required (get_or ops i d).optional (row_named i d h)

  -- ---- op k of the program, not the return

  module _ (k : ℕ) (h : k + 1 < (program_of text).count) where
    abbrev op-k : Parts
    op-k = op_at text (op_place text k)

    abbrev attrs-k : List AttributeText
    attrs-k = alone (op_place text k)

    abbrev alone-k : OpAlone text OpName (op_place text k)
    alone-k = (read-program text read).each k h

    abbrev formed-k : All (Piece text) attrs-k
    formed-k = attributes-formed text OpName (op_place text k) alone-k

    counted : (j : ℕ) → j < 8 → j < length attrs-k → j < count_of op-k attribute_name
    counted j m l = let c = attribute-count text op-k attrs-k (alone-listed (op_place text k)) formed-k in omega arith

    numbers-at : (j : ℕ) → j < 8 → j < length attrs-k → (name : ℕ) → name ≡ place_of op-k attribute_name j → (a : AttributeText) → FormedAttribute text name a →
        wholes (numbers_by text name (form_at text name)) ≡ numbers_written text a
    numbers-at j m l name e a p =
        subst (λ (n : ℕ). wholes (numbers_by text n (form_at text n)) ≡ numbers_written text a) (sym e)
        (numbers-whole text (place_of op-k attribute_name j) (number-in-range text read k h j (counted j m l) m) (list_written text read k h j (counted j m l) m)
        (list_read text read k h j (counted j m l) m) (subst (λ (n : ℕ). FormedAttribute text n a) e p))

    -- the numbers of attribute j, as they are written
    pub attribute-numbers : (j : ℕ) → j < 8 → j < length attrs-k →
        wholes (numbers_by text (place_of op-k attribute_name j) (form_at text (place_of op-k attribute_name j))) ≡ numbers_written text (get_or attrs-k j no_attribute_text)
    attribute-numbers j m l =
        let e = attribute-place text op-k attrs-k (alone-listed (op_place text k)) formed-k j m in
        numbers-at j m l (place_of op-k attribute_name j) refl (get_or attrs-k j no_attribute_text)
        (subst (λ (n : ℕ). FormedAttribute text n (get_or attrs-k j no_attribute_text)) (sym e) (piece text op-k attrs-k (alone-listed (op_place text k)) formed-k j l))

    -- the attributes fit row i of the op table where none of the reasons holds
    pub op-attributes-fit : (e : OpText) (i : ℕ) (d : OpRow) → i < length ops → attributes_fit text op-k (row_at i) ≡
        not (wrong_attribute text (get_or ops i d).required (get_or ops i d).optional (get_or (function_of text).ops k e)) && not (wrong_dense text (get_or (function_of text).ops k e))
    op-attributes-fit e i d g =
        subst (λ (o : OpText). attributes_fit text op-k (row_at i) ≡ not (wrong_attribute text (get_or ops i d).required (get_or ops i d).optional o) && not (wrong_dense text o))
        (sym (op-read text read k h e)) (alone-fit OpName (op_place text k) alone-k i d g)

    -- and then the values by their names are those that the lists say
    module _ (i : ℕ) (d : OpRow) (g : i < length ops) (fit : attributes_fit text op-k (row_at i) ≡ true) where
      abbrev found : (n : ℕ) → stands text op-k n ≡ true → Stood text op-k attrs-k (alone-listed (op_place text k)) formed-k (row_at i) (get_or ops i d).required (get_or ops i d).optional (row_named i d g) fit n
      found = stood text op-k attrs-k (alone-listed (op_place text k)) formed-k (row_at i) (get_or ops i d).required (get_or ops i d).optional (row_named i d g) fit

      numbers-named : (n : ℕ) → wholes (attribute_numbers text op-k n) ≡ numbers_named text n attrs-k
      unfolding attribute_numbers
      numbers-named n = by-test (stands text op-k n) refl
        where
          by-test : (b : Bool) → stands text op-k n ≡ b → wholes (attribute_numbers text op-k n) ≡ numbers_named text n attrs-k
          by-test true e =
              let s = found n e in
              rw e
              (ap (λ (f : ℕ). wholes (numbers_by text (name_of text op-k n) f)) (sym s.form)
              ∙ numbers-at s.place s.few s.below (name_of text op-k n) s.name (attribute_with text n attrs-k) s.written)
          by-test false e =
              let z = gone text op-k attrs-k (alone-listed (op_place text k)) formed-k (row_at i) (get_or ops i d).required (get_or ops i d).optional (row_named i d g) fit n e in
              rw e (sym (ap (numbers_written text) z))

      -- where none stands, `tensor<i1>`: no type is written at the first byte
      dense-type : dense_type text op-k value ≡ type_written text (attribute_with text value attrs-k)
      unfolding dense_type
      dense-type = by-test (stands text op-k value) refl
        where
          by-test : (b : Bool) → stands text op-k value ≡ b → dense_type text op-k value ≡ type_written text (attribute_with text value attrs-k)
          by-test true e = type-named text op-k attrs-k (alone-listed (op_place text k)) formed-k (row_at i) (get_or ops i d).required (get_or ops i d).optional (row_named i d g) fit value value-dense e
          by-test false e =
              let z = gone text op-k attrs-k (alone-listed (op_place text k)) formed-k (row_at i) (get_or ops i d).required (get_or ops i d).optional (row_named i d g) fit value e in
              rw e (sym (no-type-first text read) ∙ sym (ap (type_written text) z))

      named-alone : AttributesNamed text op-k attrs-k
      named-alone =
          let chosen = choice-named text op-k attrs-k (alone-listed (op_place text k)) formed-k (row_at i) (get_or ops i d).required (get_or ops i d).optional (row_named i d g) fit in
          record {
            numbers = numbers-named;
            direction = chosen comparison_direction (let c = direction-chosen in omega arith);
            compared = chosen compare_type (let c = compared-chosen in omega arith);
            type = dense-type;
            elements = elements-named text op-k attrs-k (alone-listed (op_place text k)) formed-k (row_at i) (get_or ops i d).required (get_or ops i d).optional (row_named i d g) fit;
            dense = dense-named text op-k attrs-k (alone-listed (op_place text k)) formed-k (row_at i) (get_or ops i d).required (get_or ops i d).optional (row_named i d g) fit;
            absent = gone text op-k attrs-k (alone-listed (op_place text k)) formed-k (row_at i) (get_or ops i d).required (get_or ops i d).optional (row_named i d g) fit value;
          }

      pub op-attributes-named : (e : OpText) → AttributesNamed text op-k (get_or (function_of text).ops k e).attributes
      op-attributes-named e = subst (λ (o : OpText). AttributesNamed text op-k o.attributes) (sym (op-read text read k h e)) named-alone

  -- ---- the return

  none-fit : (n : ℕ) (o : OpText) → n ≡ min (length o.attributes) 9 → eqb n 0 ≡ not (wrong_attribute text [] [] o)
  none-fit n o e = by-attributes o.attributes e
    where
      some-reason : (b c : Bool) → false ≡ not ((b || true) || c)
      some-reason true c = refl
      some-reason false c = refl

      by-attributes : (l : List AttributeText) → n ≡ min (length l) 9 → eqb n 0 ≡ not (((false || doubled_attribute text l) || some_of (λ a. not false) l) || some_of (unlike_kind text) l)
      by-attributes [] q = let z : n ≡ 0 = omega arith in rw z
      by-attributes (a ∷ l) q = ne_eqb n 0 (λ z. omega arith) ∙ some-reason (doubled_attribute text (a ∷ l)) (some_of (unlike_kind text) (a ∷ l))

  -- the return has no attribute where none is missing, doubled, foreign or of the wrong kind, none being its own
  pub return-attributes-fit : (k : ℕ) → k < (program_of text).count → (e : OpText) →
      eqb (count_of (op_at text (op_place text k)) attribute_name) 0 ≡ not (wrong_attribute text [] [] (get_or (function_of text).ops k e))
  return-attributes-fit k h e =
      let o = get_or (function_of text).ops k e in
      let s = (same_parts text read k h e).attributes.count in
      let z = length-map (λ (a : AttributeText). first_token a.names) o.attributes in
      none-fit (count_of (op_at text (op_place text k)) attribute_name) o (omega arith)
