-- The attributes fit a row of the op table where none of refusal 7's reasons for attributes holds. 01: "an attribute missing, doubled, foreign to the op or of the wrong
-- kind; a dense value of other sizes, kind or range than its type".
-- Assumes nothing.
use mathlib.Core.Path.{◌≡◌, refl, sym, ap, subst, ◌∙◌}
use mathlib.Core.List.{List, ◌++◌, map}
use mathlib.Core.Bool.{Bool, true, false, not, ◌&&◌, ◌||◌}
use Prim.Native.Nat.{ℕ, zero, suc, ◌<◌, ◌≤◌, min}
use native.Mathlib.Omega.{arith}
use lib.Dec.{ltb, eqb}
use lib.ListN.{length, get_or}
use borrow.Author.Tests.{eqb-true, eq-eqb, ne_eqb, ltb-true, ltb-false, lt-ltb}
use Rattle.lists.specs.Lists.{tab, first_where, All}
use Rattle.lists.proofs.AllLaw.{all-get}
use Rattle.lists.proofs.TestLaw.{both_true}
use Rattle.lists.proofs.TabLaw.{length-tab, get_or-tab}
use Rattle.lists.proofs.SearchLaw.{none_passes}
use Rattle.scan.specs.Bytes.{among}
use Rattle.text.specs.Lex.{token_at}
use Rattle.optable.specs.Table.{no_attribute, attribute_kind, attribute_names, attributes}
use Rattle.optable.specs.Find.{find_attribute, slot_in, name_place, same, stretch}
use Rattle.optable.specs.declared.Row.{Row}
use Rattle.dimrules.specs.Count.{everywhere}
use Rattle.program.specs.declared.Parts.{Parts}
use Rattle.places.specs.Places.{attribute_name, count_of, place_of}
use Rattle.attributes.specs.Attributes.{attributes_of, attribute_of, stands_at, stands, kind_fits, attribute_fits, needed_at, attributes_fit}
use Rattle.attributes.proofs.AttributesLaw.{Sought, seek-none, seek-next, seek-here, attributes-few, attributes-each, attributes-needed}
use Rattle.source.specs.Source.{AttributeText}
use Rattle.verifier.specs.AttributeRules.{first_token, some_of, attribute_number, no_attribute_text, missing_attribute, doubled_attribute, foreign_attribute, unlike_kind, unfit_dense}
use Rattle.source_laws.specs.Listed.{PartListed}
use Rattle.default_laws.proofs.AttributeLaw.{few-attributes, stands-there}
use Rattle.default_laws.proofs.DenseLaw.{not-both}
use Rattle.attribute_laws.specs.ValueForms.{FormedAttribute}
use Rattle.attribute_laws.proofs.PiecesLaw.{Piece}
use Rattle.attribute_laws.proofs.ReadLaw.{kind-fits-is}
use Rattle.attribute_laws.proofs.SomeLaw.{neither, same_test, not-false-true, not-true-false, some-false, some-none, length-map, get-map, among-false, among_none, doubled-false, doubled-none, everywhere-all, first-within}

-- a row of the op table and the attributes that must stand and may stand
pub record RowNames (row : Row) (required optional : List ℕ) : Type 0 where
  pub allowed : (k : ℕ) → k ≤ no_attribute → ltb k no_attribute && ltb (slot_in row k) 3 ≡ among (required ++ optional) k
  pub needed : row.needed ≡ length required
  pub each : (s : ℕ) → s < length required → needed_at row s ≡ get_or required s 0

pub number-within : (text : List ℕ) (a : AttributeText) → attribute_number text a ≤ no_attribute
unfolding find_attribute name_place attribute_names attributes
number-within text a = let at = first_token a.names in first-within (λ n. same n (stretch text at (token_at text at).end)) attribute_names

-- an op whose attributes' names are those of the lists, each of one of the four forms
module _ (text : List ℕ) (op : Parts) (attrs : List AttributeText) (listed : PartListed op attribute_name (map (λ a. first_token a.names) attrs)) (formed : All (Piece text) attrs) where
  abbrev attr : ℕ → AttributeText
  attr j = get_or attrs j no_attribute_text

  abbrev number : ℕ → ℕ
  number j = attribute_number text (attr j)

  pub attribute-count : count_of op attribute_name ≡ min (length attrs) 9
  attribute-count = let z = length-map (λ (a : AttributeText). first_token a.names) attrs in let c = listed.count in omega arith

  pub attributes-are : attributes_of op ≡ min (length attrs) 8
  unfolding attributes_of
  attributes-are = let c = attribute-count in omega arith

  pub attribute-place : (j : ℕ) → j < 8 → place_of op attribute_name j ≡ first_token (attr j).names
  attribute-place j h = listed.place j h ∙ get-map (λ (a : AttributeText). first_token a.names) no_attribute_text attrs j

  -- attribute j's number in the op table
  pub attribute-number : (j : ℕ) → j < 8 → attribute_of text op j ≡ number j
  unfolding attribute_of
  attribute-number j h = ap (λ (at : ℕ). find_attribute text at (token_at text at).end) (attribute-place j h)

  pub piece : (j : ℕ) → j < length attrs → FormedAttribute text (first_token (attr j).names) (attr j)
  piece j h = all-get (Piece text) attrs no_attribute_text formed j h

  -- ---- where an attribute stands

  sought-to : (k j : ℕ) → j ≤ attributes_of op → ((i : ℕ) → i < j → attribute_of text op i ≡ k → ⊥) → Sought text op k j
  sought-to k zero h n = seek-none text op k
  sought-to k (suc j) h n =
      subst (Sought text op k) (omega arith) (seek-next text op k j (sought-to k j (omega arith) (λ i g. n i (omega arith))) (omega arith) (ne_eqb (attribute_of text op j) k (n j (omega arith))))

  stands_at_lem : (k j : ℕ) → j < attributes_of op → attribute_of text op j ≡ k → ((i : ℕ) → i < j → attribute_of text op i ≡ k → ⊥) → stands_at text op k ≡ j
  stands_at_lem k j h e n = sym (seek-here text op k j (sought-to k j (omega arith) n) h (eq-eqb (attribute_of text op j) k e))

  -- one that stands nowhere is none of the first eight
  pub stands-nowhere : (k : ℕ) → stands text op k ≡ false → (j : ℕ) → j < attributes_of op → attribute_of text op j ≡ k → ⊥
  unfolding stands stands_at
  stands-nowhere k e j h q =
      let n = attributes_of op in
      let t : ℕ → Bool = λ j. eqb (attribute_of text op j) k in
      let l = length-tab n (λ (j : ℕ). j) in
      let a = ltb-false (first_where t (tab n (λ j. j))) n e in
      let b = first-within t (tab n (λ j. j)) in
      let z : first_where t (tab n (λ j. j)) ≡ length (tab n (λ j. j)) = omega arith in
      let p : t (get_or (tab n (λ j. j)) j 0) ≡ false = none_passes t (tab n (λ j. j)) j z (rw l h) in
      not-both (eq-eqb (attribute_of text op j) k q) (rw (get_or-tab n (λ j. j) j 0 h) at p)

  -- ---- a row

  module _ (row : Row) (required optional : List ℕ) (names : RowNames row required optional) where
    abbrev unfit : Bool
    unfit =
        missing_attribute text required attrs || doubled_attribute text attrs || foreign_attribute text (required ++ optional) attrs || some_of (unlike_kind text) attrs

    abbrev wrong : Bool
    wrong = some_of (unfit_dense text) attrs

    -- ---- what fits has no reason

    module _ (fit : attributes_fit text op row ≡ true) where
      pub all_told : attributes_of op ≡ length attrs
      all_told = let a = attributes-few text op row fit in let c = attribute-count in let b = attributes-are in omega arith

      below : (j : ℕ) → j < length attrs → j < attributes_of op
      below j h = let a = all_told in omega arith

      pub few : (j : ℕ) → j < length attrs → j < 8
      few j h = let a = all_told in let b = attributes-are in omega arith

      -- attribute j: its number, its place in the row, where it stands, its kind
      fits-at : (j : ℕ) → j < length attrs →
          (ltb (number j) no_attribute && ltb (slot_in row (number j)) 3 ≡ true) × (stands_at text op (number j) ≡ j) × (kind_fits text (first_token (attr j).names) (attribute_kind (number j)) ≡ true)
      unfolding attribute_fits
      fits-at j h =
          let k = attribute_of text op j in
          let f = attributes-each text op row fit j (below j h) in
          let e = attribute-number j (few j h) in
          let w = attribute-place j (few j h) in
          let a = both_true (ltb k no_attribute && ltb (slot_in row k) 3 && eqb (stands_at text op k) j) (kind_fits text (place_of op attribute_name j) (attribute_kind k)) f in
          let b = both_true (ltb k no_attribute && ltb (slot_in row k) 3) (eqb (stands_at text op k) j) a.0 in (
            subst (λ (k : ℕ). ltb k no_attribute && ltb (slot_in row k) 3 ≡ true) e b.0,
            subst (λ (k : ℕ). stands_at text op k ≡ j) e (eqb-true (stands_at text op k) j b.1),
            subst (λ (k : ℕ). kind_fits text (first_token (attr j).names) (attribute_kind k) ≡ true) e (subst (λ (n : ℕ). kind_fits text n (attribute_kind k) ≡ true) w a.1),
          )

      pub none-doubled : doubled_attribute text attrs ≡ false
      none-doubled =
          doubled-none text no_attribute_text attrs
          (λ i j g h q. let a = (fits-at i (omega arith)).1 in let b = (fits-at j h).1 in let c : i ≡ j = sym a ∙ (ap (stands_at text op) q ∙ b) in omega arith)

      none-foreign : foreign_attribute text (required ++ optional) attrs ≡ false
      none-foreign =
          some-none (λ a. not (among (required ++ optional) (attribute_number text a))) no_attribute_text attrs
          (λ j h. ap not (sym (names.allowed (number j) (number-within text (attr j))) ∙ (fits-at j h).0))

      known : (j : ℕ) → j < length attrs → number j < no_attribute
      known j h = ltb-true (number j) no_attribute (both_true (ltb (number j) no_attribute) (ltb (slot_in row (number j)) 3) (fits-at j h).0).0

      kind_at : (j : ℕ) → j < length attrs → (unlike_kind text (attr j) ≡ false) × (unfit_dense text (attr j) ≡ false)
      kind_at j h =
          let e : not (unlike_kind text (attr j)) && not (unfit_dense text (attr j)) ≡ true = sym (kind-fits-is text (piece j h) (known j h)) ∙ (fits-at j h).2 in
          let b = both_true (not (unlike_kind text (attr j))) (not (unfit_dense text (attr j))) e in
          (not-false-true _ b.0, not-false-true _ b.1)

      none-missing : missing_attribute text required attrs ≡ false
      none-missing = some-none (λ k. not (among (map (attribute_number text) attrs) k)) 0 required (λ s h. ap not (there s h))
        where
          there : (s : ℕ) → s < length required → among (map (attribute_number text) attrs) (get_or required s 0) ≡ true
          there s h = by-test (among (map (attribute_number text) attrs) (get_or required s 0)) refl
            where
              by-test : (b : Bool) → among (map (attribute_number text) attrs) (get_or required s 0) ≡ b → b ≡ true
              by-test true e = refl
              by-test false e =
                  let n = names.needed in
                  let t = attributes-needed text op row fit s (omega arith) in
                  let u = stands-there text op row fit (needed_at row s) t in
                  let j = stands_at text op (needed_at row s) in
                  let l = all_told in
                  let d : j < length attrs = omega arith in
                  absurd (among-false (attribute_number text) no_attribute_text attrs (get_or required s 0) e j d (sym (names.each s h) ∙ (sym u.1 ∙ attribute-number j (few j d))))

      no-reason : not unfit && not wrong ≡ true
      no-reason =
          rw (none-missing, none-doubled, none-foreign, some-none (unlike_kind text) no_attribute_text attrs (λ j h. (kind_at j h).0), some-none (unfit_dense text) no_attribute_text attrs (λ j h. (kind_at j h).1))

    -- ---- what has no reason fits

    module _ (good : not unfit && not wrong ≡ true) where
      reasons : (missing_attribute text required attrs ≡ false) × (doubled_attribute text attrs ≡ false) × (foreign_attribute text (required ++ optional) attrs ≡ false) ×
          (some_of (unlike_kind text) attrs ≡ false) × (wrong ≡ false)
      reasons =
          let b = both_true (not unfit) (not wrong) good in
          let m = missing_attribute text required attrs in
          let d = doubled_attribute text attrs in
          let f = foreign_attribute text (required ++ optional) attrs in
          let o = some_of (unlike_kind text) attrs in
          let x = neither (m || d || f) o (not-false-true unfit b.0) in
          let y = neither (m || d) f x.0 in
          let z = neither m d y.0 in
          (z.0, z.1, y.1, x.1, not-false-true wrong b.1)

      in_row : (j : ℕ) → j < length attrs → ltb (number j) no_attribute && ltb (slot_in row (number j)) 3 ≡ true
      in_row j h =
          names.allowed (number j) (number-within text (attr j))
          ∙ not-true-false (among (required ++ optional) (number j)) (some-false (λ a. not (among (required ++ optional) (attribute_number text a))) no_attribute_text attrs reasons.2 j h)

      fits-number : (j : ℕ) → j < attributes_of op → attribute_fits text op row j ≡ true
      unfolding attribute_fits
      fits-number j h =
          let c = attributes-are in
          let l : j < length attrs = omega arith in
          let e = attribute-number j (omega arith) in
          let w = attribute-place j (omega arith) in
          let a = in_row j l in
          let k = ltb-true (number j) no_attribute (both_true (ltb (number j) no_attribute) (ltb (slot_in row (number j)) 3) a).0 in
          let s : stands_at text op (number j) ≡ j = stands_at_lem (number j) j h e
          (λ i g q. doubled-false text no_attribute_text attrs reasons.1 i j g l (sym (attribute-number i (omega arith)) ∙ q)) in
          let f : kind_fits text (first_token (attr j).names) (attribute_kind (number j)) ≡ true =
          kind-fits-is text (piece j l) k ∙ rw (some-false (unlike_kind text) no_attribute_text attrs reasons.3 j l, some-false (unfit_dense text) no_attribute_text attrs reasons.4 j l) in
          rw (e, w, a, s, eq-eqb j j refl, f)

      fits_each : everywhere (attributes_of op) (attribute_fits text op row) ≡ true
      fits_each = everywhere-all (attributes_of op) (attribute_fits text op row) fits-number

      few-told : (length attrs ≤ 3) × (attributes_of op ≡ length attrs)
      few-told = let a = few-attributes text op row fits_each in let c = attribute-count in let b = attributes-are in (omega arith, omega arith)

      stands-needed : (s : ℕ) → s < row.needed → stands text op (needed_at row s) ≡ true
      stands-needed s h = by-test (stands text op (needed_at row s)) refl
        where
          by-test : (b : Bool) → stands text op (needed_at row s) ≡ b → b ≡ true
          by-test true e = refl
          by-test false e =
              let n = names.needed in
              let l : s < length required = omega arith in
              let m = not-true-false _ (some-false (λ k. not (among (map (attribute_number text) attrs) k)) 0 required reasons.0 s l) in
              let f = few-told in
              let z = among_none (attribute_number text) no_attribute_text attrs (get_or required s 0)
              (λ j g q. stands-nowhere (needed_at row s) e j (omega arith) (attribute-number j (omega arith) ∙ (sym q ∙ sym (names.each s l)))) in
              absurd (not-both m z)

      all-fit : attributes_fit text op row ≡ true
      unfolding attributes_fit
      all-fit =
          let f = few-told in
          let c = attribute-count in
          rw (lt-ltb (count_of op attribute_name) 9 (omega arith), fits_each, everywhere-all row.needed (λ s. stands text op (needed_at row s)) stands-needed)

    -- the attributes fit the row where no reason holds
    pub attributes-fit : attributes_fit text op row ≡ not unfit && not wrong
    attributes-fit = same_test (attributes_fit text op row) (not unfit && not wrong) no-reason all-fit
