-- The numbers of an attribute that are read, as whole numbers, are those that are written (01, Sizes, 6: "An attribute list has at most 6 numbers", and 7: "An attribute
-- number outside `dense` lies in the signed 64-bit range").
-- Assumes nothing.
use mathlib.Core.Path.{◌≡◌, refl, sym, ap, ◌∙◌}
use mathlib.Core.List.{List, [], ◌∷◌, ◌++◌, map}
use mathlib.Core.Bool.{Bool, true, false}
use Prim.Native.Nat.{ℕ, suc, ◌-◌, ◌^◌}
use native.Mathlib.Omega.{arith}
use lib.IntN.{ℤ}
use lib.Signed.{mag}
use lib.ListN.{length, get_or, take, replicate}
use borrow.Author.Tests.{ltb-true}
use Rattle.lists.specs.Lists.{pick, tab}
use Rattle.lists.proofs.TabLaw.{tab-get_or, map-tab}
use Rattle.shape.specs.Index.{at}
use Rattle.text.specs.Lex.{token_at}
use Rattle.shape.specs.Whole.{pattern_of}
use Rattle.shape.proofs.WholeLaw.{number-pattern}
use Rattle.types.specs.Numbers.{decimal_number, is_attribute_number}
use Rattle.grammar.specs.Symbols.{COMMA, COLON, among_symbols}
use Rattle.dimrules.specs.Whole as whole
use Rattle.optable.specs.Table.{NumbersKind as NumberList, Number}
use Rattle.attribute.specs.Attribute.{token_after, value_token, form_at, number_at, numbers_at, choice_at}
use Rattle.dimrules.specs.declared.Numbers.{Numbers as ReadNumbers}
use Rattle.attributes.specs.Attributes.{numbers_by}
use Rattle.source.specs.Source.{AttributeText}
use Rattle.verifier.specs.AttributeRules.{numbers_written}
use Rattle.default_laws.proofs.DenseLaw.{not-both}
use Rattle.default_laws.proofs.NumberLaw.{pattern-written, NumberStands}
use Rattle.default_laws.proofs.NumbersLaw.{Listed, filled, written, ListStands}
use Rattle.default_laws.proofs.NumbersLaw as lists
use Rattle.attribute_laws.specs.ValueForms.{Marked, ValueForm, FormedAttribute, number, list, dense, choice}
use Rattle.attribute_laws.specs.ValueForms as forms
use Rattle.attribute_laws.specs.AttributesRead.{wholes}
use Rattle.attribute_laws.proofs.ReadLaw.{ChoiceForm, none, direction, compared, choice-form}
use Rattle.attribute_laws.proofs.FormLaw.{form-number, form-list, form-dense, form-choice}

-- ---- a number of 64 bits

-- a number within the signed 64-bit range is that of its pattern
pub pattern-whole : (z : ℤ) → is_attribute_number z ≡ true → whole.number_of (pattern_of z) ≡ z
unfolding is_attribute_number
pattern-whole z e = number-pattern z (ltb-true (mag z) (2 ^ 63) e)

-- ---- lists

take_all : (vs zs : List ℕ) → take (length vs) (vs ++ zs) ≡ vs
take_all [] zs = refl
take_all (v ∷ vs) zs = ap {B = List ℕ} (λ l. v ∷ l) (take_all vs zs)

wholes-filled : (vs : List ℕ) (n : ℕ) → wholes (record { count = length vs; list = vs ++ replicate n 0 }) ≡ map whole.number_of vs
wholes-filled vs n =
    ap (λ (l : List ℕ). tab (length vs) (λ d. whole.number_of (get_or l d 0))) (take_all vs (replicate n 0))
    ∙ (sym (map-tab whole.number_of (length vs) (λ d. get_or vs d 0)) ∙ ap (map whole.number_of) (tab-get_or vs 0))

module _ (text : List ℕ) where
  -- the numbers of a list by its tokens are one list
  same-starts : {mark at : ℕ} {starts mine : List ℕ} → among_symbols (COLON ∷ COMMA ∷ []) mark ≡ true → Listed text mark at starts → Marked text at mine → starts ≡ mine
  same-starts m (lists.closed e) (forms.closed f) = refl
  same-starts m (lists.closed e) (forms.number f n) = absurd (not-both (rw e at f) refl)
  same-starts m (lists.number e k f l) (forms.closed g) = absurd (not-both (rw (sym e ∙ g) at m) refl)
  same-starts m (lists.number {at = at} {starts = ms} e k f l) (forms.number g n) = ap (λ (l : List ℕ). (token_at text (token_at text at).end).start ∷ l) (same-starts refl l n)

  all_whole : {mark at : ℕ} {starts : List ℕ} → Listed text mark at starts → map whole.number_of (map (written text) starts) ≡ map (decimal_number text) starts
  all_whole (lists.closed e) = refl
  all_whole (lists.number {at = at} {starts = ms} e k f l) =
      let s = (token_at text (token_at text at).end).start in
      ap {B = List ℤ} (λ (z : ℤ). z ∷ map whole.number_of (map (written text) ms)) (pattern-whole (decimal_number text s) f) ∙ ap {B = List ℤ} (λ (l : List ℤ). decimal_number text s ∷ l) (all_whole l)

  -- ---- an attribute of one of the four forms

  module _ (name : ℕ) (single : NumberStands text name) (six : ListStands text name)
      (List-read : (form : form_at text name ≡ NumberList) → numbers_at text name ≡ filled (map (written text) (six form).starts) (6 - length (six form).starts)) where
    abbrev numbers_in : AttributeText → List ℤ
    numbers_in v = map (decimal_number text) (v.single ++ v.listed)

    one_number : (k : form_at text name ≡ Number) → wholes (numbers_by text name Number) ≡ decimal_number text (value_token text name).start ∷ []
    unfolding numbers_by number_at
    one_number k =
        let s = (value_token text name).start in
        ap {B = List ℤ} (λ (w : ℕ). whole.number_of w ∷ []) (pattern-written text s (single k)) ∙ ap {B = List ℤ} (λ (z : ℤ). z ∷ []) (pattern-whole (decimal_number text s) (single k))

    listed-numbers : (k : form_at text name ≡ NumberList) {starts : List ℕ} → Marked text (token_after 4 text name).end starts → wholes (numbers_by text name NumberList) ≡ map (decimal_number text) starts
    unfolding numbers_by
    listed-numbers k m =
        let s = six k in
        ap (λ (ns : ReadNumbers). wholes (record { count = ns.count; list = ns.list })) (List-read k)
        ∙ (length-written s.starts ∙ (all_whole s.listed ∙ ap (map (decimal_number text)) (same-starts refl s.listed m)))
      where
        length-written : (starts : List ℕ) → wholes (record { count = length (map (written text) starts); list = map (written text) starts ++ replicate (6 - length starts) 0 }) ≡ map whole.number_of (map (written text) starts)
        length-written starts = wholes-filled (map (written text) starts) (6 - length starts)

    no-numbers : {form : ℕ} → ChoiceForm form → wholes (numbers_by text name form) ≡ []
    unfolding numbers_by
    no-numbers none = refl
    no-numbers direction = refl
    no-numbers compared = refl

    dense-none : wholes (numbers_by text name 3) ≡ []
    unfolding numbers_by
    dense-none = refl

    numbers-form : {v : AttributeText} → ValueForm text (token_at text name).end v → wholes (numbers_by text name (form_at text name)) ≡ numbers_in v
    unfolding token_after
    numbers-form (number k) = let e = form-number text name k in ap (λ (f : ℕ). wholes (numbers_by text name f)) e ∙ one_number e
    numbers-form (list k m) = let e = form-list text name k in ap (λ (f : ℕ). wholes (numbers_by text name f)) e ∙ listed-numbers e m
    numbers-form (dense k) = ap (λ (f : ℕ). wholes (numbers_by text name f)) (form-dense text name k) ∙ dense-none
    numbers-form (choice k) = ap (λ (f : ℕ). wholes (numbers_by text name f)) (form-choice text name k) ∙ no-numbers (choice-form (choice_at text name).kind)

    -- the numbers that are read of an attribute are those that are written; none of a choice or a dense value
    pub numbers-whole : {a : AttributeText} → FormedAttribute text name a → wholes (numbers_by text name (form_at text name)) ≡ numbers_written text a
    numbers-whole p = numbers-form p.form ∙ sym (ap (numbers_written text) p.whole)
