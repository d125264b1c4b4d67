-- What the code reads of an attribute by its name's place is what its lists of tokens say: its number in the op table, its kind, its choice, its dense value.
-- Assumes nothing.
use mathlib.Core.Path.{◌≡◌, refl, sym, ap, subst, ◌∙◌}
use mathlib.Core.List.{List, [], ◌∷◌}
use mathlib.Core.Bool.{Bool, true, false, not, ◌&&◌, ◌||◌}
use Prim.Native.Nat.{ℕ, zero, suc, ◌<◌}
use native.Mathlib.Omega.{arith}
use lib.Dec.{ltb, eqb}
use lib.ListN.{length}
use borrow.Author.Tests.{eqb-true}
use Rattle.lists.specs.Lists.{pick}
use Rattle.text.specs.Lex.{token_at}
use Rattle.text.specs.declared.Token.{Token}
use Rattle.grammar.proofs.TableTest.{up-to}
use Rattle.syntax.proofs.AloneLaw.{token-again}
use Rattle.optable.specs.Table.{NumbersKind, Number, DenseKind, Direction, CompareType, no_kind, no_attribute, attributes, attribute_kind, choice_kinds, choice_form, choice_kind}
use Rattle.optable.specs.Find.{find_choice_kind, find_choice}
use Rattle.attribute.specs.Attribute.{token_after, form_at, choice_at, dense_tokens}
use Rattle.attributes.specs.Attributes.{choice_fits, dense_fits, kind_fits}
use Rattle.source.specs.Source.{AttributeText}
use Rattle.verifier.specs.AttributeRules.{first_token, attribute_number, choice_number, value_kind, dense_written, unlike_kind, unfit_dense}
use Rattle.default_laws.proofs.DenseLaw.{not-both, no-T}
use Rattle.attribute_laws.specs.ValueForms.{choice_text, ValueForm, FormedAttribute, number, list, dense, choice}
use Rattle.attribute_laws.proofs.FormLaw.{form-number, form-choice, form-list, form-dense}

-- an attribute's kind is one of the five
kind-known : (k : ℕ) → k < no_attribute → eqb (attribute_kind k) no_kind ≡ false
unfolding attribute_kind attributes
kind-known k h = no-T (eqb (attribute_kind k) no_kind) (up-to no_attribute (λ k. not (eqb (attribute_kind k) no_kind)) k tt h)

-- the kinds that a choice's first word begins
pub data ChoiceForm : ℕ → Type 0 where
  none : ChoiceForm no_kind
  direction : ChoiceForm Direction
  compared : ChoiceForm CompareType

pub choice-form : (k : ℕ) → ChoiceForm (choice_form k)
unfolding choice_form choice_kinds
choice-form zero = direction
choice-form (suc zero) = compared
choice-form (suc (suc k)) = none

-- ---- tests

-- of a value that is no choice and no dense one
plain_fits : (form kind : ℕ) (d c : Bool) → (eqb form kind ≡ true → pick (eqb kind 3) d (pick (eqb kind 4) c (pick (eqb kind 5) c true)) ≡ true) →
    eqb form kind && pick (eqb kind 3) d (pick (eqb kind 4) c (pick (eqb kind 5) c true)) ≡ not (not (eqb form kind) || false) && not false
plain_fits form kind d c f = go (eqb form kind) refl
  where
    go : (b : Bool) → eqb form kind ≡ b → b && pick (eqb kind 3) d (pick (eqb kind 4) c (pick (eqb kind 5) c true)) ≡ not (not b || false) && not false
    go true e = f e
    go false e = refl

dense-fits : (kind : ℕ) (d c ok : Bool) → d ≡ ok → eqb 3 kind && pick (eqb kind 3) d (pick (eqb kind 4) c (pick (eqb kind 5) c true)) ≡ not (not (eqb 3 kind) || false) && not (not ok)
dense-fits kind d c ok q = go (eqb 3 kind) refl
  where
    twice : (b : Bool) → b ≡ not (not b)
    twice true = refl
    twice false = refl

    go : (b : Bool) → eqb 3 kind ≡ b → b && pick (eqb kind 3) d (pick (eqb kind 4) c (pick (eqb kind 5) c true)) ≡ not (not b || false) && not (not ok)
    go true e = let z : 3 ≡ kind = eqb-true 3 kind e in rw (← z) (q ∙ twice ok)
    go false e = refl

choice-fits : (form kind : ℕ) (d c : Bool) → eqb kind no_kind ≡ false → ChoiceForm form →
    eqb form kind && pick (eqb kind 3) d (pick (eqb kind 4) c (pick (eqb kind 5) c true)) ≡ not (not (eqb form kind) || not c) && true
choice-fits form kind d c n w = go (eqb form kind) refl
  where
    twice : (b : Bool) → b ≡ not (not b) && true
    twice true = refl
    twice false = refl

    by_form : {form : ℕ} → ChoiceForm form → form ≡ kind → pick (eqb kind 3) d (pick (eqb kind 4) c (pick (eqb kind 5) c true)) ≡ c
    by_form none e = absurd (not-both (rw (← e)) n)
    by_form direction e = rw (← e)
    by_form compared e = rw (← e)

    go : (b : Bool) → eqb form kind ≡ b → b && pick (eqb kind 3) d (pick (eqb kind 4) c (pick (eqb kind 5) c true)) ≡ not (not b || not c) && true
    go true e = by_form w (eqb-true form kind e) ∙ twice c
    go false e = refl

module _ (text : List ℕ) where
  after-again : (n at : ℕ) → token_at text (token_after n text at).start ≡ token_after n text at
  unfolding token_after
  after-again zero at = token-again text at
  after-again (suc n) at = after-again n (token_at text at).end

  -- an attribute by its name's place and its value
  abbrev named : ℕ → AttributeText → AttributeText
  named name v =
      record { names = name ∷ []; single = v.single; listed = v.listed; kinds = v.kinds; choices = v.choices; literals = v.literals; types = v.types }

  module _ (name : ℕ) where
    kind-by : {v : AttributeText} → ValueForm text (token_at text name).end v → form_at text name ≡ value_kind text (named name v)
    unfolding token_after choice_at
    kind-by (number k) = form-number text name k
    kind-by (list k m) = form-list text name k
    kind-by (dense k) = form-dense text name k
    kind-by (choice k) =
        let t = token_after 4 text name in
        form-choice text name k ∙ ap (λ (u : Token). choice_form (find_choice_kind text t.start u.end)) (sym (after-again 4 name))

    choice-by : {v : AttributeText} → ValueForm text (token_at text name).end v → ltb 0 (length v.choices) ≡ true → (choice_at text name).choice ≡ choice_number text (named name v)
    unfolding token_after choice_at
    choice-by (number k) e = absurd (not-both e refl)
    choice-by (list k m) e = absurd (not-both e refl)
    choice-by (dense k) e = absurd (not-both e refl)
    choice-by (choice k) e =
        let t = token_after 5 text name in
        ap (λ (u : Token). find_choice text t.start u.end) (sym (after-again 5 name))

    dense-by : {v : AttributeText} → ValueForm text (token_at text name).end v → ltb 0 (length v.types) ≡ true →
        ((dense_tokens text name).literal ≡ first_token v.literals) × ((dense_tokens text name).ty ≡ first_token v.types)
    unfolding token_after dense_tokens
    dense-by (number k) e = absurd (not-both e refl)
    dense-by (list k m) e = absurd (not-both e refl)
    dense-by (dense k) e = (refl, refl)
    dense-by (choice k) e = absurd (not-both e refl)

    abbrev rest : ℕ → Bool
    rest kind = pick (eqb kind DenseKind) (dense_fits text name) (pick (eqb kind Direction) (choice_fits text name kind) (pick (eqb kind CompareType) (choice_fits text name kind) true))

    fits_by : (kind : ℕ) → eqb kind no_kind ≡ false → {v : AttributeText} → ValueForm text (token_at text name).end v → kind_fits text name kind ≡
        not (not (eqb (value_kind text (named name v)) kind) || (ltb 0 (length v.choices) && not (eqb (choice_kind (choice_number text (named name v))) kind))) &&
        not (ltb 0 (length v.types) && not (dense_written text (named name v)).ok)
    unfolding kind_fits choice_fits dense_fits token_after dense_tokens choice_at
    fits_by kind n (number k) =
        ap (λ (f : ℕ). eqb f kind && rest kind) (form-number text name k) ∙ plain_fits Number kind (dense_fits text name) (choice_fits text name kind) (λ e. let z : 2 ≡ kind = eqb-true 2 kind e in rw (← z))
    fits_by kind n (list k m) =
        ap (λ (f : ℕ). eqb f kind && rest kind) (form-list text name k) ∙ plain_fits NumbersKind kind (dense_fits text name) (choice_fits text name kind) (λ e. let z : 1 ≡ kind = eqb-true 1 kind e in rw (← z))
    fits_by kind n (dense k) =
        ap (λ (f : ℕ). eqb f kind && rest kind) (form-dense text name k) ∙ dense-fits kind (dense_fits text name) (choice_fits text name kind) (dense_fits text name) refl
    fits_by kind n (choice k) =
        let form = choice_form (choice_at text name).kind in
        let c = kind-by (choice k) in
        let d = choice-by (choice k) refl in
        ap (λ (f : ℕ). eqb f kind && rest kind) (form-choice text name k)
        ∙ (choice-fits form kind (dense_fits text name) (choice_fits text name kind) n (choice-form (choice_at text name).kind)
        ∙ (ap (λ (f : ℕ). not (not (eqb f kind) || not (choice_fits text name kind)) && true) (sym (form-choice text name k) ∙ c)
        ∙ ap (λ (h : ℕ). not (not (eqb (value_kind text (named name (choice_text (token_after 4 text name).start (token_after 5 text name).start))) kind) || not (eqb (choice_kind h) kind)) && true) d))

    chosen : {v : AttributeText} → ValueForm text (token_at text name).end v → 3 < form_at text name → ltb 0 (length v.choices) ≡ true
    unfolding token_after
    chosen (number k) h = let e = form-number text name k in absurd (omega arith)
    chosen (list k m) h = let e = form-list text name k in absurd (omega arith)
    chosen (dense k) h = let e = form-dense text name k in absurd (omega arith)
    chosen (choice k) h = refl

    typed : {v : AttributeText} → ValueForm text (token_at text name).end v → form_at text name ≡ DenseKind → ltb 0 (length v.types) ≡ true
    unfolding token_after
    typed (number k) h = let e = form-number text name k in absurd (omega arith)
    typed (list k m) h = let e = form-list text name k in absurd (omega arith)
    typed (dense k) h = refl
    typed (choice k) h = absurd (by_form (choice-form (choice_at text name).kind) (sym (form-choice text name k) ∙ h))
      where
        by_form : {n : ℕ} → ChoiceForm n → n ≡ DenseKind → ⊥
        by_form none e = omega arith
        by_form direction e = omega arith
        by_form compared e = omega arith

  -- ---- an attribute of one of the four forms

  module _ {name : ℕ} {a : AttributeText} (p : FormedAttribute text name a) where
    -- its kind
    pub form-is : form_at text name ≡ value_kind text a
    form-is = kind-by name p.form ∙ ap (value_kind text) (sym p.whole)

    some-choice : ltb 0 (length a.choices) ≡ true → ltb 0 (length p.value.choices) ≡ true
    some-choice e = subst (λ (a : AttributeText). ltb 0 (length a.choices) ≡ true) p.whole e

    some-type : ltb 0 (length a.types) ≡ true → ltb 0 (length p.value.types) ≡ true
    some-type e = subst (λ (a : AttributeText). ltb 0 (length a.types) ≡ true) p.whole e

    -- its value is a choice or a dense value by its kind
    pub is-choice : 3 < form_at text name → ltb 0 (length a.choices) ≡ true
    is-choice h = subst (λ (a : AttributeText). ltb 0 (length a.choices) ≡ true) (sym p.whole) (chosen name p.form h)

    pub is-dense : form_at text name ≡ DenseKind → ltb 0 (length a.types) ≡ true
    is-dense h = subst (λ (a : AttributeText). ltb 0 (length a.types) ≡ true) (sym p.whole) (typed name p.form h)

    -- its choice, where it is one
    pub choice-is : ltb 0 (length a.choices) ≡ true → (choice_at text name).choice ≡ choice_number text a
    choice-is e = choice-by name p.form (some-choice e) ∙ ap (choice_number text) (sym p.whole)

    -- its dense value, where it is one: the literal and the type
    pub literal-is : ltb 0 (length a.types) ≡ true → (dense_tokens text name).literal ≡ first_token a.literals
    literal-is e = (dense-by name p.form (some-type e)).0 ∙ ap (λ (a : AttributeText). first_token a.literals) (sym p.whole)

    pub type-is : ltb 0 (length a.types) ≡ true → (dense_tokens text name).ty ≡ first_token a.types
    type-is e = (dense-by name p.form (some-type e)).1 ∙ ap (λ (a : AttributeText). first_token a.types) (sym p.whole)

    -- it is of its kind, and a dense value fits its type
    pub kind-fits-is : attribute_number text a < no_attribute → kind_fits text name (attribute_kind (attribute_number text a)) ≡ not (unlike_kind text a) && not (unfit_dense text a)
    kind-fits-is h =
        let kind = attribute_kind (attribute_number text a) in
        fits_by name kind (kind-known (attribute_number text a) h) p.form
        ∙ ap (λ (a : AttributeText). not (not (eqb (value_kind text a) kind) || (ltb 0 (length a.choices) && not (eqb (choice_kind (choice_number text a)) kind))) && not (unfit_dense text a)) (sym p.whole)
