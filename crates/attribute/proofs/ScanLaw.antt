-- Laws of the loops over tokens: one turn, and the end; the kind of a value.
-- Assumes nothing.
use mathlib.Core.Path.{◌≡◌, refl, ◌∙◌}
use mathlib.Core.List.{List}
use mathlib.Core.Bool.{true, false}
use Prim.Native.Nat.{ℕ, zero, suc, ◌-◌, ◌<◌, ◌≤◌}
use lib.ListN.{length}
use native.Mathlib.Omega.{arith}
use native.Mathlib.Nat.{not-suc-le-zero}
use native.Mathlib.Numerals.{unary_clauses}
use Rattle.lists.specs.Lists.{pick}
use Rattle.text.specs.declared.Token.{Token}
use Rattle.optable.specs.Table.{Number, no_kind, choice_kinds, choice_form}
use Rattle.cursor.specs.declared.Cursor.{Cursor}
use Rattle.cursor.specs.Cursor.{token_of, cursor_after, past_token}
use Rattle.dimrules.specs.declared.Numbers.{Numbers}
use Rattle.attribute.specs.Attribute.{token_after, word_form, choice_at, form_at, pattern_at, with_number, goes_on, numbers_from, ends_literal, close_from}

pub after-step : (left : ℕ) (text : List ℕ) (c : Cursor) → 0 < left → token_after left text c.at ≡ token_after (left - 1) text (past_token text c).at
unfolding token_after past_token cursor_after token_of
after-step zero text c h = absurd (not-suc-le-zero h)
after-step (suc n) text c h = simp unary_clauses

pub after_none : (left : ℕ) (text : List ℕ) (c : Cursor) → left ≤ 0 → token_after left text c.at ≡ token_of text c
unfolding token_after token_of
after_none left text c h = let e : left ≡ 0 = omega arith in rw e

numbers-step : (left : ℕ) (ns : Numbers) (text : List ℕ) (c : Cursor) → 0 < left →
    let number = token_of text (past_token text c) in
    numbers_from left ns text c.at ≡ pick (goes_on (token_of text c).kind) (numbers_from (left - 1) (with_number ns (pattern_at text number.start)) text (cursor_after number).at) ns
unfolding numbers_from past_token cursor_after token_of
numbers-step zero ns text c h = absurd (not-suc-le-zero h)
numbers-step (suc n) ns text c h = simp unary_clauses

pub numbers_more : (left : ℕ) (ns : Numbers) (text : List ℕ) (c : Cursor) (mark number : Token) → 0 < left → mark ≡ token_of text c → number ≡ token_of text (cursor_after mark) →
    goes_on mark.kind ≡ true →
    numbers_from left ns text c.at ≡ numbers_from (left - 1) (with_number ns (pattern_at text number.start)) text (cursor_after number).at
unfolding past_token
numbers_more left ns text c mark number h p q g =
    let e : goes_on (token_of text c).kind ≡ true = rw (← p) g in
    rw (q, p) (numbers-step left ns text c h ∙ rw e)

pub numbers-stop : (left : ℕ) (ns : Numbers) (text : List ℕ) (c : Cursor) (mark : Token) → 0 < left → mark ≡ token_of text c → goes_on mark.kind ≡ false →
    numbers_from left ns text c.at ≡ ns
numbers-stop left ns text c mark h p g =
    let e : goes_on (token_of text c).kind ≡ false = rw (← p) g in
    numbers-step left ns text c h ∙ rw e

pub numbers-none : (left : ℕ) (ns : Numbers) (text : List ℕ) (at : ℕ) → left ≤ 0 → numbers_from left ns text at ≡ ns
unfolding numbers_from
numbers-none left ns text at h = let e : left ≡ 0 = omega arith in rw e

close-step : (left : ℕ) (text : List ℕ) (c : Cursor) → 0 < left →
    close_from left text c.at ≡ pick (ends_literal (token_of text c).kind) (past_token text c).at (close_from (left - 1) text (past_token text c).at)
unfolding close_from past_token cursor_after token_of
close-step zero text c h = absurd (not-suc-le-zero h)
close-step (suc n) text c h = simp unary_clauses

pub close-stop : (left : ℕ) (text : List ℕ) (c : Cursor) (t : Token) → 0 < left → t ≡ token_of text c → ends_literal t.kind ≡ true →
    close_from left text c.at ≡ (cursor_after t).at
unfolding past_token
close-stop left text c t h p g =
    let e : ends_literal (token_of text c).kind ≡ true = rw (← p) g in
    rw p (close-step left text c h ∙ rw e)

pub close_more : (left : ℕ) (text : List ℕ) (c : Cursor) (t : Token) → 0 < left → t ≡ token_of text c → ends_literal t.kind ≡ false →
    close_from left text c.at ≡ close_from (left - 1) text (cursor_after t).at
unfolding past_token
close_more left text c t h p g =
    let e : ends_literal (token_of text c).kind ≡ false = rw (← p) g in
    rw p (close-step left text c h ∙ rw e)

pub close-none : (left : ℕ) (text : List ℕ) (at : ℕ) → left ≤ 0 → close_from left text at ≡ at
unfolding close_from
close-none left text at h = let e : left ≡ 0 = omega arith in rw e

-- ---- the kind of a value, by its first token

pub form-past : choice_form (length choice_kinds) ≡ no_kind
unfolding choice_form choice_kinds
form-past = refl

module _ (text : List ℕ) (name : ℕ) (t : Token) (e : t ≡ token_after 2 text name) where
  pub form-number : t.kind ≡ 2 → Number ≡ form_at text name
  unfolding form_at
  form-number k = rw (← e, k) refl

  pub form-choice : t.kind ≡ 5 → choice_form (choice_at text name).kind ≡ form_at text name
  unfolding form_at
  form-choice k = rw (← e, k) refl

  pub form-word : t.kind ≡ 1 → word_form text t ≡ form_at text name
  unfolding form_at
  form-word k = rw (← e, k) refl
