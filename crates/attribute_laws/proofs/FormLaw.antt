-- The form of an attribute's value by the kind of its first token in the grammar: a number, `#stablehlo`, `array` or `dense`.
-- Assumes nothing.
use mathlib.Core.Path.{◌≡◌, refl, sym, subst, ◌∙◌}
use mathlib.Core.List.{List, [], ◌∷◌}
use mathlib.Core.Bool.{Bool, true, false}
use Prim.Native.Nat.{ℕ}
use native.Mathlib.Omega.{arith}
use lib.Dec.{eqb}
use borrow.Author.Tests.{eqb-true}
use Rattle.lists.specs.Lists.{pick}
use Rattle.scan.specs.Ascii.{ascii}
use Rattle.text.specs.Names.{word_is}
use Rattle.text.specs.declared.Token.{Token}
use Rattle.grammar.specs.Symbols.{END, WORD, NUMBER, FUNC, DIALECT, TYPE, ARROW, OTHER, ARRAY, DENSE, BOOLEAN, I64, TOKEN, TUPLE, LPAREN, RPAREN, LBRACE, RBRACE, LANGLE, RANGLE, LBRACKET, RBRACKET, COMMA, COLON, EQUALS, among_symbols}
use Rattle.syntax.specs.Kinds.{mark_kind, name_kind, word_kind, quoted_kind, token_kind, kind_of}
use Rattle.optable.specs.Table.{NumbersKind as NumberList, Number, DenseKind, choice_form}
use Rattle.attribute.specs.Attribute.{value_token, word_form, choice_at, form_at}
use Rattle.default_laws.proofs.DenseLaw.{not-both}

-- kinds of the grammar, and the kind in the text of a token that has one of them
abbrev told : List ℕ
told = NUMBER ∷ DIALECT ∷ RANGLE ∷ ARRAY ∷ DENSE ∷ []

abbrev kind_back : ℕ → ℕ
kind_back n = pick (eqb n NUMBER) 2 (pick (eqb n DIALECT) 5 (pick (eqb n RANGLE) 62 1))

record Back (k n : ℕ) : Type 0 where
  back : among_symbols told n ≡ true → k ≡ kind_back n

other : (k n : ℕ) → among_symbols told n ≡ false → Back k n
other k n e = record { back = λ m. absurd (not-both m e) }

either : (k : ℕ) (b : Bool) (x y : ℕ) → Back k x → Back k y → Back k (pick b x y)
either k true x y h g = h
either k false x y h g = g

where-so : (k c x y : ℕ) → (k ≡ c → Back k x) → Back k y → Back k (pick (eqb k c) x y)
where-so k c x y f h = go (eqb k c) refl
  where
    go : (b : Bool) → eqb k c ≡ b → Back k (pick b x y)
    go true q = f (eqb-true k c q)
    go false q = h

marked : (k c x y : ℕ) → c ≡ kind_back x → Back k y → Back k (pick (eqb k c) x y)
marked k c x y e h = where-so k c x y (λ q. record { back = λ m. q ∙ e }) h

mark-back : (k : ℕ) → Back k (mark_kind k)
unfolding mark_kind
mark-back k =
    let rest = either k (eqb k 91) _ _ (other k LBRACKET refl) (either k (eqb k 93) _ _ (other k RBRACKET refl)
    (either k (eqb k 44) _ _ (other k COMMA refl) (either k (eqb k 58) _ _ (other k COLON refl) (either k (eqb k 61) _ _ (other k EQUALS refl) (other k OTHER refl))))) in
    let mark = either k (eqb k 40) _ _ (other k LPAREN refl) (either k (eqb k 41) _ _ (other k RPAREN refl) (either k (eqb k 123) _ _ (other k LBRACE refl)
    (either k (eqb k 125) _ _ (other k RBRACE refl) (either k (eqb k 60) _ _ (other k LANGLE refl) (marked k 62 RANGLE _ refl rest))))) in
    marked k 2 NUMBER _ refl (either k (eqb k 4) _ _ (other k FUNC refl) (marked k 5 DIALECT _ refl
    (either k (eqb k 7) _ _ (other k TYPE refl) (either k (eqb k 8) _ _ (other k ARROW refl) mark))))

name_back : (k b : ℕ) → Back k (name_kind b)
unfolding name_kind
name_back k b = search (either, other) depth 8

quoted-back : (k : ℕ) (text : List ℕ) (start end : ℕ) → Back k (quoted_kind text start end)
unfolding quoted_kind
quoted-back k text start end = search (either, other) depth 8

-- a word
word : (k n : ℕ) → k ≡ 1 → kind_back n ≡ 1 → Back k n
word k n e f = record { back = λ m. e ∙ sym f }

word_back : (k : ℕ) (text : List ℕ) (start end : ℕ) → k ≡ 1 → Back k (word_kind text start end)
unfolding word_kind
word_back k text start end e =
    either k (word_is (ascii "array") text start end) _ _ (word k ARRAY e refl) (either k (word_is (ascii "dense") text start end) _ _ (word k DENSE e refl)
    (either k (word_is (ascii "true") text start end) _ _ (other k BOOLEAN refl) (either k (word_is (ascii "false") text start end) _ _ (other k BOOLEAN refl)
    (either k (word_is (ascii "i64") text start end) _ _ (other k I64 refl) (either k (word_is (ascii "token") text start end) _ _ (other k TOKEN refl)
    (either k (word_is (ascii "tuple") text start end) _ _ (other k TUPLE refl) (other k WORD refl)))))))

kind-back : (text : List ℕ) (t : Token) → Back t.kind (kind_of text t)
unfolding kind_of token_kind
kind-back text t =
    let k = t.kind in
    either k (eqb k 0) END _ (other k END refl)
    (where-so k 1 _ _ (word_back k text t.start t.end) (either k (eqb k 3) _ _ (name_back k _) (either k (eqb k 6) _ _ (quoted-back k text t.start t.end) (mark-back k))))

pub kind-told : (text : List ℕ) (t : Token) (n : ℕ) → kind_of text t ≡ n → among_symbols told n ≡ true → t.kind ≡ kind_back n
kind-told text t n e m = subst (λ (n : ℕ). among_symbols told n ≡ true → t.kind ≡ kind_back n) e (kind-back text t).back m

-- ---- the words `array` and `dense`

record Plain (n : ℕ) : Type 0 where
  plain : among_symbols (ARRAY ∷ DENSE ∷ []) n ≡ false

is_plain : (n : ℕ) → among_symbols (ARRAY ∷ DENSE ∷ []) n ≡ false → Plain n
is_plain n e = record { plain = e }

one_of : (b : Bool) (x y : ℕ) → Plain x → Plain y → Plain (pick b x y)
one_of true x y h g = h
one_of false x y h g = g

array-word : (a d : Bool) (n : ℕ) → Plain n → pick a ARRAY (pick d DENSE n) ≡ ARRAY → a ≡ true
array-word true d n p e = refl
array-word false true n p e = absurd (omega arith)
array-word false false n p e = absurd (not-both {b = true} refl (subst (λ (n : ℕ). among_symbols (ARRAY ∷ DENSE ∷ []) n ≡ false) e p.plain))

dense-word : (a d : Bool) (n : ℕ) → Plain n → pick a ARRAY (pick d DENSE n) ≡ DENSE → (a ≡ false) × (d ≡ true)
dense-word true d n p e = absurd (omega arith)
dense-word false true n p e = (refl, refl)
dense-word false false n p e = absurd (not-both {b = true} refl (subst (λ (n : ℕ). among_symbols (ARRAY ∷ DENSE ∷ []) n ≡ false) e p.plain))

module _ (text : List ℕ) where
  rest_plain : (t : Token) → Plain
      (pick (word_is (ascii "true") text t.start t.end) BOOLEAN
      (pick (word_is (ascii "false") text t.start t.end) BOOLEAN
      (pick (word_is (ascii "i64") text t.start t.end) I64
      (pick (word_is (ascii "token") text t.start t.end) TOKEN
      (pick (word_is (ascii "tuple") text t.start t.end) TUPLE WORD)))))
  rest_plain t = search (one_of, is_plain) depth 14

  is-array : (t : Token) → t.kind ≡ 1 → kind_of text t ≡ ARRAY → word_is (ascii "array") text t.start t.end ≡ true
  unfolding kind_of token_kind word_kind
  is-array t k e =
      let w : pick (word_is (ascii "array") text t.start t.end) ARRAY (pick (word_is (ascii "dense") text t.start t.end) DENSE _) ≡ ARRAY = rw k at e in
      array-word (word_is (ascii "array") text t.start t.end) (word_is (ascii "dense") text t.start t.end) _ (rest_plain t) w

  is-dense : (t : Token) → t.kind ≡ 1 → kind_of text t ≡ DENSE →
      (word_is (ascii "array") text t.start t.end ≡ false) × (word_is (ascii "dense") text t.start t.end ≡ true)
  unfolding kind_of token_kind word_kind
  is-dense t k e =
      let w : pick (word_is (ascii "array") text t.start t.end) ARRAY (pick (word_is (ascii "dense") text t.start t.end) DENSE _) ≡ DENSE = rw k at e in
      dense-word (word_is (ascii "array") text t.start t.end) (word_is (ascii "dense") text t.start t.end) _ (rest_plain t) w

  -- ---- the form of the value of the attribute whose name is at a byte

  pub form-number : (name : ℕ) → kind_of text (value_token text name) ≡ NUMBER → form_at text name ≡ Number
  unfolding form_at
  form-number name e = rw (kind-told text (value_token text name) NUMBER e refl)

  pub form-choice : (name : ℕ) → kind_of text (value_token text name) ≡ DIALECT → form_at text name ≡ choice_form (choice_at text name).kind
  unfolding form_at
  form-choice name e = rw (kind-told text (value_token text name) DIALECT e refl)

  pub form-list : (name : ℕ) → kind_of text (value_token text name) ≡ ARRAY → form_at text name ≡ NumberList
  unfolding form_at word_form
  form-list name e = let k = kind-told text (value_token text name) ARRAY e refl in rw (k, is-array (value_token text name) k e)

  pub form-dense : (name : ℕ) → kind_of text (value_token text name) ≡ DENSE → form_at text name ≡ DenseKind
  unfolding form_at word_form
  form-dense name e = let k = kind-told text (value_token text name) DENSE e refl in let w = is-dense (value_token text name) k e in rw (k, w.0, w.1)
