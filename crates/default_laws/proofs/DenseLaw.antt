-- What stands for the type after a dense value where reading has refused it (`tensor<i1>`): in a text without refusals 1 to 4 a type of 01 within sizes 1 and 2
-- is written there.
-- Assumes nothing.
use mathlib.Core.Path.{◌≡◌, refl, sym, ap, subst, ◌∙◌}
use mathlib.Core.List.{List, [], ◌∷◌}
use mathlib.Core.Bool.{Bool, true, false, not}
use Prim.Native.Nat.{ℕ, zero, suc, ◌+◌, ◌<◌, ◌≤◌}
use native.Mathlib.Omega.{arith}
use lib.Dec.{T, eqb}
use lib.ListN.{length}
use borrow.Author.Tests.{eqb-true, eqb-false, not-false}
use Rattle.lists.specs.Lists.{pick, All}
use Rattle.scan.specs.Ascii.{ascii}
use Rattle.text.specs.Lex.{token_at}
use Rattle.text.specs.Names.{word_is}
use Rattle.text.specs.declared.Token.{Token}
use Rattle.types.specs.Tensors.{type_of}
use Rattle.grammar.specs.Symbols.{END, NUMBER, FUNC, DIALECT, TYPE, ARROW, OTHER, DENSE, LPAREN, RPAREN, LBRACE, RBRACE, LANGLE, RANGLE, LBRACKET, RBRACKET, COMMA, COLON, EQUALS, AttributeName, SingleNumber, ElementLiteral, DenseOpen, DenseClose, DenseType, langle, rangle, comma, colon, equals, dialect, array, dense, Value, Dense, DenseItems, MoreItems, Program, among_symbols, matches, leaf_kinds}
use Rattle.grammar.specs.Leaves.{StandFor, allowed}
use Rattle.grammar.proofs.TableTest.{true-T}
use Rattle.grammar.proofs.Within.{member-passes}
use Rattle.grammar.proofs.Leaves.{parsed}
use Rattle.syntax.specs.Kinds.{mark_kind, name_kind, word_kind, quoted_kind, token_kind, kind_of}
use Rattle.syntax.specs.Tokens.{kinds_of}
use Rattle.syntax.specs.Readings.{Reading, readings_of, readings}
use Rattle.syntax.specs.Roles.{roles_of, tokens_of}
use Rattle.syntax.proofs.KindLaw.{is-end}
use Rattle.syntax.proofs.Labelling.{Reads, stop, read, whole, reads-gives}
use Rattle.syntax.proofs.AloneLaw.{token-again, readings-short}
use Rattle.syntax.proofs.OutlineLaw.{reads_yields}
use Rattle.syntax.proofs.Theorems.{no-fault}
use Rattle.optable.specs.Table.{DenseKind, choice_kinds, choice_form}
use Rattle.attribute.specs.Attribute.{token_after, word_form, choice_at, form_at, ends_literal, close_from, dense_tokens}
use Rattle.judge.specs.declared.tally.Tally.{Tally}
use Rattle.judge.specs.Roles.{among_roles}
use Rattle.judge.specs.Tally.{at_start, after_token}
use Rattle.judge.specs.Sizes.{type_passed, passes}
use Rattle.judge.specs.Judge.{unknown, text_refusal}
use Rattle.judge.proofs.Theorems.{Each, Sound, token-sound, accepted-sentence, accepted-each}
use Rattle.reading_laws.proofs.TallyLaw.{passes_none}
use Rattle.reading_laws.proofs.HeldLaw.{small-passed}
use Rattle.part_laws.specs.Granted.{TypeStands}
use Rattle.default_laws.proofs.ValueLaw.{next, run, stuck, program-run, named-run}

-- a run goes on from the next state
pub next-run : (s t r : ℕ) (rs : List ℕ) → next s r ≡ t → run s (r ∷ rs) ≡ 0 → run t rs ≡ 0
next-run s t r rs q e = subst (λ (n : ℕ). run n rs ≡ 0) q e

-- ---- kinds of tokens

-- a kind that is not that of `>`
record Other (n : ℕ) : Type 0 where
  other : eqb n RANGLE ≡ false

number : (n : ℕ) → eqb n RANGLE ≡ false → Other n
number n e = record { other = e }

either : (b : Bool) (x y : ℕ) → Other x → Other y → Other (pick b x y)
either true x y h g = h
either false x y h g = g

second : (b : Bool) (x y : ℕ) → b ≡ false → Other y → Other (pick b x y)
second b x y e h = rw e h

mark-other : (b : ℕ) → eqb b 62 ≡ false → Other (mark_kind b)
unfolding mark_kind
mark-other b e =
    let rest = either (eqb b 91) _ _ (number LBRACKET refl) (either (eqb b 93) _ _ (number RBRACKET refl) (either (eqb b 44) _ _ (number COMMA refl) (either (eqb b 58) _ _ (number COLON refl)
    (either (eqb b 61) _ _ (number EQUALS refl) (number OTHER refl))))) in
    let mark = either (eqb b 40) _ _ (number LPAREN refl) (either (eqb b 41) _ _ (number RPAREN refl) (either (eqb b 123) _ _ (number LBRACE refl) (either (eqb b 125) _ _ (number RBRACE refl)
    (either (eqb b 60) _ _ (number LANGLE refl) (second (eqb b 62) RANGLE _ e rest))))) in
    either (eqb b 2) _ _ (number NUMBER refl) (either (eqb b 4) _ _ (number FUNC refl) (either (eqb b 5) _ _ (number DIALECT refl) (either (eqb b 7) _ _ (number TYPE refl) (either (eqb b 8) _ _ (number ARROW refl) mark))))

name-other : (b : ℕ) → Other (name_kind b)
unfolding name_kind
name-other b = search (either, number) depth 8

word-other : (text : List ℕ) (start end : ℕ) → Other (word_kind text start end)
unfolding word_kind
word-other text start end = search (either, number) depth 16

quoted-other : (text : List ℕ) (start end : ℕ) → Other (quoted_kind text start end)
unfolding quoted_kind
quoted-other text start end = search (either, number) depth 8

kind-other : (text : List ℕ) (t : Token) → eqb t.kind 62 ≡ false → Other (kind_of text t)
unfolding kind_of token_kind
kind-other text t e =
    either (eqb t.kind 0) END _ (number END refl)
    (either (eqb t.kind 1) _ _ (word-other text t.start t.end) (either (eqb t.kind 3) _ _ (name-other _) (either (eqb t.kind 6) _ _ (quoted-other text t.start t.end) (mark-other t.kind e))))

is-close : (text : List ℕ) (t : Token) → t.kind ≡ 62 → kind_of text t ≡ RANGLE
unfolding kind_of token_kind mark_kind
is-close text t e = rw e

pub not-both : {b : Bool} → b ≡ true → b ≡ false → ⊥
not-both e f = let z : true ≡ false = sym e ∙ f in let w : ◌≡◌ {A = ℕ} 0 1 = cc in omega arith

pub no-T : (b : Bool) → T (not b) → b ≡ false
no-T true t = absurd t
no-T false t = refl

-- the roles of a literal
abbrev literals : List ℕ
literals = ElementLiteral ∷ DenseOpen ∷ DenseClose ∷ comma ∷ Dense ∷ DenseItems ∷ MoreItems ∷ []

-- the roles with which another value begins
abbrev others : List ℕ
others = SingleNumber ∷ array ∷ dialect ∷ Value ∷ []

not-close : (r : ℕ) → T (among_symbols literals r) → matches r RANGLE ≡ false
unfolding matches leaf_kinds
not-close r a = no-T (matches r RANGLE) (member-passes (λ r. not (matches r RANGLE)) literals r tt a)

not_last : (r : ℕ) → T (among_symbols literals r) → matches r END ≡ false
unfolding matches leaf_kinds
not_last r a = no-T (matches r END) (member-passes (λ r. not (matches r END)) literals r tt a)

not-dense : (r : ℕ) → T (among_symbols others r) → matches r DENSE ≡ false
unfolding matches leaf_kinds
not-dense r a = no-T (matches r DENSE) (member-passes (λ r. not (matches r DENSE)) others r tt a)

-- a choice's first word begins no dense value
choice-form : (k : ℕ) → choice_form k ≡ DenseKind → ⊥
unfolding choice_form choice_kinds
choice-form zero e = omega arith
choice-form (suc zero) e = omega arith
choice-form (suc (suc k)) e = omega arith

by_form : (n c w a d : Bool) (form : ℕ) → (form ≡ DenseKind → ⊥) → pick n 2 (pick c form (pick w (pick a 1 (pick d 3 0)) 0)) ≡ DenseKind → (w ≡ true) × (a ≡ false) × (d ≡ true)
by_form true c w a d form f e = absurd (omega arith)
by_form false true w a d form f e = absurd (f e)
by_form false false true true d form f e = absurd (omega arith)
by_form false false true false true form f e = (refl, refl, refl)
by_form false false true false false form f e = absurd (omega arith)
by_form false false false a d form f e = absurd (omega arith)

module _ (text : List ℕ) where
  -- a token that can be `>` ends a literal
  closes : (t : Token) → matches rangle (kind_of text t) ≡ true → ends_literal t.kind ≡ true
  unfolding matches leaf_kinds ends_literal
  closes t m = by_kind (eqb t.kind 62) refl
    where
      by_kind : (b : Bool) → eqb t.kind 62 ≡ b → ends_literal t.kind ≡ true
      by_kind true e = let k : t.kind ≡ 62 = eqb-true t.kind 62 e in rw k
      by_kind false e = absurd (let z : pick false true false ≡ true = rw (kind-other text t e).other at m in not-both z refl)

  -- one of a literal does not
  within-literal : (t : Token) (r : ℕ) → T (among_symbols literals r) → matches r (kind_of text t) ≡ true → ends_literal t.kind ≡ false
  unfolding ends_literal
  within-literal t r a m = by_kind (eqb t.kind 62) (eqb t.kind 0) refl refl
    where
      by_kind : (b c : Bool) → eqb t.kind 62 ≡ b → eqb t.kind 0 ≡ c → ends_literal t.kind ≡ false
      by_kind true c e f = absurd (not-both (rw (is-close text t (eqb-true t.kind 62 e)) at m) (not-close r a))
      by_kind false true e f = absurd (not-both (rw (is-end text t (eqb-true t.kind 0 f)) at m) (not_last r a))
      by_kind false false e f = rw (e, f)

  -- a value of the form of a dense one begins with `dense`
  form-dense : (name : ℕ) → form_at text name ≡ DenseKind → kind_of text (token_after 2 text name) ≡ DENSE
  unfolding form_at word_form kind_of token_kind word_kind
  form-dense name e =
      let t = token_after 2 text name in
      let f = by_form (eqb t.kind 2) (eqb t.kind 5) (eqb t.kind 1) (word_is (ascii "array") text t.start t.end) (word_is (ascii "dense") text t.start t.end) _
      (choice-form (choice_at text name).kind) e in
      let k : t.kind ≡ 1 = eqb-true t.kind 1 f.0 in
      rw (k, f.1, f.2)

  -- ---- the tokens after an attribute's name

  -- a token that is the type of a dense value
  abbrev DenseTyped : Reading → Type 0
  DenseTyped x = x.role ≡ DenseType → TypeStands text x.token.start

  -- each token comes after the one before, and is of a kind of its role
  abbrev Follow : ℕ → List Reading → Type 0
  Follow at [] = Unit {0}
  Follow at (x ∷ xs) = (x.token ≡ token_at text at) × (matches x.role (kind_of text x.token) ≡ true) × DenseTyped x × Follow x.token.end xs

  -- after `:`
  at-type : (at : ℕ) (xs : List Reading) → run 6 (roles_of xs) ≡ 0 → Follow at xs → TypeStands text (token_at text at).start
  at-type at [] e f = absurd (omega arith)
  at-type at (x ∷ xs) e f = by-role (eqb x.role DenseType) refl
    where
      by-role : (b : Bool) → eqb x.role DenseType ≡ b → TypeStands text (token_at text at).start
      by-role true q = subst (λ (t : Token). TypeStands text t.start) f.0 (f.2 (eqb-true x.role DenseType q))
      by-role false q = absurd (stuck (roles_of xs) (next-run 6 7 x.role (roles_of xs) (rw q) e))

  -- after `>`
  at-colon : (at : ℕ) (xs : List Reading) → run 5 (roles_of xs) ≡ 0 → Follow at xs → TypeStands text (token_after 1 text at).start
  unfolding token_after
  at-colon at [] e f = absurd (omega arith)
  at-colon at (x ∷ xs) e f = by-role (eqb x.role colon) refl
    where
      by-role : (b : Bool) → eqb x.role colon ≡ b → TypeStands text (token_at text (token_at text at).end).start
      by-role true q = subst (λ (t : Token). TypeStands text (token_at text t.end).start) f.0 (at-type x.token.end xs (next-run 5 6 x.role (roles_of xs) (rw q) e) f.3)
      by-role false q = absurd (stuck (roles_of xs) (next-run 5 7 x.role (roles_of xs) (rw q) e))

  -- in the `< >` of the literal
  at_literal : (left at : ℕ) (xs : List Reading) → length xs ≤ left → run 4 (roles_of xs) ≡ 0 → Follow at xs → TypeStands text (token_after 1 text (close_from left text at)).start
  unfolding close_from
  at_literal left at [] l e f = absurd (omega arith)
  at_literal zero at (x ∷ xs) l e f = absurd (omega arith)
  at_literal (suc left) at (x ∷ xs) l e f = by-role (eqb x.role rangle) (among_symbols literals x.role) refl refl (λ q. at_literal left x.token.end xs (omega arith) q f.3)
    where
      by-role : (b c : Bool) → eqb x.role rangle ≡ b → among_symbols literals x.role ≡ c →
          (run 4 (roles_of xs) ≡ 0 → TypeStands text (token_after 1 text (close_from left text x.token.end)).start) →
          TypeStands text (token_after 1 text (close_from (suc left) text at)).start
      by-role true c q r more =
          let m : matches rangle (kind_of text x.token) ≡ true = rw (eqb-true x.role rangle q) at f.1 in
          let k : ends_literal (token_at text at).kind ≡ true = rw f.0 at (closes x.token m) in
          rw k (subst (λ (t : Token). TypeStands text (token_after 1 text t.end).start) f.0 (at-colon x.token.end xs (next-run 4 5 x.role (roles_of xs) (rw q) e) f.3))
      by-role false true q r more =
          let k : ends_literal (token_at text at).kind ≡ false = rw f.0 at (within-literal x.token x.role (true-T _ r) f.1) in
          rw k (subst (λ (t : Token). TypeStands text (token_after 1 text (close_from left text t.end)).start) f.0 (more (next-run 4 4 x.role (roles_of xs) (rw (q, r)) e)))
      by-role false false q r more = absurd (stuck (roles_of xs) (next-run 4 7 x.role (roles_of xs) (rw (q, r)) e))

  close-again : (left at : ℕ) → 0 < left → close_from left text (token_at text at).start ≡ close_from left text at
  unfolding close_from
  close-again zero at h = absurd (omega arith)
  close-again (suc left) at h = rw (token-again text at)

  some_left : (xs : List Reading) → run 4 (roles_of xs) ≡ 0 → 0 < length xs
  some_left [] e = absurd (omega arith)
  some_left (x ∷ xs) e = omega arith

  -- where the type of a dense value starts, whose literal is the token n after the one at a byte
  abbrev type_after : ℕ → ℕ → ℕ
  type_after n at = (token_after 1 text (close_from (length text) text (token_after n text at).start)).start

  -- after `dense`
  at_open : (at : ℕ) (xs : List Reading) → length xs ≤ length text → run 3 (roles_of xs) ≡ 0 → Follow at xs → TypeStands text (type_after 1 at)
  unfolding token_after
  at_open at [] l e f = absurd (omega arith)
  at_open at (x ∷ xs) l e f = by-role (eqb x.role langle) refl
    where
      by-role : (b : Bool) → eqb x.role langle ≡ b → TypeStands text (type_after 1 at)
      by-role true q =
          let r = next-run 3 4 x.role (roles_of xs) (rw q) e in
          let n = some_left xs r in
          let g = at_literal (length text) x.token.end xs (omega arith) r f.3 in
          let h : TypeStands text (type_after 0 x.token.end) = subst (λ (c : ℕ). TypeStands text (token_after 1 text c).start) (sym (close-again (length text) x.token.end (omega arith))) g in
          subst (λ (t : Token). TypeStands text (type_after 0 t.end)) f.0 h
      by-role false q = absurd (stuck (roles_of xs) (next-run 3 7 x.role (roles_of xs) (rw q) e))

  -- after `=`
  at_value : (at : ℕ) (xs : List Reading) → length xs ≤ length text → kind_of text (token_at text at) ≡ DENSE → run 2 (roles_of xs) ≡ 0 → Follow at xs → TypeStands text (type_after 2 at)
  unfolding token_after
  at_value at [] l k e f = absurd (omega arith)
  at_value at (x ∷ xs) l k e f = by-role (eqb x.role dense) (among_symbols others x.role) refl refl
    where
      by-role : (b c : Bool) → eqb x.role dense ≡ b → among_symbols others x.role ≡ c → TypeStands text (type_after 2 at)
      by-role true c q r = subst (λ (t : Token). TypeStands text (type_after 1 t.end)) f.0 (at_open x.token.end xs (omega arith) (next-run 2 3 x.role (roles_of xs) (rw q) e) f.3)
      by-role false true q r =
          let z : kind_of text x.token ≡ DENSE = rw f.0 k in
          let m : matches x.role DENSE ≡ true = rw z at f.1 in
          absurd (not-both m (not-dense x.role (true-T _ r)))
      by-role false false q r = absurd (stuck (roles_of xs) (next-run 2 7 x.role (roles_of xs) (rw (q, r)) e))

  -- after the name
  at-equals : (at : ℕ) (xs : List Reading) → length xs ≤ length text → kind_of text (token_after 1 text at) ≡ DENSE → run 1 (roles_of xs) ≡ 0 → Follow at xs → TypeStands text (type_after 3 at)
  unfolding token_after
  at-equals at [] l k e f = absurd (omega arith)
  at-equals at (x ∷ xs) l k e f = by-role (eqb x.role equals) refl
    where
      by-role : (b : Bool) → eqb x.role equals ≡ b → TypeStands text (type_after 3 at)
      by-role true q =
          let z : kind_of text (token_at text x.token.end) ≡ DENSE = rw f.0 k in
          subst (λ (t : Token). TypeStands text (type_after 2 t.end)) f.0 (at_value x.token.end xs (omega arith) z (next-run 1 2 x.role (roles_of xs) (rw q) e) f.3)
      by-role false q = absurd (stuck (roles_of xs) (next-run 1 7 x.role (roles_of xs) (rw q) e))

  -- the attribute whose name is at a byte: where its value is a dense one, a type of 01 is written after it
  abbrev pub DenseStands : ℕ → Type 0
  DenseStands name = form_at text name ≡ DenseKind → TypeStands text (dense_tokens text name).ty

  at_name : (at : ℕ) (x : Reading) (xs : List Reading) → length xs ≤ length text → x.token ≡ token_at text at → run 1 (roles_of xs) ≡ 0 → Follow x.token.end xs → DenseStands x.token.start
  unfolding token_after dense_tokens
  at_name at x xs l t e f form =
      let q : token_at text x.token.start ≡ x.token = ap (λ (u : Token). token_at text u.start) t ∙ token-again text at ∙ sym t in
      let k : kind_of text (token_after 1 text x.token.end) ≡ DENSE = subst (λ (u : Token). kind_of text (token_after 1 text u.end) ≡ DENSE) q (form-dense x.token.start form) in
      subst (λ (u : Token). TypeStands text (type_after 3 u.end)) (sym q) (at-equals x.token.end xs l k e f)

  -- every attribute's name among readings
  abbrev pub Named : Reading → Type 0
  Named x = x.role ≡ AttributeName → DenseStands x.token.start

  all_named : (s at : ℕ) (xs : List Reading) → length xs ≤ length text + 1 → run s (roles_of xs) ≡ 0 → Follow at xs → All Named xs
  all_named s at [] l e f = tt
  all_named s at (x ∷ xs) l e f = (
    (λ w. at_name at x xs (omega arith) f.0 (named-run s (roles_of xs) (subst (λ (r : ℕ). run (next s r) (roles_of xs) ≡ 0) w e)) f.3),
    all_named (next s x.role) x.token.end xs (omega arith) e f.3,
  )

  -- ---- the readings of a text

  pub stand-first : {l k : ℕ} {ls ks : List ℕ} → StandFor (l ∷ ls) (k ∷ ks) → (matches l k ≡ true) × StandFor ls ks
  stand-first (allowed m t) = (m, t)

  reads-follow : {last : ℕ} {ss : List ℕ} {at : ℕ} {xs : List Reading} → Reads text last ss at xs → StandFor (roles_of xs) (kinds_of text (tokens_of xs)) → All DenseTyped xs → Follow at xs
  reads-follow stop t d = tt
  reads-follow (read s r) t d = let f = stand-first t in (refl, f.0, d.0, reads-follow r f.1 d.1)

  dense-typed : (s : Tally) (x : Reading) → Sound text s x → DenseTyped x
  unfolding unknown passes type_passed among_roles
  dense-typed s x g w =
      let a = passes_none text s x g.sized in
      let z = small-passed text x.token.start in
      let k : not (type_of text x.token.start).known ≡ false = rw w at g.known in
      let u : eqb (type_of text x.token.start).passed 1 ≡ false = rw w at a.0 in
      let v : eqb (type_of text x.token.start).passed 2 ≡ false = rw w at a.1.0 in
      let p = eqb-false (type_of text x.token.start).passed 1 u in
      let q = eqb-false (type_of text x.token.start).passed 2 v in
      record { known = not-false (type_of text x.token.start).known k; sized = omega arith }

  each_typed : (s : Tally) (xs : List Reading) → Each text s xs → All DenseTyped xs
  each_typed s [] e = tt
  each_typed s (x ∷ xs) e = (dense-typed s x (token-sound text s x e.0), each_typed (after_token text s x.role x.token) xs e.1)

  pub text-named : (text_refusal text).number ≡ 0 → All Named (readings text)
  unfolding readings readings_of
  text-named e =
      let w = whole text (no-fault text (accepted-sentence text e)) in
      all_named 0 0 (readings text) (readings-short (length text + 1) (Program ∷ []) text 0) (program-run (reads_yields w.reads))
      (reads-follow w.reads (parsed (reads-gives w.reads)).tokens (each_typed at_start (readings text) (accepted-each text e)))
