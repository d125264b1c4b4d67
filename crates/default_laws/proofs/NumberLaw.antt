-- What stands for a number outside the signed 64-bit range (`pattern_at`'s 0): in a text without refusals 1 to 4 every attribute's number lies in it, and a single
-- number that is read is the one that is written
-- (01, Sizes, 7: "An attribute number outside `dense` lies in the signed 64-bit range").
-- Assumes nothing.
use mathlib.Core.Path.{◌≡◌, refl, sym, ap, subst, ◌∙◌}
use mathlib.Core.List.{List, [], ◌∷◌}
use mathlib.Core.Bool.{Bool, true, false, not}
use Prim.Native.Nat.{ℕ, zero, suc, ◌+◌, ◌<◌}
use native.Mathlib.Omega.{arith}
use lib.Dec.{eqb}
use lib.IntN.{ℤ}
use lib.ListN.{get_or}
use borrow.Author.Tests.{eqb-true, not-false}
use Rattle.lists.specs.Lists.{pick, All}
use Rattle.scan.specs.Ascii.{ascii}
use Rattle.text.specs.Lex.{token_at}
use Rattle.text.specs.Names.{word_is}
use Rattle.text.specs.declared.Token.{Token}
use Rattle.shape.specs.Whole.{pattern_of}
use Rattle.types.specs.Numbers.{decimal_number, is_attribute_number, pattern_in, fitting, unfit}
use Rattle.types.specs.Numbers.{NumberRead}
use Rattle.grammar.specs.Symbols.{NUMBER, AttributeName, SingleNumber, equals, dialect, array, dense, Value, among_symbols, matches, leaf_kinds}
use Rattle.grammar.specs.Leaves.{StandFor}
use Rattle.grammar.proofs.TableTest.{true-T}
use Rattle.grammar.proofs.Within.{member-passes}
use Rattle.grammar.proofs.Leaves.{parsed}
use Rattle.syntax.specs.Kinds.{mark_kind, token_kind, kind_of}
use Rattle.syntax.specs.Tokens.{kinds_of}
use Rattle.syntax.specs.Readings.{Reading, readings_of, readings}
use Rattle.syntax.specs.Roles.{roles_of, tokens_of}
use Rattle.syntax.proofs.Labelling.{Reads, stop, read, whole, reads-gives}
use Rattle.syntax.proofs.AloneLaw.{token-again}
use Rattle.syntax.proofs.OutlineLaw.{reads_yields}
use Rattle.syntax.proofs.Theorems.{no-fault}
use Rattle.optable.specs.Table.{Number, choice_kinds, choice_form}
use Rattle.attribute.specs.Attribute.{token_after, value_token, word_form, choice_at, form_at, pattern_at, number_at}
use Rattle.judge.specs.declared.tally.Tally.{Tally}
use Rattle.judge.specs.Roles.{among_roles, number_roles}
use Rattle.judge.specs.Tally.{at_start, after_token}
use Rattle.judge.specs.Sizes.{large_number, passes}
use Rattle.judge.specs.Judge.{text_refusal}
use Rattle.judge.proofs.Theorems.{Each, Sound, token-sound, accepted-sentence, accepted-each}
use Rattle.reading_laws.proofs.TallyLaw.{passes_none}
use Rattle.program.specs.declared.Parts.{Parts}
use Rattle.program.specs.Parts.{op_at}
use Rattle.program.specs.Program.{program_of}
use Rattle.places.specs.Places.{attribute_name, count_of, place_of}
use Rattle.default_laws.proofs.ValueLaw.{next, run, stuck, program-run, named-run}
use Rattle.default_laws.proofs.DenseLaw.{next-run, not-both, no-T, stand-first}
use Rattle.default_laws.proofs.DenseTypeLaw.{attribute-holds}

-- the roles with which another value begins
abbrev others : List ℕ
others = dense ∷ array ∷ dialect ∷ Value ∷ []

not-number : (r : ℕ) → among_symbols others r ≡ true → matches r NUMBER ≡ false
unfolding matches leaf_kinds
not-number r a = no-T (matches r NUMBER) (member-passes (λ r. not (matches r NUMBER)) others r tt (true-T _ a))

-- a choice's first word begins no number
choice-form : (k : ℕ) → choice_form k ≡ Number → ⊥
unfolding choice_form choice_kinds
choice-form zero e = omega arith
choice-form (suc zero) e = omega arith
choice-form (suc (suc k)) e = omega arith

by_form : (n c w a d : Bool) (form : ℕ) → (form ≡ Number → ⊥) → pick n 2 (pick c form (pick w (pick a 1 (pick d 3 0)) 0)) ≡ Number → n ≡ true
by_form true c w a d form f e = refl
by_form false true w a d form f e = absurd (f e)
by_form false false true true d form f e = absurd (omega arith)
by_form false false true false true form f e = absurd (omega arith)
by_form false false true false false form f e = absurd (omega arith)
by_form false false false a d form f e = absurd (omega arith)

fits-range : (z : ℤ) → (pattern_in z).fits ≡ true → is_attribute_number z ≡ true
unfolding pattern_in
fits-range z e = go (is_attribute_number z) e
  where
    picked : Bool → NumberRead
    picked b = pick b (fitting (pattern_of z)) unfit

    go : (b : Bool) → (picked b).fits ≡ true → b ≡ true
    go true e = refl
    go false e = e

module _ (text : List ℕ) where
  -- the number whose token starts here lies in the signed 64-bit range
  abbrev pub Fits : ℕ → Type 0
  Fits start = is_attribute_number (decimal_number text start) ≡ true

  -- so it is the one that is read
  pub pattern-written : (start : ℕ) → Fits start → pattern_at text start ≡ pattern_of (decimal_number text start)
  unfolding pattern_at pattern_in
  pattern-written start e = ap (λ (b : Bool). (pick {A = NumberRead} b (fitting (pattern_of (decimal_number text start))) unfit).bits) e

  -- a value of the form of a number begins with one
  form-number : (name : ℕ) → form_at text name ≡ Number → kind_of text (token_after 2 text name) ≡ NUMBER
  unfolding form_at word_form kind_of token_kind mark_kind
  form-number name e =
      let t = token_after 2 text name in
      let k : t.kind ≡ 2 = eqb-true t.kind 2
      (by_form (eqb t.kind 2) (eqb t.kind 5) (eqb t.kind 1) (word_is (ascii "array") text t.start t.end) (word_is (ascii "dense") text t.start t.end) _
      (choice-form (choice_at text name).kind) e) in
      rw k

  -- a token that is a number outside `dense`: a single one or one of a list
  abbrev pub InRange : Reading → Type 0
  InRange x = among_roles number_roles x.role ≡ true → Fits x.token.start

  single : (x : Reading) → InRange x → x.role ≡ SingleNumber → Fits x.token.start
  unfolding among_roles
  single x h e = h (rw e)

  -- each token comes after the one before, and is of a kind of its role
  abbrev Follow : ℕ → List Reading → Type 0
  Follow at [] = Unit {0}
  Follow at (x ∷ xs) = (x.token ≡ token_at text at) × (matches x.role (kind_of text x.token) ≡ true) × InRange x × Follow x.token.end xs

  -- after `=`
  at_value : (at : ℕ) (xs : List Reading) → kind_of text (token_at text at) ≡ NUMBER → run 2 (roles_of xs) ≡ 0 → Follow at xs → Fits (token_at text at).start
  at_value at [] k e f = absurd (omega arith)
  at_value at (x ∷ xs) k e f = by-role (eqb x.role SingleNumber) (eqb x.role dense) (among_symbols (array ∷ dialect ∷ Value ∷ []) x.role) refl refl refl
    where
      other : among_symbols others x.role ≡ true → ⊥
      other r =
          let z : kind_of text x.token ≡ NUMBER = rw f.0 k in
          let m : matches x.role NUMBER ≡ true = rw z at f.1 in
          not-both m (not-number x.role r)

      by-role : (b c d : Bool) → eqb x.role SingleNumber ≡ b → eqb x.role dense ≡ c → among_symbols (array ∷ dialect ∷ Value ∷ []) x.role ≡ d → Fits (token_at text at).start
      by-role true c d q r s = subst (λ (t : Token). Fits t.start) f.0 (single x f.2 (eqb-true x.role SingleNumber q))
      by-role false true d q r s = absurd (other (rw r))
      by-role false false true q r s = absurd (other (rw (r, s)))
      by-role false false false q r s = absurd (stuck (roles_of xs) (next-run 2 7 x.role (roles_of xs) (rw (q, r, s)) e))

  -- after the name
  at-equals : (at : ℕ) (xs : List Reading) → kind_of text (token_after 1 text at) ≡ NUMBER → run 1 (roles_of xs) ≡ 0 → Follow at xs → Fits (token_after 1 text at).start
  unfolding token_after
  at-equals at [] k e f = absurd (omega arith)
  at-equals at (x ∷ xs) k e f = by-role (eqb x.role equals) refl
    where
      by-role : (b : Bool) → eqb x.role equals ≡ b → Fits (token_at text (token_at text at).end).start
      by-role true q =
          let z : kind_of text (token_at text x.token.end) ≡ NUMBER = rw f.0 k in
          subst (λ (t : Token). Fits (token_at text t.end).start) f.0 (at_value x.token.end xs z (next-run 1 2 x.role (roles_of xs) (rw q) e) f.3)
      by-role false q = absurd (stuck (roles_of xs) (next-run 1 7 x.role (roles_of xs) (rw q) e))

  -- the attribute whose name is at a byte: where its value is a number, that lies in the range
  abbrev pub NumberStands : ℕ → Type 0
  NumberStands name = form_at text name ≡ Number → Fits (value_token text name).start

  at_name : (at : ℕ) (x : Reading) (xs : List Reading) → x.token ≡ token_at text at → run 1 (roles_of xs) ≡ 0 → Follow x.token.end xs → NumberStands x.token.start
  unfolding token_after
  at_name at x xs t e f form =
      let q : token_at text x.token.start ≡ x.token = ap (λ (u : Token). token_at text u.start) t ∙ token-again text at ∙ sym t in
      let k : kind_of text (token_after 1 text x.token.end) ≡ NUMBER = subst (λ (u : Token). kind_of text (token_after 1 text u.end) ≡ NUMBER) q (form-number x.token.start form) in
      subst (λ (u : Token). Fits (token_after 1 text u.end).start) (sym q) (at-equals x.token.end xs k e f)

  all_named : (s at : ℕ) (xs : List Reading) → run s (roles_of xs) ≡ 0 → Follow at xs → All (λ x. x.role ≡ AttributeName → NumberStands x.token.start) xs
  all_named s at [] e f = tt
  all_named s at (x ∷ xs) e f = (
    (λ w. at_name at x xs f.0 (named-run s (roles_of xs) (subst (λ (r : ℕ). run (next s r) (roles_of xs) ≡ 0) w e)) f.3),
    all_named (next s x.role) x.token.end xs e f.3,
  )

  -- ---- the readings of a text

  reads-follow : {last : ℕ} {ss : List ℕ} {at : ℕ} {xs : List Reading} → Reads text last ss at xs → StandFor (roles_of xs) (kinds_of text (tokens_of xs)) → All InRange xs → Follow at xs
  reads-follow stop t d = tt
  reads-follow (read s r) t d = let f = stand-first text t in (refl, f.0, d.0, reads-follow r f.1 d.1)

  in-range : (s : Tally) (x : Reading) → Sound text s x → InRange x
  unfolding passes large_number
  in-range s x g w =
      let a = passes_none text s x g.sized in
      let k : not (pattern_in (decimal_number text x.token.start)).fits ≡ false = rw w at a.1.1.1.1.1.1.0 in
      fits-range (decimal_number text x.token.start) (not-false _ k)

  each-in-range : (s : Tally) (xs : List Reading) → Each text s xs → All InRange xs
  each-in-range s [] e = tt
  each-in-range s (x ∷ xs) e = (in-range s x (token-sound text s x e.0), each-in-range (after_token text s x.role x.token) xs e.1)

  -- every number of the text's attributes outside `dense`
  pub numbers-in-range : (text_refusal text).number ≡ 0 → All InRange (readings text)
  numbers-in-range e = each-in-range at_start (readings text) (accepted-each text e)

  text-named : (text_refusal text).number ≡ 0 → All (λ x. x.role ≡ AttributeName → NumberStands x.token.start) (readings text)
  unfolding readings readings_of
  text-named e =
      let w = whole text (no-fault text (accepted-sentence text e)) in
      all_named 0 0 (readings text) (program-run (reads_yields w.reads))
      (reads-follow w.reads (parsed (reads-gives w.reads)).tokens (numbers-in-range e))

module _ (text : List ℕ) (read : (text_refusal text).number ≡ 0) where
  abbrev op : ℕ → Parts
  op k = op_at text (get_or (program_of text).ops k 0)

  -- attribute j of op k, of the first eight, where its value is a number: that lies in the signed 64-bit range
  pub number-in-range : (k : ℕ) → k + 1 < (program_of text).count → (j : ℕ) → j < count_of (op k) attribute_name → j < 8 → NumberStands text (place_of (op k) attribute_name j)
  number-in-range = attribute-holds text read (NumberStands text) (text-named text read)

  -- and is the number that is read
  pub number-written : (k : ℕ) → k + 1 < (program_of text).count → (j : ℕ) → j < count_of (op k) attribute_name → j < 8 → form_at text (place_of (op k) attribute_name j) ≡ Number →
      number_at text (place_of (op k) attribute_name j) ≡ pattern_of (decimal_number text (value_token text (place_of (op k) attribute_name j)).start)
  unfolding number_at
  number-written k h j l m form = pattern-written text (value_token text (place_of (op k) attribute_name j)).start (number-in-range k h j l m form)
