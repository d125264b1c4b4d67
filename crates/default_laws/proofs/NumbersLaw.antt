-- What is left out of a list past its sixth number (`numbers_from`, `with_number`), and what stands for a number of it outside the signed 64-bit range
-- (`pattern_at`'s 0): in a text without refusals 1 to 4 the numbers that are read of an attribute's list are those that are written up to its `>`, each as it is
-- written (01, Sizes, 6: "An attribute list has at most 6 numbers", and 7: "An attribute number outside `dense` lies in the signed 64-bit range").
-- Assumes nothing.
use mathlib.Core.Path.{◌≡◌, refl, sym, ap, subst, ◌∙◌}
use mathlib.Core.List.{List, [], ◌∷◌, ◌++◌, map, append-nil, append_assoc}
use mathlib.Core.Bool.{Bool, true, false, not}
use Prim.Native.Nat.{ℕ, zero, suc, ◌+◌, ◌-◌, ◌<◌, ◌≤◌}
use native.Mathlib.Omega.{arith}
use lib.Dec.{T, eqb, eqb→eq}
use lib.ListN.{length, get_or, set, replicate, length-append}
use borrow.Author.Tests.{eqb-true, lt-ltb}
use Rattle.lists.specs.Lists.{pick, All}
use Rattle.scan.specs.Ascii.{ascii}
use Rattle.text.specs.Lex.{token_at}
use Rattle.text.specs.Names.{word_is}
use Rattle.text.specs.declared.Token.{Token}
use Rattle.shape.specs.Whole.{pattern_of}
use Rattle.types.specs.Numbers.{decimal_number}
use Rattle.grammar.specs.Symbols.{END, NUMBER, FUNC, DIALECT, TYPE, ARROW, OTHER, ARRAY, LPAREN, RPAREN, LBRACE, RBRACE, LANGLE, RANGLE, LBRACKET, RBRACKET, COMMA, COLON, EQUALS, AttributeName, SingleNumber, ListNumber, langle, rangle, comma, colon, equals, dialect, array, dense, i64, Value, Numbers as NumberItems, MoreNumbers, among_symbols, matches, leaf_kinds}
use Rattle.grammar.specs.Grammar.{Production, grammar}
use Rattle.grammar.specs.Derivation.{◌∈◌}
use Rattle.grammar.specs.Leaves.{Yields, nothing, itself, right, StandFor}
use Rattle.grammar.proofs.TableTest.{both, or, or_cases, both_left, both_right, up_to, up-to, true-T}
use Rattle.grammar.proofs.CellView.{rule-passes}
use Rattle.grammar.proofs.Within.{member-passes}
use Rattle.grammar.proofs.Leaves.{parsed}
use Rattle.syntax.specs.Kinds.{mark_kind, name_kind, word_kind, quoted_kind, token_kind, kind_of}
use Rattle.syntax.specs.Tokens.{kinds_of}
use Rattle.syntax.specs.Readings.{Reading, readings_of, readings}
use Rattle.syntax.specs.Roles.{roles_of, tokens_of}
use Rattle.syntax.proofs.Labelling.{Reads, stop, read, whole, reads-gives}
use Rattle.syntax.proofs.AloneLaw.{token-again}
use Rattle.syntax.proofs.OutlineLaw.{reads_yields}
use Rattle.syntax.proofs.Theorems.{no-fault}
use Rattle.optable.specs.Table.{NumbersKind as NumberList, choice_kinds, choice_form}
use Rattle.dimrules.specs.declared.Numbers.{Numbers}
use Rattle.attribute.specs.Attribute.{token_after, word_form, choice_at, form_at, none_read, with_number, goes_on, numbers_from, numbers_at}
use Rattle.judge.specs.Roles.{among_roles}
use Rattle.judge.specs.Judge.{text_refusal}
use Rattle.judge.proofs.Theorems.{accepted-sentence}
use Rattle.part_laws.proofs.ItemLaw.{Chain, none, more}
use Rattle.program.specs.declared.Parts.{Parts}
use Rattle.program.specs.Parts.{op_at}
use Rattle.program.specs.Program.{program_of}
use Rattle.places.specs.Places.{attribute_name, count_of, place_of}
use Rattle.default_laws.proofs.DenseLaw.{not-both, no-T, stand-first}
use Rattle.default_laws.proofs.DenseTypeLaw.{attribute-holds}
use Rattle.default_laws.proofs.NumberLaw.{Fits, pattern-written, InRange, numbers-in-range}
use Rattle.default_laws.proofs.ListLaw.{six-numbers}

-- ---- roles

-- how far a list is read: 0 outside of one, 1 after an attribute's name, 2 after `=`, 3 after `array`, 4 after `<`, 5 after `i64`, 6 after `:` or `,`,
-- 7 after a number, 8 where `>` must come; 9: the symbol can not come there
abbrev next : ℕ → ℕ → ℕ
next zero r = pick (eqb r AttributeName) 1 0
next (suc zero) r = pick (eqb r equals) 2 9
next (suc (suc zero)) r = pick (eqb r array) 3 (pick (among_symbols (SingleNumber ∷ dense ∷ dialect ∷ Value ∷ []) r) 0 9)
next (suc (suc (suc zero))) r = pick (eqb r langle) 4 9
next (suc (suc (suc (suc zero)))) r = pick (eqb r i64) 5 9
next (suc (suc (suc (suc (suc zero))))) r = pick (eqb r rangle) 0 (pick (eqb r colon) 6 (pick (eqb r NumberItems) 8 9))
next (suc (suc (suc (suc (suc (suc zero)))))) r = pick (eqb r ListNumber) 7 9
next (suc (suc (suc (suc (suc (suc (suc zero))))))) r = pick (eqb r rangle) 0 (pick (eqb r comma) 6 (pick (eqb r MoreNumbers) 7 9))
next (suc (suc (suc (suc (suc (suc (suc (suc zero)))))))) r = pick (eqb r rangle) 0 9
next (suc (suc (suc (suc (suc (suc (suc (suc (suc s))))))))) r = 9

abbrev run : ℕ → List ℕ → ℕ
run s [] = s
run s (r ∷ rs) = run (next s r) rs

run-wrong : (rs : List ℕ) → run 9 rs ≡ 9
run-wrong [] = refl
run-wrong (r ∷ rs) = run-wrong rs

stuck : (rs : List ℕ) → run 9 rs ≡ 0 → ⊥
stuck rs e = let z = run-wrong rs in omega arith

run-append : (xs ys : List ℕ) (s : ℕ) → run s (xs ++ ys) ≡ run (run s xs) ys
run-append [] ys s = refl
run-append (x ∷ xs) ys s = run-append xs ys (next s x)

next-run : (s t r : ℕ) (rs : List ℕ) → next s r ≡ t → run s (r ∷ rs) ≡ 0 → run t rs ≡ 0
next-run s t r rs q e = subst (λ (n : ℕ). run n rs ≡ 0) q e

-- what ends well from one state does so from another: from the same, from none, or, where `>` must come, after `i64` and after a number
abbrev under : ℕ → ℕ → Bool
under a b = or (eqb a b) (or (eqb b 9) (both (eqb b 8) (or (eqb a 5) (eqb a 7))))

closing : (a : ℕ) → ((r : ℕ) → eqb r rangle ≡ true → next a r ≡ 0) → (rs : List ℕ) → run 8 rs ≡ 0 → run a rs ≡ 0
closing a f [] e = absurd (omega arith)
closing a f (r ∷ rs) e = by-role (eqb r rangle) refl
  where
    by-role : (b : Bool) → eqb r rangle ≡ b → run (next a r) rs ≡ 0
    by-role true q = subst (λ (n : ℕ). run n rs ≡ 0) (sym (f r q)) (next-run 8 0 r rs (rw q) e)
    by-role false q = absurd (stuck rs (next-run 8 9 r rs (rw q) e))

under-run : (a b : ℕ) (rs : List ℕ) → T (under a b) → run b rs ≡ 0 → run a rs ≡ 0
under-run a b rs t e =
    or_cases (eqb a b) _ (run a rs ≡ 0) t (λ u. subst (λ (n : ℕ). run n rs ≡ 0) (sym (eqb→eq a b u)) e)
    (λ t. or_cases (eqb b 9) _ (run a rs ≡ 0) t (λ u. absurd (stuck rs (subst (λ (n : ℕ). run n rs ≡ 0) (eqb→eq b 9 u) e)))
    (λ t. let g : run 8 rs ≡ 0 = subst (λ (n : ℕ). run n rs ≡ 0) (eqb→eq b 8 (both_left (eqb b 8) _ t)) e in
    or_cases (eqb a 5) (eqb a 7) (run a rs ≡ 0) (both_right (eqb b 8) _ t)
    (λ u. subst (λ (n : ℕ). run n rs ≡ 0) (sym (eqb→eq a 5 u)) (closing 5 (λ r q. rw q) rs g))
    (λ u. subst (λ (n : ℕ). run n rs ≡ 0) (sym (eqb→eq a 7 u)) (closing 7 (λ r q. rw q) rs g))))

-- each production reads as far as its symbol
abbrev reads : Production → Bool
reads p = up_to 10 (λ s. under (run s p.right) (next s p.left))

all_read : (p : Production) → p ∈ grammar → T (reads p)
unfolding grammar
all_read p m = rule-passes reads m tt

pick_small : (b : Bool) (x y : ℕ) → x ≤ 9 → y ≤ 9 → pick b x y ≤ 9
pick_small true x y h g = h
pick_small false x y h g = g

next_small : (s r : ℕ) → next s r ≤ 9
next_small zero r = pick_small (eqb r AttributeName) 1 0 (omega arith) (omega arith)
next_small (suc zero) r = pick_small (eqb r equals) 2 9 (omega arith) (omega arith)
next_small (suc (suc zero)) r = pick_small (eqb r array) 3 _ (omega arith) (pick_small (among_symbols (SingleNumber ∷ dense ∷ dialect ∷ Value ∷ []) r) 0 9 (omega arith) (omega arith))
next_small (suc (suc (suc zero))) r = pick_small (eqb r langle) 4 9 (omega arith) (omega arith)
next_small (suc (suc (suc (suc zero)))) r = pick_small (eqb r i64) 5 9 (omega arith) (omega arith)
next_small (suc (suc (suc (suc (suc zero))))) r =
    pick_small (eqb r rangle) 0 _ (omega arith) (pick_small (eqb r colon) 6 _ (omega arith) (pick_small (eqb r NumberItems) 8 9 (omega arith) (omega arith)))
next_small (suc (suc (suc (suc (suc (suc zero)))))) r = pick_small (eqb r ListNumber) 7 9 (omega arith) (omega arith)
next_small (suc (suc (suc (suc (suc (suc (suc zero))))))) r =
    pick_small (eqb r rangle) 0 _ (omega arith) (pick_small (eqb r comma) 6 _ (omega arith) (pick_small (eqb r MoreNumbers) 7 9 (omega arith) (omega arith)))
next_small (suc (suc (suc (suc (suc (suc (suc (suc zero)))))))) r = pick_small (eqb r rangle) 0 9 (omega arith) (omega arith)
next_small (suc (suc (suc (suc (suc (suc (suc (suc (suc s))))))))) r = omega arith

-- so where symbols end well, what they yield does
yields-run : {ss ls : List ℕ} → Yields ss ls → (s : ℕ) → s ≤ 9 → run s ss ≡ 0 → run s ls ≡ 0
yields-run nothing s h e = e
yields-run (itself {leaf} {ss} l y) s h e = yields-run y (next s leaf) (next_small s leaf) e
yields-run (right {p} {ss} m y) s h e =
    let t = up-to 10 (λ s. under (run s p.right) (next s p.left)) s (all_read p m) (omega arith) in
    yields-run y s h (run-append p.right ss s ∙ under-run (run s p.right) (next s p.left) ss t e)

-- an attribute's name comes outside of a list
named-run : (s : ℕ) (rs : List ℕ) → run (next s AttributeName) rs ≡ 0 → run 1 rs ≡ 0
named-run zero rs e = e
named-run (suc zero) rs e = absurd (stuck rs e)
named-run (suc (suc zero)) rs e = absurd (stuck rs e)
named-run (suc (suc (suc zero))) rs e = absurd (stuck rs e)
named-run (suc (suc (suc (suc zero)))) rs e = absurd (stuck rs e)
named-run (suc (suc (suc (suc (suc zero))))) rs e = absurd (stuck rs e)
named-run (suc (suc (suc (suc (suc (suc zero)))))) rs e = absurd (stuck rs e)
named-run (suc (suc (suc (suc (suc (suc (suc zero))))))) rs e = absurd (stuck rs e)
named-run (suc (suc (suc (suc (suc (suc (suc (suc zero)))))))) rs e = absurd (stuck rs e)
named-run (suc (suc (suc (suc (suc (suc (suc (suc (suc s))))))))) rs e = absurd (stuck rs e)

-- ---- kinds of tokens

-- the marks of a list, and the byte of each
abbrev marks : List ℕ
marks = RANGLE ∷ COMMA ∷ COLON ∷ []

abbrev byte_of : ℕ → ℕ
byte_of n = pick (eqb n RANGLE) 62 (pick (eqb n COMMA) 44 58)

-- a token of kind k in the text has a mark's kind n in the grammar only as that mark's byte
record Back (k n : ℕ) : Type 0 where
  back : among_symbols marks n ≡ true → k ≡ byte_of n

other : (k n : ℕ) → among_symbols marks n ≡ false → Back k n
other k n e = record { back = λ m. absurd (not-both m e) }

either : (k : ℕ) (b : Bool) (x y : ℕ) → Back k x → Back k y → Back k (pick b x y)
either k true x y h g = h
either k false x y h g = g

marked : (k c x y : ℕ) → c ≡ byte_of x → Back k y → Back k (pick (eqb k c) x y)
marked k c x y e h = go (eqb k c) refl
  where
    go : (b : Bool) → eqb k c ≡ b → Back k (pick b x y)
    go true q = record { back = λ m. eqb-true k c q ∙ e }
    go false q = h

mark-back : (k : ℕ) → Back k (mark_kind k)
unfolding mark_kind
mark-back k =
    let rest = either k (eqb k 91) _ _ (other k LBRACKET refl) (either k (eqb k 93) _ _ (other k RBRACKET refl)
    (marked k 44 COMMA _ refl (marked k 58 COLON _ refl (either k (eqb k 61) _ _ (other k EQUALS refl) (other k OTHER refl))))) in
    let mark = either k (eqb k 40) _ _ (other k LPAREN refl) (either k (eqb k 41) _ _ (other k RPAREN refl) (either k (eqb k 123) _ _ (other k LBRACE refl)
    (either k (eqb k 125) _ _ (other k RBRACE refl) (either k (eqb k 60) _ _ (other k LANGLE refl) (marked k 62 RANGLE _ refl rest))))) in
    either k (eqb k 2) _ _ (other k NUMBER refl) (either k (eqb k 4) _ _ (other k FUNC refl) (either k (eqb k 5) _ _ (other k DIALECT refl)
    (either k (eqb k 7) _ _ (other k TYPE refl) (either k (eqb k 8) _ _ (other k ARROW refl) mark))))

name_back : (k b : ℕ) → Back k (name_kind b)
unfolding name_kind
name_back k b = search (either, other) depth 8

word_back : (k : ℕ) (text : List ℕ) (start end : ℕ) → Back k (word_kind text start end)
unfolding word_kind
word_back k text start end = search (either, other) depth 16

quoted-back : (k : ℕ) (text : List ℕ) (start end : ℕ) → Back k (quoted_kind text start end)
unfolding quoted_kind
quoted-back k text start end = search (either, other) depth 8

kind-back : (text : List ℕ) (t : Token) → Back t.kind (kind_of text t)
unfolding kind_of token_kind
kind-back text t =
    let k = t.kind in
    either k (eqb k 0) END _ (other k END refl)
    (either k (eqb k 1) _ _ (word_back k text t.start t.end) (either k (eqb k 3) _ _ (name_back k _) (either k (eqb k 6) _ _ (quoted-back k text t.start t.end) (mark-back k))))

mark-byte : (text : List ℕ) (t : Token) (n : ℕ) → kind_of text t ≡ n → among_symbols marks n ≡ true → t.kind ≡ byte_of n
mark-byte text t n e m = subst (λ (n : ℕ). among_symbols marks n ≡ true → t.kind ≡ byte_of n) e (kind-back text t).back m

-- a role that tokens of one kind have
only-kind : (r n k : ℕ) → get_or leaf_kinds r [] ≡ n ∷ [] → matches r k ≡ true → k ≡ n
unfolding matches
only-kind r n k e m = go (eqb k n) refl (rw e at m)
  where
    go : (b : Bool) → eqb k n ≡ b → pick b true false ≡ true → k ≡ n
    go true q m = eqb-true k n q
    go false q m = absurd (not-both m refl)

-- the roles with which another value begins
abbrev others : List ℕ
others = SingleNumber ∷ dense ∷ dialect ∷ Value ∷ []

not-array : (r : ℕ) → among_symbols others r ≡ true → matches r ARRAY ≡ false
unfolding matches leaf_kinds
not-array r a = no-T (matches r ARRAY) (member-passes (λ r. not (matches r ARRAY)) others r tt (true-T _ a))

-- a symbol that productions define is no token's role
not-role : (r : ℕ) → among_symbols (NumberItems ∷ MoreNumbers ∷ []) r ≡ true → (k : ℕ) → matches r k ≡ false
unfolding matches leaf_kinds
not-role r a k = no-T (matches r k) (member-passes (λ r. not (matches r k)) (NumberItems ∷ MoreNumbers ∷ []) r tt (true-T _ a))

-- a choice's first word begins no list
choice-form : (k : ℕ) → choice_form k ≡ NumberList → ⊥
unfolding choice_form choice_kinds
choice-form zero e = omega arith
choice-form (suc zero) e = omega arith
choice-form (suc (suc k)) e = omega arith

by_form : (n c w a d : Bool) (form : ℕ) → (form ≡ NumberList → ⊥) → pick n 2 (pick c form (pick w (pick a 1 (pick d 3 0)) 0)) ≡ NumberList → (w ≡ true) × (a ≡ true)
by_form true c w a d form f e = absurd (omega arith)
by_form false true w a d form f e = absurd (f e)
by_form false false true true d form f e = (refl, refl)
by_form false false true false true form f e = absurd (omega arith)
by_form false false true false false form f e = absurd (omega arith)
by_form false false false a d form f e = absurd (omega arith)

-- ---- a list as it is written, and as it is read

-- from a byte on `>`, or the mark (`:`, later `,`), a number in the signed 64-bit range, and so on: where the numbers start
pub data Listed (text : List ℕ) : ℕ → ℕ → List ℕ → Type 0 where
  closed : {mark at : ℕ} → kind_of text (token_at text at) ≡ RANGLE → Listed text mark at []
  number : {mark at : ℕ} {starts : List ℕ} → kind_of text (token_at text at) ≡ mark → kind_of text (token_at text (token_at text at).end) ≡ NUMBER →
      Fits text (token_at text (token_at text at).end).start → Listed text COMMA (token_at text (token_at text at).end).end starts →
      Listed text mark at ((token_at text (token_at text at).end).start ∷ starts)

-- these numbers, and n zeros
abbrev pub filled : List ℕ → ℕ → Numbers
filled vs n = record { count = length vs; list = vs ++ replicate n 0 }

set_next : (vs zs : List ℕ) (z v : ℕ) → set (vs ++ (z ∷ zs)) (length vs) v ≡ (vs ++ (v ∷ [])) ++ zs
set_next [] zs z v = refl
set_next (w ∷ vs) zs z v = ap {B = List ℕ} (λ l. w ∷ l) (set_next vs zs z v)

filled_next : (vs : List ℕ) (n v : ℕ) → length vs + suc n ≡ 6 → with_number (filled vs (suc n)) v ≡ filled (vs ++ (v ∷ [])) n
unfolding with_number
filled_next vs n v h = rw (lt-ltb (length vs) 6 (omega arith), length-append vs (v ∷ []), set_next vs (replicate n 0) 0 v)

none_left : (vs : List ℕ) (n rest : ℕ) → n ≡ rest → filled vs n ≡ filled (vs ++ []) rest
none_left vs n rest e = ap (λ (n : ℕ). filled vs n) e ∙ ap (λ (l : List ℕ). filled l rest) (sym (append-nil vs))

module _ (text : List ℕ) where
  -- a number as it is written, as a 64-bit pattern
  abbrev pub written : ℕ → ℕ
  written start = pattern_of (decimal_number text start)

  goes_on_lem : (mark : ℕ) (t : Token) → among_symbols (COMMA ∷ COLON ∷ []) mark ≡ true → kind_of text t ≡ mark → goes_on t.kind ≡ true
  unfolding goes_on
  goes_on_lem mark t m e = by-mark (eqb mark COMMA) (eqb mark COLON) refl refl m
    where
      by-mark : (b c : Bool) → eqb mark COMMA ≡ b → eqb mark COLON ≡ c → pick b true (pick c true false) ≡ true → goes_on t.kind ≡ true
      by-mark true c q r m = rw (mark-byte text t COMMA (e ∙ eqb-true mark COMMA q) refl)
      by-mark false true q r m = rw (mark-byte text t COLON (e ∙ eqb-true mark COLON r) refl)
      by-mark false false q r m = absurd (not-both m refl)

  ends : (t : Token) → kind_of text t ≡ RANGLE → goes_on t.kind ≡ false
  unfolding goes_on
  ends t e = rw (mark-byte text t RANGLE e refl)

  -- all numbers of a list are read, and nothing else
  all-read-from : (n rest mark at : ℕ) (starts vs : List ℕ) → among_symbols (COMMA ∷ COLON ∷ []) mark ≡ true → Listed text mark at starts →
      length starts + rest ≡ n → length vs + n ≡ 6 → numbers_from n (filled vs n) text at ≡ filled (vs ++ map written starts) rest
  unfolding numbers_from
  all-read-from zero rest mark at [] vs m (closed e) h g = let z : 0 ≡ rest = omega arith in none_left vs 0 rest z
  all-read-from (suc n) rest mark at [] vs m (closed e) h g = let z : suc n ≡ rest = omega arith in rw (ends (token_at text at) e) (none_left vs (suc n) rest z)
  all-read-from zero rest mark at starts vs m (number e k f l) h g = absurd (omega arith)
  all-read-from (suc n) rest mark at starts vs m (number {starts = ms} e k f l) h g =
      let t = token_at text (token_at text at).end in
      let v = written t.start in
      let c : length (vs ++ (v ∷ [])) ≡ length vs + 1 = length-append vs (v ∷ []) in
      let ih = all-read-from n rest COMMA t.end ms (vs ++ (v ∷ [])) refl l (omega arith) (omega arith) in
      rw (goes_on_lem mark (token_at text at) m e, pattern-written text t.start f, filled_next vs n v g) (ih ∙ ap (λ (l : List ℕ). filled l rest) (append_assoc vs (v ∷ []) (map written ms)))

  -- a value of the form of a list begins with `array`
  form-array : (name : ℕ) → form_at text name ≡ NumberList → kind_of text (token_after 2 text name) ≡ ARRAY
  unfolding form_at word_form kind_of token_kind word_kind
  form-array name e =
      let t = token_after 2 text name in
      let f = by_form (eqb t.kind 2) (eqb t.kind 5) (eqb t.kind 1) (word_is (ascii "array") text t.start t.end) (word_is (ascii "dense") text t.start t.end) _
      (choice-form (choice_at text name).kind) e in
      let k : t.kind ≡ 1 = eqb-true t.kind 1 f.0 in
      rw (k, f.1)

  -- ---- the tokens after an attribute's name

  -- a number and m more after commas are at most six
  abbrev Few : List Reading → Type 0
  Few xs = (m : ℕ) (ls rest : List ℕ) → Chain (ListNumber ∷ []) m ls → roles_of xs ≡ ListNumber ∷ (ls ++ rest) → 1 + m ≤ 6

  abbrev AllFew : List Reading → Type 0
  AllFew [] = Unit {0}
  AllFew (x ∷ xs) = Few (x ∷ xs) × AllFew xs

  -- each token comes after the one before, is of a kind of its role, and a number of a list lies in the range and is one of six
  abbrev Follow : ℕ → List Reading → Type 0
  Follow at [] = Unit {0}
  Follow at (x ∷ xs) = (x.token ≡ token_at text at) × (matches x.role (kind_of text (token_at text at)) ≡ true) × InRange text x × Few (x ∷ xs) × Follow (token_at text at).end xs

  -- a symbol that alone can come in a state, and what comes after it
  record Taken (t c at : ℕ) : Type 0 where
    first : Reading
    others : List Reading
    role : first.role ≡ c
    runs : run t (roles_of others) ≡ 0
    follow : Follow at (first ∷ others)

  take : (s t c at : ℕ) (xs : List Reading) → ((r : ℕ) → next s r ≡ pick (eqb r c) t 9) → 0 < s → run s (roles_of xs) ≡ 0 → Follow at xs → Taken t c at
  take s t c at [] n h e f = absurd (omega arith)
  take s t c at (x ∷ xs) n h e f = by-role (eqb x.role c) refl
    where
      by-role : (b : Bool) → eqb x.role c ≡ b → Taken t c at
      by-role true q =
          record { first = x; others = xs; role = eqb-true x.role c q; runs = next-run s t x.role (roles_of xs) (n x.role ∙ rw q) e; follow = f }
      by-role false q = absurd (stuck (roles_of xs) (next-run s 9 x.role (roles_of xs) (n x.role ∙ rw q) e))

  fits-listed : (x : Reading) (at : ℕ) → x.role ≡ ListNumber → x.token ≡ token_at text at → InRange text x → Fits text (token_at text at).start
  unfolding among_roles
  fits-listed x at e t h = subst (λ (t : Token). Fits text t.start) t (h (rw e))

  -- the kind of a token by its role
  kind-is : (r n at : ℕ) (x : Reading) → get_or leaf_kinds r [] ≡ n ∷ [] → x.role ≡ r → matches x.role (kind_of text (token_at text at)) ≡ true → kind_of text (token_at text at) ≡ n
  kind-is r n at x g e m = only-kind r n (kind_of text (token_at text at)) g (subst (λ (r : ℕ). matches r (kind_of text (token_at text at)) ≡ true) e m)

  -- after a number: those that come after it
  record Further (at : ℕ) (xs : List Reading) : Type 0 where
    starts : List ℕ
    listed : Listed text COMMA at starts
    ls : List ℕ
    rest : List ℕ
    chain : Chain (ListNumber ∷ []) (length starts) ls
    roles : roles_of xs ≡ ls ++ rest

  further : (at : ℕ) (x y : Reading) (xs : List Reading) → Follow at (x ∷ y ∷ xs) → x.role ≡ comma → y.role ≡ ListNumber → Further (token_at text (token_at text at).end).end xs →
      Further at (x ∷ y ∷ xs)
  unfolding leaf_kinds
  further at x y xs f q r h =
      let g = f.4 in
      let l = number (kind-is comma COMMA at x refl q f.1) (kind-is ListNumber NUMBER (token_at text at).end y refl r g.1) (fits-listed y (token_at text at).end r g.0 g.2) h.listed in
      let w = h.roles in
      record { starts = (token_at text (token_at text at).end).start ∷ h.starts; listed = l; ls = comma ∷ (ListNumber ∷ h.ls); rest = h.rest; chain = more h.chain; roles = rw (q, r, w) }

  no-further : (at : ℕ) (x : Reading) (xs : List Reading) → Follow at (x ∷ xs) → x.role ≡ rangle → Further at (x ∷ xs)
  unfolding leaf_kinds
  no-further at x xs f q = record { starts = []; listed = closed (kind-is rangle RANGLE at x refl q f.1); ls = []; rest = roles_of (x ∷ xs); chain = none; roles = refl }

  -- `>` or `,` comes after a number
  mark-after : (at : ℕ) (x : Reading) (xs : List Reading) (A : Type 0) → run 7 (roles_of (x ∷ xs)) ≡ 0 → Follow at (x ∷ xs) → (x.role ≡ rangle → A) →
      (x.role ≡ comma → run 6 (roles_of xs) ≡ 0 → A) → A
  mark-after at x xs A e f g h = by-role (eqb x.role rangle) (eqb x.role comma) (eqb x.role MoreNumbers) refl refl refl
    where
      by-role : (b c d : Bool) → eqb x.role rangle ≡ b → eqb x.role comma ≡ c → eqb x.role MoreNumbers ≡ d → A
      by-role true c d q r s = g (eqb-true x.role rangle q)
      by-role false true d q r s = h (eqb-true x.role comma r) (next-run 7 6 x.role (roles_of xs) (rw (q, r)) e)
      by-role false false true q r s =
          let w : x.role ≡ MoreNumbers = eqb-true x.role MoreNumbers s in
          absurd (not-both f.1 (not-role x.role (rw w) _))
      by-role false false false q r s = absurd (stuck (roles_of xs) (next-run 7 9 x.role (roles_of xs) (rw (q, r, s)) e))

  after-number : (at : ℕ) (xs : List Reading) → run 7 (roles_of xs) ≡ 0 → Follow at xs → Further at xs
  after-number at [] e f = absurd (omega arith)
  after-number at (x ∷ []) e f = mark-after at x [] (Further at (x ∷ [])) e f (no-further at x [] f) (λ q r. absurd (omega arith))
  after-number at (x ∷ y ∷ xs) e f =
      mark-after at x (y ∷ xs) (Further at (x ∷ y ∷ xs)) e f (no-further at x (y ∷ xs) f)
      (λ q r. by-role q r (eqb y.role ListNumber) refl (λ e. after-number (token_at text (token_at text at).end).end xs e f.4.4))
    where
      by-role : x.role ≡ comma → run 6 (roles_of (y ∷ xs)) ≡ 0 → (b : Bool) → eqb y.role ListNumber ≡ b →
          (run 7 (roles_of xs) ≡ 0 → Further (token_at text (token_at text at).end).end xs) → Further at (x ∷ y ∷ xs)
      by-role q e true r go_on = further at x y xs f q (eqb-true y.role ListNumber r) (go_on (next-run 6 7 y.role (roles_of xs) (rw r) e))
      by-role q e false r go_on = absurd (stuck (roles_of xs) (next-run 6 9 y.role (roles_of xs) (rw r) e))

  -- the numbers of a list, read from the byte after `i64` on: where they start
  pub record AtMostSix (at : ℕ) : Type 0 where
    pub starts : List ℕ
    pub listed : Listed text COLON at starts
    pub few : length starts ≤ 6

  -- after `:`
  at_first : (at : ℕ) (x : Reading) (xs : List Reading) → Follow at (x ∷ xs) → x.role ≡ colon → run 6 (roles_of xs) ≡ 0 → AtMostSix at
  unfolding leaf_kinds
  at_first at x xs f q e = go (take 6 7 ListNumber (token_at text at).end xs (λ r. refl) (omega arith) e f.4)
    where
      go : Taken 7 ListNumber (token_at text at).end → AtMostSix at
      go t =
          let g = t.follow in
          let h = after-number (token_at text (token_at text at).end).end t.others t.runs g.4 in
          let l = number (kind-is colon COLON at x refl q f.1) (kind-is ListNumber NUMBER (token_at text at).end t.first refl t.role g.1)
          (fits-listed t.first (token_at text at).end t.role g.0 g.2) h.listed in
          let r : roles_of (t.first ∷ t.others) ≡ ListNumber ∷ (h.ls ++ h.rest) = rw (t.role, h.roles) in
          let c = g.3 (length h.starts) h.ls h.rest h.chain r in
          record { starts = (token_at text (token_at text at).end).start ∷ h.starts; listed = l; few = omega arith }

  -- after `i64`
  after-type : (at : ℕ) (xs : List Reading) → run 5 (roles_of xs) ≡ 0 → Follow at xs → AtMostSix at
  unfolding leaf_kinds
  after-type at [] e f = absurd (omega arith)
  after-type at (x ∷ xs) e f = by-role (eqb x.role rangle) (eqb x.role colon) (eqb x.role NumberItems) refl refl refl
    where
      by-role : (b c d : Bool) → eqb x.role rangle ≡ b → eqb x.role colon ≡ c → eqb x.role NumberItems ≡ d → AtMostSix at
      by-role true c d q r s = record { starts = []; listed = closed (kind-is rangle RANGLE at x refl (eqb-true x.role rangle q) f.1); few = omega arith }
      by-role false true d q r s = at_first at x xs f (eqb-true x.role colon r) (next-run 5 6 x.role (roles_of xs) (rw (q, r)) e)
      by-role false false true q r s =
          let w : x.role ≡ NumberItems = eqb-true x.role NumberItems s in
          absurd (not-both f.1 (not-role x.role (rw w) _))
      by-role false false false q r s = absurd (stuck (roles_of xs) (next-run 5 9 x.role (roles_of xs) (rw (q, r, s)) e))

  -- after `=`
  at_value : (at : ℕ) (xs : List Reading) → kind_of text (token_at text at) ≡ ARRAY → run 2 (roles_of xs) ≡ 0 → Follow at xs → AtMostSix (token_after 2 text at).end
  unfolding token_after
  at_value at [] k e f = absurd (omega arith)
  at_value at (x ∷ xs) k e f = by-role (eqb x.role array) (among_symbols others x.role) refl refl
    where
      by-role : (b c : Bool) → eqb x.role array ≡ b → among_symbols others x.role ≡ c → AtMostSix (token_after 2 text at).end
      by-role true c q r =
          let a = take 3 4 langle (token_at text at).end xs (λ r. refl) (omega arith) (next-run 2 3 x.role (roles_of xs) (rw q) e) f.4 in
          let b = take 4 5 i64 (token_at text (token_at text at).end).end a.others (λ r. refl) (omega arith) a.runs a.follow.4 in
          after-type (token_at text (token_at text (token_at text at).end).end).end b.others b.runs b.follow.4
      by-role false true q r = absurd (not-both (subst (λ (k : ℕ). matches x.role k ≡ true) k f.1) (not-array x.role r))
      by-role false false q r = absurd (stuck (roles_of xs) (next-run 2 9 x.role (roles_of xs) (rw (q, r)) e))

  -- the attribute whose name is at a byte, where its value is a list
  abbrev pub ListStands : ℕ → Type 0
  ListStands name = form_at text name ≡ NumberList → AtMostSix (token_after 4 text name).end

  at_name : (at : ℕ) (x : Reading) (xs : List Reading) → x.token ≡ token_at text at → run 1 (roles_of xs) ≡ 0 → Follow (token_at text at).end xs → ListStands x.token.start
  unfolding token_after
  at_name at x xs t e f form =
      let q : token_at text x.token.start ≡ token_at text at = ap (λ (u : Token). token_at text u.start) t ∙ token-again text at in
      let k : kind_of text (token_after 1 text (token_at text at).end) ≡ ARRAY = subst (λ (u : Token). kind_of text (token_after 1 text u.end) ≡ ARRAY) q (form-array x.token.start form) in
      let a = take 1 2 equals (token_at text at).end xs (λ r. refl) (omega arith) e f in
      subst (λ (u : Token). AtMostSix (token_after 3 text u.end).end) (sym q) (at_value (token_at text (token_at text at).end).end a.others k a.runs a.follow.4)

  abbrev Named : Reading → Type 0
  Named x = x.role ≡ AttributeName → ListStands x.token.start

  all_named : (s at : ℕ) (xs : List Reading) → run s (roles_of xs) ≡ 0 → Follow at xs → All Named xs
  all_named s at [] e f = tt
  all_named s at (x ∷ xs) e f = (
    (λ w. at_name at x xs f.0 (named-run s (roles_of xs) (subst (λ (r : ℕ). run (next s r) (roles_of xs) ≡ 0) w e)) f.4),
    all_named (next s x.role) (token_at text at).end xs e f.4,
  )

  -- ---- the readings of a text

  reads-follow : {last : ℕ} {ss : List ℕ} {at : ℕ} {xs : List Reading} → Reads text last ss at xs → StandFor (roles_of xs) (kinds_of text (tokens_of xs)) → All (InRange text) xs →
      AllFew xs → Follow at xs
  reads-follow stop t d n = tt
  reads-follow (read s r) t d n = let f = stand-first text t in (refl, f.0, d.0, n.0, reads-follow r f.1 d.1 n.1)

  all-few : (text_refusal text).number ≡ 0 → (before xs : List Reading) → readings text ≡ before ++ xs → AllFew xs
  all-few e before [] w = tt
  all-few e before (x ∷ xs) w = ((λ m ls rest c r. six-numbers text e before (x ∷ xs) m ls rest w c r), all-few e (before ++ (x ∷ [])) xs (w ∙ sym (append_assoc before (x ∷ []) xs)))

  text-named : (text_refusal text).number ≡ 0 → All Named (readings text)
  unfolding readings readings_of
  text-named e =
      let w = whole text (no-fault text (accepted-sentence text e)) in
      all_named 0 0 (readings text) (yields-run (reads_yields w.reads) 0 (omega arith) refl)
      (reads-follow w.reads (parsed (reads-gives w.reads)).tokens (numbers-in-range text e) (all-few e [] (readings text) refl))

module _ (text : List ℕ) (read : (text_refusal text).number ≡ 0) where
  abbrev op : ℕ → Parts
  op k = op_at text (get_or (program_of text).ops k 0)

  -- attribute j of op k, of the first eight, where its value is a list: at most six numbers, each in the signed 64-bit range, and then `>`
  pub list_written : (k : ℕ) → k + 1 < (program_of text).count → (j : ℕ) → j < count_of (op k) attribute_name → j < 8 → ListStands text (place_of (op k) attribute_name j)
  list_written = attribute-holds text read (ListStands text) (text-named text read)

  -- and these are the numbers that are read, as they are written, and nothing else
  pub list_read : (k : ℕ) (h : k + 1 < (program_of text).count) (j : ℕ) (l : j < count_of (op k) attribute_name) (m : j < 8) →
      (form : form_at text (place_of (op k) attribute_name j) ≡ NumberList) →
      let starts = (list_written k h j l m form).starts in
      numbers_at text (place_of (op k) attribute_name j) ≡ filled (map (written text) starts) (6 - length starts)
  unfolding numbers_at none_read
  list_read k h j l m form =
      let s = list_written k h j l m form in
      let n = s.few in
      all-read-from text 6 (6 - length s.starts) COLON (token_after 4 text (place_of (op k) attribute_name j)).end s.starts [] refl s.listed (omega arith) refl
