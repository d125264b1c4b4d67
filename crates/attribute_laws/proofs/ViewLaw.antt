-- Each piece of an op's readings that begins at an attribute's name has one of the four forms.
-- Assumes nothing.
use mathlib.Core.Path.{◌≡◌, refl, sym, ap, subst, ◌∙◌}
use mathlib.Core.List.{List, [], ◌∷◌}
use mathlib.Core.Bool.{Bool, true, false, not}
use Prim.Native.Nat.{ℕ, zero, suc, ◌+◌, ◌<◌, ◌≤◌}
use native.Mathlib.Omega.{arith}
use lib.Dec.{eqb}
use lib.ListN.{length, get_or}
use borrow.Author.Tests.{eqb-true}
use Rattle.lists.specs.Lists.{pick, All}
use Rattle.scan.specs.Bytes.{among as among_roles}
use Rattle.text.specs.Lex.{token_at}
use Rattle.text.specs.declared.Token.{Token}
use Rattle.grammar.specs.Symbols.{END, NUMBER, RANGLE, COMMA, COLON, ARRAY, DENSE, DIALECT, AttributeName, SingleNumber, ListNumber, ChoiceKind, Choice, ElementLiteral, DenseOpen, DenseClose, DenseType, langle, rangle, comma, colon, equals, dialect, array, dense, i64, Value, Numbers, MoreNumbers, Dense, DenseItems, MoreItems, among_symbols, matches, leaf_kinds}
use Rattle.grammar.proofs.TableTest.{true-T}
use Rattle.grammar.proofs.Within.{member-passes}
use Rattle.syntax.specs.Kinds.{mark_kind, token_kind, kind_of}
use Rattle.syntax.specs.Readings.{Reading}
use Rattle.syntax.specs.Roles.{roles_of}
use Rattle.syntax.proofs.KindLaw.{is-end}
use Rattle.syntax.proofs.AloneLaw.{token-again}
use Rattle.program.specs.Parts.{depth_after}
use Rattle.attribute.specs.Attribute.{token_after, ends_literal, close_from}
use Rattle.source.specs.Source.{AttributeText, attribute_from}
use Rattle.default_laws.proofs.DenseLaw.{not-both, no-T}
use Rattle.attribute_laws.specs.ValueForms.{single_text, listed_text, dense_text, choice_text, Marked, closed, dense_type_at, ValueForm}
use Rattle.attribute_laws.specs.ValueForms as forms
use Rattle.attribute_laws.proofs.ValueRun.{next, run, stuck, next-run}
use Rattle.attribute_laws.proofs.FormLaw.{kind-told}
use Rattle.attribute_laws.proofs.PieceLaw.{up_to_name, after-value, with_token, flat, token-more}

-- a role that tokens of one kind have
only-kind : (r n k : ℕ) → get_or leaf_kinds r [] ≡ n ∷ [] → matches r k ≡ true → k ≡ n
unfolding matches
only-kind r n k e m = go (eqb k n) refl (rw e at m)
  where
    go : (b : Bool) → eqb k n ≡ b → pick b true false ≡ true → k ≡ n
    go true q m = eqb-true k n q
    go false q m = absurd (not-both m refl)

-- what holds of each symbol of a list
of-each : (P : ℕ → Type 0) (set : List ℕ) → All P set → (r : ℕ) → among_symbols set r ≡ true → P r
of-each P [] a r m = absurd (not-both m refl)
of-each P (c ∷ cs) a r m = go (eqb r c) refl m (of-each P cs a.1 r)
  where
    go : (b : Bool) → eqb r c ≡ b → pick b true (among_symbols cs r) ≡ true → (among_symbols cs r ≡ true → P r) → P r
    go true q m ih = subst P (sym (eqb-true r c q)) a.0
    go false q m ih = ih m

-- a symbol that productions define is no token's role
not-role : (r : ℕ) → among_symbols (Value ∷ Numbers ∷ MoreNumbers ∷ Dense ∷ []) r ≡ true → (k : ℕ) → matches r k ≡ false
unfolding matches leaf_kinds
not-role r a k = no-T (matches r k) (member-passes (λ r. not (matches r k)) (Value ∷ Numbers ∷ MoreNumbers ∷ Dense ∷ []) r tt (true-T _ a))

-- ---- the literal of a dense value

abbrev literals : List ℕ
literals = ElementLiteral ∷ DenseOpen ∷ DenseClose ∷ comma ∷ Dense ∷ DenseItems ∷ MoreItems ∷ []

not-close : (r : ℕ) → among_symbols literals r ≡ true → matches r RANGLE ≡ false
unfolding matches leaf_kinds
not-close = of-each (λ r. matches r RANGLE ≡ false) literals (refl, (refl, (refl, (refl, (refl, (refl, (refl, tt)))))))

not_last : (r : ℕ) → among_symbols literals r ≡ true → matches r END ≡ false
unfolding matches leaf_kinds
not_last = of-each (λ r. matches r END ≡ false) literals (refl, (refl, (refl, (refl, (refl, (refl, (refl, tt)))))))

is-close : (text : List ℕ) (t : Token) → t.kind ≡ 62 → kind_of text t ≡ RANGLE
unfolding kind_of token_kind mark_kind
is-close text t e = rw e

closes : (text : List ℕ) (t : Token) → kind_of text t ≡ RANGLE → ends_literal t.kind ≡ true
unfolding ends_literal
closes text t e = rw (kind-told text t RANGLE e refl)

within-literal : (text : List ℕ) (t : Token) (r : ℕ) → among_symbols literals r ≡ true → matches r (kind_of text t) ≡ true → ends_literal t.kind ≡ false
unfolding ends_literal
within-literal text t r a m = by_kind (eqb t.kind 62) (eqb t.kind 0) refl refl
  where
    by_kind : (b c : Bool) → eqb t.kind 62 ≡ b → eqb t.kind 0 ≡ c → ends_literal t.kind ≡ false
    by_kind true c e f = absurd (not-both (rw (is-close text t (eqb-true t.kind 62 e)) at m) (not-close r a))
    by_kind false true e f = absurd (not-both (rw (is-end text t (eqb-true t.kind 0 f)) at m) (not_last r a))
    by_kind false false e f = rw (e, f)

-- a role inside of a value
record Inner (r : ℕ) : Type 0 where
  level : flat r ≡ true
  name : eqb r AttributeName ≡ false

module _ (text : List ℕ) where
  -- each token comes after the one before, and is of a kind of its role
  abbrev pub Follow : ℕ → List Reading → Type 0
  Follow at [] = Unit {0}
  Follow at (x ∷ xs) = (x.token ≡ token_at text at) × (matches x.role (kind_of text (token_at text at)) ≡ true) × Follow (token_at text at).end xs

  with-role : (before c at : ℕ) (x : Reading) (xs : List Reading) → x.role ≡ c → Inner c → x.token ≡ token_at text at →
      attribute_from (up_to_name before 0 (x ∷ xs)) ≡ with_token c (token_at text at).start (attribute_from (up_to_name c 0 xs))
  with-role before c at x xs e i t =
      let f : flat x.role ≡ true = rw e i.level in
      let n : eqb x.role AttributeName ≡ false = rw e i.name in
      token-more before x xs f n
      ∙ (ap (λ (u : Token). with_token x.role u.start (attribute_from (up_to_name x.role 0 xs))) t ∙ ap (λ (r : ℕ). with_token r (token_at text at).start (attribute_from (up_to_name r 0 xs))) e)

  -- the only symbol that can come in a state, and what comes after it
  record One (t c at before : ℕ) (xs : List Reading) : Type 0 where
    others : List Reading
    size : length xs ≡ length others + 1
    kind : matches c (kind_of text (token_at text at)) ≡ true
    runs : run t (roles_of others) ≡ 0
    follow : Follow (token_at text at).end others
    lists : attribute_from (up_to_name before 0 xs) ≡ with_token c (token_at text at).start (attribute_from (up_to_name c 0 others))

  one : (s t c at before : ℕ) (xs : List Reading) → ((r : ℕ) → next s r ≡ pick (among_symbols (c ∷ []) r) t 16) → 0 < s → Inner c → run s (roles_of xs) ≡ 0 → Follow at xs → One t c at before xs
  one s t c at before [] n h i e f = absurd (omega arith)
  one s t c at before (x ∷ xs) n h i e f = by-role (eqb x.role c) refl
    where
      by-role : (b : Bool) → eqb x.role c ≡ b → One t c at before (x ∷ xs)
      by-role true q =
          let z = eqb-true x.role c q in
          record {
            others = xs;
            size = omega arith;
            kind = subst (λ (r : ℕ). matches r (kind_of text (token_at text at)) ≡ true) z f.1;
            runs = next-run s t x.role (roles_of xs) (n x.role ∙ rw q) e;
            follow = f.2;
            lists = with-role before c at x xs z i f.0;
          }
      by-role false q = absurd (stuck (roles_of xs) (next-run s 16 x.role (roles_of xs) (n x.role ∙ rw q) e))

  -- ---- `:` and the type of a dense value

  dense-type : (at before : ℕ) (xs : List Reading) → run 10 (roles_of xs) ≡ 0 → Follow at xs → attribute_from (up_to_name before 0 xs) ≡ dense_text [] (token_after 1 text at).start
  unfolding token_after depth_after
  dense-type at before xs e f =
      let a = one 10 11 colon at before xs (λ r. refl) (omega arith) (record { level = refl; name = refl }) e f in
      let b = one 11 0 DenseType (token_at text at).end colon a.others (λ r. refl) (omega arith) (record { level = refl; name = refl }) a.runs a.follow in
      a.lists ∙ (b.lists ∙ ap (with_token DenseType (token_at text (token_at text at).end).start) (after-value DenseType b.others b.runs))

  -- ---- the literal

  -- a token of it
  record InLiteral (r : ℕ) : Type 0 where
    inner : Inner r
    lists : (start type : ℕ) (ls : List ℕ) → with_token r start (dense_text ls type) ≡ dense_text (pick (among_roles (DenseOpen ∷ ElementLiteral ∷ []) r) (start ∷ ls) ls) type

  in-literal : (r : ℕ) → among_symbols literals r ≡ true → InLiteral r
  unfolding depth_after
  in-literal = of-each InLiteral literals (
    record { inner = record { level = refl; name = refl }; lists = λ s t l. refl },
    (
      record { inner = record { level = refl; name = refl }; lists = λ s t l. refl },
      (
        record { inner = record { level = refl; name = refl }; lists = λ s t l. refl },
        (
          record { inner = record { level = refl; name = refl }; lists = λ s t l. refl },
          (
            record { inner = record { level = refl; name = refl }; lists = λ s t l. refl },
            (
              record { inner = record { level = refl; name = refl }; lists = λ s t l. refl },
              (record { inner = record { level = refl; name = refl }; lists = λ s t l. refl }, tt),
            ),
          ),
        ),
      ),
    ),
  )

  record Literal (left at before : ℕ) (xs : List Reading) : Type 0 where
    more : List ℕ
    lists : attribute_from (up_to_name before 0 xs) ≡ dense_text more (token_after 1 text (close_from left text at)).start

  literal : (left at before : ℕ) (xs : List Reading) → length xs ≤ left → run 9 (roles_of xs) ≡ 0 → Follow at xs → Literal left at before xs
  unfolding close_from leaf_kinds depth_after
  literal left at before [] l e f = absurd (omega arith)
  literal zero at before (x ∷ xs) l e f = absurd (omega arith)
  literal (suc left) at before (x ∷ xs) l e f =
      by-role (among_symbols literals x.role) (eqb x.role rangle) refl refl (λ q. literal left (token_at text at).end x.role xs (omega arith) q f.2)
    where
      by-role : (b c : Bool) → among_symbols literals x.role ≡ b → eqb x.role rangle ≡ c → (run 9 (roles_of xs) ≡ 0 → Literal left (token_at text at).end x.role xs) →
          Literal (suc left) at before (x ∷ xs)
      by-role true c q r ih =
          let i = in-literal x.role q in
          let m = ih (next-run 9 9 x.role (roles_of xs) (rw q) e) in
          let k : ends_literal (token_at text at).kind ≡ false = within-literal text (token_at text at) x.role q f.1 in
          record {
            more = pick (among_roles (DenseOpen ∷ ElementLiteral ∷ []) x.role) ((token_at text at).start ∷ m.more) m.more;
            lists = rw k
                (with-role before x.role at x xs refl i.inner f.0
                ∙ (ap (with_token x.role (token_at text at).start) m.lists ∙ i.lists (token_at text at).start (token_after 1 text (close_from left text (token_at text at).end)).start m.more));
          }
      by-role false true q r ih =
          let z = eqb-true x.role rangle r in
          let k : ends_literal (token_at text at).kind ≡ true = closes text (token_at text at) (only-kind rangle RANGLE _ refl (subst (λ (r : ℕ). matches r (kind_of text (token_at text at)) ≡ true) z f.1)) in
          record {
            more = [];
            lists = rw k
                (with-role before rangle at x xs z (record { level = refl; name = refl }) f.0
                ∙ dense-type (token_at text at).end rangle xs (next-run 9 10 x.role (roles_of xs) (rw (q, r)) e) f.2);
          }
      by-role false false q r ih = absurd (stuck (roles_of xs) (next-run 9 16 x.role (roles_of xs) (rw (q, r)) e))

  close-again : (left at : ℕ) → 0 < left → close_from left text (token_at text at).start ≡ close_from left text at
  unfolding close_from
  close-again zero at h = absurd (omega arith)
  close-again (suc left) at h = rw (token-again text at)

  -- the first token of the literal
  record FirstLiteral (left at before : ℕ) (xs : List Reading) : Type 0 where
    more : List ℕ
    lists : attribute_from (up_to_name before 0 xs) ≡ dense_text ((token_at text at).start ∷ more) (token_after 1 text (close_from left text at)).start

  first-literal : (left at before : ℕ) (xs : List Reading) → length xs ≤ left → run 8 (roles_of xs) ≡ 0 → Follow at xs → FirstLiteral left at before xs
  unfolding close_from leaf_kinds depth_after
  first-literal left at before [] l e f = absurd (omega arith)
  first-literal zero at before (x ∷ xs) l e f = absurd (omega arith)
  first-literal (suc left) at before (x ∷ xs) l e f = by-role (eqb x.role ElementLiteral) (eqb x.role DenseOpen) (eqb x.role Dense) refl refl refl
    where
      first : among_roles (DenseOpen ∷ ElementLiteral ∷ []) x.role ≡ true → among_symbols literals x.role ≡ true → run 9 (roles_of xs) ≡ 0 → FirstLiteral (suc left) at before (x ∷ xs)
      first q r w =
          let i = in-literal x.role r in
          let m = literal left (token_at text at).end x.role xs (omega arith) w f.2 in
          let k : ends_literal (token_at text at).kind ≡ false = within-literal text (token_at text at) x.role r f.1 in
          let t = (token_after 1 text (close_from left text (token_at text at).end)).start in
          let z : with_token x.role (token_at text at).start (dense_text m.more t) ≡ dense_text ((token_at text at).start ∷ m.more) t =
          i.lists (token_at text at).start t m.more ∙ ap (λ (b : Bool). dense_text (pick b ((token_at text at).start ∷ m.more) m.more) t) q in
          record {
            more = m.more;
            lists = rw k (with-role before x.role at x xs refl i.inner f.0 ∙ (ap (with_token x.role (token_at text at).start) m.lists ∙ z));
          }

      by-role : (b c d : Bool) → eqb x.role ElementLiteral ≡ b → eqb x.role DenseOpen ≡ c → eqb x.role Dense ≡ d → FirstLiteral (suc left) at before (x ∷ xs)
      by-role true c d q r w = let z = eqb-true x.role ElementLiteral q in first (rw z) (rw z) (next-run 8 9 x.role (roles_of xs) (rw z) e)
      by-role false true d q r w = let z = eqb-true x.role DenseOpen r in first (rw z) (rw z) (next-run 8 9 x.role (roles_of xs) (rw z) e)
      by-role false false true q r w = let z = eqb-true x.role Dense w in absurd (not-both f.1 (not-role x.role (rw z) _))
      by-role false false false q r w = absurd (stuck (roles_of xs) (next-run 8 16 x.role (roles_of xs) (rw (q, r, w)) e))

  -- ---- a list

  record Numbered (at before : ℕ) (xs : List Reading) : Type 0 where
    starts : List ℕ
    marks : Marked text at starts
    lists : attribute_from (up_to_name before 0 xs) ≡ listed_text starts

  -- a mark of the list
  record InList (r : ℕ) : Type 0 where
    inner : Inner r
    lists : (start : ℕ) (a : AttributeText) → with_token r start a ≡ a
    kind : (k : ℕ) → matches r k ≡ true → among_symbols (COLON ∷ COMMA ∷ []) k ≡ true

  in_list : (r : ℕ) → among_symbols (colon ∷ comma ∷ []) r ≡ true → InList r
  unfolding depth_after leaf_kinds
  in_list =
      of-each InList (colon ∷ comma ∷ []) (
        record { inner = record { level = refl; name = refl }; lists = λ s a. refl; kind = λ k m. let z = only-kind colon COLON k refl m in rw z },
        (record { inner = record { level = refl; name = refl }; lists = λ s a. refl; kind = λ k m. let z = only-kind comma COMMA k refl m in rw z }, tt),
      )

  abbrev ListRead : ℕ → Type 0
  ListRead n = (at before : ℕ) (xs : List Reading) → length xs ≤ n → run 5 (roles_of xs) ≡ 0 → Follow at xs → Numbered at before xs

  next-numbers : (n : ℕ) → ListRead n → ListRead (suc n)
  unfolding depth_after leaf_kinds
  next-numbers n ih at before [] l e f = absurd (omega arith)
  next-numbers n ih at before (x ∷ xs) l e f =
      by-role (among_symbols (Numbers ∷ MoreNumbers ∷ []) x.role) (among_symbols (colon ∷ comma ∷ []) x.role) (eqb x.role rangle) refl refl refl
    where
      by-role : (b c d : Bool) → among_symbols (Numbers ∷ MoreNumbers ∷ []) x.role ≡ b → among_symbols (colon ∷ comma ∷ []) x.role ≡ c → eqb x.role rangle ≡ d → Numbered at before (x ∷ xs)
      by-role true c d q r w =
          absurd (not-both f.1 (not-role x.role (of-each (λ r. among_symbols (Value ∷ Numbers ∷ MoreNumbers ∷ Dense ∷ []) r ≡ true) (Numbers ∷ MoreNumbers ∷ []) (refl, (refl, tt)) x.role q) _))
      by-role false true d q r w =
          let i = in_list x.role r in
          let a = one 6 5 ListNumber (token_at text at).end x.role xs (λ r. refl) (omega arith) (record { level = refl; name = refl }) (next-run 5 6 x.role (roles_of xs) (rw (q, r)) e) f.2 in
          let z = a.size in
          let m = ih (token_at text (token_at text at).end).end ListNumber a.others (omega arith) a.runs a.follow in
          record {
            starts = (token_at text (token_at text at).end).start ∷ m.starts;
            marks = forms.number (i.kind _ f.1) m.marks;
            lists = with-role before x.role at x xs refl i.inner f.0
                ∙ (i.lists (token_at text at).start _ ∙ (a.lists ∙ ap (with_token ListNumber (token_at text (token_at text at).end).start) m.lists));
          }
      by-role false false true q r w =
          let z = eqb-true x.role rangle w in
          record {
            starts = [];
            marks = closed (only-kind rangle RANGLE _ refl (subst (λ (r : ℕ). matches r (kind_of text (token_at text at)) ≡ true) z f.1));
            lists = with-role before rangle at x xs z (record { level = refl; name = refl }) f.0
                ∙ after-value rangle xs (next-run 5 0 x.role (roles_of xs) (rw (q, r, w)) e);
          }
      by-role false false false q r w = absurd (stuck (roles_of xs) (next-run 5 16 x.role (roles_of xs) (rw (q, r, w)) e))

  no-numbers : ListRead 0
  no-numbers at before [] l e f = absurd (omega arith)
  no-numbers at before (x ∷ xs) l e f = absurd (omega arith)

  numbered : (n : ℕ) → ListRead n
  numbered zero = no-numbers
  numbered (suc n) = next-numbers n (numbered n)

  -- ---- the four forms, from the byte after the name on

  pub record Viewed (at before : ℕ) (xs : List Reading) : Type 0 where
    pub value : AttributeText
    pub form : ValueForm text at value
    pub lists : attribute_from (up_to_name before 0 xs) ≡ value

  -- after `=`
  module _ (at before : ℕ) (xs : List Reading) (short : length xs ≤ length text) (x : Reading) (f : Follow (token_at text at).end (x ∷ xs)) where
    abbrev mid : ℕ
    mid = (token_at text at).end

    abbrev after : ℕ
    after = (token_at text mid).end

    kind-is : (c n : ℕ) → x.role ≡ c → get_or leaf_kinds c [] ≡ n ∷ [] → kind_of text (token_at text mid) ≡ n
    kind-is c n e g = only-kind c n _ g (subst (λ (r : ℕ). matches r (kind_of text (token_at text mid)) ≡ true) e f.1)

    one_number : x.role ≡ SingleNumber → run 0 (roles_of xs) ≡ 0 → Viewed at before (x ∷ xs)
    unfolding depth_after leaf_kinds token_after
    one_number z e =
        record {
          value = single_text (token_at text mid).start;
          form = forms.number (kind-is SingleNumber NUMBER z refl);
          lists = with-role before SingleNumber mid x xs z (record { level = refl; name = refl }) f.0
              ∙ ap (with_token SingleNumber (token_at text mid).start) (after-value SingleNumber xs e);
        }

    number-list : x.role ≡ array → run 3 (roles_of xs) ≡ 0 → Viewed at before (x ∷ xs)
    unfolding depth_after leaf_kinds token_after
    number-list z e =
        let a = one 3 4 langle after array xs (λ r. refl) (omega arith) (record { level = refl; name = refl }) e f.2 in
        let b = one 4 5 i64 (token_at text after).end langle a.others (λ r. refl) (omega arith) (record { level = refl; name = refl }) a.runs a.follow in
        let m = numbered (length b.others) (token_at text (token_at text after).end).end i64 b.others (omega arith) b.runs b.follow in
        record {
          value = listed_text m.starts;
          form = forms.list (kind-is array ARRAY z refl) m.marks;
          lists = with-role before array mid x xs z (record { level = refl; name = refl }) f.0 ∙ (a.lists ∙ (b.lists ∙ m.lists));
        }

    choice-of-two : x.role ≡ dialect → run 12 (roles_of xs) ≡ 0 → Viewed at before (x ∷ xs)
    unfolding depth_after leaf_kinds token_after
    choice-of-two z e =
        let a = one 12 13 langle after dialect xs (λ r. refl) (omega arith) (record { level = refl; name = refl }) e f.2 in
        let t1 = (token_at text after).end in
        let b = one 13 14 ChoiceKind t1 langle a.others (λ r. refl) (omega arith) (record { level = refl; name = refl }) a.runs a.follow in
        let t2 = (token_at text t1).end in
        let c = one 14 15 Choice t2 ChoiceKind b.others (λ r. refl) (omega arith) (record { level = refl; name = refl }) b.runs b.follow in
        let t3 = (token_at text t2).end in
        let d = one 15 0 rangle t3 Choice c.others (λ r. refl) (omega arith) (record { level = refl; name = refl }) c.runs c.follow in
        let g = d.lists ∙ after-value rangle d.others d.runs in
        let h = c.lists ∙ ap (with_token Choice (token_at text t2).start) g in
        record {
          value = choice_text (token_at text t1).start (token_at text t2).start;
          form = forms.choice (kind-is dialect DIALECT z refl);
          lists = with-role before dialect mid x xs z (record { level = refl; name = refl }) f.0
              ∙ (a.lists ∙ (b.lists ∙ ap (with_token ChoiceKind (token_at text t1).start) h));
        }

    dense-value : x.role ≡ dense → run 7 (roles_of xs) ≡ 0 → Viewed at before (x ∷ xs)
    unfolding depth_after leaf_kinds token_after
    dense-value z e =
        let a = one 7 8 langle after dense xs (λ r. refl) (omega arith) (record { level = refl; name = refl }) e f.2 in
        let n = a.size in
        let t = (token_at text after).end in
        let m = first-literal (length text) t langle a.others (omega arith) a.runs a.follow in
        let c : close_from (length text) text (token_at text t).start ≡ close_from (length text) text t = close-again (length text) t (omega arith) in
        record {
          value = dense_text ((token_at text t).start ∷ m.more) (dense_type_at text (token_at text t).start);
          form = forms.dense (kind-is dense DENSE z refl);
          lists = with-role before dense mid x xs z (record { level = refl; name = refl }) f.0
              ∙ (a.lists ∙ (m.lists ∙ ap (λ (c : ℕ). dense_text ((token_at text t).start ∷ m.more) (token_after 1 text c).start) (sym c)));
        }

    viewed : run 2 (roles_of (x ∷ xs)) ≡ 0 → Viewed at before (x ∷ xs)
    viewed e = by-role (eqb x.role SingleNumber) (eqb x.role Value) (eqb x.role array) (eqb x.role dense) (eqb x.role dialect) refl refl refl refl refl
      where
        by-role : (b c d g h : Bool) → eqb x.role SingleNumber ≡ b → eqb x.role Value ≡ c → eqb x.role array ≡ d → eqb x.role dense ≡ g → eqb x.role dialect ≡ h → Viewed at before (x ∷ xs)
        by-role true c d g h p q r w y = one_number (eqb-true x.role SingleNumber p) (next-run 2 0 x.role (roles_of xs) (rw p) e)
        by-role false true d g h p q r w y = let z = eqb-true x.role Value q in absurd (not-both f.1 (not-role x.role (rw z) _))
        by-role false false true g h p q r w y = number-list (eqb-true x.role array r) (next-run 2 3 x.role (roles_of xs) (rw (p, q, r)) e)
        by-role false false false true h p q r w y = dense-value (eqb-true x.role dense w) (next-run 2 7 x.role (roles_of xs) (rw (p, q, r, w)) e)
        by-role false false false false true p q r w y = choice-of-two (eqb-true x.role dialect y) (next-run 2 12 x.role (roles_of xs) (rw (p, q, r, w, y)) e)
        by-role false false false false false p q r w y = absurd (stuck (roles_of xs) (next-run 2 16 x.role (roles_of xs) (rw (p, q, r, w, y)) e))

  after-equals : (at before : ℕ) (xs : List Reading) → length xs ≤ length text → run 2 (roles_of xs) ≡ 0 → Follow (token_at text at).end xs → Viewed at before xs
  after-equals at before [] l e f = absurd (omega arith)
  after-equals at before (x ∷ xs) l e f = viewed at before xs (omega arith) x f e

  -- the value of the attribute whose name ends at a byte
  pub after-name : (at before : ℕ) (xs : List Reading) → length xs ≤ length text → run 1 (roles_of xs) ≡ 0 → Follow at xs → Viewed at before xs
  unfolding depth_after
  after-name at before xs l e f =
      let a = one 1 2 equals at before xs (λ r. refl) (omega arith) (record { level = refl; name = refl }) e f in
      let n = a.size in
      let v = after-equals at equals a.others (omega arith) a.runs a.follow in
      record { value = v.value; form = v.form; lists = a.lists ∙ v.lists }
