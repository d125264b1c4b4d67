-- "Names are checked in each op as operands, body, result; the first fault answers": what is read of an op, token by token, answers that.
-- Assumes nothing.
use mathlib.Core.Path.{◌≡◌, refl, sym, ap, subst, ◌∙◌}
use mathlib.Core.List.{List, [], ◌∷◌, ◌++◌, map, append-nil}
use mathlib.Core.Bool.{Bool, true, false, not, ◌||◌}
use Prim.Native.Nat.{ℕ}
use native.Mathlib.Omega.{arith}
use lib.Dec.{T, ltb, eqb}
use borrow.Author.Tests.{eqb-true}
use Rattle.lists.specs.Lists.{pick}
use Rattle.text.specs.declared.Token.{Token}
use Rattle.grammar.specs.Symbols.{ResultName, OpName, FuncReturn, OperandName, OperandType, ResultType, BodyOpen, AttributeName, SingleNumber, ListNumber, ChoiceKind, Choice, ElementLiteral, DenseOpen, DenseClose, DenseType, lparen, rparen, lbrace, rbrace, langle, rangle, comma, colon, equals, arrow, dialect, array, dense, i64, MoreResults, OpRest, Operands, MoreOperands, Middle, BodiesAfter, AttributesAfter, Body, MoreBodies, OperandTypes, MoreOperandTypes, ResultTypes, ResultTypeList, MoreResultTypes, Attributes, MoreAttributes, Value, Numbers, MoreNumbers, Dense, DenseItems, MoreItems, Op, among_symbols as member}
use Rattle.grammar.specs.Grammar.{Production, grammar}
use Rattle.grammar.specs.Derivation.{◌∈◌, here, there}
use Rattle.grammar.specs.Leaves.{Yields}
use Rattle.grammar.proofs.CellView.{rule-passes}
use Rattle.grammar.proofs.TableTest.{both_left, both_right, or}
use Rattle.grammar.proofs.Within.{all_pass, member-passes}
use Rattle.syntax.specs.Readings.{Reading, reading, readings_of}
use Rattle.syntax.specs.Roles.{roles_of}
use Rattle.syntax.specs.OpsAlone.{Naming, unnamed, results, OpParts, OpAlone}
use Rattle.program.specs.Parts.{depth_after}
use Rattle.program.specs.Program.{names_op}
use Rattle.scope.specs.Scope.{begins, ends}
use Rattle.part_laws.proofs.DepthLaw.{outside, keeps, yields-outside}
use Rattle.part_laws.proofs.YieldLaw.{by-alternative, yields-split}
use Rattle.part_laws.proofs.ItemLaw.{leaves-yield, Chain, none, more, chain}
use Rattle.names.specs.Names.{Entry, defined, pending, Checked, entries, refused, then_checked, checked_fault, defines_name, is_visible, use_name, define_name, settled, on_token, token_checked, names_read, op_names_read, op_names_fault, names_defined}
use Rattle.names.specs.InOrder.{own_places, body_readings, names_used, first_fault, operands_body_result}
use Rattle.names.proofs.LikeLaw.{acting, quiet-token, below, LikeChecked, passed, fault, read_alike}
use Rattle.names.proofs.OwnLaw.{not_T, own-append, body-append, own-none, depth-none, body-none}

-- ---- one check after the other

then-entries : (c : Checked) → c ≡ then_checked c (λ rest. entries rest)
then-entries (entries es) = refl
then-entries (refused n a) = refl

then-assoc : (c : Checked) (f g : List Entry → Checked) → then_checked (then_checked c f) g ≡ then_checked c (λ rest. then_checked (f rest) g)
then-assoc (entries es) f g = refl
then-assoc (refused n a) f g = refl

then-cong : (c : Checked) (f g : List Entry → Checked) → ((es : List Entry) → f es ≡ g es) → then_checked c f ≡ then_checked c g
then-cong (entries es) f g h = h es
then-cong (refused n a) f g h = refl

-- ---- results

-- the results of an op that is being read, above the entries before it
abbrev pendings : List ℕ → List Entry → List Entry
pendings [] es = es
pendings (a ∷ places) es = pendings places (pending a ∷ es)

module _ (text : List ℕ) where
  -- they are defined in order where it ends
  settled-results : (places : List ℕ) (es : List Entry) → settled text (pendings places es) ≡ then_checked (settled text es) (λ rest. names_defined text rest places)
  unfolding settled names_defined
  settled-results [] es = then-entries (settled text es)
  settled-results (a ∷ places) es =
      settled-results places (pending a ∷ es) ∙ then-assoc (settled text es) (define_name text a) (λ rest. names_defined text rest places)

  settled-known : (known : List ℕ) → settled text (map defined known) ≡ entries (map defined known)
  unfolding settled
  settled-known [] = refl
  settled-known (a ∷ known) = refl

  -- and are not visible until then
  results-hidden : (a : ℕ) (places : List ℕ) (es : List Entry) → is_visible text a (pendings places es) ≡ is_visible text a es
  unfolding is_visible defines_name
  results-hidden a [] es = refl
  results-hidden a (b ∷ places) es = results-hidden a places (pending b ∷ es)

-- ---- operands

module _ (text : List ℕ) where
  -- looking names up changes no entries, and asks only what is visible
  used-same : (places : List ℕ) (es fs : List Entry) (f : List Entry → Checked) → ((a : ℕ) → is_visible text a es ≡ is_visible text a fs) →
      then_checked (names_used text es places) f ≡ first_fault (names_used text fs places) (f es)
  unfolding names_used use_name
  used-same [] es fs f v = refl
  used-same (a ∷ places) es fs f v = rw (v a) (go (is_visible text a fs) (used-same places es fs f v))
    where
      go : (b : Bool) → then_checked (names_used text es places) f ≡ first_fault (names_used text fs places) (f es) →
          then_checked (then_checked (pick b (entries es) (refused 5 a)) (λ rest. names_used text rest places)) f ≡
          first_fault (then_checked (pick b (entries fs) (refused 5 a)) (λ rest. names_used text rest places)) (f es)
      go true e = e
      go false e = refl

-- ---- tokens

module _ (text : List ℕ) where
  -- a token of a role that leaves the entries fs
  read-token : (x : Reading) (xs : List Reading) (before role : ℕ) (es fs : List Entry) → x.role ≡ role → token_checked text before role x.token.start es ≡ entries fs →
      names_read text before es (x ∷ xs) ≡ names_read text role fs xs
  unfolding names_read
  read-token x xs before role es fs r e = rw r (ap (λ (c : Checked). then_checked c (λ rest. names_read text role rest xs)) e)

  first-result : (a : ℕ) (known : List ℕ) → token_checked text 0 ResultName a (map defined known) ≡ entries (pending a ∷ map defined known)
  unfolding token_checked on_token ends begins
  first-result a known = ap (λ (c : Checked). then_checked c (on_token text ResultName a)) (settled-known text known)

  later-result : (a : ℕ) (es : List Entry) → token_checked text comma ResultName a es ≡ entries (pending a ∷ es)
  unfolding token_checked on_token ends begins
  later-result a es = refl

  operand-token : (before a : ℕ) (es : List Entry) → token_checked text before OperandName a es ≡ use_name text a es
  unfolding token_checked on_token ends begins
  operand-token before a es = refl

  by-op : (role : ℕ) (P : ℕ → Type 0) → names_op role ≡ true → P OpName → P FuncReturn → P role
  unfolding names_op
  by-op role P e x y = go (eqb role OpName) refl (eqb role FuncReturn) refl e
    where
      go : (b : Bool) → eqb role OpName ≡ b → (c : Bool) → eqb role FuncReturn ≡ c → b || (c || false) ≡ true → P role
      go true p c q f = subst P (sym (eqb-true role OpName p)) x
      go false p true q f = subst P (sym (eqb-true role FuncReturn q)) y
      go false p false q f = let z : ◌≡◌ {A = ℕ} 0 1 = cc in absurd (omega arith)

  first-name : (role a : ℕ) (known : List ℕ) → names_op role ≡ true → token_checked text 0 role a (map defined known) ≡ entries (map defined known)
  unfolding token_checked on_token ends begins
  first-name role a known e =
      by-op role (λ (r : ℕ). token_checked text 0 r a (map defined known) ≡ entries (map defined known)) e
      (ap (λ (c : Checked). then_checked c (on_token text OpName a)) (settled-known text known)) (ap (λ (c : Checked). then_checked c (on_token text FuncReturn a)) (settled-known text known))

  later-name : (role a : ℕ) (es : List Entry) → names_op role ≡ true → token_checked text equals role a es ≡ entries es
  unfolding token_checked on_token ends begins
  later-name role a es e = by-op role (λ (r : ℕ). token_checked text equals r a es ≡ entries es) e refl refl

  -- further results, each after a comma, and the equals sign
  results-read : {n : ℕ} {ls : List ℕ} (xs others : List Reading) (es : List Entry) → Chain (ResultName ∷ []) n ls → roles_of xs ≡ ls ++ (equals ∷ []) →
      names_read text ResultName es (xs ++ others) ≡ names_read text equals (pendings (own_places ResultName 0 xs) es) others
  unfolding own_places depth_after
  results-read [] others es none e = let z : ◌≡◌ {A = ℕ} 0 1 = cc in absurd (omega arith)
  results-read (x ∷ []) others es none e =
      let r : x.role ≡ equals = cc in
      read-token x others ResultName equals es es r (quiet-token equals tt text ResultName x.token.start es refl) ∙ rw r
  results-read (x ∷ y ∷ xs) others es none e = let z : ◌≡◌ {A = ℕ} 0 1 = cc in absurd (omega arith)
  results-read [] others es (more c) e = let z : ◌≡◌ {A = ℕ} 0 1 = cc in absurd (omega arith)
  results-read (x ∷ []) others es (more {ls} c) e =
      let q : ◌≡◌ {A = List ℕ} [] (ResultName ∷ (ls ++ (equals ∷ []))) = cc in
      let z : ◌≡◌ {A = ℕ} 0 1 = cc in absurd (omega arith)
  results-read (x ∷ y ∷ xs) others es (more {ls} c) e =
      let r : x.role ≡ comma = cc in
      let s : y.role ≡ ResultName = cc in
      let t : roles_of xs ≡ ls ++ (equals ∷ []) = cc in
      read-token x (y ∷ (xs ++ others)) ResultName comma es es r (quiet-token comma tt text ResultName x.token.start es refl) ∙
      (read-token y (xs ++ others) comma ResultName es (pending y.token.start ∷ es) s (later-result y.token.start es) ∙
      (results-read xs others (pending y.token.start ∷ es) c t ∙ rw (r, s)))

  -- the names of an op's results, and its quoted name
  named-read : {ls : List ℕ} (known : List ℕ) (names : List Reading) (x : Reading) (others : List Reading) → Naming ls → roles_of names ≡ ls → names_op x.role ≡ true →
      names_read text 0 (map defined known) (names ++ (x ∷ others)) ≡ names_read text x.role (pendings (own_places ResultName 0 names) (map defined known)) others
  unfolding own_places depth_after grammar
  named-read known [] x others unnamed e o = read-token x others 0 x.role (map defined known) (map defined known) refl (first-name x.role x.token.start known o)
  named-read known (y ∷ ys) x others unnamed e o = let z : ◌≡◌ {A = ℕ} 0 1 = cc in absurd (omega arith)
  named-read {ls} known [] x others (results d) e o =
      let t = yields-split (ResultName ∷ []) d in
      let f : t.first ≡ ResultName ∷ [] = leaves-yield (ResultName ∷ []) tt t.ahead in
      let w : ls ≡ ResultName ∷ t.second = t.whole ∙ ap (λ (l : List ℕ). l ++ t.second) f in
      let z : ◌≡◌ {A = ℕ} 0 1 = cc in absurd (omega arith)
  named-read {ls} known (y ∷ ys) x others (results d) e o =
      let t = yields-split (ResultName ∷ []) d in
      let f : t.first ≡ ResultName ∷ [] = leaves-yield (ResultName ∷ []) tt t.ahead in
      let u = yields-split (MoreResults ∷ []) t.behind in
      let g : u.second ≡ equals ∷ [] = leaves-yield (equals ∷ []) tt u.behind in
      let c = chain (ResultName ∷ []) MoreResults (omega arith) tt refl u.ahead in
      let w : ls ≡ ResultName ∷ (u.first ++ (equals ∷ [])) =
      t.whole ∙ (ap (λ (l : List ℕ). l ++ t.second) f ∙ ap (λ (l : List ℕ). ResultName ∷ l) (u.whole ∙ ap (λ (l : List ℕ). u.first ++ l) g)) in
      let r : y.role ≡ ResultName = cc in
      let s : roles_of ys ≡ u.first ++ (equals ∷ []) = cc in
      let a = y.token.start in
      read-token y (ys ++ (x ∷ others)) 0 ResultName (map defined known) (pending a ∷ map defined known) r (first-result a known) ∙
      (results-read ys (x ∷ others) (pending a ∷ map defined known) c.items s ∙
      (read-token x others equals x.role (pendings (own_places ResultName 0 ys) (pending a ∷ map defined known)) (pendings (own_places ResultName 0 ys) (pending a ∷ map defined known)) refl
      (later-name x.role x.token.start (pendings (own_places ResultName 0 ys) (pending a ∷ map defined known)) o) ∙ rw r))

-- ---- the rest of an op: its operands, and what stands after them

-- the roles and symbols of result names, of operands, and of what stands after the operands outside bodies
abbrev name_symbols : List ℕ
name_symbols = ResultName ∷ MoreResults ∷ comma ∷ equals ∷ []

abbrev operand_symbols : List ℕ
operand_symbols = lparen ∷ Operands ∷ MoreOperands ∷ OperandName ∷ comma ∷ rparen ∷ []

abbrev later_symbols : List ℕ
later_symbols =
    Middle ∷ BodiesAfter ∷ AttributesAfter ∷ Body ∷ MoreBodies ∷ OperandTypes ∷ MoreOperandTypes ∷ ResultTypes ∷ ResultTypeList ∷ MoreResultTypes ∷ Attributes ∷ MoreAttributes ∷ Value ∷
    Numbers ∷ MoreNumbers ∷ Dense ∷ DenseItems ∷ MoreItems ∷ OperandType ∷ ResultType ∷ BodyOpen ∷ AttributeName ∷ SingleNumber ∷ ListNumber ∷ ChoiceKind ∷ Choice ∷ ElementLiteral ∷
    DenseOpen ∷ DenseClose ∷ DenseType ∷ lparen ∷ rparen ∷ lbrace ∷ rbrace ∷ langle ∷ rangle ∷ comma ∷ colon ∷ equals ∷ arrow ∷ dialect ∷ array ∷ dense ∷ i64 ∷ []

keeps-names : (p : Production) → p ∈ grammar → T (keeps name_symbols p)
unfolding grammar depth_after
keeps-names p m = rule-passes (keeps name_symbols) m tt

keeps-operands : (p : Production) → p ∈ grammar → T (keeps operand_symbols p)
unfolding grammar depth_after
keeps-operands p m = rule-passes (keeps operand_symbols) m tt

keeps-later : (p : Production) → p ∈ grammar → T (keeps later_symbols p)
unfolding grammar depth_after
keeps-later p m = rule-passes (keeps later_symbols) m tt

names-outside : {ls : List ℕ} → Naming ls → T (outside name_symbols 0 ls)
unfolding depth_after
names-outside unnamed = tt
names-outside (results d) = yields-outside name_symbols keeps-names d 0 tt

-- readings whose roles are those of two lists, one after the other
record Parted (ls ms : List ℕ) (xs : List Reading) : Type 0 where
  first : List Reading
  second : List Reading
  whole : xs ≡ first ++ second
  ahead : roles_of first ≡ ls
  behind : roles_of second ≡ ms

parted : (ls ms : List ℕ) (xs : List Reading) → roles_of xs ≡ ls ++ ms → Parted ls ms xs
parted [] ms xs e = record { first = []; second = xs; whole = refl; ahead = refl; behind = e }
parted (l ∷ ls) ms [] e = let z : ◌≡◌ {A = ℕ} 0 1 = cc in absurd (omega arith)
parted (l ∷ ls) ms (x ∷ xs) e =
    let q : x.role ≡ l = cc in
    let r : roles_of xs ≡ ls ++ ms = cc in
    let p = parted ls ms xs r in
    record {
      first = x ∷ p.first;
      second = p.second;
      whole = ap (λ (zs : List Reading). x ∷ zs) p.whole;
      ahead = ap (λ (n : ℕ). n ∷ roles_of p.first) q ∙ ap (λ (zs : List ℕ). l ∷ zs) p.ahead;
      behind = p.behind;
    }

-- the operands in their parentheses, then all else
record RestParts (xs : List Reading) : Type 0 where
  front : List Reading
  back : List Reading
  whole : xs ≡ front ++ back
  operands : T (outside operand_symbols 0 (roles_of front))
  others : T (outside later_symbols 0 (roles_of back))

rest-parts : (xs : List Reading) → Yields (OpRest ∷ []) (roles_of xs) → RestParts xs
unfolding grammar depth_after
rest-parts xs d = let b = by-alternative (omega arith) d in go b.alternative made b.yields
  where
    made : Yields ((lparen ∷ Operands ∷ rparen ∷ []) ++ (Middle ∷ colon ∷ lparen ∷ OperandTypes ∷ rparen ∷ arrow ∷ ResultTypes ∷ [])) (roles_of xs) → RestParts xs
    made y =
        let t = yields-split (lparen ∷ Operands ∷ rparen ∷ []) y in
        let p = parted t.first t.second xs t.whole in
        record {
          front = p.first;
          back = p.second;
          whole = p.whole;
          operands = subst (λ (l : List ℕ). T (outside operand_symbols 0 l)) (sym p.ahead) (yields-outside operand_symbols keeps-operands t.ahead 0 tt);
          others = subst (λ (l : List ℕ). T (outside later_symbols 0 l)) (sym p.behind) (yields-outside later_symbols keeps-later t.behind 0 tt);
        }

    go : {p a : Production} → p ∈ (a ∷ []) → (Yields (a.right ++ []) (roles_of xs) → RestParts xs) → Yields (p.right ++ []) (roles_of xs) → RestParts xs
    go here f y = f y
    go (there m) f y = elim m [ ]

-- the role before what follows
abbrev last_role : ℕ → List Reading → ℕ
last_role before [] = before
last_role before (x ∷ xs) = last_role x.role xs

-- outside bodies the operands alone do something
operand_test : ℕ → Bool
operand_test r = or (eqb r OperandName) (not (member acting r))

-- the op's quoted name
abbrev op_symbols : List ℕ
op_symbols = OpName ∷ FuncReturn ∷ []

op-outside : (text : List ℕ) (role : ℕ) → names_op role ≡ true → T (outside op_symbols 0 (role ∷ []))
unfolding depth_after
op-outside text role o = by-op text role (λ (r : ℕ). T (outside op_symbols 0 (r ∷ []))) o tt tt

-- tokens of a role, and of bodies, in the first or the second of two lists alone
own-second : (role : ℕ) (set : List ℕ) → T (all_pass (λ r. not (eqb r role)) set) → (xs ys : List Reading) → T (outside set 0 (roles_of xs)) → own_places role 0 (xs ++ ys) ≡ own_places role 0 ys
own-second role set f xs ys t = own-append role set 0 xs ys t ∙ ap (λ (l : List ℕ). l ++ own_places role 0 ys) (own-none role set f 0 xs t)

own_first : (role : ℕ) (set : List ℕ) (xs ys : List Reading) → T (outside set 0 (roles_of xs)) → own_places role 0 ys ≡ [] → own_places role 0 (xs ++ ys) ≡ own_places role 0 xs
own_first role set xs ys t e = own-append role set 0 xs ys t ∙ (ap (λ (l : List ℕ). own_places role 0 xs ++ l) e ∙ append-nil (own_places role 0 xs))

body-second : (set : List ℕ) → T (all_pass (λ r. not (eqb r BodyOpen)) set) → (xs ys : List Reading) → T (outside set 0 (roles_of xs)) → body_readings 0 (xs ++ ys) ≡ body_readings 0 ys
body-second set f xs ys t = body-append set 0 xs ys t ∙ ap (λ (l : List Reading). l ++ body_readings 0 ys) (body-none set f xs t)

module _ (text : List ℕ) where
  front_read : (xs : List Reading) (before : ℕ) (es : List Entry) (others : List Reading) → T (outside operand_symbols 0 (roles_of xs)) →
      names_read text before es (xs ++ others) ≡ then_checked (names_used text es (own_places OperandName 0 xs)) (λ rest. names_read text (last_role before xs) rest others)
  unfolding own_places names_used names_read operand_test
  front_read [] before es others t = refl
  front_read (x ∷ xs) before es others t =
      let a = or (ltb 0 0) (member operand_symbols x.role) in
      let b = outside operand_symbols (depth_after 0 x.role) (roles_of xs) in
      let m = both_left a b t in
      let o = not_T (eqb x.role BodyOpen) (member-passes (λ r. not (eqb r BodyOpen)) operand_symbols x.role tt m) in
      let d = depth-none x.role o in
      let u = member-passes operand_test operand_symbols x.role tt m in
      let s = rw d at (both_right a b t) in
      rw d (go (eqb x.role OperandName) refl o u (λ es. front_read xs x.role es others s))
    where
      rest : List Entry → Checked
      rest es = names_read text x.role es (xs ++ others)

      after : List Entry → Checked
      after es = then_checked (names_used text es (own_places OperandName 0 xs)) (λ rest. names_read text (last_role x.role xs) rest others)

      go : (b : Bool) → eqb x.role OperandName ≡ b → eqb x.role BodyOpen ≡ false → T (or b (not (member acting x.role))) → ((es : List Entry) → rest es ≡ after es) →
          then_checked (token_checked text before x.role x.token.start es) rest ≡
          then_checked (names_used text es (pick b (x.token.start ∷ []) [] ++ own_places OperandName 0 xs)) (λ rest. names_read text (last_role x.role xs) rest others)
      go true q o u ih =
          let v = ap (λ (r : ℕ). token_checked text before r x.token.start es) (eqb-true x.role OperandName q) ∙ operand-token text before x.token.start es in
          ap (λ (c : Checked). then_checked c rest) v ∙ then-cong (use_name text x.token.start es) rest after ih ∙
          sym (then-assoc (use_name text x.token.start es) (λ es. names_used text es (own_places OperandName 0 xs)) (λ rest. names_read text (last_role x.role xs) rest others))
      go false q o u ih = ap (λ (c : Checked). then_checked c rest) (quiet-token x.role u text before x.token.start es o) ∙ ih es

  -- what stands after the operands: the tokens of bodies alone, then the results
  back_read : (places known : List ℕ) (c e : Checked) → LikeChecked (pendings places (map defined known)) (map defined known) 0 c e →
      then_checked c (settled text) ≡ first_fault e (names_defined text (map defined known) places)
  back_read places known c e (passed below) =
      settled-results text places (map defined known) ∙ ap (λ (s : Checked). then_checked s (λ rest. names_defined text rest places)) (settled-known text known)
  back_read places known c e (fault n a) = refl

  -- an op by its result names, its quoted name, its operands and what stands after them
  module _ (role : ℕ) (o : names_op role ≡ true) (names : List Reading) (name : Token) (front back : List Reading) (naming : Naming (roles_of names))
      (operands : T (outside operand_symbols 0 (roles_of front))) (others : T (outside later_symbols 0 (roles_of back))) where
    abbrev whole : List Reading
    whole = names ++ (reading true role name ∷ (front ++ back))

    whole-results : own_places ResultName 0 whole ≡ own_places ResultName 0 names
    whole-results =
        own_first ResultName name_symbols names (reading true role name ∷ (front ++ back)) (names-outside naming)
        (own-second ResultName op_symbols tt (reading true role name ∷ []) (front ++ back) (op-outside text role o) ∙
        (own-second ResultName operand_symbols tt front back operands ∙ own-none ResultName later_symbols tt 0 back others))

    whole-operands : own_places OperandName 0 whole ≡ own_places OperandName 0 front
    whole-operands =
        own-second OperandName name_symbols tt names (reading true role name ∷ (front ++ back)) (names-outside naming) ∙
        (own-second OperandName op_symbols tt (reading true role name ∷ []) (front ++ back) (op-outside text role o) ∙
        own_first OperandName operand_symbols front back operands (own-none OperandName later_symbols tt 0 back others))

    whole-bodies : body_readings 0 whole ≡ body_readings 0 back
    whole-bodies =
        body-second name_symbols tt names (reading true role name ∷ (front ++ back)) (names-outside naming) ∙
        (body-second op_symbols tt (reading true role name ∷ []) (front ++ back) (op-outside text role o) ∙ body-second operand_symbols tt front back operands)

    whole-read : (known : List ℕ) → then_checked (names_read text 0 (map defined known) whole) (settled text) ≡
        first_fault (names_used text (map defined known) (own_places OperandName 0 front))
        (first_fault (names_read text 0 (map defined known) (body_readings 0 back)) (names_defined text (map defined known) (own_places ResultName 0 names)))
    whole-read known =
        let base = map defined known in
        let places = own_places ResultName 0 names in
        let used = own_places OperandName 0 front in
        let hidden : (a : ℕ) → is_visible text a (pendings places (map defined known)) ≡ is_visible text a (map defined known) = λ a. results-hidden text a places (map defined known) in
        ap (λ (c : Checked). then_checked c (settled text))
        (named-read text known names (reading true role name) (front ++ back) naming refl o ∙ front_read front role (pendings places base) back operands) ∙
        (then-assoc (names_used text (pendings places base) used) (λ rest. names_read text (last_role role front) rest back) (settled text) ∙
        (used-same text used (pendings places base) base (λ rest. then_checked (names_read text (last_role role front) rest back) (settled text)) hidden ∙
        ap (λ (c : Checked). first_fault (names_used text base used) c)
        (back_read places known (names_read text (last_role role front) (pendings places base) back) (names_read text 0 base (body_readings 0 back))
        (read_alike text (pendings places base) base hidden later_symbols tt back 0 (last_role role front) 0 (pendings places base) base (λ h. absurd (omega arith)) others below))))

    whole-in-order : (known : List ℕ) → then_checked (names_read text 0 (map defined known) whole) (settled text) ≡ operands_body_result text whole known
    unfolding operands_body_result
    whole-in-order known = whole-read known ∙ sym (rw (whole-results, whole-operands, whole-bodies))

  parts-in-order : (role : ℕ) (known : List ℕ) (xs : List Reading) → names_op role ≡ true → OpParts role xs →
      then_checked (names_read text 0 (map defined known) xs) (settled text) ≡ operands_body_result text xs known
  parts-in-order role known xs o p =
      let r = rest-parts p.rest p.leaves in
      let e : xs ≡ p.names ++ (reading true role p.name ∷ (r.front ++ r.back)) =
      p.whole ∙ ap (λ (l : List Reading). p.names ++ (reading true role p.name ∷ l)) r.whole in
      subst (λ (l : List Reading). then_checked (names_read text 0 (map defined known) l) (settled text) ≡ operands_body_result text l known) (sym e)
      (whole-in-order role o p.names p.name r.front r.back p.naming r.operands r.others known)

-- an op of a text, read alone from its first byte, known being the names of the values defined before it, the last one first
pub op-read-in-order : (text : List ℕ) (role at : ℕ) (known : List ℕ) → names_op role ≡ true → OpAlone text role at →
    op_names_read text at known ≡ operands_body_result text (readings_of Op text at) known
unfolding op_names_read
op-read-in-order text role at known o p = parts-in-order text role known (readings_of Op text at) o p.parts

-- so its refusal: 5 at the first operand that is not visible; then that of its bodies; then 6 at the first result that is defined
pub op-names-in-order : (text : List ℕ) (role at : ℕ) (known : List ℕ) → names_op role ≡ true → OpAlone text role at →
    op_names_fault text at known ≡ checked_fault (operands_body_result text (readings_of Op text at) known)
unfolding op_names_fault
op-names-in-order text role at known o p = ap checked_fault (op-read-in-order text role at known o p)
