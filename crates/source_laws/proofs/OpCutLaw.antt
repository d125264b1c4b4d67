-- The readings of an op are one piece: it begins with the first of them, none begins among the others, and the next op begins after the last.
-- Assumes nothing.
use mathlib.Core.Path.{◌≡◌, refl, sym, ap, subst, ◌∙◌}
use mathlib.Core.List.{List, [], ◌∷◌, ◌++◌}
use mathlib.Core.Bool.{Bool, true, false, not, ◌&&◌, ◌||◌}
use Prim.Native.Nat.{ℕ, zero, suc}
use native.Mathlib.Omega.{arith}
use lib.Dec.{T, eqb, eqb→eq, ltb, leb, leb→le}
use borrow.Author.Tests.{ne_eqb}
use Rattle.lists.specs.Lists.{pick}
use Rattle.grammar.specs.Symbols.{ResultName, OpName, FuncReturn, BodyOpName, BodyReturn, OperandName, OperandType, ResultType, BodyOpen, AttributeName, SingleNumber, ListNumber, ChoiceKind, Choice, ElementLiteral, DenseOpen, DenseClose, DenseType, lparen, rparen, lbrace, rbrace, langle, rangle, comma, colon, equals, arrow, dialect, array, dense, i64, MoreResults, OpRest, Operands, MoreOperands, Middle, BodiesAfter, AttributesAfter, Body, MoreBodies, OperandTypes, MoreOperandTypes, ResultTypes, ResultTypeList, MoreResultTypes, Attributes, MoreAttributes, Value, Numbers, MoreNumbers, Dense, DenseItems, MoreItems, leaf_count, among_symbols}
use Rattle.grammar.specs.Grammar.{Production, grammar}
use Rattle.grammar.specs.Derivation.{◌∈◌}
use Rattle.grammar.specs.Leaves.{Yields, nothing, itself, right}
use Rattle.grammar.proofs.TableTest.{both, both_left, both_right, both-make, implies, implied, or, or_cases}
use Rattle.grammar.proofs.CellView.{rule-passes}
use Rattle.grammar.proofs.Leaves.{leading}
use Rattle.grammar.proofs.Within.{all_in, member-passes}
use Rattle.syntax.specs.Readings.{Reading, reading}
use Rattle.syntax.specs.Roles.{roles_of}
use Rattle.syntax.specs.OpsAlone.{Naming, unnamed, results, OpParts}
use Rattle.program.specs.Parts.{depth_after}
use Rattle.scope.specs.Scope.{begins}
use Rattle.reading_laws.proofs.DepthLaw.{depth_through, depth-append}
use Rattle.part_laws.proofs.DepthLaw.{outside, keeps, yields-outside}
use Rattle.source_laws.proofs.CutLaw.{last_role, last-append, quiet, quiet-append}

-- ---- the last leaf of what symbols yield

abbrev ends_in : List ℕ → List ℕ → Bool
ends_in set [] = false
ends_in set (x ∷ xs) = among_symbols set (last_role x xs)

-- a symbol of the set ends in a symbol of the set
abbrev pub closed_at_end : List ℕ → Production → Bool
closed_at_end set p = implies (among_symbols set p.left) (ends_in set p.right)

ends-any : (set l : List ℕ) (b : ℕ) → T (ends_in set l) → T (among_symbols set (last_role b l))
ends-any set [] b t = absurd t
ends-any set (x ∷ l) b t = t

module _ (set : List ℕ) (f : (p : Production) → p ∈ grammar → T (closed_at_end set p)) where
  last-rule : (p : Production) → p ∈ grammar → (b : ℕ) (ss : List ℕ) → T (among_symbols set (last_role p.left ss)) → T (among_symbols set (last_role b (p.right ++ ss)))
  last-rule p m b [] t =
      subst (λ (n : ℕ). T (among_symbols set n)) (sym (last-append b p.right [])) (ends-any set p.right b (implied (among_symbols set p.left) (ends_in set p.right) (f p m) t))
  last-rule p m b (s ∷ ss) t = subst (λ (n : ℕ). T (among_symbols set n)) (sym (last-append b p.right (s ∷ ss))) t

  pub last-yields : {ss ls : List ℕ} → Yields ss ls → (b : ℕ) → T (among_symbols set (last_role b ss)) → T (among_symbols set (last_role b ls))
  last-yields nothing b t = t
  last-yields (itself {leaf} h y) b t = last-yields y leaf t
  last-yields (right {p} {ss} m y) b t = last-yields y b (last-rule p m b ss t)

-- ---- after its name, no op begins

-- the symbols of an op after its name, outside bodies
abbrev pub rest_set : List ℕ
rest_set =
    OpRest ∷ Operands ∷ MoreOperands ∷ Middle ∷ BodiesAfter ∷ AttributesAfter ∷ Body ∷ MoreBodies ∷ OperandTypes ∷ MoreOperandTypes ∷ ResultTypes ∷ ResultTypeList ∷ MoreResultTypes ∷
    Attributes ∷ MoreAttributes ∷ Value ∷ Numbers ∷ MoreNumbers ∷ Dense ∷ DenseItems ∷ MoreItems ∷
    OperandName ∷ OperandType ∷ ResultType ∷ BodyOpen ∷ AttributeName ∷ SingleNumber ∷ ListNumber ∷ ChoiceKind ∷ Choice ∷ ElementLiteral ∷ DenseOpen ∷ DenseClose ∷ DenseType ∷
    lparen ∷ rparen ∷ lbrace ∷ rbrace ∷ langle ∷ rangle ∷ comma ∷ colon ∷ equals ∷ arrow ∷ dialect ∷ array ∷ dense ∷ i64 ∷ []

keeps-rest : (p : Production) → p ∈ grammar → T (keeps rest_set p)
unfolding grammar depth_after
keeps-rest p m = rule-passes (keeps rest_set) m tt

-- a role at which no op begins, whatever stands before it
abbrev pub within : ℕ → Bool
within r = not (among_symbols (ResultName ∷ OpName ∷ FuncReturn ∷ BodyOpName ∷ BodyReturn ∷ []) r)

not-begun : (b r : ℕ) → T (within r) → begins b r ≡ false
unfolding begins
not-begun b r t =
    go (eqb r ResultName) (eqb r OpName) (eqb r FuncReturn) (eqb r BodyOpName) (eqb r BodyReturn) t
  where
    go : (a c d e f : Bool) → T (not (pick a true (pick c true (pick d true (pick e true (pick f true false)))))) →
        pick a (not (eqb b comma)) (pick (c || (d || (e || (f || false)))) (not (eqb b equals)) false) ≡ false
    go true c d e f t = absurd t
    go false true d e f t = absurd t
    go false false true e f t = absurd t
    go false false false true f t = absurd t
    go false false false false true t = absurd t
    go false false false false false t = refl

rest-within : (r : ℕ) → T (among_symbols rest_set r) → T (within r)
rest-within r t = member-passes within rest_set r tt t

none-begun : (b d r : ℕ) → T (or (ltb 0 d) (within r)) → T (not (eqb d 0 && begins b r))
none-begun b zero r t = rw (not-begun b r t) tt
none-begun b (suc d) r t = rw (ne_eqb (suc d) 0 (λ e. omega arith)) tt

pub outside-quiet : (set : List ℕ) → ((r : ℕ) → T (among_symbols set r) → T (within r)) → (b d : ℕ) (ls : List ℕ) → T (outside set d ls) → T (quiet begins 0 b d ls)
outside-quiet set f b d [] t = tt
outside-quiet set f b d (r ∷ rs) t =
    let a = or (ltb 0 d) (among_symbols set r) in
    let c = outside set (depth_after d r) rs in
    both-make (not (eqb d 0 && begins b r)) (quiet begins 0 r (depth_after d r) rs) (none-begun b d r (weaker (ltb 0 d) (both_left a c t))) (outside-quiet set f r (depth_after d r) rs (both_right a c t))
  where
    weaker : (e : Bool) → T (or e (among_symbols set r)) → T (or e (within r))
    weaker true u = tt
    weaker false u = f r u

pub outside-closed : (set : List ℕ) (d : ℕ) (ls : List ℕ) → T (outside set d ls) → depth_through d ls ≡ 0
outside-closed set d [] t = eqb→eq d 0 t
outside-closed set d (r ∷ rs) t = outside-closed set (depth_after d r) rs (both_right (or (ltb 0 d) (among_symbols set r)) (outside set (depth_after d r) rs) t)

-- ---- result names

abbrev name_set : List ℕ
name_set = ResultName ∷ comma ∷ equals ∷ MoreResults ∷ []

-- each result name after a comma
abbrev spaced : ℕ → List ℕ → Bool
spaced b [] = true
spaced b (r ∷ rs) = both (implies (eqb r ResultName) (eqb b comma)) (spaced r rs)

abbrev name_rule : Production → Bool
name_rule p = both (leb leaf_count p.left) (implies (among_symbols name_set p.left) (both (all_in name_set p.right) (spaced 0 p.right)))

name-rule : {p : Production} → p ∈ grammar → T (name_rule p)
unfolding grammar
name-rule m = rule-passes name_rule m tt

implies-weaker : (a b c : Bool) → b ≡ false → T (implies a b) → T (implies a c)
implies-weaker true b c e t = absurd (subst T e t)
implies-weaker false b c e t = tt

spaced-weaker : (b c : ℕ) (ls : List ℕ) → (b ≡ comma → ⊥) → T (spaced b ls) → T (spaced c ls)
spaced-weaker b c [] n t = tt
spaced-weaker b c (r ∷ rs) n t =
    let x = implies (eqb r ResultName) (eqb b comma) in
    both-make (implies (eqb r ResultName) (eqb c comma)) (spaced r rs)
    (implies-weaker (eqb r ResultName) (eqb b comma) (eqb c comma) (ne_eqb b comma n) (both_left x (spaced r rs) t)) (both_right x (spaced r rs) t)

spaced-append : (b : ℕ) (xs ys : List ℕ) → T (spaced b xs) → T (spaced 0 ys) → T (spaced b (xs ++ ys))
spaced-append b [] ys t u = spaced-weaker 0 b ys (λ e. omega arith) u
spaced-append b (x ∷ xs) ys t u =
    let a = implies (eqb x ResultName) (eqb b comma) in
    both-make a (spaced x (xs ++ ys)) (both_left a (spaced x xs) t) (spaced-append x xs ys (both_right a (spaced x xs) t) u)

in-append : (set xs ys : List ℕ) → T (all_in set xs) → T (all_in set ys) → T (all_in set (xs ++ ys))
in-append set [] ys t u = u
in-append set (x ∷ xs) ys t u =
    both-make (among_symbols set x) (all_in set (xs ++ ys)) (both_left (among_symbols set x) (all_in set xs) t) (in-append set xs ys (both_right (among_symbols set x) (all_in set xs) t) u)

spaced-yields : {ss ls : List ℕ} → Yields ss ls → (b : ℕ) → T (all_in name_set ss) → T (spaced b ss) → T (all_in name_set ls) × T (spaced b ls)
spaced-yields nothing b t u = (tt, tt)
spaced-yields (itself {leaf} {ss} {ls} h y) b t u =
    let a = implies (eqb leaf ResultName) (eqb b comma) in
    let i = spaced-yields y leaf (both_right (among_symbols name_set leaf) (all_in name_set ss) t) (both_right a (spaced leaf ss) u) in
    (both-make (among_symbols name_set leaf) (all_in name_set ls) (both_left (among_symbols name_set leaf) (all_in name_set ss) t) i.0, both-make a (spaced leaf ls) (both_left a (spaced leaf ss) u) i.1)
spaced-yields (right {p} {ss} m y) b t u =
    let l = leb leaf_count p.left in
    let g = both (all_in name_set p.right) (spaced 0 p.right) in
    let k = implies (among_symbols name_set p.left) g in
    let high = leb→le leaf_count p.left (both_left l k (name-rule m)) in
    let z = implied (among_symbols name_set p.left) g (both_right l k (name-rule m)) (both_left (among_symbols name_set p.left) (all_in name_set ss) t) in
    let v = both_right (implies (eqb p.left ResultName) (eqb b comma)) (spaced p.left ss) u in
    spaced-yields y b
    (in-append name_set p.right ss (both_left (all_in name_set p.right) (spaced 0 p.right) z) (both_right (among_symbols name_set p.left) (all_in name_set ss) t))
    (spaced-append b p.right ss (spaced-weaker 0 b p.right (λ e. omega arith) (both_right (all_in name_set p.right) (spaced 0 p.right) z))
    (spaced-weaker p.left 0 ss (λ e. omega arith) v))

-- a result name begins no op after a comma; neither does a comma or an equals sign
abbrev name_test : ℕ → Bool
name_test r = both (eqb (depth_after 0 r) 0) (or (eqb r ResultName) (within r))

name-test : (r : ℕ) → T (among_symbols name_set r) → T (name_test r)
unfolding depth_after
name-test r t = member-passes name_test name_set r tt t

name-begins : (b r : ℕ) → T (or (eqb r ResultName) (within r)) → T (implies (eqb r ResultName) (eqb b comma)) → T (not (eqb 0 0 && begins b r))
unfolding begins
name-begins b r t u = go (eqb r ResultName) refl t u
  where
    go : (a : Bool) → eqb r ResultName ≡ a → T (or a (within r)) → T (implies a (eqb b comma)) → T (not (begins b r))
    go true e t u = let z : eqb b comma ≡ true = after (eqb b comma) u in rw (e, z) tt
      where
        after : (c : Bool) → T c → c ≡ true
        after true v = refl
        after false v = absurd v
    go false e t u = rw (not-begun b r t) tt

names-quiet : (b : ℕ) (ls : List ℕ) → T (all_in name_set ls) → T (spaced b ls) → T (quiet begins 0 b 0 ls) × (depth_through 0 ls ≡ 0)
names-quiet b [] t u = (tt, refl)
names-quiet b (r ∷ rs) t u =
    let n = name-test r (both_left (among_symbols name_set r) (all_in name_set rs) t) in
    let z : depth_after 0 r ≡ 0 = eqb→eq (depth_after 0 r) 0 (both_left (eqb (depth_after 0 r) 0) (or (eqb r ResultName) (within r)) n) in
    let a = implies (eqb r ResultName) (eqb b comma) in
    let i = names-quiet r rs (both_right (among_symbols name_set r) (all_in name_set rs) t) (both_right a (spaced r rs) u) in
    let k = name-begins b r (both_right (eqb (depth_after 0 r) 0) (or (eqb r ResultName) (within r)) n) (both_left a (spaced r rs) u) in (
      both-make (not (eqb 0 0 && begins b r)) (quiet begins 0 r (depth_after 0 r) rs) k (subst (λ (d : ℕ). T (quiet begins 0 r d rs)) (sym z) i.0),
      ap (λ (d : ℕ). depth_through d rs) z ∙ i.1,
    )

-- ---- an op

-- a role after which an op can begin
abbrev pub free : ℕ → Bool
free b = both (not (eqb b comma)) (not (eqb b equals))

-- the roles of an op
pub record OnePiece (ls : List ℕ) : Type 0 where
  pub head : ℕ
  pub others : List ℕ
  pub whole : ls ≡ head ∷ others
  pub opens : (b : ℕ) → T (free b) → begins b head ≡ true
  pub goes : T (quiet begins 0 head (depth_after 0 head) others)
  pub closes : depth_through (depth_after 0 head) others ≡ 0
  pub ends : T (free (last_role head others))

abbrev last_set : List ℕ
last_set = OpRest ∷ ResultTypes ∷ ResultType ∷ rparen ∷ []

last-closed : (p : Production) → p ∈ grammar → T (closed_at_end last_set p)
unfolding grammar
last-closed p m = rule-passes (closed_at_end last_set) m tt

rest-ends : (b : ℕ) {ls : List ℕ} → Yields (OpRest ∷ []) ls → T (free (last_role b ls))
rest-ends b {ls} y = member-passes free last_set (last_role b ls) tt (last-yields last_set last-closed y b tt)

rest-outside : {ls : List ℕ} → Yields (OpRest ∷ []) ls → T (outside rest_set 0 ls)
unfolding depth_after
rest-outside y = yields-outside rest_set keeps-rest y 0 tt

-- the quoted name of an op or of the return
pub record OpRole (role : ℕ) : Type 0 where
  pub opens : (b : ℕ) → T (free b) → begins b role ≡ true
  pub named : begins equals role ≡ false
  pub flat : depth_after 0 role ≡ 0

pub not_T : (b : Bool) → T (not b) → b ≡ false
not_T true t = absurd t
not_T false t = refl

pub op-role : OpRole OpName
unfolding begins depth_after
op-role =
    record {
      opens = λ b t. (let e = not_T (eqb b equals) (both_right (not (eqb b comma)) (not (eqb b equals)) t) in rw e);
      named = refl;
      flat = refl;
    }

pub return-role : OpRole FuncReturn
unfolding begins depth_after
return-role =
    record {
      opens = λ b t. (let e = not_T (eqb b equals) (both_right (not (eqb b comma)) (not (eqb b equals)) t) in rw e);
      named = refl;
      flat = refl;
    }

result-opens : (b : ℕ) → T (free b) → begins b ResultName ≡ true
unfolding begins
result-opens b t = let e = not_T (eqb b comma) (both_left (not (eqb b comma)) (not (eqb b equals)) t) in rw e

unnamed-piece : (role : ℕ) (rest : List ℕ) → OpRole role → Yields (OpRest ∷ []) rest → OnePiece (role ∷ rest)
unnamed-piece role rest o y =
    let t = rest-outside y in
    record {
      head = role;
      others = rest;
      whole = refl;
      opens = o.opens;
      goes = subst (λ (d : ℕ). T (quiet begins 0 role d rest)) (sym o.flat) (outside-quiet rest_set rest-within role 0 rest t);
      closes = ap (λ (d : ℕ). depth_through d rest) o.flat ∙ outside-closed rest_set 0 rest t;
      ends = rest-ends role y;
    }

equals-closed : (p : Production) → p ∈ grammar → T (closed_at_end (equals ∷ []) p)
unfolding grammar
equals-closed p m = rule-passes (closed_at_end (equals ∷ [])) m tt

named-piece : (role : ℕ) (ms rest : List ℕ) → OpRole role → Yields (MoreResults ∷ equals ∷ []) ms → Yields (OpRest ∷ []) rest → OnePiece (ResultName ∷ (ms ++ (role ∷ rest)))
unfolding depth_after unnamed-piece
named-piece role ms rest o z y =
    let u = unnamed-piece role rest o y in
    let s = spaced-yields z ResultName tt tt in
    let q = names-quiet ResultName ms s.0 s.1 in
    let l = last-yields (equals ∷ []) equals-closed z ResultName tt in
    let e : last_role ResultName ms ≡ equals = eqb→eq (last_role ResultName ms) equals (or_cases (eqb (last_role ResultName ms) equals) false (T (eqb (last_role ResultName ms) equals)) l (λ v. v) (λ v. absurd v)) in
    let g : T (quiet begins 0 equals 0 (role ∷ rest)) = both-make (not (eqb 0 0 && begins equals role)) (quiet begins 0 role (depth_after 0 role) rest) (rw o.named tt) u.goes in
    record {
      head = ResultName;
      others = ms ++ (role ∷ rest);
      whole = refl;
      opens = result-opens;
      goes = quiet-append begins 0 ResultName 0 ms (role ∷ rest) q.0 (subst (λ (b : ℕ). T (quiet begins 0 b (depth_through 0 ms) (role ∷ rest))) (sym e) (subst (λ (d : ℕ). T (quiet begins 0 equals d (role ∷ rest))) (sym q.1) g));
      closes = depth-append ms (role ∷ rest) 0 ∙ (ap (λ (d : ℕ). depth_through d (role ∷ rest)) q.1 ∙ u.closes);
      ends = subst (λ (n : ℕ). T (free n)) (sym (last-append ResultName ms (role ∷ rest))) u.ends;
    }

roles-append : (ys : List Reading) (x : Reading) (zs : List Reading) → roles_of (ys ++ (x ∷ zs)) ≡ roles_of ys ++ (x.role ∷ roles_of zs)
roles-append [] x zs = refl
roles-append (y ∷ ys) x zs = ap (λ (l : List ℕ). y.role ∷ l) (roles-append ys x zs)

-- the readings of an op or of the return are one piece
pub op-piece : (role : ℕ) (xs : List Reading) → OpRole role → OpParts role xs → OnePiece (roles_of xs)
op-piece role xs r o =
    subst OnePiece (sym (ap roles_of o.whole ∙ roles-append o.names (reading true role o.name) o.rest)) (go o.naming)
  where
    go : {ls : List ℕ} → Naming ls → OnePiece (ls ++ (role ∷ roles_of o.rest))
    go unnamed = unnamed-piece role (roles_of o.rest) r o.leaves
    go (results {ls} z) =
        let l = leading (omega arith) z in
        subst (λ (k : List ℕ). OnePiece (k ++ (role ∷ roles_of o.rest))) (sym l.first) (named-piece role l.after (roles_of o.rest) r l.others o.leaves)
