-- What is read of an attribute after its value: nothing that is the attribute's.
-- Assumes nothing.
use mathlib.Core.Path.{◌≡◌, refl, sym, ap, subst, ◌∙◌}
use mathlib.Core.List.{List, [], ◌∷◌}
use mathlib.Core.Bool.{Bool, true, false, ◌&&◌}
use Prim.Native.Nat.{ℕ, zero, suc, ◌+◌, ◌-◌, ◌<◌}
use native.Mathlib.Omega.{arith}
use lib.Dec.{T, eqb}
use borrow.Author.Tests.{eqb-true, eqb-false}
use Rattle.lists.specs.Lists.{pick}
use Rattle.scan.specs.Bytes.{among}
use Rattle.grammar.specs.Symbols.{AttributeName, SingleNumber, ListNumber, ChoiceKind, Choice, ElementLiteral, DenseOpen, DenseType, BodyOpen, BodyClose, among_symbols}
use Rattle.syntax.specs.Readings.{Reading}
use Rattle.syntax.specs.Roles.{roles_of}
use Rattle.program.specs.Parts.{depth_after}
use Rattle.source.specs.Source.{with_role, Cut, cut_from, AttributeText, attribute_from}
use Rattle.verifier.specs.AttributeRules.{no_attribute_text}
use Rattle.grammar.proofs.TableTest.{both_left, both_right, or, or_cases, T_true}
use Rattle.grammar.proofs.Within.{all_pass}
use Rattle.attribute_laws.proofs.ValueRun.{inside, next, run, stuck, next-run, outside-only}

-- a piece begins at an attribute's name
abbrev pub at_name : ℕ → ℕ → Bool
at_name before role = eqb role AttributeName

-- the readings up to the next attribute's name outside bodies
abbrev pub up_to_name : ℕ → ℕ → List Reading → List Reading
up_to_name before depth xs = (cut_from at_name 0 before depth xs).before

pick_first : {A : Type 0} (b : Bool) (x y : A) → b ≡ true → pick b x y ≡ x
pick_first b x y e = rw e

pick_second : {A : Type 0} (b : Bool) (x y : A) → b ≡ false → pick b x y ≡ y
pick_second b x y e = rw e

-- one reading of it
up-to-is : (before depth : ℕ) (x : Reading) (xs : List Reading) →
    up_to_name before depth (x ∷ xs) ≡ pick (eqb depth 0 && eqb x.role AttributeName) [] (x ∷ up_to_name x.role (depth_after depth x.role) xs)
up-to-is before depth x xs = go (eqb depth 0 && eqb x.role AttributeName)
  where
    c : Cut
    c = cut_from at_name 0 x.role (depth_after depth x.role) xs

    cut : Bool → Cut
    cut b = pick b (record { before = []; pieces = (x ∷ c.before) ∷ c.pieces }) (record { before = x ∷ c.before; pieces = c.pieces })

    go : (b : Bool) → (cut b).before ≡ pick b [] (x ∷ c.before)
    go true = refl
    go false = refl

-- ---- bodies and attributes

-- inside an attribute only where a body is open
abbrev Deep : ℕ → ℕ → Type 0
Deep s d = 0 < s → 0 < d

deeper-case : (s d r : ℕ) (rs : List ℕ) → Deep s d → run s (r ∷ rs) ≡ 0 → (eqb d 0 && eqb r AttributeName ≡ false) → (b c : Bool) → eqb r BodyOpen ≡ b → eqb r BodyClose ≡ c →
    Deep (next s r) (pick b (d + 1) (pick c (d - 1) d))
deeper-case s d r rs i e n true c q w h = omega arith
deeper-case s d r rs i e n false true q w h =
    let z : r ≡ BodyClose = eqb-true r BodyClose w in
    let f : run s (BodyClose ∷ rs) ≡ 0 = subst (λ (r : ℕ). run s (r ∷ rs) ≡ 0) z e in
    let g : s ≡ 0 = outside-only s BodyClose rs tt f in
    let k : next s r ≡ 0 = rw (g, z) in
    absurd (omega arith)
deeper-case s zero r rs i e n false false q w h = absurd (by-inside (among_symbols inside r) refl)
  where
    outer : s ≡ 0
    outer = by_state (eqb s 0) refl
      where
        by_state : (b : Bool) → eqb s 0 ≡ b → s ≡ 0
        by_state true q = eqb-true s 0 q
        by_state false q = let f = eqb-false s 0 q in absurd (let g = i (omega arith) in omega arith)

    by-inside : (b : Bool) → among_symbols inside r ≡ b → ⊥
    by-inside true x = let k : next s r ≡ 16 = rw (outer, n, x) in stuck rs (next-run s 16 r rs k e)
    by-inside false x = let k : next s r ≡ 0 = rw (outer, n, x) in omega arith
deeper-case s (suc d) r rs i e n false false q w h = omega arith

deeper : (s d r : ℕ) (rs : List ℕ) → Deep s d → run s (r ∷ rs) ≡ 0 → (eqb d 0 && eqb r AttributeName ≡ false) → Deep (next s r) (depth_after d r)
unfolding depth_after
deeper s d r rs i e n = deeper-case s d r rs i e n (eqb r BodyOpen) (eqb r BodyClose) refl refl

-- ---- after the value

-- roles of names and of values' insides
abbrev of_values : List ℕ → Bool
of_values roles = all_pass (λ r. or (eqb r AttributeName) (among_symbols inside r)) roles

among-passes : (f : ℕ → Bool) (set : List ℕ) (k : ℕ) → T (all_pass f set) → among set k ≡ true → T (f k)
among-passes f [] k t u = let z : ◌≡◌ {A = ℕ} 0 1 = cc in absurd (omega arith)
among-passes f (x ∷ xs) k t u = go (eqb k x) refl u (among-passes f xs k (both_right (f x) (all_pass f xs) t))
  where
    go : (b : Bool) → eqb k x ≡ b → among (x ∷ xs) k ≡ true → (among xs k ≡ true → T (f k)) → T (f k)
    go true q u ih = subst (λ (n : ℕ). T (f n)) (sym (eqb-true k x q)) (both_left (f x) (all_pass f xs) t)
    go false q u ih = ih (rw q at u)

none_after : (roles : List ℕ) → T (of_values roles) → (s d before : ℕ) (xs : List Reading) → run s (roles_of xs) ≡ 0 → Deep s d →
    with_role roles 0 d (up_to_name before d xs) ≡ []
none_after roles t s d before [] e i = refl
none_after roles t s d before (x ∷ xs) e i =
    by_name (eqb d 0) (eqb x.role AttributeName) (among roles x.role) refl refl refl
    (λ n. none_after roles t (next s x.role) (depth_after d x.role) x.role xs e (deeper s d x.role (roles_of xs) i e n))
  where
    more : List ℕ
    more = with_role roles 0 (depth_after d x.role) (up_to_name x.role (depth_after d x.role) xs)

    wrong : eqb d 0 ≡ true → eqb x.role AttributeName ≡ false → among roles x.role ≡ true → ⊥
    wrong p q u =
        let z : d ≡ 0 = eqb-true d 0 p in
        let m : T (or (eqb x.role AttributeName) (among_symbols inside x.role)) = among-passes (λ r. or (eqb r AttributeName) (among_symbols inside r)) roles x.role t u in
        or_cases (eqb x.role AttributeName) (among_symbols inside x.role) ⊥ m (λ v. subst T q v) (λ v. inner v (eqb s 0) refl)
      where
        inner : T (among_symbols inside x.role) → (b : Bool) → eqb s 0 ≡ b → ⊥
        inner v true y = stuck (roles_of xs) (next-run s 16 x.role (roles_of xs) (rw (y, q, T_true (among_symbols inside x.role) v)) e)
        inner v false y = let f = eqb-false s 0 y in let g = i (omega arith) in let z = eqb-true d 0 p in omega arith

    passed : eqb d 0 && eqb x.role AttributeName ≡ false → eqb d 0 && among roles x.role ≡ false → (eqb d 0 && eqb x.role AttributeName ≡ false → more ≡ []) →
        with_role roles 0 d (up_to_name before d (x ∷ xs)) ≡ []
    passed p q ih =
        ap (with_role roles 0 d) (up-to-is before d x xs ∙ pick_second (eqb d 0 && eqb x.role AttributeName) [] _ p)
        ∙ (pick_second (eqb d 0 && among roles x.role) (x.token.start ∷ more) more q ∙ ih p)

    by_name : (b c u : Bool) → eqb d 0 ≡ b → eqb x.role AttributeName ≡ c → among roles x.role ≡ u → (eqb d 0 && eqb x.role AttributeName ≡ false → more ≡ []) →
        with_role roles 0 d (up_to_name before d (x ∷ xs)) ≡ []
    by_name true true u p q w ih = ap (with_role roles 0 d) (up-to-is before d x xs ∙ pick_first (eqb d 0 && eqb x.role AttributeName) [] _ (rw (p, q)))
    by_name true false true p q w ih = absurd (wrong p q w)
    by_name true false false p q w ih = passed (rw (p, q)) (rw (p, w)) ih
    by_name false c u p q w ih = passed (rw p) (rw p) ih

pub after-value : (before : ℕ) (xs : List Reading) → run 0 (roles_of xs) ≡ 0 → attribute_from (up_to_name before 0 xs) ≡ no_attribute_text
after-value before xs e =
    let n : (roles : List ℕ) → T (of_values roles) → with_role roles 0 0 (up_to_name before 0 xs) ≡ [] = λ roles t. none_after roles t 0 0 before xs e (λ h. h) in
    rw (n (AttributeName ∷ []) tt, n (SingleNumber ∷ []) tt, n (ListNumber ∷ []) tt, n (ChoiceKind ∷ []) tt, n (Choice ∷ []) tt, n (DenseOpen ∷ ElementLiteral ∷ []) tt, n (DenseType ∷ []) tt)

-- ---- one token of an attribute

-- an attribute with one token more before it
abbrev pub with_token : ℕ → ℕ → AttributeText → AttributeText
with_token role start a =
    record {
      names = pick (among (AttributeName ∷ []) role) (start ∷ a.names) a.names;
      single = pick (among (SingleNumber ∷ []) role) (start ∷ a.single) a.single;
      listed = pick (among (ListNumber ∷ []) role) (start ∷ a.listed) a.listed;
      kinds = pick (among (ChoiceKind ∷ []) role) (start ∷ a.kinds) a.kinds;
      choices = pick (among (Choice ∷ []) role) (start ∷ a.choices) a.choices;
      literals = pick (among (DenseOpen ∷ ElementLiteral ∷ []) role) (start ∷ a.literals) a.literals;
      types = pick (among (DenseType ∷ []) role) (start ∷ a.types) a.types;
    }

-- a role that opens and closes no body
abbrev pub flat : ℕ → Bool
flat r = eqb (depth_after 0 r) 0

pub token-first : (x : Reading) (xs : List Reading) → flat x.role ≡ true → attribute_from (x ∷ xs) ≡ with_token x.role x.token.start (attribute_from xs)
token-first x xs e = rw (eqb-true (depth_after 0 x.role) 0 e)

pub token-more : (before : ℕ) (x : Reading) (xs : List Reading) → flat x.role ≡ true → eqb x.role AttributeName ≡ false →
    attribute_from (up_to_name before 0 (x ∷ xs)) ≡ with_token x.role x.token.start (attribute_from (up_to_name x.role 0 xs))
token-more before x xs e n =
    let z : depth_after 0 x.role ≡ 0 = eqb-true (depth_after 0 x.role) 0 e in
    let c : up_to_name before 0 (x ∷ xs) ≡ x ∷ up_to_name x.role (depth_after 0 x.role) xs =
    up-to-is before 0 x xs ∙ pick_second (eqb x.role AttributeName) [] (x ∷ up_to_name x.role (depth_after 0 x.role) xs) n in
    let d : up_to_name before 0 (x ∷ xs) ≡ x ∷ up_to_name x.role 0 xs = c ∙ ap {B = List Reading} (λ (d : ℕ). x ∷ up_to_name x.role d xs) z in
    ap attribute_from d ∙ token-first x (up_to_name x.role 0 xs) e
