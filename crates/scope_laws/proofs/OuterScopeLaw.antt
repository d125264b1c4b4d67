-- The readings of one op outside its bodies: no token but the first changes what is in scope, by defining a name or by ending an op. The symbols that the machine
-- expects show it: a name of a result stands after a comma, the op's own name after `=`, and every other symbol is neutral.
-- Assumes nothing.
use mathlib.Core.Path.{◌≡◌, refl, sym, ap, subst, ◌∙◌}
use mathlib.Core.List.{List, [], ◌∷◌, ◌++◌, append-nil}
use mathlib.Core.Bool.{Bool, true, false, not, ◌||◌}
use Prim.Native.Nat.{ℕ, zero, suc}
use native.Mathlib.Omega.{arith}
use native.Mathlib.Numerals.{add-one}
use lib.Dec.{T, eqb, eqb→eq}
use lib.ListN.{length}
use borrow.Author.Tests.{eqb-true, eq-eqb}
use Rattle.lists.specs.Lists.{pick}
use Rattle.scan.specs.Bytes.{among}
use Rattle.text.specs.Lex.{token_at}
use Rattle.text.specs.declared.Token.{Token}
use Rattle.grammar.specs.Symbols.{InputName, ResultName, OpName, FuncReturn, BodyOpen, ArgumentName, BodyOpName, BodyReturn, BodyClose, comma, equals, Program, Inputs, MoreInputs, Ops, NamedOps, Arguments, MoreArguments, BodyOps, NamedBodyOps, Op, NamedOp}
use Rattle.grammar.specs.Grammar.{Production, grammar}
use Rattle.grammar.specs.Derivation.{◌∈◌}
use Rattle.grammar.specs.Machine.{Cell, fails, skips, takes, on_cell, step}
use Rattle.grammar.proofs.TableTest.{both, both_left, both_right, both-make, implies, implied, or, or_cases, true-T}
use Rattle.grammar.proofs.CellView.{View, none, empty, leaf, rule, view, rule-passes}
use Rattle.grammar.proofs.Sound.{is_empty, empty_right}
use Rattle.syntax.specs.Kinds.{kind_of}
use Rattle.syntax.specs.Readings.{Reading, reading, labelled, readings_from, readings_of}
use Rattle.program.specs.Parts.{depth_after}
use Rattle.scope.specs.Scope.{begins, ends}

-- a token of this role defines a name, or an op ends before it
unfoldable pub changes_scope : ℕ → ℕ → Bool
changes_scope before role = among (InputName ∷ ArgumentName ∷ []) role || ends before role

-- outside bodies no token changes the scope
abbrev pub Unchanged : ℕ → ℕ → List Reading → Type 0
Unchanged before depth [] = Unit {0}
Unchanged before depth (x ∷ xs) = (depth ≡ 0 → changes_scope before x.role ≡ false) × Unchanged x.role (depth_after depth x.role) xs

-- the symbols that can come to such a token, and the marks of a body
abbrev scoping : List ℕ
scoping = InputName ∷ ResultName ∷ OpName ∷ FuncReturn ∷ BodyOpen ∷ ArgumentName ∷ BodyOpName ∷ BodyReturn ∷ BodyClose ∷ Program ∷ Inputs ∷ MoreInputs ∷ Ops ∷ NamedOps ∷ Arguments ∷ MoreArguments ∷ BodyOps ∷ NamedBodyOps ∷ Op ∷ NamedOp ∷ []

abbrev neutral : ℕ → Bool
neutral s = not (among scoping s)

not_T : (b : Bool) → T (not b) → b ≡ false
not_T true t = absurd t
not_T false t = refl

apart-case : (xs : List ℕ) (s x : ℕ) (b : Bool) → eqb s x ≡ b → among xs s ≡ false → among xs x ≡ true → eqb s x ≡ false
apart-case xs s x false q e m = q
apart-case xs s x true q e m =
    let z : true ≡ false = sym m ∙ ap (among xs) (sym (eqb-true s x q)) ∙ e in
    let w : ◌≡◌ {A = ℕ} 0 1 = cc in absurd (omega arith)

-- a neutral symbol is none of the others
apart : (s x : ℕ) → T (neutral s) → among scoping x ≡ true → eqb s x ≡ false
apart s x t m = apart-case scoping s x (eqb s x) refl (not_T (among scoping s) t) m

neutral-unchanged : (before s : ℕ) → T (neutral s) → changes_scope before s ≡ false
unfolding changes_scope ends begins
neutral-unchanged before s t =
    simp (apart s InputName t refl, apart s ArgumentName t refl, apart s BodyClose t refl, apart s ResultName t refl, apart s OpName t refl, apart s FuncReturn t refl, apart s BodyOpName t refl, apart s BodyReturn t refl)

open-unchanged : (before : ℕ) → changes_scope before BodyOpen ≡ false
unfolding changes_scope ends begins
open-unchanged before = refl

none-unchanged : (before : ℕ) → changes_scope before 0 ≡ false
unfolding changes_scope ends begins
none-unchanged before = refl

result-unchanged : changes_scope comma ResultName ≡ false
unfolding changes_scope ends begins
result-unchanged = refl

name-unchanged : changes_scope equals OpName ≡ false
unfolding changes_scope ends begins
name-unchanged = refl

return-unchanged : changes_scope equals FuncReturn ≡ false
unfolding changes_scope ends begins
return-unchanged = refl

op-unchanged-alone : changes_scope equals Op ≡ false
unfolding changes_scope ends begins
op-unchanged-alone = refl

-- how many bodies are open after a token
depth-open : (d : ℕ) → depth_after d BodyOpen ≡ suc d
unfolding depth_after
depth-open d = add-one d

depth-close : (d : ℕ) → depth_after (suc d) BodyClose ≡ d
unfolding depth_after
depth-close d = omega arith

pub depth-other : (d role : ℕ) → eqb role BodyOpen ≡ false → eqb role BodyClose ≡ false → depth_after d role ≡ d
unfolding depth_after
depth-other d role e f = rw (e, f)

-- the symbol can stand after that one: it is neutral, or a name of a result after a comma, or the op's own after `=`
abbrev allowed_after : ℕ → ℕ → Bool
allowed_after before s = or (neutral s) (or (both (eqb s ResultName) (eqb before comma)) (both (eqb s NamedOp) (eqb before equals)))

-- what is expected, inside so many bodies
abbrev allowed : ℕ → ℕ → List ℕ → Bool
allowed before zero [] = true
allowed before (suc d) [] = false
allowed before zero (s ∷ ss) = both (allowed_after before s) (allowed s zero ss)
allowed before (suc d) (s ∷ ss) = pick (eqb s BodyClose) (allowed s d ss) (both (not (eqb s BodyOpen)) (allowed s (suc d) ss))

-- up to the end of a body
abbrev closing : List ℕ → Bool
closing [] = false
closing (s ∷ ss) = pick (eqb s BodyClose) (is_empty ss) (both (not (eqb s BodyOpen)) (closing ss))

-- without marks of a body
abbrev unmarked : List ℕ → Bool
unmarked [] = true
unmarked (s ∷ ss) = both (not (eqb s BodyClose)) (both (not (eqb s BodyOpen)) (unmarked ss))

-- what each production does: its left side is no mark, and what it leaves is allowed again
abbrev left_side : ℕ → Bool
left_side s = both (not (eqb s comma)) (both (not (eqb s equals)) (both (not (eqb s ResultName)) (not (eqb s BodyClose))))

abbrev own_name : ℕ → Bool
own_name l = or (eqb l OpName) (eqb l FuncReturn)

abbrev outer_rule : ℕ → ℕ → List ℕ → Bool
outer_rule s l tail = both (implies (neutral s) (neutral l)) (both (implies (eqb s NamedOp) (own_name l)) (implies (or (neutral s) (eqb s NamedOp)) (allowed l 0 tail)))

abbrev rule_test : ℕ → List ℕ → Bool
rule_test s [] = left_side s
rule_test s (l ∷ tail) = both (left_side s) (pick (eqb l BodyOpen) (closing tail) (both (not (eqb l BodyClose)) (both (unmarked tail) (outer_rule s l tail))))

each : {p : Production} → p ∈ grammar → T (rule_test p.left p.right)
unfolding grammar
each m = rule-passes (λ p. rule_test p.left p.right) m tt

-- inside a body what came before does not matter
inside-any : (b c d : ℕ) (ss : List ℕ) → T (allowed b (suc d) ss) → T (allowed c (suc d) ss)
inside-any b c d [] t = t
inside-any b c d (s ∷ ss) t = t

-- after a symbol that is no comma and no `=` what is expected is neutral, whatever comes before
any-case : (b c s : ℕ) → eqb b comma ≡ false → eqb b equals ≡ false → (q r n : Bool) → T (or q (or (both r (eqb b comma)) (both n (eqb b equals)))) →
    T (or q (or (both r (eqb c comma)) (both n (eqb c equals))))
any-case b c s e f true r n t = tt
any-case b c s e f false true true t = absurd (rw (e, f) at t)
any-case b c s e f false true false t = absurd (rw e at t)
any-case b c s e f false false true t = absurd (rw f at t)
any-case b c s e f false false false t = absurd t

outside-any : (b c : ℕ) (ss : List ℕ) → eqb b comma ≡ false → eqb b equals ≡ false → T (allowed b 0 ss) → T (allowed c 0 ss)
outside-any b c [] e f t = tt
outside-any b c (s ∷ ss) e f t =
    both-make (allowed_after c s) (allowed s 0 ss)
    (any-case b c s e f (neutral s) (eqb s ResultName) (eqb s NamedOp) (both_left (allowed_after b s) (allowed s 0 ss) t))
    (both_right (allowed_after b s) (allowed s 0 ss) t)

-- the symbols of an alternative before those that were expected
plain-append : (b : ℕ) (xs ys : List ℕ) → T (allowed b 0 xs) → ((c : ℕ) → T (allowed c 0 ys)) → T (allowed b 0 (xs ++ ys))
plain-append b [] ys t f = f b
plain-append b (x ∷ xs) ys t f =
    both-make (allowed_after b x) (allowed x 0 (xs ++ ys)) (both_left (allowed_after b x) (allowed x 0 xs) t) (plain-append x xs ys (both_right (allowed_after b x) (allowed x 0 xs) t) f)

inside-append : (b d : ℕ) (xs ys : List ℕ) → T (unmarked xs) → ((c : ℕ) → T (allowed c (suc d) ys)) → T (allowed b (suc d) (xs ++ ys))
inside-append b d [] ys t f = f b
inside-append b d (x ∷ xs) ys t f =
    let u = both_right (not (eqb x BodyClose)) (both (not (eqb x BodyOpen)) (unmarked xs)) t in
    let c = not_T (eqb x BodyClose) (both_left (not (eqb x BodyClose)) (both (not (eqb x BodyOpen)) (unmarked xs)) t) in
    subst (λ (a : Bool). T (pick a (allowed x d (xs ++ ys)) (both (not (eqb x BodyOpen)) (allowed x (suc d) (xs ++ ys))))) (sym c)
    (both-make (not (eqb x BodyOpen)) (allowed x (suc d) (xs ++ ys)) (both_left (not (eqb x BodyOpen)) (unmarked xs) u)
    (inside-append x d xs ys (both_right (not (eqb x BodyOpen)) (unmarked xs) u) f))

closing-case : (d x : ℕ) (xs ys : List ℕ) (a : Bool) → T (pick a (is_empty xs) (both (not (eqb x BodyOpen)) (closing xs))) → ((c : ℕ) → T (allowed c d ys)) →
    (T (closing xs) → T (allowed x (suc d) (xs ++ ys))) → T (pick a (allowed x d (xs ++ ys)) (both (not (eqb x BodyOpen)) (allowed x (suc d) (xs ++ ys))))
closing-case d x xs ys true t f ih = subst (λ (l : List ℕ). T (allowed x d (l ++ ys))) (sym (empty_right xs t)) (f x)
closing-case d x xs ys false t f ih =
    both-make (not (eqb x BodyOpen)) (allowed x (suc d) (xs ++ ys)) (both_left (not (eqb x BodyOpen)) (closing xs) t) (ih (both_right (not (eqb x BodyOpen)) (closing xs) t))

closing-append : (b d : ℕ) (xs ys : List ℕ) → T (closing xs) → ((c : ℕ) → T (allowed c d ys)) → T (allowed b (suc d) (xs ++ ys))
closing-append b d [] ys t f = absurd t
closing-append b d (x ∷ xs) ys t f = closing-case d x xs ys (eqb x BodyClose) t f (λ u. closing-append x d xs ys u f)

or_left : (a b : Bool) → T a → T (or a b)
or_left true b t = tt
or_left false b t = absurd t

or_right : (a b : Bool) → T b → T (or a b)
or_right true b t = tt
or_right false b t = t

pub not-both : {A : Type 0} (b : Bool) → b ≡ false → b ≡ true → A
not-both b e f = let z : ◌≡◌ {A = ℕ} 0 1 = cc in absurd (omega arith)

-- one token: outside bodies it does not change the scope, and what is then expected is allowed
record Stepped (before depth role : ℕ) (rest : List ℕ) : Type 0 where
  unchanged : depth ≡ 0 → changes_scope before role ≡ false
  then : T (allowed role (depth_after depth role) rest)

not-suc : {d : ℕ} {A : Type 0} → suc d ≡ 0 → A
not-suc e = absurd (omega arith)

stepped : {before depth later role : ℕ} {rest : List ℕ} → (depth ≡ 0 → changes_scope before role ≡ false) → depth_after depth role ≡ later → T (allowed role later rest) → Stepped before depth role rest
stepped {role} {rest} q e t = record { unchanged = q; then = subst (λ (d : ℕ). T (allowed role d rest)) (sym e) t }

-- the left side of a production is no mark
module _ (s : ℕ) (t : T (left_side s)) where
  not-comma : eqb s comma ≡ false
  not-comma = not_T (eqb s comma) (both_left (not (eqb s comma)) _ t)

  beyond-comma : T (both (not (eqb s equals)) (both (not (eqb s ResultName)) (not (eqb s BodyClose))))
  beyond-comma = both_right (not (eqb s comma)) _ t

  not-equals : eqb s equals ≡ false
  not-equals = not_T (eqb s equals) (both_left (not (eqb s equals)) _ beyond-comma)

  beyond-equals : T (both (not (eqb s ResultName)) (not (eqb s BodyClose)))
  beyond-equals = both_right (not (eqb s equals)) _ beyond-comma

  not-result : eqb s ResultName ≡ false
  not-result = not_T (eqb s ResultName) (both_left (not (eqb s ResultName)) _ beyond-equals)

  not-close : eqb s BodyClose ≡ false
  not-close = not_T (eqb s BodyClose) (both_right (not (eqb s ResultName)) _ beyond-equals)

-- inside a body a symbol other than its end is no beginning of a body, and what stands after it is allowed whatever comes before
module _ (before d s : ℕ) (ss : List ℕ) (c : eqb s BodyClose ≡ false) (t : T (allowed before (suc d) (s ∷ ss))) where
  rest-inside : T (both (not (eqb s BodyOpen)) (allowed s (suc d) ss))
  rest-inside = subst (λ (a : Bool). T (pick a (allowed s d ss) (both (not (eqb s BodyOpen)) (allowed s (suc d) ss)))) c t

-- the token of a symbol that can stand there does not change the scope, and opens and ends no body
abbrev Keeps : ℕ → ℕ → Type 0
Keeps before s = (changes_scope before s ≡ false) × (depth_after 0 s ≡ 0)

keeps-as : (before s b x : ℕ) → before ≡ b → s ≡ x → Keeps b x → Keeps before s
keeps-as before s b x e f g = subst (λ (y : ℕ). Keeps y s) (sym e) (subst (λ (y : ℕ). Keeps b y) (sym f) g)

neutral-keeps : (before s : ℕ) → T (neutral s) → Keeps before s
neutral-keeps before s t = (neutral-unchanged before s t, depth-other 0 s (apart s BodyOpen t refl) (apart s BodyClose t refl))

result-keeps : Keeps comma ResultName
result-keeps = (result-unchanged, depth-other 0 ResultName refl refl)

name-keeps : Keeps equals OpName
name-keeps = (name-unchanged, depth-other 0 OpName refl refl)

return-keeps : Keeps equals FuncReturn
return-keeps = (return-unchanged, depth-other 0 FuncReturn refl refl)

named-keeps : Keeps equals NamedOp
unfolding changes_scope ends begins
named-keeps = (refl, depth-other 0 NamedOp refl refl)

allowed-cases : (before s : ℕ) (A : Type 0) → T (allowed_after before s) → (T (neutral s) → A) → (s ≡ ResultName → before ≡ comma → A) → (s ≡ NamedOp → before ≡ equals → A) → A
allowed-cases before s A t f g h =
    let r = both (eqb s ResultName) (eqb before comma) in
    let n = both (eqb s NamedOp) (eqb before equals) in
    or_cases (neutral s) (or r n) A t f
    (λ u. or_cases r n A u
    (λ v. g (eqb→eq s ResultName (both_left (eqb s ResultName) (eqb before comma) v)) (eqb→eq before comma (both_right (eqb s ResultName) (eqb before comma) v)))
    (λ v. h (eqb→eq s NamedOp (both_left (eqb s NamedOp) (eqb before equals) v)) (eqb→eq before equals (both_right (eqb s NamedOp) (eqb before equals) v))))

allowed-keeps : (before s : ℕ) → T (allowed_after before s) → Keeps before s
allowed-keeps before s t =
    allowed-cases before s (Keeps before s) t (λ q. neutral-keeps before s q) (λ e f. keeps-as before s comma ResultName f e result-keeps)
    (λ e f. keeps-as before s equals NamedOp f e named-keeps)

own-name-keeps : (l : ℕ) → T (own_name l) → Keeps equals l
own-name-keeps l t =
    or_cases (eqb l OpName) (eqb l FuncReturn) (Keeps equals l) t (λ u. keeps-as equals l equals OpName refl (eqb→eq l OpName u) name-keeps)
    (λ u. keeps-as equals l equals FuncReturn refl (eqb→eq l FuncReturn u) return-keeps)

-- a leaf
close-case : (before d s : ℕ) (ss : List ℕ) (b : Bool) → eqb s BodyClose ≡ b → T (pick b (allowed s d ss) (both (not (eqb s BodyOpen)) (allowed s (suc d) ss))) → Stepped before (suc d) s ss
close-case before d s ss true e t = stepped not-suc (ap (depth_after (suc d)) (eqb-true s BodyClose e) ∙ depth-close d) t
close-case before d s ss false e t =
    stepped not-suc (depth-other (suc d) s (not_T (eqb s BodyOpen) (both_left (not (eqb s BodyOpen)) (allowed s (suc d) ss) t)) e) (both_right (not (eqb s BodyOpen)) (allowed s (suc d) ss) t)

leaf-step : (before depth s : ℕ) (ss : List ℕ) → T (allowed before depth (s ∷ ss)) → Stepped before depth s ss
leaf-step before zero s ss t =
    let g = allowed-keeps before s (both_left (allowed_after before s) (allowed s 0 ss) t) in
    stepped (λ _. g.0) g.1 (both_right (allowed_after before s) (allowed s 0 ss) t)
leaf-step before (suc d) s ss t = close-case before d s ss (eqb s BodyClose) refl t

-- a production
open_step : (before depth l : ℕ) (tail ss : List ℕ) → l ≡ BodyOpen → T (closing tail) → ((c : ℕ) → T (allowed c depth ss)) → Stepped before depth l (tail ++ ss)
open_step before depth l tail ss e t f =
    stepped (λ _. ap (changes_scope before) e ∙ open-unchanged before) (ap (depth_after depth) e ∙ depth-open depth) (closing-append l depth tail ss t f)

module _ (s l : ℕ) (tail ss : List ℕ) (p : T (left_side s)) (o : eqb l BodyOpen ≡ false) (t : T (both (not (eqb l BodyClose)) (both (unmarked tail) (outer_rule s l tail)))) where
  kept-close : eqb l BodyClose ≡ false
  kept-close = not_T (eqb l BodyClose) (both_left (not (eqb l BodyClose)) _ t)

  kept-marks : T (unmarked tail)
  kept-marks = both_left (unmarked tail) (outer_rule s l tail) (both_right (not (eqb l BodyClose)) _ t)

  kept_rule : T (outer_rule s l tail)
  kept_rule = both_right (unmarked tail) (outer_rule s l tail) (both_right (not (eqb l BodyClose)) _ t)

  kept-neutral : T (implies (neutral s) (neutral l))
  kept-neutral = both_left (implies (neutral s) (neutral l)) _ kept_rule

  kept_more : T (both (implies (eqb s NamedOp) (own_name l)) (implies (or (neutral s) (eqb s NamedOp)) (allowed l 0 tail)))
  kept_more = both_right (implies (neutral s) (neutral l)) _ kept_rule

  kept-named : T (implies (eqb s NamedOp) (own_name l))
  kept-named = both_left (implies (eqb s NamedOp) (own_name l)) _ kept_more

  kept_fine : T (implies (or (neutral s) (eqb s NamedOp)) (allowed l 0 tail))
  kept_fine = both_right (implies (eqb s NamedOp) (own_name l)) _ kept_more

  inside-step : (before d : ℕ) → T (allowed s (suc d) ss) → Stepped before (suc d) l (tail ++ ss)
  inside-step before d u = stepped not-suc (depth-other (suc d) l o kept-close) (inside-append l d tail ss kept-marks (λ c. inside-any s c d ss u))

  outside-step : (before : ℕ) → Keeps before l → T (or (neutral s) (eqb s NamedOp)) → T (allowed s 0 ss) → Stepped before 0 l (tail ++ ss)
  outside-step before g w u =
      stepped (λ _. g.0) g.1 (plain-append l tail ss (implied (or (neutral s) (eqb s NamedOp)) (allowed l 0 tail) kept_fine w) (λ c. outside-any s c ss (not-comma s p) (not-equals s p) u))

  rule-step : (before depth : ℕ) → T (allowed before depth (s ∷ ss)) → Stepped before depth l (tail ++ ss)
  rule-step before zero u =
      let r = both_right (allowed_after before s) (allowed s 0 ss) u in
      allowed-cases before s (Stepped before 0 l (tail ++ ss)) (both_left (allowed_after before s) (allowed s 0 ss) u)
      (λ q. outside-step before (neutral-keeps before l (implied (neutral s) (neutral l) kept-neutral q)) (or_left (neutral s) (eqb s NamedOp) q) r)
      (λ e f. not-both (eqb s ResultName) (not-result s p) (eq-eqb s ResultName e))
      (λ e f. let n = eq-eqb s NamedOp e in outside-step before (keeps-as before l equals l f refl (own-name-keeps l (implied (eqb s NamedOp) (own_name l) kept-named (true-T (eqb s NamedOp) n)))) (or_right (neutral s) (eqb s NamedOp) (true-T (eqb s NamedOp) n)) r)
  rule-step before (suc d) u = inside-step before d (both_right (not (eqb s BodyOpen)) (allowed s (suc d) ss) (rest-inside before d s ss (not-close s p) u))

all_after : (before depth s : ℕ) (ss : List ℕ) → T (left_side s) → T (allowed before depth (s ∷ ss)) → (c : ℕ) → T (allowed c depth ss)
all_after before zero s ss p t c = outside-any s c ss (not-comma s p) (not-equals s p) (both_right (allowed_after before s) (allowed s 0 ss) t)
all_after before (suc d) s ss p t c = inside-any s c d ss (both_right (not (eqb s BodyOpen)) (allowed s (suc d) ss) (rest-inside before d s ss (not-close s p) t))

rule-case : (before depth s l : ℕ) (tail ss : List ℕ) → T (left_side s) → T (allowed before depth (s ∷ ss)) → (b : Bool) → eqb l BodyOpen ≡ b →
    T (pick b (closing tail) (both (not (eqb l BodyClose)) (both (unmarked tail) (outer_rule s l tail)))) → Stepped before depth l (tail ++ ss)
rule-case before depth s l tail ss p t true e u = open_step before depth l tail ss (eqb-true l BodyOpen e) u (all_after before depth s ss p t)
rule-case before depth s l tail ss p t false e u = rule-step s l tail ss p e u before depth t

-- one step of the machine
cell-step : (before depth : ℕ) {s k : ℕ} {c : Cell} (ss rest : List ℕ) (role : ℕ) (more : Cell) → View s k c → T (allowed before depth (s ∷ ss)) →
    (T (allowed before depth ss) → more ≡ takes role rest → Stepped before depth role rest) → on_cell c ss more ≡ takes role rest → Stepped before depth role rest
cell-step before depth ss rest role more none t ih e = let z : ◌≡◌ {A = ℕ} 0 1 = cc in absurd (omega arith)
cell-step before depth {s} ss rest role more (empty m) t ih e = ih (all_after before depth s ss (each m) t before) e
cell-step before depth {s} ss rest role more (leaf f) t ih e =
    let q : ss ≡ rest = cc in
    let r : s ≡ role = cc in
    subst (λ (x : ℕ). Stepped before depth x rest) r (subst (λ (l : List ℕ). Stepped before depth s l) q (leaf-step before depth s ss t))
cell-step before depth {s} ss rest role more (rule {l} {tail} m f) t ih e =
    let q : tail ++ ss ≡ rest = cc in
    let r : l ≡ role = cc in
    let u = each m in
    let w = rule-case before depth s l tail ss (both_left (left_side s) _ u) t (eqb l BodyOpen) refl (both_right (left_side s) _ u) in
    subst (λ (x : ℕ). Stepped before depth x rest) r (subst (λ (y : List ℕ). Stepped before depth l y) q w)

next-step : (before depth : ℕ) (ss : List ℕ) (k role : ℕ) (rest : List ℕ) → T (allowed before depth ss) → step ss k ≡ takes role rest → Stepped before depth role rest
unfolding step
next-step before depth [] k role rest t e = let z : ◌≡◌ {A = ℕ} 0 1 = cc in absurd (omega arith)
next-step before depth (s ∷ ss) k role rest t e =
    cell-step before depth ss rest role (step ss k) (view s k) t (λ u q. next-step before depth ss k role rest u q) e

-- the readings of what is expected
cell-unchanged : (t : Token) (before depth : ℕ) (more : List ℕ → List Reading) (c : Cell) →
    ((role : ℕ) (rest : List ℕ) → c ≡ takes role rest → (depth ≡ 0 → changes_scope before role ≡ false) × Unchanged role (depth_after depth role) (more rest)) → Unchanged before depth (labelled t c more)
cell-unchanged t before depth more fails f = (λ _. none-unchanged before, tt)
cell-unchanged t before depth more skips f = (λ _. none-unchanged before, tt)
cell-unchanged t before depth more (takes role rest) f = f role rest refl

readings-unchanged : (n before depth : ℕ) (expected text : List ℕ) (at : ℕ) → T (allowed before depth expected) → Unchanged before depth (readings_from n expected text at)
unfolding readings_from
readings-unchanged zero before depth expected text at t = tt
readings-unchanged (suc n) before depth [] text at t = tt
readings-unchanged (suc n) before depth (s ∷ ss) text at t =
    cell-unchanged (token_at text at) before depth (λ rest. readings_from n rest text (token_at text at).end) (step (s ∷ ss) (kind_of text (token_at text at)))
    (λ role rest e. let w = next-step before depth (s ∷ ss) (kind_of text (token_at text at)) role rest t e in
    (w.unchanged, readings-unchanged n role (depth_after depth role) rest text (token_at text at).end w.then))

-- the first token of an op: a result's name as after a comma, or the op's own name as after `=`
abbrev op_test : ℕ → List ℕ → Bool
op_test s [] = true
op_test s (l ∷ tail) = implies (eqb s Op) (both (or (eqb l ResultName) (own_name l)) (allowed l 0 tail))

each-op : {p : Production} → p ∈ grammar → T (op_test p.left p.right)
unfolding grammar
each-op m = rule-passes (λ p. op_test p.left p.right) m tt

record FirstStep (role : ℕ) (rest : List ℕ) : Type 0 where
  before : ℕ
  first : Stepped before 0 role rest

op-first : (l : ℕ) (tail : List ℕ) → T (both (or (eqb l ResultName) (own_name l)) (allowed l 0 tail)) → FirstStep l tail
op-first l tail t =
    let f = both_right (or (eqb l ResultName) (own_name l)) (allowed l 0 tail) t in
    or_cases (eqb l ResultName) (own_name l) (FirstStep l tail) (both_left (or (eqb l ResultName) (own_name l)) (allowed l 0 tail) t)
    (λ u. let g = keeps-as comma l comma ResultName refl (eqb→eq l ResultName u) result-keeps in record { before = comma; first = stepped (λ _. g.0) g.1 f })
    (λ u. let g = own-name-keeps l u in record { before = equals; first = stepped (λ _. g.0) g.1 f })

as_first : (l role : ℕ) (tail rest : List ℕ) → l ≡ role → tail ≡ rest → FirstStep l tail → FirstStep role rest
as_first l role tail rest e f g = subst (λ (x : ℕ). FirstStep x rest) e (subst (λ (y : List ℕ). FirstStep l y) f g)

cell-first : {k : ℕ} {c : Cell} (role : ℕ) (rest : List ℕ) → View Op k c → on_cell c [] fails ≡ takes role rest → FirstStep role rest
cell-first role rest none e = let z : ◌≡◌ {A = ℕ} 0 1 = cc in absurd (omega arith)
cell-first role rest (empty m) e = let z : ◌≡◌ {A = ℕ} 0 1 = cc in absurd (omega arith)
cell-first role rest (leaf f) e =
    let q : ◌≡◌ {A = List ℕ} [] rest = cc in
    let r : Op ≡ role = cc in
    as_first Op role [] rest r q (record { before = equals; first = stepped (λ _. op-unchanged-alone) (depth-other 0 Op refl refl) tt })
cell-first role rest (rule {l} {tail} m f) e =
    let q : tail ++ [] ≡ rest = cc in
    let r : l ≡ role = cc in
    as_first l role tail rest r (sym (append-nil tail) ∙ q) (op-first l tail (each-op m))

-- of the readings of an op: with the right role before the first
pub record OpUnchanged (xs : List Reading) : Type 0 where
  pub before : ℕ
  pub unchanged : Unchanged before 0 xs

first-unchanged : (t : Token) (more : List ℕ → List Reading) (c : Cell) → ((role : ℕ) (rest : List ℕ) → c ≡ takes role rest → OpUnchanged (reading true role t ∷ more rest)) → OpUnchanged (labelled t c more)
first-unchanged t more fails f = record { before = 0; unchanged = (λ _. none-unchanged 0, tt) }
first-unchanged t more skips f = record { before = 0; unchanged = (λ _. none-unchanged 0, tt) }
first-unchanged t more (takes role rest) f = f role rest refl

step-first : (k role : ℕ) (rest : List ℕ) → step (Op ∷ []) k ≡ takes role rest → FirstStep role rest
unfolding step
step-first k role rest e = cell-first role rest (view Op k) e

pub op-unchanged : (text : List ℕ) (at : ℕ) → OpUnchanged (readings_of Op text at)
unfolding readings_of readings_from
op-unchanged text at =
    let t = token_at text at in
    let n = length text in
    rw add-one
    (first-unchanged t (λ rest. readings_from n rest text t.end) (step (Op ∷ []) (kind_of text t))
    (λ role rest e. let f = step-first (kind_of text t) role rest e in
    record { before = f.before; unchanged = (f.first.unchanged, readings-unchanged n role (depth_after 0 role) rest text t.end f.first.then) }))
