-- Three tokens in a row: which may stand before an item of a list, and before the type of an input or argument. A computed test of every production, with the
-- two tokens that can stand before and after each symbol (WindowTable).
-- Assumes nothing.
use mathlib.Core.Path.{◌≡◌, refl, sym, subst}
use mathlib.Core.Bool.{Bool, true, false, not}
use mathlib.Core.List.{List, [], ◌∷◌, ◌++◌}
use Prim.Native.Nat.{ℕ, ◌-◌, ◌<◌}
use native.Mathlib.Omega.{arith}
use lib.Dec.{T, eqb, eqb→eq, ltb}
use lib.ListN.{get_or}
use borrow.Author.Tests.{eq-eqb, lt-ltb, le-ltb}
use Rattle.lists.specs.Lists.{pick}
use Rattle.grammar.specs.Symbols.{InputName, InputType, ArgumentName, ArgumentType, comma, colon, Program, leaf_count}
use Rattle.grammar.specs.Grammar.{Production, grammar}
use Rattle.grammar.specs.Derivation.{◌∈◌}
use Rattle.grammar.proofs.TableTest.{both, both_left, both_right, implies, true-T}
use Rattle.grammar.proofs.CellView.{rule-passes}
use Rattle.grammar.proofs.Exact.{left-high}
use Rattle.syntax.specs.Readings.{Reading, readings}
use Rattle.judge.specs.Roles.{among_roles, item_roles}
use Rattle.size_laws.specs.SizeSentences.{latest_first, list_roles}
use Rattle.size_laws.proofs.MachineLaw.{Kept, kept}
use Rattle.size_laws.proofs.WindowTable.{befores, afters}

-- the last token of an item
abbrev pub item_end : ℕ → ℕ
item_end role = pick (eqb role InputName) InputType (pick (eqb role ArgumentName) ArgumentType role)

-- c is an item: behind a comma that stands behind an item of the same list, or first in its list
abbrev pub item_window : ℕ → ℕ → ℕ → Bool
item_window a b c = implies (among_roles item_roles c) (pick (eqb b comma) (eqb a (item_end c)) (not (among_roles (list_roles c) b)))

-- c is the type of a name
abbrev pub type_window : ℕ → ℕ → ℕ → ℕ → ℕ → Bool
type_window name type a b c = implies (eqb c type) (both (eqb b colon) (eqb a name))

abbrev pub window : ℕ → ℕ → ℕ → Bool
window a b c = both (item_window a b c) (both (type_window InputName InputType a b c) (type_window ArgumentName ArgumentType a b c))

-- ---- pairs of roles

same_pair : ℕ → ℕ → ℕ × ℕ → Bool
same_pair a b p = both (eqb a p.0) (eqb b p.1)

abbrev in_pairs : List (ℕ × ℕ) → ℕ → ℕ → Bool
in_pairs [] a b = false
in_pairs (p ∷ ps) a b = pick (same_pair a b p) true (in_pairs ps a b)

abbrev all_pairs : (ℕ → ℕ → Bool) → List (ℕ × ℕ) → Bool
all_pairs f [] = true
all_pairs f (p ∷ ps) = both (f p.0 p.1) (all_pairs f ps)

pair-case : (f : ℕ → ℕ → Bool) (a b : ℕ) (p : ℕ × ℕ) (c d : Bool) → same_pair a b p ≡ c → T (f p.0 p.1) → (T d → T (f a b)) → T (pick c true d) → T (f a b)
unfolding same_pair
pair-case f a b p true d e t g u =
    let s = true-T (same_pair a b p) e in
    let x : a ≡ p.0 = eqb→eq a p.0 (both_left (eqb a p.0) (eqb b p.1) s) in
    let y : b ≡ p.1 = eqb→eq b p.1 (both_right (eqb a p.0) (eqb b p.1) s) in
    subst (λ (n : ℕ). T (f n b)) (sym x) (subst (λ (n : ℕ). T (f p.0 n)) (sym y) t)
pair-case f a b p false d e t g u = g u

pair-passes : (f : ℕ → ℕ → Bool) (ps : List (ℕ × ℕ)) (a b : ℕ) → T (all_pairs f ps) → T (in_pairs ps a b) → T (f a b)
pair-passes f [] a b t u = absurd u
pair-passes f (p ∷ ps) a b t u =
    pair-case f a b p (same_pair a b p) (in_pairs ps a b) refl (both_left (f p.0 p.1) (all_pairs f ps) t)
    (λ v. pair-passes f ps a b (both_right (f p.0 p.1) (all_pairs f ps) t) v) u

-- ---- symbols that are expected after the tokens a and b

-- the symbol may come
abbrev may : ℕ → ℕ → ℕ → Bool
may a b v = pick (ltb v leaf_count) (window a b v) (in_pairs (get_or befores (v - leaf_count) []) a b)

-- the last two tokens after it
abbrev last_two : ℕ → ℕ → ℕ → List (ℕ × ℕ)
last_two a b v = pick (ltb v leaf_count) ((b, v) ∷ []) (get_or afters (v - leaf_count) [])

abbrev Allows : ℕ → ℕ → List ℕ → Type 0
Allows a b [] = Unit {0}
Allows a b (v ∷ ss) = T (may a b v) × ((c d : ℕ) → T (in_pairs (last_two a b v) c d) → Allows c d ss)

-- a right side may come, and ends in two tokens of the list
abbrev walk : List (ℕ × ℕ) → ℕ → ℕ → List ℕ → Bool
walk out a b [] = in_pairs out a b
walk out a b (v ∷ vs) = both (may a b v) (all_pairs (λ c d. walk out c d vs) (last_two a b v))

walk-allows : (out : List (ℕ × ℕ)) (right ss : List ℕ) (a b : ℕ) → T (walk out a b right) → ((c d : ℕ) → T (in_pairs out c d) → Allows c d ss) → Allows a b (right ++ ss)
walk-allows out [] ss a b t f = f a b t
walk-allows out (v ∷ vs) ss a b t f =
    let x = may a b v in
    let y = all_pairs (λ c d. walk out c d vs) (last_two a b v) in
    (both_left x y t, λ c d m. walk-allows out vs ss c d (pair-passes (λ c d. walk out c d vs) (last_two a b v) c d (both_right x y t) m) f)

rule_test : Production → Bool
rule_test p = all_pairs (λ a b. walk (get_or afters (p.left - leaf_count) []) a b p.right) (get_or befores (p.left - leaf_count) [])

rule-walks : {p : Production} → p ∈ grammar → T (rule_test p)
unfolding rule_test grammar among_roles same_pair befores afters
rule-walks m = rule-passes rule_test m tt

-- ---- from token to token

abbrev pub two_after : ℕ × ℕ → ℕ → ℕ × ℕ
two_after q r = (q.1, r)

abbrev pub Windowed : ℕ × ℕ → ℕ → Type 0
Windowed q r = T (window q.0 q.1 r)

abbrev AllowsAfter : ℕ × ℕ → List ℕ → Type 0
AllowsAfter q ss = Allows q.0 q.1 ss

leaf-allows : (q : ℕ × ℕ) (l : ℕ) (ss : List ℕ) → l < leaf_count → AllowsAfter q (l ∷ ss) → Windowed q l × AllowsAfter (two_after q l) ss
unfolding same_pair
leaf-allows q l ss h o =
    let e = lt-ltb l leaf_count h in
    let w : T (window q.0 q.1 l) = rw e at o.0 in
    let u : (c d : ℕ) → T (in_pairs ((q.1, l) ∷ []) c d) → Allows c d ss = rw e at o.1 in
    (w, u q.1 l (rw (eq-eqb q.1 q.1 refl, eq-eqb l l refl) tt))

side-allows : (p : Production) → p ∈ grammar → (q : ℕ × ℕ) (ss : List ℕ) → AllowsAfter q (p.left ∷ ss) → AllowsAfter q (p.right ++ ss)
unfolding rule_test
side-allows p m q ss o =
    let e = le-ltb p.left leaf_count (left-high m) in
    let w : T (in_pairs (get_or befores (p.left - leaf_count) []) q.0 q.1) = rw e at o.0 in
    let u : (c d : ℕ) → T (in_pairs (get_or afters (p.left - leaf_count) []) c d) → Allows c d ss = rw e at o.1 in
    let t = pair-passes (λ a b. walk (get_or afters (p.left - leaf_count) []) a b p.right) (get_or befores (p.left - leaf_count) []) q.0 q.1 (rule-walks m) w in
    walk-allows (get_or afters (p.left - leaf_count) []) p.right ss q.0 q.1 t u

abbrev pub WindowedEach : List Reading → Type 0
WindowedEach earlier = Kept two_after (0, 0) Windowed earlier

program-allows : AllowsAfter (0, 0) (Program ∷ [])
unfolding befores same_pair
program-allows = (tt, λ c d m. tt)

pub windowed-each : (text : List ℕ) (before : List Reading) (x : Reading) (after : List Reading) → readings text ≡ before ++ (x ∷ after) → x.fits ≡ true → WindowedEach (x ∷ latest_first before)
windowed-each text before x after e f = kept (ℕ × ℕ) two_after (0, 0) Windowed AllowsAfter leaf-allows side-allows text x after f before e program-allows
