-- The bodies that are open at a token, as the tally counts them: those opened before and not closed.
-- Assumes nothing.
use mathlib.Core.Path.{◌≡◌, refl, sym, subst}
use mathlib.Core.Bool.{Bool, true, false}
use mathlib.Core.List.{List, [], ◌∷◌, ◌++◌}
use Prim.Native.Nat.{ℕ, ◌+◌, ◌-◌, ◌<◌}
use native.Mathlib.Nat.{add-zero}
use native.Mathlib.Omega.{arith}
use lib.Dec.{T, eqb, eqb→eq, ltb, ltb→lt, lt→ltb}
use borrow.Author.Tests.{eqb-true}
use Rattle.lists.specs.Lists.{pick}
use Rattle.grammar.specs.Symbols.{BodyOpen, BodyClose, leaf_count}
use Rattle.grammar.specs.Grammar.{Production, grammar}
use Rattle.grammar.specs.Derivation.{◌∈◌}
use Rattle.grammar.proofs.TableTest.{both, both_left, both_right, both-make, implies}
use Rattle.grammar.proofs.CellView.{rule-passes}
use Rattle.grammar.proofs.Exact.{left-high}
use Rattle.syntax.specs.Readings.{Reading, readings}
use Rattle.program.specs.Parts.{depth_after}
use Rattle.program.proofs.PlaceLaw.{depth-shift, high-depth}
use Rattle.size_laws.specs.SizeSentences.{latest_first, of_role, open_bodies}
use Rattle.size_laws.proofs.MachineLaw.{state_by, Kept, kept}

-- where a body is closed, one is open
abbrev pub Opened : ℕ → ℕ → Type 0
Opened d r = T (implies (eqb r BodyClose) (ltb 0 d))

-- of the symbols expected where d bodies are open: all of them are closed at the end, and none is closed that is not open
abbrev closes_all : ℕ → List ℕ → Bool
closes_all d [] = eqb d 0
closes_all d (x ∷ xs) = both (implies (eqb x BodyClose) (ltb 0 d)) (closes_all (depth_after d x) xs)

rule-closes : {p : Production} → p ∈ grammar → T (closes_all 0 p.right)
unfolding grammar depth_after
rule-closes m = rule-passes (λ p. closes_all 0 p.right) m tt

deeper : (d j : ℕ) (b : Bool) → T (implies b (ltb 0 j)) → T (implies b (ltb 0 (d + j)))
deeper d j true t = let h = ltb→lt 0 j t in lt→ltb 0 (d + j) (omega arith)
deeper d j false t = tt

closes-append : (d : ℕ) (xs ss : List ℕ) (j : ℕ) → T (closes_all j xs) → T (closes_all d ss) → T (closes_all (d + j) (xs ++ ss))
closes-append d [] ss j t u = let e : d ≡ d + j = (let q : j ≡ 0 = eqb→eq j 0 t in omega arith) in subst (λ (n : ℕ). T (closes_all n ss)) e u
closes-append d (x ∷ xs) ss j t u =
    let a = implies (eqb x BodyClose) (ltb 0 j) in
    let b = closes_all (depth_after j x) xs in
    let l = both_left a b t in
    both-make (implies (eqb x BodyClose) (ltb 0 (d + j))) (closes_all (depth_after (d + j) x) (xs ++ ss)) (deeper d j (eqb x BodyClose) l)
    (subst (λ (n : ℕ). T (closes_all n (xs ++ ss))) (sym (depth-shift d j x l)) (closes-append d xs ss (depth_after j x) (both_right a b t) u))

abbrev Closes : ℕ → List ℕ → Type 0
Closes d ss = T (closes_all d ss)

leaf-closes : (d l : ℕ) (ss : List ℕ) → l < leaf_count → Closes d (l ∷ ss) → Opened d l × Closes (depth_after d l) ss
leaf-closes d l ss h t =
    let a = implies (eqb l BodyClose) (ltb 0 d) in
    let b = closes_all (depth_after d l) ss in
    (both_left a b t, both_right a b t)

side-closes : (p : Production) → p ∈ grammar → (d : ℕ) (ss : List ℕ) → Closes d (p.left ∷ ss) → Closes d (p.right ++ ss)
side-closes p m d ss t =
    let u = both_right (implies (eqb p.left BodyClose) (ltb 0 d)) (closes_all (depth_after d p.left) ss) t in
    let v : T (closes_all d ss) = subst (λ (n : ℕ). T (closes_all n ss)) (high-depth d p.left (left-high m)) u in
    subst (λ (n : ℕ). T (closes_all n (p.right ++ ss))) (add-zero d) (closes-append d p.right ss 0 (rule-closes m) v)

abbrev pub OpenedEach : List Reading → Type 0
OpenedEach earlier = Kept depth_after 0 Opened earlier

-- in a text no body is closed that is not open
pub opened-each : (text : List ℕ) (before : List Reading) (x : Reading) (after : List Reading) → readings text ≡ before ++ (x ∷ after) → x.fits ≡ true → OpenedEach (x ∷ latest_first before)
unfolding depth_after
opened-each text before x after e f = kept ℕ depth_after 0 Opened Closes leaf-closes side-closes text x after f before e tt

one-count : (d c o : ℕ) (a b : Bool) → (a ≡ true → b ≡ true → ⊥) → T (implies b (ltb 0 d)) → d + c ≡ o →
    pick a (d + 1) (pick b (d - 1) d) + (c + pick b 1 0) ≡ o + pick a 1 0
one-count d c o true true n t e = absurd (n refl refl)
one-count d c o true false n t e = omega arith
one-count d c o false true n t e = let h = ltb→lt 0 d t in omega arith
one-count d c o false false n t e = omega arith

apart : (r : ℕ) → eqb r BodyOpen ≡ true → eqb r BodyClose ≡ true → ⊥
apart r e f = let a = eqb-true r BodyOpen e in let b = eqb-true r BodyClose f in omega arith

open-count : (earlier : List Reading) → OpenedEach earlier → state_by depth_after 0 earlier + of_role BodyClose earlier ≡ of_role BodyOpen earlier
unfolding depth_after
open-count [] k = refl
open-count (x ∷ earlier) k =
    one-count (state_by depth_after 0 earlier) (of_role BodyClose earlier) (of_role BodyOpen earlier) (eqb x.role BodyOpen) (eqb x.role BodyClose) (apart x.role) k.0 (open-count earlier k.1)

pub depth-open : (earlier : List Reading) → OpenedEach earlier → state_by depth_after 0 earlier ≡ open_bodies earlier
depth-open earlier k = let a = open-count earlier k in omega arith
