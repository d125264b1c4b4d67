-- How many bodies are open after the leaves of symbols: as many as the symbols themselves open.
-- Assumes nothing.
use mathlib.Core.Path.{◌≡◌, refl, sym, ap, subst, ◌∙◌}
use mathlib.Core.List.{List, [], ◌∷◌, ◌++◌}
use mathlib.Core.Bool.{Bool}
use Prim.Native.Nat.{ℕ, ◌+◌}
use native.Mathlib.Nat.{add-zero}
use native.Mathlib.Omega.{arith}
use lib.Dec.{T, eqb, eqb→eq, ltb}
use Rattle.grammar.specs.Symbols.{BodyClose}
use Rattle.grammar.specs.Grammar.{Production, grammar}
use Rattle.grammar.specs.Derivation.{◌∈◌}
use Rattle.grammar.specs.Leaves.{Yields, nothing, itself, right}
use Rattle.grammar.proofs.TableTest.{both, both_left, both_right, implies}
use Rattle.grammar.proofs.CellView.{rule-passes}
use Rattle.grammar.proofs.Exact.{left-high}
use Rattle.program.specs.Parts.{depth_after}
use Rattle.program.proofs.PlaceLaw.{depth-shift, high-depth}

abbrev pub depth_through : ℕ → List ℕ → ℕ
depth_through d [] = d
depth_through d (r ∷ rs) = depth_through (depth_after d r) rs

-- j bodies are open: all of them are closed at the end, and none is closed that is not open
abbrev closes : ℕ → List ℕ → Bool
closes j [] = eqb j 0
closes j (x ∷ xs) = both (implies (eqb x BodyClose) (ltb 0 j)) (closes (depth_after j x) xs)

rule-closes : {p : Production} → p ∈ grammar → T (closes 0 p.right)
unfolding grammar depth_after
rule-closes m = rule-passes (λ p. closes 0 p.right) m tt

through : (d : ℕ) (xs ss : List ℕ) (j : ℕ) → T (closes j xs) → depth_through (d + j) (xs ++ ss) ≡ depth_through d ss
through d [] ss j t = let e : d + j ≡ d = (let q : j ≡ 0 = eqb→eq j 0 t in omega arith) in ap (λ (n : ℕ). depth_through n ss) e
through d (x ∷ xs) ss j t =
    let a = implies (eqb x BodyClose) (ltb 0 j) in
    let b = closes (depth_after j x) xs in
    ap (λ (n : ℕ). depth_through n (xs ++ ss)) (depth-shift d j x (both_left a b t)) ∙ through d xs ss (depth_after j x) (both_right a b t)

pub yields-depth : {ss ls : List ℕ} → Yields ss ls → (d : ℕ) → depth_through d ls ≡ depth_through d ss
yields-depth nothing d = refl
yields-depth (itself {leaf} h y) d = yields-depth y (depth_after d leaf)
yields-depth (right {p} {ss} m y) d =
    yields-depth y d ∙
    (ap (λ (n : ℕ). depth_through n (p.right ++ ss)) (sym (add-zero d)) ∙
    (through d p.right ss 0 (rule-closes m) ∙ ap (λ (n : ℕ). depth_through n ss) (sym (high-depth d p.left (left-high m)))))

pub depth-append : (xs ys : List ℕ) (d : ℕ) → depth_through d (xs ++ ys) ≡ depth_through (depth_through d xs) ys
depth-append [] ys d = refl
depth-append (x ∷ xs) ys d = depth-append xs ys (depth_after d x)
