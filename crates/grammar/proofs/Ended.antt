-- A program's last token is the text's end: the machine expects nothing after it, and always something before it.
-- Assumes nothing.
use mathlib.Core.Path.{◌≡◌, refl, subst}
use mathlib.Core.List.{List, [], ◌∷◌, ◌++◌, append-nil}
use mathlib.Core.Bool.{Bool, true, false}
use Prim.Native.Nat.{ℕ, ◌<◌}
use native.Mathlib.Omega.{arith}
use lib.Dec.{T, eqb}
use lib.ListN.{get_or}
use borrow.Author.Tests.{ne_eqb}
use Rattle.lists.specs.Lists.{pick}
use Rattle.grammar.specs.Symbols.{END, End, Program, among_symbols, matches, leaf_kinds, leaf_count, kind_count}
use Rattle.grammar.specs.Grammar.{Production, grammar}
use Rattle.grammar.specs.Derivation.{◌∈◌}
use Rattle.grammar.specs.Machine.{Cell, takes, on_cell, step}
use Rattle.grammar.proofs.TableTest.{both, both_left, both_right, or, implies, implied, true-T, at, up_to, up-to}
use Rattle.grammar.proofs.CellView.{View, none, empty, leaf, rule, view, rule-passes}
use Rattle.grammar.proofs.Sound.{is_empty, empty_right}
use Rattle.grammar.proofs.Exact.{leaf-bounds}

-- the symbols that only a text's end closes
abbrev outer : ℕ → Bool
outer s = or (eqb s End) (eqb s Program)

-- the last symbol is of these, and no other
abbrev pub ended : List ℕ → Bool
ended [] = false
ended (s ∷ ss) = pick (outer s) (is_empty ss) (ended ss)

abbrev inner : List ℕ → Bool
inner [] = true
inner (s ∷ ss) = pick (outer s) false (inner ss)

-- what is expected after a token of this kind
abbrev after_kind : ℕ → List ℕ → Bool
after_kind k rest = pick (eqb k END) (is_empty rest) (ended rest)

inner-case : (b : Bool) (xs ss : List ℕ) → T (pick b false (inner xs)) → (T (inner xs) → T (ended (xs ++ ss))) → T (pick b (is_empty (xs ++ ss)) (ended (xs ++ ss)))
inner-case true xs ss t f = absurd t
inner-case false xs ss t f = f t

inner-append : (xs ss : List ℕ) → T (inner xs) → T (ended ss) → T (ended (xs ++ ss))
inner-append [] ss t u = u
inner-append (x ∷ xs) ss t u = inner-case (outer x) xs ss t (λ v. inner-append xs ss v u)

-- the productions
abbrev end_test : ℕ → List ℕ → Bool
end_test s [] = pick (outer s) false true
end_test s (l ∷ tail) = both (pick (eqb l End) false true) (pick (outer s) (ended tail) (inner tail))

rule_end : {p : Production} → p ∈ grammar → T (end_test p.left p.right)
unfolding grammar
rule_end m = rule-passes (λ p. end_test p.left p.right) m tt

-- only the leaf End allows the kind END
abbrev same : Bool → Bool → Bool
same a b = pick a b (pick b false true)

same-eq : (a b : Bool) → T (same a b) → a ≡ b
same-eq true true t = refl
same-eq true false t = absurd t
same-eq false true t = absurd t
same-eq false false t = refl

leaf_test : ℕ → List ℕ → Bool
leaf_test l ks = up_to kind_count (λ k. implies (among_symbols ks k) (same (eqb l End) (eqb k END)))

leaf-test : (l : ℕ) → l < leaf_count → T (leaf_test l (get_or leaf_kinds l []))
unfolding leaf_test leaf_kinds
leaf-test l h = at [] leaf_test leaf_kinds tt l h

leaf-end : (l k : ℕ) → matches l k ≡ true → eqb l End ≡ eqb k END
unfolding leaf_test matches
leaf-end l k m =
    let b = leaf-bounds l k m in
    let t = up-to kind_count (λ k. implies (among_symbols (get_or leaf_kinds l []) k) (same (eqb l End) (eqb k END))) k (leaf-test l b.0) b.1 in
    same-eq (eqb l End) (eqb k END) (implied (among_symbols (get_or leaf_kinds l []) k) (same (eqb l End) (eqb k END)) t (true-T (matches l k) m))

-- one step
unless : (b x y : Bool) → T (pick b false true) → T (pick b x y) → T y
unless true x y t u = absurd t
unless false x y t u = u

leaf-after : (x y z a b : Bool) → x ≡ z → y ≡ false → T (pick (or x y) a b) → T (pick z a b)
leaf-after true y z a b e f t = subst (λ (c : Bool). T (pick c a b)) e t
leaf-after false y z a b e f t = subst (λ (c : Bool). T (pick c a b)) e (subst (λ (c : Bool). T (pick c a b)) f t)

rule-rest : (b : Bool) (tail ss : List ℕ) → T (pick b (ended tail) (inner tail)) → T (pick b (is_empty ss) (ended ss)) → T (ended (tail ++ ss))
rule-rest true tail ss t u = rw (empty_right ss u, append-nil) t
rule-rest false tail ss t u = inner-append tail ss t u

rule-after : (x z a b : Bool) → T (pick x false true) → x ≡ z → T b → T (pick z a b)
rule-after true z a b t e u = absurd t
rule-after false z a b t e u = subst (λ (c : Bool). T (pick c a b)) e u

on-ended : {s k : ℕ} {c : Cell} (ss rest : List ℕ) (role : ℕ) (more : Cell) → View s k c → T (ended (s ∷ ss)) →
    (T (ended ss) → more ≡ takes role rest → T (after_kind k rest)) → on_cell c ss more ≡ takes role rest → T (after_kind k rest)
on-ended ss rest role more none t ih e = let z : ◌≡◌ {A = ℕ} 0 1 = cc in absurd (omega arith)
on-ended {s} ss rest role more (empty m) t ih e = ih (unless (outer s) (is_empty ss) (ended ss) (rule_end m) t) e
on-ended {s} {k} ss rest role more (leaf m) t ih e =
    let q : ss ≡ rest = cc in
    let b = leaf-bounds s k m in
    let n : eqb s Program ≡ false = ne_eqb s Program (λ w. omega arith) in
    subst (λ (l : List ℕ). T (after_kind k l)) q (leaf-after (eqb s End) (eqb s Program) (eqb k END) (is_empty ss) (ended ss) (leaf-end s k m) n t)
on-ended {s} {k} ss rest role more (rule {l} {tail} m f) t ih e =
    let q : tail ++ ss ≡ rest = cc in
    let a = pick (eqb l End) false true in
    let b = pick (outer s) (ended tail) (inner tail) in
    subst (λ (l : List ℕ). T (after_kind k l)) q
    (rule-after (eqb l End) (eqb k END) (is_empty (tail ++ ss)) (ended (tail ++ ss)) (both_left a b (rule_end m)) (leaf-end l k f)
    (rule-rest (outer s) tail ss (both_right a b (rule_end m)) t))

step-ended : (ss : List ℕ) (k role : ℕ) (rest : List ℕ) → step ss k ≡ takes role rest → T (ended ss) → T (after_kind k rest)
unfolding step
step-ended [] k role rest e t = absurd t
step-ended (s ∷ ss) k role rest e t = on-ended ss rest role (step ss k) (view s k) t (λ u q. step-ended ss k role rest q u) e

pub end-empties : (ss : List ℕ) (role : ℕ) (rest : List ℕ) → step ss END ≡ takes role rest → T (ended ss) → rest ≡ []
end-empties ss role rest e t = empty_right rest (step-ended ss END role rest e t)

pub else-goes-on : (ss : List ℕ) (k role : ℕ) (rest : List ℕ) → step ss k ≡ takes role rest → T (ended ss) → (k ≡ END → ⊥) → T (ended rest)
else-goes-on ss k role rest e t n = let q : eqb k END ≡ false = ne_eqb k END n in rw q at (step-ended ss k role rest e t)
