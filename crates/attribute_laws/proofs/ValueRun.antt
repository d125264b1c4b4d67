-- The roles of an op's tokens, attribute by attribute: after the name `=` and one of the four forms of a value. No role of a value stands anywhere else.
-- Assumes nothing.
use mathlib.Core.Path.{◌≡◌, refl, sym, ap, subst, ◌∙◌}
use mathlib.Core.List.{List, [], ◌∷◌, ◌++◌}
use mathlib.Core.Bool.{Bool, true, false, not, ◌&&◌}
use Prim.Native.Nat.{ℕ, ◌<◌, ◌≤◌}
use native.Mathlib.Omega.{arith}
use lib.Dec.{T, eqb, eqb→eq, leb}
use borrow.Author.Tests.{ne_eqb, leb-true}
use Rattle.lists.specs.Lists.{pick}
use Rattle.grammar.specs.Symbols.{AttributeName, SingleNumber, ListNumber, ChoiceKind, Choice, ElementLiteral, DenseOpen, DenseClose, DenseType, langle, rangle, comma, colon, equals, dialect, array, dense, i64, Op, Value, Numbers, MoreNumbers, Dense, DenseItems, MoreItems, among_symbols}
use Rattle.grammar.specs.Grammar.{Production, grammar}
use Rattle.grammar.specs.Derivation.{◌∈◌}
use Rattle.grammar.specs.Leaves.{Yields, nothing, itself, right}
use Rattle.grammar.proofs.TableTest.{both, both_left, both_right, implies, implied, up_to, up-to, T_true}
use Rattle.grammar.proofs.CellView.{rule-passes}

-- in a state, one of these symbols leads to another state
pub record Arc : Type 0 where
  pub source : ℕ
  pub symbols : List ℕ
  pub target : ℕ

abbrev arc : ℕ → List ℕ → ℕ → Arc
arc s rs t = record { source = s; symbols = rs; target = t }

-- 0 outside of an attribute, 1 after its name, 2 after `=`; 3 after `array`, 4 after `<`, 5 before a mark of the list, 6 before a number; 7 after `dense`, 8 after `<`,
-- 9 in the literal, 10 after `>`, 11 after `:`; 12 after `#stablehlo`, 13 after `<`, 14 after the first word, 15 after the second; 16: the symbol can not come there
abbrev pub arcs : List Arc
arcs =
    arc 1 (equals ∷ []) 2
    ∷ arc 2 (SingleNumber ∷ Value ∷ []) 0
    ∷ arc 2 (array ∷ []) 3
    ∷ arc 3 (langle ∷ []) 4
    ∷ arc 4 (i64 ∷ []) 5
    ∷ arc 5 (Numbers ∷ MoreNumbers ∷ []) 5
    ∷ arc 5 (colon ∷ comma ∷ []) 6
    ∷ arc 5 (rangle ∷ []) 0
    ∷ arc 6 (ListNumber ∷ []) 5
    ∷ arc 2 (dense ∷ []) 7
    ∷ arc 7 (langle ∷ []) 8
    ∷ arc 8 (ElementLiteral ∷ DenseOpen ∷ Dense ∷ []) 9
    ∷ arc 9 (ElementLiteral ∷ DenseOpen ∷ DenseClose ∷ comma ∷ Dense ∷ DenseItems ∷ MoreItems ∷ []) 9
    ∷ arc 9 (rangle ∷ []) 10
    ∷ arc 10 (colon ∷ []) 11
    ∷ arc 11 (DenseType ∷ []) 0
    ∷ arc 2 (dialect ∷ []) 12
    ∷ arc 12 (langle ∷ []) 13
    ∷ arc 13 (ChoiceKind ∷ []) 14
    ∷ arc 14 (Choice ∷ []) 15
    ∷ arc 15 (rangle ∷ []) 0
    ∷ []

abbrev pub along : List Arc → ℕ → ℕ → ℕ
along [] s r = 16
along (a ∷ others) s r = let rest = along others s r in pick (eqb s a.source && among_symbols a.symbols r) a.target rest

-- the symbols of a value's inside: none of them comes outside of an attribute
abbrev pub inside : List ℕ
inside = SingleNumber ∷ ListNumber ∷ ChoiceKind ∷ Choice ∷ ElementLiteral ∷ DenseOpen ∷ DenseClose ∷ DenseType ∷ Value ∷ Numbers ∷ MoreNumbers ∷ Dense ∷ DenseItems ∷ MoreItems ∷ []

abbrev pub next : ℕ → ℕ → ℕ
next s r = pick (eqb s 0) (pick (eqb r AttributeName) 1 (pick (among_symbols inside r) 16 0)) (along arcs s r)

abbrev pub run : ℕ → List ℕ → ℕ
run s [] = s
run s (r ∷ rs) = run (next s r) rs

-- ---- what can not come

abbrev pub each_arc : (Arc → Bool) → List Arc → Bool
each_arc f [] = true
each_arc f (a ∷ others) = both (f a) (each_arc f others)

pick_small : (b : Bool) (x y : ℕ) → x ≤ 16 → y ≤ 16 → pick b x y ≤ 16
pick_small true x y h g = h
pick_small false x y h g = g

along-small : (others : List Arc) (s r : ℕ) → T (each_arc (λ a. leb a.target 16) others) → along others s r ≤ 16
along-small [] s r t = omega arith
along-small (a ∷ others) s r t =
    let f = leb a.target 16 in
    let g = each_arc (λ a. leb a.target 16) others in
    pick_small (eqb s a.source && among_symbols a.symbols r) a.target (along others s r) (leb-true a.target 16 (T_true f (both_left f g t))) (along-small others s r (both_right f g t))

next_small : (s r : ℕ) → next s r ≤ 16
next_small s r =
    pick_small (eqb s 0) _ (along arcs s r) (pick_small (eqb r AttributeName) 1 _ (omega arith) (pick_small (among_symbols inside r) 16 0 (omega arith) (omega arith))) (along-small arcs s r tt)

-- no arc has this symbol
no-arc : (others : List Arc) (s r : ℕ) → T (each_arc (λ a. not (among_symbols a.symbols r)) others) → along others s r ≡ 16
no-arc [] s r t = refl
no-arc (a ∷ others) s r t =
    let f = not (among_symbols a.symbols r) in
    let g = each_arc (λ a. not (among_symbols a.symbols r)) others in
    skipped (eqb s a.source) (among_symbols a.symbols r) (both_left f g t) ∙ no-arc others s r (both_right f g t)
  where
    skipped : (b c : Bool) → T (not c) → pick (b && c) a.target (along others s r) ≡ along others s r
    skipped true true t = absurd t
    skipped true false t = refl
    skipped false c t = refl

run-wrong : (rs : List ℕ) → run 16 rs ≡ 16
run-wrong [] = refl
run-wrong (r ∷ rs) = ap (λ (s : ℕ). run s rs) refl ∙ run-wrong rs

pub stuck : (rs : List ℕ) → run 16 rs ≡ 0 → ⊥
stuck rs e = let z = run-wrong rs in omega arith

-- a run goes on from the next state
pub next-run : (s t r : ℕ) (rs : List ℕ) → next s r ≡ t → run s (r ∷ rs) ≡ 0 → run t rs ≡ 0
next-run s t r rs q e = subst (λ (n : ℕ). run n rs ≡ 0) q e

-- a symbol of no arc comes outside of attributes
pub outside-only : (s r : ℕ) (rs : List ℕ) → T (each_arc (λ a. not (among_symbols a.symbols r)) arcs) → run s (r ∷ rs) ≡ 0 → s ≡ 0
outside-only s r rs t e = by_state (eqb s 0) refl
  where
    by_state : (b : Bool) → eqb s 0 ≡ b → s ≡ 0
    by_state true q = eqb→eq s 0 (subst T (sym q) tt)
    by_state false q = absurd (stuck rs (next-run s 16 r rs (rw q (no-arc arcs s r t)) e))

-- ---- what symbols yield

run-append : (xs ys : List ℕ) (s : ℕ) → run s (xs ++ ys) ≡ run (run s xs) ys
run-append [] ys s = refl
run-append (x ∷ xs) ys s = run-append xs ys (next s x)

-- each production reads others far others its symbol
abbrev reads : Production → Bool
reads p = up_to 16 (λ s. implies (not (eqb (next s p.left) 16)) (eqb (run s p.right) (next s p.left)))

all_read : (p : Production) → p ∈ grammar → T (reads p)
unfolding grammar
all_read p m = rule-passes reads m tt

not_T : (b : Bool) → b ≡ false → T (not b)
not_T true e = let z : ◌≡◌ {A = ℕ} 0 1 = cc in absurd (omega arith)
not_T false e = tt

rule-run : {p : Production} (s : ℕ) → p ∈ grammar → s < 16 → (next s p.left ≡ 16 → ⊥) → run s p.right ≡ next s p.left
rule-run {p} s m h n =
    eqb→eq (run s p.right) (next s p.left)
    (implied (not (eqb (next s p.left) 16)) (eqb (run s p.right) (next s p.left))
    (up-to 16 (λ s. implies (not (eqb (next s p.left) 16)) (eqb (run s p.right) (next s p.left))) s (all_read p m) h) (not_T _ (ne_eqb (next s p.left) 16 n)))

yields-run : {ss ls : List ℕ} → Yields ss ls → (s : ℕ) → s < 16 → (run s ss ≡ 16 → ⊥) → run s ls ≡ run s ss
yields-run nothing s h n = refl
yields-run (itself {leaf} {ss} l y) s h n =
    let g = next_small s leaf in
    let d : next s leaf ≡ 16 → ⊥ = λ e. n (ap (λ (t : ℕ). run t ss) e ∙ run-wrong ss) in
    yields-run y (next s leaf) (below g d) n
  where
    below : next s leaf ≤ 16 → (next s leaf ≡ 16 → ⊥) → next s leaf < 16
    below g d = omega arith
yields-run (right {p} {ss} m y) s h n =
    let d : next s p.left ≡ 16 → ⊥ = λ e. n (ap (λ (t : ℕ). run t ss) e ∙ run-wrong ss) in
    let q : run s (p.right ++ ss) ≡ run (next s p.left) ss = run-append p.right ss s ∙ ap (λ (t : ℕ). run t ss) (rule-run s m h d) in
    yields-run y s h (λ e. n (sym q ∙ e)) ∙ q

-- the roles of an op
pub op-run : {ls : List ℕ} → Yields (Op ∷ []) ls → run 0 ls ≡ 0
op-run y = yields-run y 0 (omega arith) (λ e. omega arith)
