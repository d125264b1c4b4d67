-- What comes after the name of an attribute in a text of the grammar: `=` and a value, and where that is a dense value its literal in `< >`, `:` and a type.
-- Assumes nothing.
use mathlib.Core.Path.{◌≡◌, refl, sym, ap, ◌∙◌}
use mathlib.Core.List.{List, [], ◌∷◌, ◌++◌}
use mathlib.Core.Bool.{Bool, true, false, not}
use Prim.Native.Nat.{ℕ, zero, suc, ◌<◌, ◌≤◌}
use native.Mathlib.Omega.{arith}
use lib.Dec.{T, eqb, eqb→eq}
use borrow.Author.Tests.{ne_eqb}
use Rattle.lists.specs.Lists.{pick}
use Rattle.grammar.specs.Symbols.{AttributeName, SingleNumber, ElementLiteral, DenseOpen, DenseClose, DenseType, langle, rangle, comma, colon, equals, dialect, array, dense, Program, Value, Dense, DenseItems, MoreItems, among_symbols}
use Rattle.grammar.specs.Grammar.{Production, grammar}
use Rattle.grammar.specs.Derivation.{◌∈◌}
use Rattle.grammar.specs.Leaves.{Yields, nothing, itself, right}
use Rattle.grammar.proofs.TableTest.{implies, implied, up_to, up-to}
use Rattle.grammar.proofs.CellView.{rule-passes}

-- how far an attribute is read: 0 outside of one, 1 after its name, 2 after `=`, 3 after `dense`, 4 in its `< >`, 5 after `>`, 6 after `:`; 7: the symbol can
-- not come there
abbrev pub next : ℕ → ℕ → ℕ
next zero r = pick (eqb r AttributeName) 1 (pick (among_symbols (Value ∷ Dense ∷ DenseItems ∷ MoreItems ∷ []) r) 7 0)
next (suc zero) r = pick (eqb r equals) 2 7
next (suc (suc zero)) r = pick (eqb r dense) 3 (pick (among_symbols (SingleNumber ∷ array ∷ dialect ∷ Value ∷ []) r) 0 7)
next (suc (suc (suc zero))) r = pick (eqb r langle) 4 7
next (suc (suc (suc (suc zero)))) r =
    pick (eqb r rangle) 5 (pick (among_symbols (ElementLiteral ∷ DenseOpen ∷ DenseClose ∷ comma ∷ Dense ∷ DenseItems ∷ MoreItems ∷ []) r) 4 7)
next (suc (suc (suc (suc (suc zero))))) r = pick (eqb r colon) 6 7
next (suc (suc (suc (suc (suc (suc zero)))))) r = pick (eqb r DenseType) 0 7
next (suc (suc (suc (suc (suc (suc (suc s))))))) r = 7

abbrev pub run : ℕ → List ℕ → ℕ
run s [] = s
run s (r ∷ rs) = run (next s r) rs

pick_small : (b : Bool) (x y : ℕ) → x ≤ 7 → y ≤ 7 → pick b x y ≤ 7
pick_small true x y h g = h
pick_small false x y h g = g

next_small : (s r : ℕ) → next s r ≤ 7
next_small zero r = pick_small (eqb r AttributeName) 1 _ (omega arith) (pick_small (among_symbols (Value ∷ Dense ∷ DenseItems ∷ MoreItems ∷ []) r) 7 0 (omega arith) (omega arith))
next_small (suc zero) r = pick_small (eqb r equals) 2 7 (omega arith) (omega arith)
next_small (suc (suc zero)) r = pick_small (eqb r dense) 3 _ (omega arith) (pick_small (among_symbols (SingleNumber ∷ array ∷ dialect ∷ Value ∷ []) r) 0 7 (omega arith) (omega arith))
next_small (suc (suc (suc zero))) r = pick_small (eqb r langle) 4 7 (omega arith) (omega arith)
next_small (suc (suc (suc (suc zero)))) r =
    pick_small (eqb r rangle) 5 _ (omega arith) (pick_small (among_symbols (ElementLiteral ∷ DenseOpen ∷ DenseClose ∷ comma ∷ Dense ∷ DenseItems ∷ MoreItems ∷ []) r) 4 7 (omega arith) (omega arith))
next_small (suc (suc (suc (suc (suc zero))))) r = pick_small (eqb r colon) 6 7 (omega arith) (omega arith)
next_small (suc (suc (suc (suc (suc (suc zero)))))) r = pick_small (eqb r DenseType) 0 7 (omega arith) (omega arith)
next_small (suc (suc (suc (suc (suc (suc (suc s))))))) r = omega arith

run-wrong : (rs : List ℕ) → run 7 rs ≡ 7
run-wrong [] = refl
run-wrong (r ∷ rs) = run-wrong rs

pub stuck : (rs : List ℕ) → run 7 rs ≡ 0 → ⊥
stuck rs e = let z = run-wrong rs in omega arith

run-append : (xs ys : List ℕ) (s : ℕ) → run s (xs ++ ys) ≡ run (run s xs) ys
run-append [] ys s = refl
run-append (x ∷ xs) ys s = run-append xs ys (next s x)

-- each production reads as far as its symbol
abbrev reads : Production → Bool
reads p = up_to 7 (λ s. implies (not (eqb (next s p.left) 7)) (eqb (run s p.right) (next s p.left)))

all_read : (p : Production) → p ∈ grammar → T (reads p)
unfolding grammar
all_read p m = rule-passes reads m tt

not_T : (b : Bool) → b ≡ false → T (not b)
not_T true e = let z : ◌≡◌ {A = ℕ} 0 1 = cc in absurd (omega arith)
not_T false e = tt

rule-run : {p : Production} (s : ℕ) → p ∈ grammar → s < 7 → (next s p.left ≡ 7 → ⊥) → run s p.right ≡ next s p.left
rule-run {p} s m h n =
    eqb→eq (run s p.right) (next s p.left)
    (implied (not (eqb (next s p.left) 7)) (eqb (run s p.right) (next s p.left))
    (up-to 7 (λ s. implies (not (eqb (next s p.left) 7)) (eqb (run s p.right) (next s p.left))) s (all_read p m) h) (not_T _ (ne_eqb (next s p.left) 7 n)))

-- so do symbols and what they yield
pub yields-run : {ss ls : List ℕ} → Yields ss ls → (s : ℕ) → s < 7 → (run s ss ≡ 7 → ⊥) → run s ls ≡ run s ss
yields-run nothing s h n = refl
yields-run (itself {leaf} {ss} l y) s h n =
    let g = next_small s leaf in
    let d : next s leaf ≡ 7 → ⊥ = λ e. n (ap (λ (t : ℕ). run t ss) e ∙ run-wrong ss) in
    yields-run y (next s leaf) (below g d) n
  where
    below : next s leaf ≤ 7 → (next s leaf ≡ 7 → ⊥) → next s leaf < 7
    below g d = omega arith
yields-run (right {p} {ss} m y) s h n =
    let d : next s p.left ≡ 7 → ⊥ = λ e. n (ap (λ (t : ℕ). run t ss) e ∙ run-wrong ss) in
    let q : run s (p.right ++ ss) ≡ run (next s p.left) ss = run-append p.right ss s ∙ ap (λ (t : ℕ). run t ss) (rule-run s m h d) in
    yields-run y s h (λ e. n (sym q ∙ e)) ∙ q

-- the roles of a whole text
pub program-run : {ls : List ℕ} → Yields (Program ∷ []) ls → run 0 ls ≡ 0
program-run y = yields-run y 0 (omega arith) (λ e. omega arith)

-- an attribute's name comes outside of an attribute
pub named-run : (s : ℕ) (rs : List ℕ) → run (next s AttributeName) rs ≡ 0 → run 1 rs ≡ 0
named-run zero rs e = e
named-run (suc zero) rs e = absurd (stuck rs e)
named-run (suc (suc zero)) rs e = absurd (stuck rs e)
named-run (suc (suc (suc zero))) rs e = absurd (stuck rs e)
named-run (suc (suc (suc (suc zero)))) rs e = absurd (stuck rs e)
named-run (suc (suc (suc (suc (suc zero))))) rs e = absurd (stuck rs e)
named-run (suc (suc (suc (suc (suc (suc zero)))))) rs e = absurd (stuck rs e)
named-run (suc (suc (suc (suc (suc (suc (suc s))))))) rs e = absurd (stuck rs e)
