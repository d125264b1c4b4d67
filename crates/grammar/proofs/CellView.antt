-- Each cell stands for a leaf or for a production of the grammar; a test of every production; the machine on several tokens.
-- Assumes nothing.
use mathlib.Core.Path.{◌≡◌, refl, subst}
use mathlib.Core.List.{List, [], ◌∷◌}
use mathlib.Core.Bool.{Bool, true, false}
use Prim.Native.Nat.{ℕ}
use lib.Dec.{T, eqb, ltb}
use borrow.Author.Tests.{eqb-true}
use Rattle.lists.specs.Lists.{pick}
use Rattle.grammar.specs.Symbols.{matches, leaf_count, kind_count, symbol_count}
use Rattle.grammar.specs.Grammar.{Production, ◌⟶◌, grammar}
use Rattle.grammar.specs.Derivation.{◌∈◌, here, there}
use Rattle.grammar.specs.Machine.{Cell, fails, skips, takes, or_else, choose, cell, step}
use Rattle.grammar.proofs.TableTest.{both, both_left, both_right}

pub data View (s k : ℕ) : Cell → Type 0 where
  none : View s k fails
  empty : (s ⟶ []) ∈ grammar → View s k skips
  leaf : matches s k ≡ true → View s k (takes s [])
  rule : {l : ℕ} {tail : List ℕ} → (s ⟶ l ∷ tail) ∈ grammar → matches l k ≡ true → View s k (takes l tail)

view-pick : (s k : ℕ) (b : Bool) (x y : Cell) → (b ≡ true → View s k x) → View s k y → View s k (pick b x y)
view-pick s k true x y f g = f refl
view-pick s k false x y f g = g

alternative : (s k : ℕ) (right : List ℕ) (others : Cell) → (s ⟶ right) ∈ grammar → View s k others → View s k (or_else right k others)
alternative s k [] others m v = empty m
alternative s k (l ∷ tail) others m v = view-pick s k (matches l k) (takes l tail) others (λ e. rule m e) v

alternatives : (s k : ℕ) (ps : List Production) → ((p : Production) → p ∈ ps → p ∈ grammar) → View s k (choose ps s k)
alternatives s k [] sub = none
alternatives s k (p ∷ ps) sub =
    let v = alternatives s k ps (λ q m. sub q (there m)) in
    view-pick s k (eqb p.left s) (or_else p.right k (choose ps s k)) (choose ps s k)
    (λ e. alternative s k p.right (choose ps s k) (subst (λ (l : ℕ). (l ⟶ p.right) ∈ grammar) (eqb-true p.left s e) (sub p here)) v)
    v

pub view : (s k : ℕ) → View s k (cell s k)
unfolding cell
view s k =
    view-pick s k (ltb s symbol_count) _ fails
    (λ _. view-pick s k (ltb k kind_count) _ fails
    (λ _. view-pick s k (ltb s leaf_count) _ (choose grammar s k)
    (λ _. view-pick s k (matches s k) (takes s []) fails (λ e. leaf e) none)
    (alternatives s k grammar (λ p m. m)))
    none) none

-- a test that every production passes
abbrev pub each_rule : (Production → Bool) → List Production → Bool
each_rule f [] = true
each_rule f (p ∷ ps) = both (f p) (each_rule f ps)

pub rule-passes : {p : Production} {ps : List Production} (f : Production → Bool) → p ∈ ps → T (each_rule f ps) → T (f p)
rule-passes f (here {p} {ps}) t = both_left (f p) (each_rule f ps) t
rule-passes f (there {p} {q} {ps} m) t = rule-passes f m (both_right (f q) (each_rule f ps) t)

-- the machine takes these kinds one after the other, and then expects these symbols
pub data Ran : List ℕ → List ℕ → List ℕ → Type 0 where
  stay : {ss : List ℕ} → Ran ss [] ss
  eat : {ss rest out ks : List ℕ} {kind role : ℕ} → step ss kind ≡ takes role rest → Ran rest ks out → Ran ss (kind ∷ ks) out
