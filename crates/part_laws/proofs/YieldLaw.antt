-- What symbols yield, taken apart: by a symbol's own alternatives, and at the end of some of the symbols.
-- Assumes nothing.
use mathlib.Core.Path.{◌≡◌, refl, sym, ap, subst, ◌∙◌}
use mathlib.Core.List.{List, [], ◌∷◌, ◌++◌, append_assoc}
use mathlib.Core.Bool.{Bool, true, false}
use Prim.Native.Nat.{ℕ, zero, suc, ◌<◌, ◌≤◌}
use native.Mathlib.Omega.{arith}
use lib.Dec.{eqb}
use borrow.Author.Tests.{eq-eqb}
use Rattle.lists.specs.Lists.{pick}
use Rattle.grammar.specs.Symbols.{leaf_count}
use Rattle.grammar.specs.Grammar.{Production, grammar}
use Rattle.grammar.specs.Derivation.{◌∈◌, here, there}
use Rattle.grammar.specs.Leaves.{Yields, nothing, itself, right}

-- the productions of a symbol
abbrev pub those : ℕ → List Production → List Production
those s [] = []
those s (p ∷ ps) = pick (eqb p.left s) (p ∷ those s ps) (those s ps)

kept-first : (b : Bool) {p : Production} (ps : List Production) → b ≡ true → p ∈ pick b (p ∷ ps) ps
kept-first true ps e = here
kept-first false ps e = let z : ◌≡◌ {A = ℕ} 0 1 = cc in absurd (omega arith)

kept-later : (b : Bool) {p : Production} (q : Production) (ps : List Production) → p ∈ ps → p ∈ pick b (q ∷ ps) ps
kept-later true q ps m = there m
kept-later false q ps m = m

one_of : (s : ℕ) {p : Production} {ps : List Production} → p ∈ ps → p.left ≡ s → p ∈ those s ps
one_of s (here {p} {ps}) e = kept-first (eqb p.left s) (those s ps) (eq-eqb _ _ e)
one_of s (there {p} {q} {ps} m) e = kept-later (eqb q.left s) q (those s ps) (one_of s m e)

-- a symbol that is no leaf yields what one of its alternatives yields
pub record By (s : ℕ) (ss ls : List ℕ) : Type 0 where
  pub production : Production
  pub alternative : production ∈ those s grammar
  pub yields : Yields (production.right ++ ss) ls

first_by : {zs ls : List ℕ} → Yields zs ls → (s : ℕ) (ss : List ℕ) → zs ≡ s ∷ ss → leaf_count ≤ s → By s ss ls
first_by nothing s ss e h = let z : ◌≡◌ {A = ℕ} 0 1 = cc in absurd (omega arith)
first_by (itself {leaf} g d) s ss e h = let q : leaf ≡ s = cc in absurd (omega arith)
first_by (right {p} {ss = rest} {ls} m d) s ss e h =
    let q : p.left ≡ s = cc in
    let r : rest ≡ ss = cc in
    record { production = p; alternative = one_of s m q; yields = subst (λ (l : List ℕ). Yields (p.right ++ l) ls) r d }

pub by-alternative : {s : ℕ} {ss ls : List ℕ} → leaf_count ≤ s → Yields (s ∷ ss) ls → By s ss ls
by-alternative {s} {ss} h d = first_by d s ss refl h

-- what xs and then ss yield is what xs yield and then what ss yield
pub record Two (xs ss ls : List ℕ) : Type 0 where
  pub first : List ℕ
  pub second : List ℕ
  pub whole : ls ≡ first ++ second
  pub ahead : Yields xs first
  pub behind : Yields ss second

none_ahead : {zs ls : List ℕ} (ss : List ℕ) → Yields zs ls → zs ≡ ss → Two [] ss ls
none_ahead {ls} ss d e = record { first = []; second = ls; whole = refl; ahead = nothing; behind = subst (λ (l : List ℕ). Yields l ls) e d }

split : {zs ls : List ℕ} → Yields zs ls → (xs ss : List ℕ) → zs ≡ xs ++ ss → Two xs ss ls
split nothing [] ss e = none_ahead ss nothing e
split nothing (x ∷ xs) ss e = let z : ◌≡◌ {A = ℕ} 0 1 = cc in absurd (omega arith)
split (itself h d) [] ss e = none_ahead ss (itself h d) e
split (itself {leaf} {ss = rest} h d) (x ∷ xs) ss e =
    let q : leaf ≡ x = cc in
    let r : rest ≡ xs ++ ss = cc in
    let t = split d xs ss r in
    record {
      first = leaf ∷ t.first;
      second = t.second;
      whole = ap (λ (l : List ℕ). leaf ∷ l) t.whole;
      ahead = subst (λ (n : ℕ). Yields (n ∷ xs) (leaf ∷ t.first)) q (itself h t.ahead);
      behind = t.behind;
    }
split (right m d) [] ss e = none_ahead ss (right m d) e
split (right {p} {ss = rest} m d) (x ∷ xs) ss e =
    let q : p.left ≡ x = cc in
    let r : rest ≡ xs ++ ss = cc in
    let t = split d (p.right ++ xs) ss (ap (λ (l : List ℕ). p.right ++ l) r ∙ sym (append_assoc p.right xs ss)) in
    record {
      first = t.first;
      second = t.second;
      whole = t.whole;
      ahead = subst (λ (n : ℕ). Yields (n ∷ xs) t.first) q (right m t.ahead);
      behind = t.behind;
    }

pub yields-split : (xs : List ℕ) {ss ls : List ℕ} → Yields (xs ++ ss) ls → Two xs ss ls
yields-split xs {ss} d = split d xs ss refl
