-- What the grammar keeps from token to token holds at each token of a text up to the first that does not fit.
-- Assumes nothing.
use mathlib.Core.Path.{◌≡◌, refl, subst}
use mathlib.Core.Bool.{Bool, true, false}
use mathlib.Core.List.{List, [], ◌∷◌, ◌++◌}
use Prim.Native.Nat.{ℕ, zero, suc, ◌+◌, ◌<◌}
use native.Mathlib.Omega.{arith}
use lib.ListN.{length}
use Rattle.text.specs.Lex.{token_at}
use Rattle.text.specs.declared.Token.{Token}
use Rattle.grammar.specs.Symbols.{Program, leaf_count}
use Rattle.grammar.specs.Grammar.{Production, ◌⟶◌, grammar}
use Rattle.grammar.specs.Derivation.{◌∈◌}
use Rattle.grammar.specs.Machine.{Cell, fails, skips, takes, on_cell, step}
use Rattle.grammar.proofs.CellView.{View, none, empty, leaf, rule, view}
use Rattle.grammar.proofs.Exact.{leaf-bounds}
use Rattle.syntax.specs.Kinds.{kind_of}
use Rattle.syntax.specs.Readings.{Reading, reading, labelled, readings_from, readings_of, readings}
use Rattle.size_laws.specs.SizeSentences.{turned_onto, latest_first}

-- a state after the readings, the latest first
abbrev pub state_by : {A : Type 0} → (A → ℕ → A) → A → List Reading → A
state_by after first [] = first
state_by after first (x ∷ earlier) = after (state_by after first earlier) x.role

-- each reading is good by the state before it
abbrev pub Kept : {A : Type 0} → (A → ℕ → A) → A → (A → ℕ → Type 0) → List Reading → Type 0
Kept after first Good [] = Unit {0}
Kept after first Good (x ∷ earlier) = Good (state_by after first earlier) x.role × Kept after first Good earlier

no_end : (xs : List Reading) (x : Reading) (ys : List Reading) → [] ≡ xs ++ (x ∷ ys) → ⊥
no_end [] x ys e = let z : ◌≡◌ {A = ℕ} 0 1 = cc in omega arith
no_end (y ∷ xs) x ys e = let z : ◌≡◌ {A = ℕ} 0 1 = cc in omega arith

-- a token that does not fit is the last reading
not_last : (t : Token) (xs : List Reading) (x : Reading) (ys : List Reading) → reading false 0 t ∷ [] ≡ xs ++ (x ∷ ys) → x.fits ≡ true → ⊥
not_last t [] x ys e f =
    let q : reading false 0 t ≡ x = cc in
    let z : ◌≡◌ {A = ℕ} 0 1 = cc in omega arith
not_last t (y ∷ xs) x ys e f = let q : [] ≡ xs ++ (x ∷ ys) = cc in no_end xs x ys q

-- Ok: what holds of a state and the symbols that are expected
module _ (A : Type 0) (after : A → ℕ → A) (first : A) (Good : A → ℕ → Type 0) (Ok : A → List ℕ → Type 0)
    (leaf-ok : (q : A) (l : ℕ) (ss : List ℕ) → l < leaf_count → Ok q (l ∷ ss) → Good q l × Ok (after q l) ss)
    (rule-ok : (p : Production) → p ∈ grammar → (q : A) (ss : List ℕ) → Ok q (p.left ∷ ss) → Ok q (p.right ++ ss)) where
  abbrev Next : A → ℕ → List ℕ → Type 0
  Next q r rest = Good q r × Ok (after q r) rest

  next-same : (q : A) (l r : ℕ) (ss rest : List ℕ) → l ≡ r → ss ≡ rest → Next q l ss → Next q r rest
  next-same q l r ss rest a b n = subst (λ (k : ℕ). Next q k rest) a (subst (λ (l2 : List ℕ). Next q l l2) b n)

  cell-next : {s k : ℕ} {c : Cell} (v : View s k c) (ss : List ℕ) (more : Cell) (r : ℕ) (rest : List ℕ) (q : A) → (more ≡ takes r rest → Ok q ss → Next q r rest) →
      on_cell c ss more ≡ takes r rest → Ok q (s ∷ ss) → Next q r rest
  cell-next none ss more r rest q ih e o = let z : ◌≡◌ {A = ℕ} 0 1 = cc in absurd (omega arith)
  cell-next {s} (empty m) ss more r rest q ih e o = ih e (rule-ok (s ⟶ []) m q ss o)
  cell-next {s} {k} (leaf m) ss more r rest q ih e o =
      let a : s ≡ r = cc in
      let b : ss ≡ rest = cc in
      next-same q s r ss rest a b (leaf-ok q s ss (leaf-bounds s k m).0 o)
  cell-next {s} {k} (rule {l} {tail} m g) ss more r rest q ih e o =
      let a : l ≡ r = cc in
      let b : tail ++ ss ≡ rest = cc in
      next-same q l r (tail ++ ss) rest a b (leaf-ok q l (tail ++ ss) (leaf-bounds l k g).0 (rule-ok (s ⟶ l ∷ tail) m q ss o))

  step-next : (ss : List ℕ) (k r : ℕ) (rest : List ℕ) (q : A) → step ss k ≡ takes r rest → Ok q ss → Next q r rest
  unfolding step
  step-next [] k r rest q e o = let z : ◌≡◌ {A = ℕ} 0 1 = cc in absurd (omega arith)
  step-next (s ∷ ss) k r rest q e o = cell-next (view s k) ss (step ss k) r rest q (λ f p. step-next ss k r rest q f p) e o

  abbrev Keeps : List Reading → Type 0
  Keeps earlier = Kept after first Good earlier

  module _ (text : List ℕ) (x : Reading) (ys : List Reading) (fit : x.fits ≡ true) where
    abbrev Reached : ℕ → List ℕ → ℕ → Type 0
    Reached n ss at =
        (earlier xs : List Reading) → readings_from n ss text at ≡ xs ++ (x ∷ ys) → Ok (state_by after first earlier) ss → Keeps earlier → Keeps (x ∷ turned_onto earlier xs)

    by-cell : (n : ℕ) (ss : List ℕ) (t : Token) (k : ℕ) (c : Cell) → step ss k ≡ c → ((rest : List ℕ) → Reached n rest t.end) → (earlier xs : List Reading) →
        labelled t c (λ rest. readings_from n rest text t.end) ≡ xs ++ (x ∷ ys) → Ok (state_by after first earlier) ss → Keeps earlier → Keeps (x ∷ turned_onto earlier xs)
    by-cell n ss t k fails s ih earlier xs e o g = absurd (not_last t xs x ys e fit)
    by-cell n ss t k skips s ih earlier xs e o g = absurd (not_last t xs x ys e fit)
    by-cell n ss t k (takes r rest) s ih earlier [] e o g =
        let q : reading true r t ≡ x = cc in
        let w : r ≡ x.role = cc in
        let u = step-next ss k r rest (state_by after first earlier) s o in
        (subst (λ (m : ℕ). Good (state_by after first earlier) m) w u.0, g)
    by-cell n ss t k (takes r rest) s ih earlier (y ∷ xs) e o g =
        let q : reading true r t ≡ y = cc in
        let w : r ≡ y.role = cc in
        let v : readings_from n rest text t.end ≡ xs ++ (x ∷ ys) = cc in
        let u = subst (λ (m : ℕ). Next (state_by after first earlier) m rest) w (step-next ss k r rest (state_by after first earlier) s o) in
        ih rest (y ∷ earlier) xs v u.1 (u.0, g)

    reached : (n : ℕ) (ss : List ℕ) (at : ℕ) → Reached n ss at
    unfolding readings_from
    reached zero ss at earlier xs e o g = absurd (no_end xs x ys e)
    reached (suc n) [] at earlier xs e o g = absurd (no_end xs x ys e)
    reached (suc n) (s ∷ ss) at earlier xs e o g =
        let t = token_at text at in
        by-cell n (s ∷ ss) t (kind_of text t) (step (s ∷ ss) (kind_of text t)) refl (λ rest. reached n rest t.end) earlier xs e o g

    -- the text's readings up to x, which fits
    pub kept : (xs : List Reading) → readings text ≡ xs ++ (x ∷ ys) → Ok first (Program ∷ []) → Keeps (x ∷ latest_first xs)
    unfolding readings readings_of
    kept xs e o = reached (length text + 1) (Program ∷ []) 0 [] xs e o tt
