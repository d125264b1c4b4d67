-- One turn of the code's search for the symbol that takes a token, by the letter of the cell; and what the answer says of the array.
-- Assumes nothing.
use mathlib.Core.Path.{◌≡◌, refl, ap, sym, ◌∙◌}
use mathlib.Core.List.{List, [], ◌∷◌, ◌++◌}
use mathlib.Core.Bool.{true, false}
use Prim.Native.Nat.{ℕ, ◌+◌, ◌-◌, ◌<◌, ◌≤◌}
use native.Mathlib.Omega.{arith}
use native.Mathlib.Numerals.{add-one}
use lib.ListN.{length, get_or, drop, take, length-drop, take-append-drop, drop_of_length-le}
use lib.Seq.{drop-cons}
use borrow.Author.Tests.{ne_eqb, le-leb, lt-leb}
use Rattle.grammar.specs.Machine.{fails, takes, cell, on_cell, step}
use Rattle.grammar.specs.Tables.{lettered, right_of, head_of, tail_of}
use Rattle.grammar.specs.Advance.{advance, advance_by, step_outcome, Pushed, Advanced}

module _ (l : List ℕ) (i kind p : ℕ) (h : i < length l) (e : lettered (get_or l i 0) p ≡ cell (get_or l i 0) kind) where
  turn : step (drop i l) kind ≡ on_cell (lettered (get_or l i 0) p) (drop (i + 1) l) (step (drop (i + 1) l) kind)
  unfolding step
  turn = rw (drop-cons l i 0 h, e, add-one)

  turn-rule : 48 ≤ p → step (drop i l) kind ≡ takes (head_of (right_of p)) (tail_of (right_of p) ++ drop (i + 1) l)
  unfolding lettered
  turn-rule q = turn ∙ rw (le-leb 48 p q)

  turn-leaf : p ≡ 43 → step (drop i l) kind ≡ takes (get_or l i 0) (drop (i + 1) l)
  unfolding lettered
  turn-leaf q = turn ∙ rw q

  turn-skips : p ≡ 45 → step (drop i l) kind ≡ step (drop (i + 1) l) kind
  unfolding lettered
  turn-skips q = turn ∙ rw q

  turn-fails : p < 48 → (p ≡ 43 → ⊥) → (p ≡ 45 → ⊥) → step (drop i l) kind ≡ fails
  unfolding lettered
  turn-fails q r s = turn ∙ rw (lt-leb 48 p q, ne_eqb p 43 r, ne_eqb p 45 s)

turn_end : (l : List ℕ) (i kind : ℕ) → length l ≤ i → step (drop i l) kind ≡ fails
unfolding step
turn_end l i kind h = rw (drop_of_length-le l h)

-- the answer where the token takes a role
took : (before : List ℕ) (top kind role t : ℕ) (after : List ℕ) → step (drop top before) kind ≡ takes role (drop t after) →
    take t after ≡ take t before → length after ≡ length before → t ≤ length before → top ≤ t + 10 →
    Advanced before top kind (record { fits = true; role = role; top = t }) after
unfolding advance_by step_outcome
took before top kind role t after e b s w r =
    let n : length before - length (drop t after) ≡ t = simp length-drop (omega arith) in
    let a : after ≡ take t before ++ drop t after = sym (take-append-drop t after) ∙ ap (λ (x : List ℕ). x ++ drop t after) b in
    record { exact = rw (e, n) (ap (λ (x : List ℕ). advance true role t x) a); steps = sym e; size = s; within = w; room = r }

-- the answer where it fails
failed : (before : List ℕ) (top kind t : ℕ) → step (drop top before) kind ≡ fails → t ≡ length before → top ≤ length before →
    Advanced before top kind (record { fits = false; role = 0; top = t }) before
unfolding advance_by step_outcome
failed before top kind t e n h =
    record { exact = rw (e, n); steps = sym e; size = refl; within = omega arith; room = omega arith }

-- the symbols before place i derive nothing here
pub record Sought (before : List ℕ) (top kind i : ℕ) : Type 0 where
  pub past : top ≤ i
  pub within : i ≤ length before
  pub steps : step (drop i before) kind ≡ step (drop top before) kind

pub sought-none : (before : List ℕ) (top kind : ℕ) → top ≤ length before → Sought before top kind top
sought-none before top kind h = record { past = omega arith; within = h; steps = refl }

pub sought-all : (before : List ℕ) (top kind i : ℕ) → Sought before top kind i → length before ≤ i →
    Advanced before top kind (record { fits = false; role = 0; top = length before }) before
sought-all before top kind i w h =
    let f = w.within in
    let g = w.past in
    failed before top kind (length before) (sym w.steps ∙ turn_end before i kind h) refl (omega arith)

head-get : (l : List ℕ) → get_or l 0 0 ≡ head_of l
head-get [] = refl
head-get (x ∷ xs) = refl

module _ (before : List ℕ) (top kind i p : ℕ) (h : i < length before) (w : Sought before top kind i)
    (e : lettered (get_or before i 0) p ≡ cell (get_or before i 0) kind) where
  pub by-rule : (role r : ℕ) (after : List ℕ) → 48 ≤ p → role ≡ get_or (right_of p) 0 0 → length (tail_of (right_of p)) ≤ 9 →
      Pushed before (i + 1) (tail_of (right_of p)) r after → Advanced before top kind (record { fits = true; role = role; top = r }) after
  by-rule role r after g q short x =
      let a : step (drop top before) kind ≡ takes role (drop r after) =
      sym w.steps ∙ (turn-rule before i kind p h e g ∙ rw (x.above, q, head-get)) in
      let f = w.past in
      let n = x.starts in
      took before top kind role r after a x.below x.size (omega arith) (omega arith)

  pub by-leaf : p ≡ 43 → Advanced before top kind (record { fits = true; role = get_or before i 0; top = i + 1 }) before
  by-leaf q =
      let f = w.past in
      took before top kind (get_or before i 0) (i + 1) before (sym w.steps ∙ turn-leaf before i kind p h e q) refl refl (omega arith) (omega arith)

  pub by-fail : p < 48 → (p ≡ 43 → ⊥) → (p ≡ 45 → ⊥) → Advanced before top kind (record { fits = false; role = 0; top = length before }) before
  by-fail q r s =
      let f = w.past in
      failed before top kind (length before) (sym w.steps ∙ turn-fails before i kind p h e q r s) refl (omega arith)

  pub by-skip : p ≡ 45 → Sought before top kind (i + 1)
  by-skip q =
      let f = w.past in
      record { past = omega arith; within = omega arith; steps = sym (turn-skips before i kind p h e q) ∙ w.steps }
