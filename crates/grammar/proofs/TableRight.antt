-- The code's tables are the grammar's cells and productions: one computed test for each.
-- Assumes nothing.
use mathlib.Core.Path.{◌≡◌, refl, ap₂}
use mathlib.Core.Bool.{Bool, true, false}
use mathlib.Core.List.{List, [], ◌∷◌}
use Prim.Native.Nat.{ℕ, ◌+◌, ◌*◌, ◌-◌, ◌/◌, ◌%◌, ◌<◌, ◌≤◌}
use native.Mathlib.Omega.{arith}
use lib.Dec.{T, ltb, ltb→lt, leb, leb→le, eqb, eqb→eq}
use lib.ListN.{length, get_or}
use Rattle.grammar.specs.Symbols.{leaf_kinds, matches}
use Rattle.grammar.specs.Grammar.{Production, ◌⟶◌, grammar}
use Rattle.grammar.specs.Machine.{Cell, fails, skips, takes, cell}
use Rattle.grammar.specs.Tables.{right_of, tail_of, lettered}
use Rattle.grammar.proofs.TableTest.{both, both_left, both_right, every, at}
use Rattle.grammar.proofs.CellRows.{cells}

-- the test at the place of symbol k of production p
row : (p k : ℕ) → 48 ≤ p → k < 10 → (48 + ((p - 48) * 10 + k) / 10 ≡ p) × (((p - 48) * 10 + k) % 10 ≡ k)
row p k h g = (omega arith, omega arith)

unfoldable pub symbol_test : ℕ → ℕ → Bool
symbol_test q x = eqb x (48 + get_or (right_of (48 + q / 10)) (q % 10) 0)

pub symbol-right : (l : List ℕ) → length l ≡ 740 → T (every symbol_test 0 l) → (p k : ℕ) → 48 ≤ p → p < 122 → k < 10 →
    get_or l ((p - 48) * 10 + k) 0 ≡ 48 + get_or (right_of p) k 0
unfolding symbol_test
symbol-right l n t p k h b g =
    let q = (p - 48) * 10 + k in
    let e : get_or l q 0 ≡ 48 + get_or (right_of (48 + q / 10)) (q % 10) 0 = eqb→eq _ _ (at 0 symbol_test l t q (omega arith)) in
    rw ((row p k h g).0, (row p k h g).1) at e

unfoldable pub length_test : ℕ → ℕ → Bool
length_test q x = eqb x (48 + length (tail_of (right_of (48 + q))))

pub length-right : (l : List ℕ) → length l ≡ 74 → T (every length_test 0 l) → (p : ℕ) → 48 ≤ p → p < 122 → get_or l (p - 48) 0 ≡ 48 + length (tail_of (right_of p))
unfolding length_test
length-right l n t p h b =
    let e : get_or l (p - 48) 0 ≡ 48 + length (tail_of (right_of (48 + (p - 48)))) = eqb→eq _ _ (at 0 length_test l t (p - 48) (omega arith)) in
    let q : 48 + (p - 48) ≡ p = omega arith in
    rw q at e

short_test : ℕ → Production → Bool
short_test q p = leb (length (tail_of p.right)) 9

pub tail-short : (p : ℕ) → 48 ≤ p → p < 122 → length (tail_of (right_of p)) ≤ 9
unfolding short_test right_of grammar
tail-short p h b = leb→le _ _ (at (0 ⟶ []) short_test grammar tt (p - 48) (omega arith))

unfoldable pub same_list : List ℕ → List ℕ → Bool
same_list [] [] = true
same_list [] (y ∷ ys) = false
same_list (x ∷ xs) [] = false
same_list (x ∷ xs) (y ∷ ys) = both (eqb x y) (same_list xs ys)

list_same : (xs ys : List ℕ) → T (same_list xs ys) → xs ≡ ys
unfolding same_list
list_same [] [] t = refl
list_same [] (y ∷ ys) t = absurd t
list_same (x ∷ xs) [] t = absurd t
list_same (x ∷ xs) (y ∷ ys) t =
    ap₂ ◌∷◌ (eqb→eq x y (both_left (eqb x y) (same_list xs ys) t)) (list_same xs ys (both_right (eqb x y) (same_list xs ys) t))

unfoldable pub same_cell : Cell → Cell → Bool
same_cell fails fails = true
same_cell skips skips = true
same_cell (takes a x) (takes b y) = both (eqb a b) (same_list x y)
same_cell fails skips = false
same_cell fails (takes b y) = false
same_cell skips fails = false
same_cell skips (takes b y) = false
same_cell (takes a x) fails = false
same_cell (takes a x) skips = false

pub cell_same : (a b : Cell) → T (same_cell a b) → a ≡ b
unfolding same_cell
cell_same fails fails t = refl
cell_same fails skips t = absurd t
cell_same fails (takes b y) t = absurd t
cell_same skips fails t = absurd t
cell_same skips skips t = refl
cell_same skips (takes b y) t = absurd t
cell_same (takes a x) fails t = absurd t
cell_same (takes a x) skips t = absurd t
cell_same (takes a x) (takes b y) t =
    ap₂ takes (eqb→eq a b (both_left (eqb a b) (same_list x y) t)) (list_same x y (both_right (eqb a b) (same_list x y) t))

cell_test : ℕ → ℕ → Bool
cell_test q x = both (ltb x 122) (same_cell (lettered (q / 32) x) (cell (q / 32) (q % 32)))

cell-test : (q : ℕ) → q < 2496 → T (cell_test q (get_or cells q 0))
unfolding cell_test same_cell same_list lettered right_of cell matches grammar leaf_kinds cells
cell-test q h = at 0 cell_test cells tt q h

pub cell-right : (s kind : ℕ) → s < 78 → kind < 32 → (lettered s (get_or cells (s * 32 + kind) 0) ≡ cell s kind) × (get_or cells (s * 32 + kind) 0 < 122)
unfolding cell_test
cell-right s kind h g =
    let q = s * 32 + kind in
    let x = get_or cells q 0 in
    let t = cell-test q (omega arith) in
    let w = both_right (ltb x 122) (same_cell (lettered (q / 32) x) (cell (q / 32) (q % 32))) t in
    let e : lettered (q / 32) x ≡ cell (q / 32) (q % 32) = cell_same _ _ w in
    let d : q / 32 ≡ s = omega arith in
    let m : q % 32 ≡ kind = omega arith in
    (rw (d, m) at e, ltb→lt x 122 (both_left (ltb x 122) (same_cell (lettered (q / 32) x) (cell (q / 32) (q % 32))) t))
