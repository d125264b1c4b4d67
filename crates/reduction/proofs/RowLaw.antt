-- Laws of the rows: how many they are and how long, and a turn of the loop that folds one.
-- Assumes nothing.
use mathlib.Core.Path.{◌≡◌, refl, sym, ap, ◌∙◌, subst}
use mathlib.Core.Bool.{Bool, true, false, not}
use mathlib.Core.List.{List, [], ◌∷◌, map}
use Prim.Native.Nat.{ℕ, suc, ◌+◌, ◌-◌, ◌≤◌, ◌<◌}
use native.Mathlib.Numerals.{add-one}
use native.Mathlib.Omega.{arith}
use lib.ListN.{length, drop, drop_of_length-le}
use lib.Seq.{drop-cons}
use Rattle.lists.specs.Lists.{pick, tab, All}
use Rattle.lists.proofs.AllLaw.{all-tab, all-get}
use Rattle.lists.proofs.TabLaw.{length-tab, get_or-tab, map-tab, tab-cong}
use Rattle.run.specs.Tree.{fold}
use Rattle.shape.specs.Index.{at, size, ravel, unravel, IndexOf, element_at}
use Rattle.shape.proofs.IndexLaw.{length-tabulate, ravel-lt, index-of-unravel}
use Rattle.shape.proofs.ElementLaw.{element-within}
use Rattle.shape.specs.Place.{is_in, count_below}
use Rattle.reduction.specs.Rows.{slice_shape, kept_shape, inserted, row_for_index, rows_of, ReduceHolds}
use Rattle.reduction.proofs.CollectLaw.{count-lt, count-not, collect-at, length-collect}

-- ---- the fold

module _ (f : ℕ → ℕ → ℕ) (n : ℕ) (g : ℕ → ℕ) (v q : ℕ) where
  pub fold-turn : q < n → fold f v (drop q (tab n g)) ≡ fold f (f v (g q)) (drop (q + 1) (tab n g))
  fold-turn h =
      ap (fold f v)
      (drop-cons (tab n g) q 0 (let e : length (tab n g) ≡ n = length-tab n g in omega arith)
      ∙ ap (λ (x : ℕ). x ∷ drop (suc q) (tab n g)) (get_or-tab n g q 0 h)
      ∙ ap (λ (k : ℕ). g q ∷ drop k (tab n g)) (sym (add-one q)))

  pub fold_end : n ≤ q → fold f v (drop q (tab n g)) ≡ v
  fold_end h = ap (fold f v) (drop_of_length-le (tab n g) {i = q} (let e : length (tab n g) ≡ n = length-tab n g in omega arith))

-- ---- the rows

-- a row has as many elements as the product of the dimensions that are reduced
pub row-size : (dimensions from x j : List ℕ) → length (row_for_index dimensions from x j) ≡ size (slice_shape dimensions from)
row-size dimensions from x j = length-tab (size (slice_shape dimensions from)) _

-- one row for each element of the result
pub rows-length : (dimensions from to x : List ℕ) → length (rows_of dimensions from to x) ≡ size to
rows-length dimensions from to x = length-tabulate to (row_for_index dimensions from x)

pub row-sizes : (dimensions from to x : List ℕ) → map length (rows_of dimensions from to x) ≡ tab (size to) (λ k. size (slice_shape dimensions from))
row-sizes dimensions from to x =
    map-tab length (size to) (λ k. row_for_index dimensions from x (unravel to k))
    ∙ tab-cong (size to) _ (λ k. size (slice_shape dimensions from)) (λ k h. row-size dimensions from x (unravel to k))

-- ---- the operand's index, where C7 holds

module _ (dimensions from to : List ℕ) (ok : ReduceHolds dimensions from to) (j r : List ℕ) (oj : IndexOf to j) (or : IndexOf (slice_shape dimensions from) r) where
  inserted_below : (d : ℕ) → d < length from → inserted dimensions (at j) (at r) d < at from d
  inserted_below d h = go (is_in dimensions d) refl
    where
      t : ℕ → Bool
      t = is_in dimensions

      u : ℕ → Bool
      u = λ k. not (is_in dimensions k)

      go : (b : Bool) → is_in dimensions d ≡ b → pick b (at r (count_below (is_in dimensions) d)) (at j (d - count_below (is_in dimensions) d)) < at from d
      go true e =
          let l : count_below t d < length (slice_shape dimensions from) = omega (arith, count-lt t (length from) d h e, length-collect (length from) t (at from)) in
          omega (arith, or.within (count_below t d) l, collect-at (length from) t (at from) d h e)
      go false e =
          let n : not (is_in dimensions d) ≡ true = ap not e in
          let q : d - count_below t d ≡ count_below u d = omega (arith, count-not t d) in
          let s : length to ≡ length (kept_shape dimensions from) = ap length ok.shape in
          let l : count_below u d < length to = omega (arith, count-lt u (length from) d h n, length-collect (length from) u (at from)) in
          let m : at to (count_below u d) ≡ at from d = ap (λ (l : List ℕ). at l (count_below u d)) ok.shape ∙ collect-at (length from) u (at from) d h n in
          rw q (omega (arith, oj.within (count_below u d) l))

  pub insert-index : IndexOf from (tab (length from) (inserted dimensions (at j) (at r)))
  insert-index =
      record {
        rank = length-tab (length from) (inserted dimensions (at j) (at r));
        within = λ d l. rw (get_or-tab (length from) (inserted dimensions (at j) (at r)) d 0 l) (inserted_below d l);
      }

-- every element of a row is an element of the operand
pub all-rows : (P : ℕ → Type 0) (dimensions from to x : List ℕ) → ReduceHolds dimensions from to → length x ≡ size from → All P x → All (All P) (rows_of dimensions from to x)
all-rows P dimensions from to x ok l a =
    all-tab (All P) (size to) _
    (λ k h. all-tab P (size (slice_shape dimensions from)) _
    (λ q b.
    let o = insert-index dimensions from to ok (unravel to k) (unravel (slice_shape dimensions from) q) (index-of-unravel to k h) (index-of-unravel (slice_shape dimensions from) q b) in
    let i : List ℕ = tab (length from) (inserted dimensions (at (unravel to k)) (at (unravel (slice_shape dimensions from) q))) in
    subst P (sym (element-within x from i 0 o.within)) (all-get P x 0 a (ravel from i) (omega (arith, ravel-lt from i o.within)))))

-- what the body keeps holds of every result
pub all-folds : (P : ℕ → Type 0) (f : ℕ → ℕ → ℕ) (start : ℕ) → ((a b : ℕ) → P a → P b → P (f a b)) → P start → (rows : List (List ℕ)) → All (All P) rows → All P (map (fold f start) rows)
all-folds P f start closed s [] a = tt
all-folds P f start closed s (xs ∷ rows) a = (go start xs s a.0, all-folds P f start closed s rows a.1)
  where
    go : (v : ℕ) (xs : List ℕ) → P v → All P xs → P (fold f v xs)
    go v [] q a = q
    go v (x ∷ xs) q a = go (f v x) xs (closed v x q a.0) a.1

-- "Giving a reduction over no elements zero in place of its start value" is ruled out: a row without elements gives the start value
pub fold-none : (f : ℕ → ℕ → ℕ) (start : ℕ) (dimensions from x j : List ℕ) → size (slice_shape dimensions from) ≡ 0 → fold f start (row_for_index dimensions from x j) ≡ start
fold-none f start dimensions from x j e = ap (λ (n : ℕ). fold f start (tab n (λ q. element_at x from (tab (length from) (inserted dimensions (at j) (at (unravel (slice_shape dimensions from) q)))) 0))) e
