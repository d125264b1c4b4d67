-- Laws of the text of a shape: its dimensions, kept at most 4,097, and the sizes they pass.
-- Assumes nothing.
use mathlib.Core.Path.{◌≡◌, refl, sym, ap, ◌∙◌}
use mathlib.Core.Bool.{Bool, true, false, ◌&&◌}
use mathlib.Core.List.{List, [], ◌∷◌, map}
use Prim.Native.Nat.{ℕ, zero, suc, ◌+◌, ◌-◌, ◌*◌, ◌<◌, ◌≤◌, min, max}
use native.Mathlib.Nat.{mul-le-mul}
use native.Mathlib.Numerals.{add-one, unary_clauses}
use native.Mathlib.Decide.{dec_lt}
use native.Mathlib.Omega.{arith}
use lib.ListN.{length, get_or, take, drop, length-drop, drop_of_length-le}
use lib.Dec.{leb, ltb, eqb}
use lib.Seq.{drop-cons}
use borrow.Author.Tests.{ne_eqb, le-leb, lt-leb, lt-ltb, le-ltb}
use Rattle.std.specs.Prelude.{cond, not, ◌||◌, ◌==◌}
use Rattle.std.specs.List.{count_by, list_any}
use Rattle.std.proofs.lemmas.List.Sums.{sum_by-cons}
use Rattle.lists.specs.Lists.{pick, tab}
use Rattle.lists.proofs.TabLaw.{map-tab, tab-get_or}
use Rattle.scan.specs.TypeText.{size_next, shape_end_from, shape_end}
use Rattle.scan.proofs.EndLaw.{shape-ge}
use Rattle.shape.specs.Index.{volume}
use Rattle.shape.proofs.IndexLaw.{volume-pos}
use Rattle.types.specs.Tensors.{dimensions_from, byte_count, all_fit, type_size_passed, first_six}

drop-first : (s : List ℕ) (i : ℕ) → i < length s → drop i s ≡ get_or s i 0 ∷ drop (i + 1) s
drop-first s i h = rw (drop-cons s i 0, add-one i)

-- the shape's text ends within the text

shape-from-le : (n : ℕ) (s : List ℕ) (end size at : ℕ) → end ≤ n → at + length s ≤ n → shape_end_from end size at s ≤ n
unfolding shape_end_from
shape-from-le n [] end size at h g = h
shape-from-le n (b ∷ bs) end size at h g =
    let next = size_next size b in
    let last = pick (eqb next 0) (suc at) end in
    pick-le (eqb next 3) h (shape-from-le n bs last next (suc at) (pick-le (eqb next 0) (omega arith) h) (omega arith))
  where
    pick-le : (t : Bool) {a b : ℕ} → a ≤ n → b ≤ n → pick t a b ≤ n
    pick-le true p q = p
    pick-le false p q = q

pub shape-le : (text : List ℕ) (at : ℕ) → at ≤ length text → shape_end text at ≤ length text
unfolding shape_end
shape-le text at h = shape-from-le (length text) (drop at text) at 0 at h (rw length-drop (omega arith))

pub shape-within : (text : List ℕ) (at end : ℕ) → end ≡ shape_end text at → at ≤ length text → (at ≤ end) × (end ≤ length text)
shape-within text at end e h = rw e (shape-ge at text h at (omega arith), shape-le text at h)

-- dimensions as the code holds them

unfoldable pub capped_from : ℕ → List ℕ → List ℕ
capped_from v [] = []
capped_from v (b ∷ bs) =
    let x = eqb b 120 in
    let rest = capped_from (pick x 0 (min (v * 10 + (b - 48)) 4097)) bs in
    pick x (v ∷ rest) rest

abbrev cap : ℕ → ℕ
cap d = min d 4097

capped : (s : List ℕ) (v : ℕ) → capped_from (cap v) s ≡ map cap (dimensions_from v s)
unfolding capped_from dimensions_from
capped [] v = refl
capped (b ∷ bs) v = by-test (eqb b 120) (capped bs 0) (capped bs (v * 10 + (b - 48)))
  where
    by-test : (x : Bool) → capped_from (cap 0) bs ≡ map cap (dimensions_from 0 bs) →
        capped_from (cap (v * 10 + (b - 48))) bs ≡ map cap (dimensions_from (v * 10 + (b - 48)) bs) →
        pick x (cap v ∷ capped_from (pick x 0 (min (cap v * 10 + (b - 48)) 4097)) bs) (capped_from (pick x 0 (min (cap v * 10 + (b - 48)) 4097)) bs)
        ≡ map cap (pick x (v ∷ dimensions_from (pick x 0 (v * 10 + (b - 48))) bs) (dimensions_from (pick x 0 (v * 10 + (b - 48))) bs))
    by-test true p q = ap (λ (l : List ℕ). cap v ∷ l) p
    by-test false p q = let e : min (cap v * 10 + (b - 48)) 4097 ≡ cap (v * 10 + (b - 48)) = omega arith in rw e q

get_or-cap : (ds : List ℕ) (k : ℕ) → get_or (map cap ds) k 0 ≡ cap (get_or ds k 0)
get_or-cap [] k = refl
get_or-cap (d ∷ ds) zero = refl
get_or-cap (d ∷ ds) (suc k) = get_or-cap ds k

pub capped_at : (s : List ℕ) (k : ℕ) → get_or (capped_from 0 s) k 0 ≡ min (get_or (dimensions_from 0 s) k 0) 4097
capped_at s k = ap (λ (l : List ℕ). get_or l k 0) (capped s 0) ∙ get_or-cap (dimensions_from 0 s) k

capped-x : (v b : ℕ) (s : List ℕ) → b ≡ 120 → capped_from v (b ∷ s) ≡ v ∷ capped_from 0 s
unfolding capped_from
capped-x v b s e = rw e

capped-digit : (v b : ℕ) (s : List ℕ) → (b ≡ 120 → ⊥) → capped_from v (b ∷ s) ≡ capped_from (min (v * 10 + (b - 48)) 4097) s
unfolding capped_from
capped-digit v b s n = rw (ne_eqb b 120 n)

-- the loop for one dimension, which is m: left more dimensions stand before it
module _ (s : List ℕ) (i left v m : ℕ) (is : get_or (capped_from v (drop i s)) left 0 ≡ m) where
  pub dimension-past : length s ≤ i → 0 ≡ m
  unfolding capped_from
  dimension-past h = rw (drop_of_length-le s h) at is

  module _ (h : i < length s) where
    pub dimension-here : get_or s i 0 ≡ 120 → left ≡ 0 → v ≡ m
    dimension-here e z = rw (drop-first s i h, capped-x v _ (drop (i + 1) s) e, z) at is

    pub dimension-next : get_or s i 0 ≡ 120 → (left ≡ 0 → ⊥) → get_or (capped_from 0 (drop (i + 1) s)) (left - 1) 0 ≡ m
    dimension-next e n = one_less left (capped_from 0 (drop (i + 1) s)) n (rw (drop-first s i h, capped-x v _ (drop (i + 1) s) e) at is)
      where
        one_less : (k : ℕ) (r : List ℕ) → (k ≡ 0 → ⊥) → get_or (v ∷ r) k 0 ≡ m → get_or r (k - 1) 0 ≡ m
        one_less zero r n q = absurd (n refl)
        one_less (suc k) r n q = simp unary_clauses q

    pub dimension-digit : (get_or s i 0 ≡ 120 → ⊥) → get_or (capped_from (min (v * 10 + (get_or s i 0 - 48)) 4097) (drop (i + 1) s)) left 0 ≡ m
    dimension-digit n = rw (drop-first s i h, capped-digit v _ (drop (i + 1) s) n) at is

-- how often a byte stands in a text, as std counts
pub counted : (b : ℕ) (s : List ℕ) → byte_count b s ≡ count_by (λ x. x == b) s
unfolding byte_count
counted b [] = refl
counted b (x ∷ xs) = by-test (eqb x b) (counted b xs) ∙ sym (sum_by-cons (λ x. cond (x == b) 1 0) x xs)
  where
    by-test : (t : Bool) → byte_count b xs ≡ count_by (λ x. x == b) xs → pick t (byte_count b xs + 1) (byte_count b xs) ≡ cond t 1 0 + count_by (λ x. x == b) xs
    by-test true p = omega arith
    by-test false p = omega arith

pub none-found : (b : ℕ) (s : List ℕ) → eqb (byte_count b s) 0 ≡ not (list_any (λ y. eqb y b) s)
unfolding byte_count
none-found b [] = refl
none-found b (x ∷ xs) = by-test (eqb x b) (none-found b xs)
  where
    by-test : (t : Bool) → eqb (byte_count b xs) 0 ≡ not (list_any (λ y. eqb y b) xs) → eqb (pick t (byte_count b xs + 1) (byte_count b xs)) 0 ≡ not (t || list_any (λ y. eqb y b) xs)
    by-test true p = ne_eqb _ _ (omega arith)
    by-test false p = p

-- as many dimensions as 'x'
pub rank-count : (s : List ℕ) (v : ℕ) → byte_count 120 s ≡ length (dimensions_from v s)
unfolding byte_count dimensions_from
rank-count [] v = refl
rank-count (b ∷ bs) v = by-test (eqb b 120) (rank-count bs 0) (rank-count bs (v * 10 + (b - 48)))
  where
    by-test : (x : Bool) → byte_count 120 bs ≡ length (dimensions_from 0 bs) → byte_count 120 bs ≡ length (dimensions_from (v * 10 + (b - 48)) bs) →
        pick x (byte_count 120 bs + 1) (byte_count 120 bs)
        ≡ length (pick x (v ∷ dimensions_from (pick x 0 (v * 10 + (b - 48))) bs) (dimensions_from (pick x 0 (v * 10 + (b - 48))) bs))
    by-test true p q = rw p (add-one _)
    by-test false p q = q

-- the sizes

-- where the product is at most 4,096 so is each dimension, and none was cut
small-head : (d : ℕ) (ds : List ℕ) → volume (d ∷ ds) ≤ 4096 → (d ≤ 4096) × (volume ds ≤ 4096)
small-head d ds h =
    let p : 0 < volume ds = volume-pos ds in
    let a : max 1 d * 1 ≤ max 1 d * volume ds = mul-le-mul (omega arith) (omega arith) in
    let b : 1 * volume ds ≤ max 1 d * volume ds = mul-le-mul (omega arith) (omega arith) in
    (omega arith, omega arith)

all-fit : (ds : List ℕ) → volume ds ≤ 4096 → all_fit ds ≡ true
unfolding all_fit
all-fit [] h = refl
all-fit (d ∷ ds) h = let s = small-head d ds h in rw (le-leb d 4096 s.0) (all-fit ds s.1)

pub uncut : (ds : List ℕ) → volume ds ≤ 4096 → map cap ds ≡ ds
uncut [] h = refl
uncut (d ∷ ds) h = let s = small-head d ds h in let e : cap d ≡ d = omega (arith, s.0) in rw e (ap (λ (l : List ℕ). d ∷ l) (uncut ds s.1))

cut_small : (ds : List ℕ) → volume (map cap ds) ≤ 4096 → map cap ds ≡ ds
cut_small [] h = refl
cut_small (d ∷ ds) h =
    let s = small-head (cap d) (map cap ds) h in
    let e : cap d ≡ d = omega (arith, s.0) in rw e (ap (λ (l : List ℕ). d ∷ l) (cut_small ds s.1))

fits-same : (ds : List ℕ) → (all_fit ds && leb (volume ds) 4096) ≡ leb (volume (map cap ds)) 4096
fits-same ds = by_place (dec_lt 4096 (volume ds)) (dec_lt 4096 (volume (map cap ds)))
  where
    and-false : (a : Bool) → (a && false) ≡ false
    and-false true = refl
    and-false false = refl

    by_place : Dec (4096 < volume ds) → Dec (4096 < volume (map cap ds)) → (all_fit ds && leb (volume ds) 4096) ≡ leb (volume (map cap ds)) 4096
    by_place (yes p) (yes q) = rw (lt-leb _ _ p, lt-leb _ _ q) (and-false (all_fit ds))
    by_place (yes p) (no q) = let e : volume (map cap ds) ≡ volume ds = ap volume (cut_small ds (omega arith)) in absurd (omega arith)
    by_place (no p) q = rw (uncut ds (omega arith), all-fit ds (omega arith))

take-tab : (n m : ℕ) (f : ℕ → ℕ) → n ≤ m → take n (tab m f) ≡ tab n f
take-tab zero m f h = refl
take-tab (suc n) zero f h = absurd (omega arith)
take-tab (suc n) (suc m) f h = ap (λ (l : List ℕ). f zero ∷ l) (take-tab n m (λ k. f (suc k)) (omega arith))

pub six : (ds : List ℕ) → length ds ≤ 6 → take (length ds) (first_six ds) ≡ map cap ds
six ds h =
    take-tab (length ds) 6 (λ k. cap (get_or ds k 0)) h
    ∙ sym (map-tab cap (length ds) (λ k. get_or ds k 0)) ∙ ap (λ (l : List ℕ). map cap l) (tab-get_or ds 0)

pub passed-same : (ds : List ℕ) → pick (ltb 6 (length ds)) 1 (pick (ltb 4096 (volume (take (length ds) (first_six ds)))) 2 0) ≡ type_size_passed ds
unfolding type_size_passed
passed-same ds = by_place (dec_lt 6 (length ds))
  where
    by-fit : (n : ℕ) → ◌≡◌ {A = ℕ} (pick (ltb 4096 n) 2 0) (pick (leb n 4096) 0 2)
    by-fit n = by_size (dec_lt 4096 n)
      where
        by_size : Dec (4096 < n) → ◌≡◌ {A = ℕ} (pick (ltb 4096 n) 2 0) (pick (leb n 4096) 0 2)
        by_size (yes p) = rw (lt-ltb _ _ p, lt-leb _ _ p)
        by_size (no p) = let q : n ≤ 4096 = omega arith in rw (le-ltb _ _ q, le-leb _ _ q)

    by_place : Dec (6 < length ds) → ◌≡◌ {A = ℕ} (pick (ltb 6 (length ds)) 1 (pick (ltb 4096 (volume (take (length ds) (first_six ds)))) 2 0))
        (pick (ltb 6 (length ds)) 1 (pick (all_fit ds && leb (volume ds) 4096) 0 2))
    by_place (yes p) = rw (lt-ltb _ _ p)
    by_place (no p) = let q : length ds ≤ 6 = omega arith in rw (le-ltb _ _ q, six ds q, fits-same ds) (by-fit (volume (map cap ds)))
