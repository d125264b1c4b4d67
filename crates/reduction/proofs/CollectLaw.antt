-- Laws of collect and count_below, as the loops over the dimensions use them.
-- Assumes nothing.
use mathlib.Core.Path.{◌≡◌, refl, sym, ap, ◌∙◌, subst}
use mathlib.Core.List.{List, [], ◌∷◌, ◌++◌, append-nil}
use mathlib.Core.Bool.{Bool, true, false, not}
use Prim.Native.Nat.{ℕ, zero, suc, ◌+◌, ◌*◌, ◌≤◌, ◌<◌, max}
use native.Mathlib.Nat.{not-suc-le-zero, le_of_suc-le-suc, mul-le-mul, mul_assoc, one-mul}
use native.Mathlib.Numerals.{add-one}
use native.Mathlib.Decide.{dec_lt}
use native.Mathlib.Omega.{arith}
use lib.ListN.{length, set, take, drop, replicate, length-append, get_or-append}
use lib.Seq.{get_or-take, get_or_at, length-take-le}
use Rattle.lists.specs.Lists.{pick, tab}
use Rattle.lists.proofs.TabLaw.{tab-get_or}
use Rattle.shape.specs.Index.{at, volume, in_six}
use Rattle.shape.proofs.IndexLaw.{volume-pos}
use Rattle.shape.specs.Place.{count_below}
use Rattle.reduction.specs.Rows.{collect}

pub count-step : (t : ℕ → Bool) (d : ℕ) → count_below t (d + 1) ≡ count_below t d + pick (t d) 1 0
count-step t d = ap (count_below t) (add-one d)

pub one-le : (b : Bool) → pick b 1 0 ≤ 1
one-le true = omega arith
one-le false = omega arith

pub count-le : (t : ℕ → Bool) (d : ℕ) → count_below t d ≤ d
count-le t zero = omega arith
count-le t (suc d) = omega (arith, count-le t d, one-le (t d))

pub collect-step : (n : ℕ) (t : ℕ → Bool) (f : ℕ → ℕ) → collect (n + 1) t f ≡ collect n t f ++ pick (t n) (f n ∷ []) []
collect-step n t f = ap (λ (k : ℕ). collect k t f) (add-one n)

length-one : (b : Bool) (x : ℕ) → length (pick b (x ∷ []) []) ≡ pick b 1 0
length-one true x = refl
length-one false x = refl

pub length-collect : (n : ℕ) (t : ℕ → Bool) (f : ℕ → ℕ) → length (collect n t f) ≡ count_below t n
length-collect zero t f = refl
length-collect (suc n) t f = length-append (collect n t f) (pick (t n) (f n ∷ []) []) ∙ (let e : length (collect n t f) ≡ count_below t n = length-collect n t f in let g : length (pick (t n) (f n ∷ []) []) ≡ pick (t n) 1 0 = length-one (t n) (f n) in omega arith)

pub collect-cong : (n : ℕ) (t : ℕ → Bool) (f g : ℕ → ℕ) → ((d : ℕ) → d < n → f d ≡ g d) → collect n t f ≡ collect n t g
collect-cong zero t f g h = refl
collect-cong (suc n) t f g h =
    ap (λ (l : List ℕ). l ++ pick (t n) (f n ∷ []) []) (collect-cong n t f g (λ d b. h d (omega arith)))
    ∙ ap (λ (x : ℕ). collect n t g ++ pick (t n) (x ∷ []) []) (h n (omega arith))

-- a turn of the loop that stores what it collects, behind what it has
store-behind : (u l : List ℕ) (v : ℕ) → length u < length l → set (u ++ drop (length u) l) (length u) v ≡ (u ++ v ∷ []) ++ drop (length (u ++ v ∷ [])) l
store-behind [] [] v h = absurd (not-suc-le-zero h)
store-behind [] (x ∷ l) v h = refl
store-behind (a ∷ u) [] v h = absurd (not-suc-le-zero h)
store-behind (a ∷ u) (x ∷ l) v h = ap (λ (r : List ℕ). a ∷ r) (store-behind u l v (le_of_suc-le-suc h))

module _ (d : ℕ) (t : ℕ → Bool) (f : ℕ → ℕ) where
  pub collect-taken : t d ≡ true → collect (d + 1) t f ≡ collect d t f ++ f d ∷ []
  collect-taken e = collect-step d t f ∙ ap (λ (b : Bool). collect d t f ++ pick b (f d ∷ []) []) e

  pub length_taken : t d ≡ true → length (collect (d + 1) t f) ≡ length (collect d t f) + 1
  length_taken e = ap length (collect-taken e) ∙ length-append (collect d t f) (f d ∷ [])

  pub collect-left : t d ≡ false → collect (d + 1) t f ≡ collect d t f
  collect-left e = collect-step d t f ∙ ap (λ (b : Bool). collect d t f ++ pick b (f d ∷ []) []) e ∙ append-nil (collect d t f)

  pub collect-few : length (collect d t f) ≤ d
  collect-few = rw (length-collect d t f) (count-le t d)

  pub collect-store : t d ≡ true → d < 6 → set (in_six (collect d t f)) (length (collect d t f)) (f d) ≡ in_six (collect (d + 1) t f)
  collect-store e h = store-behind (collect d t f) (replicate 6 0) (f d) (omega (arith, collect-few)) ∙ ap in_six (sym (collect-taken e))

-- over the array that holds the dimensions
pub collect-dims : (rank : ℕ) (dims : List ℕ) (t : ℕ → Bool) → rank ≤ length dims → collect rank t (at dims) ≡ collect (length (take rank dims)) t (at (take rank dims))
collect-dims rank dims t h =
    collect-cong rank t (at dims) (at (take rank dims)) (λ d b. sym (get_or-take rank dims d 0 b))
    ∙ ap (λ (n : ℕ). collect n t (at (take rank dims))) (sym (length-take-le rank dims h))

-- ---- the places of what is collected

pub count-true : (t : ℕ → Bool) (d : ℕ) → t d ≡ true → count_below t (suc d) ≡ suc (count_below t d)
count-true t d e = ap (λ (b : Bool). count_below t d + pick b 1 0) e ∙ add-one (count_below t d)

-- a number that passes comes before those that are counted with it
pub count-lt : (t : ℕ → Bool) (n d : ℕ) → d < n → t d ≡ true → count_below t d < count_below t n
count-lt t zero d h e = absurd (not-suc-le-zero h)
count-lt t (suc n) d h e = by_place (dec_lt d n) (λ l. count-lt t n d l e)
  where
    by_place : Dec (d < n) → (d < n → count_below t d < count_below t n) → count_below t d < count_below t (suc n)
    by_place (yes l) ih = omega (arith, ih l)
    by_place (no l) ih = let q : d ≡ n = omega arith in rw (sym q) (omega (arith, count-true t d e))

-- the numbers that do not pass are the others
pub count-not : (t : ℕ → Bool) (d : ℕ) → count_below (λ k. not (t k)) d + count_below t d ≡ d
count-not t zero = refl
count-not t (suc d) = go (t d) (count-not t d)
  where
    go : (b : Bool) → count_below (λ k. not (t k)) d + count_below t d ≡ d → count_below (λ k. not (t k)) d + pick (not b) 1 0 + (count_below t d + pick b 1 0) ≡ suc d
    go true e = omega arith
    go false e = omega arith

-- what stands at a number's place
pub collect-at : (n : ℕ) (t : ℕ → Bool) (f : ℕ → ℕ) (d : ℕ) → d < n → t d ≡ true → at (collect n t f) (count_below t d) ≡ f d
collect-at zero t f d h e = absurd (not-suc-le-zero h)
collect-at (suc n) t f d h e = by_place (dec_lt d n) (λ l. collect-at n t f d l e)
  where
    by_place : Dec (d < n) → (d < n → at (collect n t f) (count_below t d) ≡ f d) → at (collect (suc n) t f) (count_below t d) ≡ f d
    by_place (yes l) ih =
        get_or-append (collect n t f) (pick (t n) (f n ∷ []) []) 0 (count_below t d) (let g : length (collect n t f) ≡ count_below t n = length-collect n t f in omega (arith, count-lt t n d l e)) ∙ ih l
    by_place (no l) ih =
        let q : d ≡ n = omega arith in
        ap (λ (b : Bool). at (collect n t f ++ pick b (f n ∷ []) []) (count_below t d)) (ap t (sym q) ∙ e)
        ∙ get_or_at (collect n t f) (f n) [] 0 (count_below t d) (length-collect n t f ∙ ap (count_below t) (sym q)) ∙ ap f (sym q)

-- ---- some of the dimensions have at most the volume of all

volume-append : (l m : List ℕ) → volume (l ++ m) ≡ volume l * volume m
volume-append [] m = sym (one-mul (volume m))
volume-append (x ∷ l) m = ap (λ (n : ℕ). max 1 x * n) (volume-append l m) ∙ sym (mul_assoc (max 1 x) (volume l) (volume m))

tab-snoc : (n : ℕ) (f : ℕ → ℕ) → tab (suc n) f ≡ tab n f ++ (f n ∷ [])
tab-snoc zero f = refl
tab-snoc (suc n) f = ap (λ (l : List ℕ). f zero ∷ l) (tab-snoc n (λ k. f (suc k)))

volume-one : (b : Bool) (x : ℕ) → volume (pick b (x ∷ []) []) ≤ volume (x ∷ [])
volume-one true x = omega arith
volume-one false x = volume-pos (x ∷ [])

volume-collect-tab : (n : ℕ) (t : ℕ → Bool) (f : ℕ → ℕ) → volume (collect n t f) ≤ volume (tab n f)
volume-collect-tab zero t f = omega arith
volume-collect-tab (suc n) t f =
    let m : volume (collect n t f) * volume (pick (t n) (f n ∷ []) []) ≤ volume (tab n f) * volume (f n ∷ []) = mul-le-mul (volume-collect-tab n t f) (volume-one (t n) (f n)) in
    omega (arith, volume-append (collect n t f) (pick (t n) (f n ∷ []) []), ap volume (tab-snoc n f), volume-append (tab n f) (f n ∷ []))

pub volume-collect : (s : List ℕ) (t : ℕ → Bool) → volume (collect (length s) t (at s)) ≤ volume s
volume-collect s t = subst (λ (l : List ℕ). volume (collect (length s) t (at s)) ≤ volume l) (tab-get_or s 0) (volume-collect-tab (length s) t (at s))
