-- Laws of the loops over the dimensions of a shape.
-- Assumes nothing.
use mathlib.Core.Path.{◌≡◌}
use mathlib.Core.List.{List, [], ◌∷◌}
use mathlib.Core.Bool.{false}
use Prim.Native.Nat.{ℕ, ◌+◌, ◌*◌, ◌/◌, ◌%◌, ◌≤◌, ◌<◌, max, min}
use native.Mathlib.Nat.{mul-le-mul_left, mul-le-mul_right, le-mul_of_pos_right, mul-pos, mul-div_cancel_left, min-eq_left, le_of_lt, add-zero}
use native.Mathlib.Numerals.{add-one}
use native.Mathlib.Decide.{dec_lt}
use native.Mathlib.Omega.{arith}
use lib.ListN.{length, get_or, take, drop, length-take, drop_of_length-le}
use lib.Seq.{drop-cons, get_or-drop, get_or-take, drop-drop, length-take-le}
use lib.Dec.{ltb}
use Rattle.lists.specs.Lists.{pick}
use Rattle.shape.specs.Index.{size, volume, unravel, ravel, Within, is_within, rest}
use Rattle.shape.proofs.IndexLaw.{factors-pos, ravel-lt, volume-pos}

-- what is left of a list at d: the element there, and what is left behind it
pub drop-next : (l : List ℕ) (d : ℕ) → d < length l → drop d l ≡ get_or l d 0 ∷ drop (d + 1) l
drop-next l d h = rw add-one (drop-cons l d 0 h)

pub drop_all : (l : List ℕ) (d : ℕ) → length l ≤ d → drop d l ≡ []
drop_all l d h = drop_of_length-le l {i = d} h

pub rest-cons : (dims : List ℕ) (rank d : ℕ) → d < rank → rank ≤ length dims → rest dims rank d ≡ get_or dims d 0 ∷ rest dims rank (d + 1)
rest-cons dims rank d h l =
    let e : length (take rank dims) ≡ rank = length-take-le rank dims l in
    rw (← get_or-take rank dims d 0 h) (drop-next (take rank dims) d (omega arith))

pub rest_all : (dims : List ℕ) (rank d : ℕ) → rank ≤ d → rest dims rank d ≡ []
rest_all dims rank d h =
    let e : length (take rank dims) ≡ min rank (length dims) = length-take rank dims in
    drop_of_length-le (take rank dims) {i = d} (omega arith)

-- a product that stops at 4097
capped-step : (a v : ℕ) → 1 ≤ v → min (min a 4097 * v) 4097 ≡ min (a * v) 4097
capped-step a v h = elim (dec_lt a 4097) [
  | yes b ↦ rw (min-eq_left (le_of_lt b))
  | no b ↦ let q : 4097 * v ≤ a * v = mul-le-mul_right v (omega arith) in let e : min a 4097 ≡ 4097 = omega arith in rw e (omega arith)
]

-- a turn of each loop: what is left of the shape is s, a dimension x and r behind it
module _ {s r : List ℕ} {x : ℕ} (e : s ≡ x ∷ r) where
  -- the size: n so far
  pub size-turn : (n m : ℕ) → n * size s ≡ m → n * volume s ≤ 4096 → (n * x ≤ 4096) × (n * x * size r ≡ m) × (n * x * volume r ≤ 4096)
  size-turn n m f b =
      let p : n * x * volume r ≤ n * max 1 x * volume r = mul-le-mul_right (volume r) (mul-le-mul_left n (omega arith)) in
      omega (arith, rw e at f, rw e at b, le-mul_of_pos_right (n * x) (volume-pos r))

  -- the volume: n so far, p after the turn
  pub volume-turn : (n m p : ℕ) → 1 ≤ n → min (n * volume s) 4097 ≡ m → p ≡ min (n * max 1 x) 4097 → (1 ≤ p) × (p ≤ 4097) × (min (p * volume r) 4097 ≡ m)
  volume-turn n m p o f g =
      let q : 0 < n * max 1 x = mul-pos o (omega arith) in
      let c : min (p * volume r) 4097 ≡ min (n * max 1 x * volume r) 4097 = rw g (capped-step (n * max 1 x) (volume r) (volume-pos r)) in
      omega (arith, rw e at f)

  -- a position: p so far, and no sum on the way is above the position
  pub ravel-turn : {i j : List ℕ} {y : ℕ} → i ≡ y ∷ j → Within r j → (p n : ℕ) → p * size s + ravel s i ≡ n →
      (p * x + y ≤ n) × ((p * x + y) * size r + ravel r j ≡ n)
  ravel-turn {j = j} {y = y} f w p n g =
      let b : 0 < size r = omega (arith, ravel-lt r j w) in
      omega (arith, rw (e, f) at g, le-mul_of_pos_right (p * x + y) b)

  -- an index: u the whole index, k what is left of the position, t how many elements s has
  pub unravel-turn : (u : List ℕ) (d k t : ℕ) → t ≡ size s → k < t → drop d u ≡ unravel s k →
      (0 < t / x) × (t / x ≡ size r) × (k / (t / x) ≡ get_or u d 0) × (drop (d + 1) u ≡ unravel r (k % (t / x)))
  unravel-turn u d k t f b g =
      let a : t ≡ x * size r = rw e at f in
      let p = factors-pos x (size r) {k = k} (omega arith) in
      let q : t / x ≡ size r = rw a (mul-div_cancel_left (size r) p.0) in
      let h : drop d u ≡ k / size r ∷ unravel r (k % size r) = rw e at g in
      (omega arith, q, cc (get_or-drop d u 0 0, add-zero d), cc (drop-drop 1 d u))

  -- whether an index is within
  pub is_within-turn : (i : List ℕ) (d : ℕ) → is_within s (drop d i) ≡ pick (ltb (get_or i d 0) x) (is_within r (drop (d + 1) i)) false
  is_within-turn i d = rw (e, get_or-drop d i 0 0, add-zero, drop-drop 1 d i)
