-- Laws of decimal numbers.
-- Assumes nothing.
use mathlib.Core.Path.{◌≡◌, refl, sym, ap, ◌∙◌}
use mathlib.Core.Bool.{Bool, true, false, ◌&&◌}
use mathlib.Core.List.{List, [], ◌∷◌}
use Prim.Native.Nat.{ℕ, zero, suc, ◌+◌, ◌-◌, ◌*◌, ◌%◌, ◌^◌, ◌<◌, ◌≤◌}
use native.Mathlib.Numerals.{add-one, unary_clauses}
use native.Mathlib.Decide.{dec_lt}
use native.Mathlib.Omega.{arith}
use Rattle.std.specs.Prelude.{Option, Some, None}
use lib.IntN.{ℤ, pos, negsuc, neg_ℤ}
use lib.Signed.{mag}
use lib.ListN.{length, get_or, drop, drop_of_length-le}
use lib.Dec.{leb, ltb}
use lib.Seq.{drop-cons}
use borrow.Author.Tests.{leb-true, le-leb, lt-leb, lt-ltb, le-ltb}
use Rattle.lists.specs.Lists.{pick}
use Rattle.scan.specs.Bytes.{is_digit}
use Rattle.element.specs.Types.{highest_of, signed_of, slot_for}
use Rattle.element.specs.declared.ElementType.{ElementType}
use Rattle.element.proofs.Held.{highest-small, signed-small}
use Rattle.shape.specs.Whole.{pattern_of}
use Rattle.shape.proofs.WholeLaw.{pattern-negsuc}
use Rattle.types.specs.Numbers.{Decimal, digits_from, as_decimal, decimal_read, in_type, fitting, unfit, number_in, is_attribute_number, pattern_in}

-- the loop over digits

module _ (text : List ℕ) (i v : ℕ) where
  pub digits-past : length text ≤ i → digits_from v (drop i text) ≡ v
  unfolding digits_from
  digits-past h = rw drop_of_length-le

  pub digits_step : i < length text → digits_from v (drop i text) ≡
      pick (is_digit (get_or text i 0)) (digits_from (v * 10 + (get_or text i 0 - 48)) (drop (i + 1) text)) v
  unfolding digits_from
  digits_step h = rw (add-one, drop-cons text i 0)

-- more digits never make less
pub digits-ge : (s : List ℕ) (v : ℕ) → v ≤ digits_from v s
unfolding digits_from
digits-ge [] v = omega arith
digits-ge (b ∷ bs) v = by-test (is_digit b) (digits-ge bs (v * 10 + (b - 48)))
  where
    by-test : (t : Bool) → v * 10 + (b - 48) ≤ digits_from (v * 10 + (b - 48)) bs → v ≤ pick t (digits_from (v * 10 + (b - 48)) bs) v
    by-test true h = omega arith
    by-test false h = omega arith

-- a number that is 2^64 or more stays so
pub digits-big : (text : List ℕ) (i v m : ℕ) → i < length text → is_digit (get_or text i 0) ≡ true → 2 ^ 64 ≤ v * 10 + (get_or text i 0 - 48) →
    digits_from v (drop i text) ≡ m → 2 ^ 64 ≤ m
digits-big text i v m h d b e =
    let w = v * 10 + (get_or text i 0 - 48) in
    let f : digits_from v (drop i text) ≡ digits_from w (drop (i + 1) text) = digits_step text i v h ∙ rw d in
    let g : w ≤ digits_from w (drop (i + 1) text) = digits-ge (drop (i + 1) text) w in
    omega arith

-- a digit's value
pub digit-le : (b : ℕ) → is_digit b ≡ true → b - 48 ≤ 9
unfolding is_digit
digit-le b e = by-test (leb 48 b) (leb b 57) (leb-true b 57) e
  where
    by-test : (x y : Bool) → (y ≡ true → b ≤ 57) → (x && y) ≡ true → b - 48 ≤ 9
    by-test true true f e = let h = f refl in omega arith
    by-test true false f e = let z : ◌≡◌ {A = ℕ} 0 1 = cc in absurd (omega arith)
    by-test false y f e = let z : ◌≡◌ {A = ℕ} 0 1 = cc in absurd (omega arith)

-- 2^64 is 6 more than ten times its tenth
pub six-more : (v d : ℕ) → v ≡ 1844674407370955161 → ltb 5 d ≡ leb (2 ^ 64) (v * 10 + d)
six-more v d e = by_place (dec_lt 5 d)
  where
    by_place : Dec (5 < d) → ltb 5 d ≡ leb (2 ^ 64) (v * 10 + d)
    by_place (yes h) = let a : 2 ^ 64 ≤ v * 10 + d = omega arith in lt-ltb 5 d h ∙ sym (le-leb _ _ a)
    by_place (no h) = let a : v * 10 + d < 2 ^ 64 = omega arith in le-ltb 5 d (omega arith) ∙ sym (lt-leb _ _ a)

-- a number by its sign and size

pub decimal-small : (n : Bool) (m : ℕ) → m < 2 ^ 64 → as_decimal n m ≡ record { negative = n; big = false; magnitude = m }
unfolding as_decimal
decimal-small n m h = rw (lt-leb (2 ^ 64) m h)

pub decimal-big : (n : Bool) (m : ℕ) → 2 ^ 64 ≤ m → as_decimal n m ≡ record { negative = n; big = true; magnitude = 0 }
unfolding as_decimal
decimal-big n m h = rw (le-leb (2 ^ 64) m h)

pub signed-decimal : (n : Bool) (m : ℕ) (r : Option ℕ) → decimal_read false r ≡ as_decimal false m → decimal_read n r ≡ as_decimal n m
unfolding as_decimal
signed-decimal n m (Some k) e = let b : leb (2 ^ 64) m ≡ false = sym (ap (λ (d : Decimal). d.big) e) in rw b (ap (λ (k : ℕ). record { negative = n; big = false; magnitude = k }) (rw b at (ap (λ (d : Decimal). d.magnitude) e)))
signed-decimal n m None e = let b : leb (2 ^ 64) m ≡ true = sym (ap (λ (d : Decimal). d.big) e) in rw b

-- what the fields of a decimal number tell
module _ (n : Bool) (m : ℕ) {d : Decimal} (e : d ≡ as_decimal n m) where
  pub of_negative : d.negative ≡ n
  unfolding as_decimal
  of_negative = rw e

  pub of-big : d.big ≡ true → 2 ^ 64 ≤ m
  unfolding as_decimal
  of-big b = leb-true (2 ^ 64) m (rw e at b)

  pub of-small : d.big ≡ false → d.magnitude ≡ m
  unfolding as_decimal
  of-small b = let f : leb (2 ^ 64) m ≡ false = rw e at b in rw (e, f)

-- no type has a number of 2^64 or more, or of -2^64 or less

pub above : (t : ElementType) (n : ℕ) → highest_of t < n → number_in t (pos n) ≡ unfit
unfolding number_in in_type
above t n h = rw (lt-leb n (highest_of t) h)

pub below : (t : ElementType) (n : ℕ) → highest_of t < n → number_in t (negsuc n) ≡ unfit
unfolding number_in in_type
below t n h = rw (lt-leb n (highest_of t) h) (by_sign (signed_of t))
  where
    by_sign : (s : Bool) → pick (s && false) (fitting (slot_for t (negsuc n))) unfit ≡ unfit
    by_sign true = refl
    by_sign false = refl

pub unsigned-negsuc : (t : ElementType) (n : ℕ) → signed_of t ≡ false → number_in t (negsuc n) ≡ unfit
unfolding number_in in_type
unsigned-negsuc t n s = rw s

pub big-number : (t : ElementType) (b : Bool) (m : ℕ) → 2 ^ 64 ≤ m → number_in t (pick b (neg_ℤ (pos m)) (pos m)) ≡ unfit
big-number t true zero h = absurd (omega arith)
big-number t true (suc n) h = by_sign (signed_of t) refl
  where
    by_sign : (s : Bool) → signed_of t ≡ s → number_in t (negsuc n) ≡ unfit
    by_sign true e = let g = signed-small t e in below t n (omega arith)
    by_sign false e = unsigned-negsuc t n e
big-number t false m h = let g = highest-small t in above t m (omega arith)

-- a number that fits as its slot
pub fits-pos : (t : ElementType) (n : ℕ) → n ≤ highest_of t → number_in t (pos n) ≡ fitting (slot_for t (pos n))
unfolding number_in in_type
fits-pos t n h = rw (le-leb n (highest_of t) h)

pub fits-negsuc : (t : ElementType) (n : ℕ) → signed_of t ≡ true → n ≤ highest_of t → number_in t (negsuc n) ≡ fitting (slot_for t (negsuc n))
unfolding number_in in_type
fits-negsuc t n s h = rw (le-leb n (highest_of t) h, s)

pub negated-suc : (m : ℕ) → 0 < m → neg_ℤ (pos m) ≡ negsuc (m - 1)
negated-suc zero h = absurd (omega arith)
negated-suc (suc n) h = simp unary_clauses

pub negated-next : (n : ℕ) → neg_ℤ (pos (n + 1)) ≡ negsuc n
negated-next n = ap (λ (k : ℕ). neg_ℤ (pos k)) (add-one n)

-- an attribute number as its pattern

pub pattern-fits : (z : ℤ) → mag z < 2 ^ 63 → pattern_in z ≡ fitting (pattern_of z)
unfolding pattern_in is_attribute_number
pattern-fits z h = rw (lt-ltb (mag z) (2 ^ 63) h)

pub pattern-unfit : (z : ℤ) → 2 ^ 63 ≤ mag z → pattern_in z ≡ unfit
unfolding pattern_in is_attribute_number
pattern-unfit z h = rw (le-ltb (mag z) (2 ^ 63) h)

-- the pattern of -m
pub negated-pattern : (m r : ℕ) → m ≤ 2 ^ 63 → r < 2 ^ 64 → (r + m) % 2 ^ 64 ≡ 0 → pattern_in (neg_ℤ (pos m)) ≡ fitting r
negated-pattern zero r h l e = let z : r ≡ 0 = omega arith in rw z (pattern-fits (pos 0) (omega arith))
negated-pattern (suc n) r h l e =
    let z : 2 ^ 64 - 1 - n ≡ r = omega arith in
    pattern-fits (negsuc n) (omega arith) ∙ ap fitting (pattern-negsuc n (omega arith) ∙ z)

pub big-pattern : (b : Bool) (m : ℕ) → 2 ^ 64 ≤ m → pattern_in (pick b (neg_ℤ (pos m)) (pos m)) ≡ unfit
big-pattern true zero h = absurd (omega arith)
big-pattern true (suc n) h = pattern-unfit (negsuc n) (omega arith)
big-pattern false m h = pattern-unfit (pos m) (omega arith)
