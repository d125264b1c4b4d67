-- Turns of the loops that look for the first failing place, count and sum; what a test that passes everywhere says.
-- Assumes nothing.
use mathlib.Core.Path.{◌≡◌, refl, sym, ap, ◌∙◌}
use mathlib.Core.Bool.{Bool, true, false, not, ◌&&◌, true≢false}
use Prim.Native.Nat.{ℕ, zero, suc, ◌+◌, ◌*◌, ◌≤◌, ◌<◌}
use mathlib.Core.List.{List}
use native.Mathlib.Numerals.{add-one}
use native.Mathlib.Omega.{arith}
use lib.ListN.{length, get_or}
use borrow.Author.Tests.{eqb-true, not-false}
use lib.Dec.{eqb, eqb-suc-suc, eqb-zero-suc}
use lib.ListN.{take}
use Rattle.std.specs.List.{list_all, range_with_len, sum_by, count_by, filter}
use Rattle.std.proofs.lemmas.List.Sums.{sum_by_more, count_by_more_yes, count_by_more_no, length-filter}
use Rattle.std.proofs.lemmas.List.{take_all}
use Rattle.std.proofs.lemmas.List.FromFn.{length-range_with_len, get_or-range_with_len}
use Rattle.lists.specs.Lists.{tab, first_where, pick}
use Rattle.lists.proofs.TabLaw.{length-tab, get_or-tab}
use Rattle.lists.proofs.SearchLaw.{Passed, passed_none, passed-next, passed_here, passed-end, none_passes}
use Rattle.shape.specs.Place.{count_below}
use Rattle.dimrules.specs.Count.{first_failing, everywhere, sum_below}

-- each place below d passes
abbrev pub Reached : ℕ → (ℕ → Bool) → ℕ → Type 0
Reached n t d = Passed (λ e. not (t e)) (tab n (λ e. e)) d

module _ (n : ℕ) (t : ℕ → Bool) where
  pub reach-none : Reached n t 0
  reach-none = passed_none (λ e. not (t e)) (tab n (λ e. e))

  module _ (d : ℕ) (reached : Reached n t d) where
    inside : d < n → d < length (tab n (λ e. e))
    inside h = rw (length-tab n (λ (e : ℕ). e)) h

    pub reach-next : d < n → t d ≡ true → Reached n t (d + 1)
    reach-next h e = passed-next (λ e. not (t e)) (tab n (λ e. e)) d (inside h) (rw (get_or-tab n (λ e. e) d 0 h, e) refl) reached

    pub reach_here : d < n → t d ≡ false → d ≡ first_failing n t
    unfolding first_failing
    reach_here h e = passed_here (λ e. not (t e)) (tab n (λ e. e)) d (inside h) (rw (get_or-tab n (λ e. e) d 0 h, e) refl) reached

    pub reach-end : n ≤ d → d ≤ n → n ≡ first_failing n t
    unfolding first_failing
    reach-end h g =
        let q : n ≡ d = omega arith in
        q ∙ passed-end (λ e. not (t e)) (tab n (λ e. e)) d (rw (length-tab n (λ (e : ℕ). e)) h) reached

  pub holds_at : everywhere n t ≡ true → (d : ℕ) → d < n → t d ≡ true
  unfolding everywhere first_failing
  holds_at e d h =
      let q : first_where (λ e. not (t e)) (tab n (λ e. e)) ≡ length (tab n (λ e. e)) = rw (length-tab n (λ (e : ℕ). e)) (eqb-true (first_failing n t) n e) in
      let z : not (t (get_or (tab n (λ e. e)) d 0)) ≡ false = none_passes (λ e. not (t e)) (tab n (λ e. e)) d q (rw (length-tab n (λ (e : ℕ). e)) h) in
      not-false (t d) (rw (get_or-tab n (λ e. e) d 0 h) at z)

pub count-in : (t : ℕ → Bool) (n : ℕ) → t n ≡ true → count_below t (n + 1) ≡ count_below t n + 1
count-in t n e = rw (add-one n, e) refl

pub count-out : (t : ℕ → Bool) (n : ℕ) → t n ≡ false → count_below t (n + 1) ≡ count_below t n
count-out t n e = rw (add-one n, e) (let z : count_below t n + 0 ≡ count_below t n = omega arith in z)

pub sum-next : (n : ℕ) (f : ℕ → ℕ) → sum_below (n + 1) f ≡ sum_below n f + f n
sum-next n f = ap (λ (k : ℕ). sum_below k f) (add-one n)

-- ---- a test of each number of a range

module _ (test : ℕ → Bool) where
  all-tests : (n a : ℕ) (t : ℕ → Bool) (f : ℕ → ℕ) → ((k : ℕ) → t (f k) ≡ test (a + k)) → eqb (first_where (λ d. not (t d)) (tab n f)) n ≡ list_all test (range_with_len a n)
  unfolding first_where
  all-tests zero a t f h = refl
  all-tests (suc n) a t f h =
      let e : a + 0 ≡ a = omega arith in
      step (t (f 0)) (test a) refl refl (h 0 ∙ ap test e) (all-tests n (a + 1) t (λ k. f (suc k)) (λ k. let e : a + suc k ≡ a + 1 + k = omega arith in h (suc k) ∙ ap test e))
    where
      step : (b c : Bool) → t (f 0) ≡ b → test a ≡ c → t (f 0) ≡ test a → eqb (first_where (λ d. not (t d)) (tab n (λ k. f (suc k)))) n ≡ list_all test (range_with_len (a + 1) n) →
          eqb (pick (not (t (f 0))) 0 (suc (first_where (λ d. not (t d)) (tab n (λ k. f (suc k)))))) (suc n) ≡ (test a && list_all test (range_with_len (a + 1) n))
      step true true p q here later = rw (p, q, eqb-suc-suc) later
      step false false p q here later = rw (p, q, eqb-zero-suc) refl
      step true false p q here later = absurd (true≢false (sym p ∙ here ∙ q))
      step false true p q here later = absurd (true≢false (sym q ∙ sym here ∙ p))

  -- what `all` over n numbers from a on answers
  pub all-everywhere : (a n : ℕ) (t : ℕ → Bool) → ((k : ℕ) → t k ≡ test (a + k)) → list_all test (range_with_len a n) ≡ everywhere n t
  unfolding everywhere first_failing
  all-everywhere a n t h = sym (all-tests n a t (λ d. d) h)

-- ---- sums and counts over lists

-- the sum over a list's first n elements
pub sum-taken : {X : Type 0} (h : X → ℕ) (xs : List X) (d : X) (n : ℕ) → n ≤ length xs → sum_by h (take n xs) ≡ sum_below n (λ j. h (get_or xs j d))
sum-taken h xs d zero q = refl
sum-taken h xs d (suc n) q =
    let m : n ≤ length xs = omega arith in
    ap (λ k. sum_by h (take k xs)) (sym (add-one n)) ∙ sum_by_more h xs n d (omega arith) ∙ ap (λ k. k + h (get_or xs n d)) (sum-taken h xs d n m)

-- the sum of n numbers of at most 4096 each
pub sum-small : (n : ℕ) (f : ℕ → ℕ) → ((j : ℕ) → j < n → f j ≤ 4096) → sum_below n f ≤ 4096 * n
sum-small zero f h = omega arith
sum-small (suc n) f h = let e = sum-small n f (λ j l. h j (omega arith)) in let g = h n (omega arith) in omega arith

counted : (t : ℕ → Bool) (d n : ℕ) → n ≤ d → count_by t (take n (range_with_len 0 d)) ≡ count_below t n
counted t d zero q = refl
counted t d (suc n) q =
    let l : n < length (range_with_len 0 d) = rw (length-range_with_len 0 d) (omega arith) in
    let at : get_or (range_with_len 0 d) n 0 ≡ n = get_or-range_with_len 0 d n 0 (omega arith) ∙ (let e : 0 + n ≡ n = omega arith in e) in
    ap (λ k. count_by t (take k (range_with_len 0 d))) (sym (add-one n)) ∙ step (t n) refl l at (counted t d n (omega arith))
  where
    step : (b : Bool) → t n ≡ b → n < length (range_with_len 0 d) → get_or (range_with_len 0 d) n 0 ≡ n → count_by t (take n (range_with_len 0 d)) ≡ count_below t n
        → count_by t (take (n + 1) (range_with_len 0 d)) ≡ count_below t n + pick (t n) 1 0
    step true p l at e = rw p (count_by_more_yes t (range_with_len 0 d) n 0 l (ap t at ∙ p) ∙ ap (λ k. k + 1) e)
    step false p l at e = rw p (count_by_more_no t (range_with_len 0 d) n 0 l (ap t at ∙ p) ∙ e ∙ (let z : count_below t n ≡ count_below t n + 0 = omega arith in z))

-- how many of the numbers below n pass
pub count-below : (t : ℕ → Bool) (n : ℕ) → length (filter t (range_with_len 0 n)) ≡ count_below t n
count-below t n =
    length-filter t (range_with_len 0 n)
    ∙ ap (count_by t) (sym (take_all n (range_with_len 0 n) (rw (length-range_with_len 0 n) (omega arith))))
    ∙ counted t n n (omega arith)
