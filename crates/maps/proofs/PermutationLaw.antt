-- A permutation of range(n) has every number below n at one place.
-- Assumes nothing.
use mathlib.Core.Path.{◌≡◌, refl, sym, ap, ◌∙◌}
use mathlib.Core.List.{List, [], ◌∷◌}
use mathlib.Core.Bool.{Bool, true, false}
use Prim.Native.Nat.{ℕ, zero, suc, ◌<◌, suc-le-suc}
use native.Mathlib.Nat.{not-suc-le-zero, le_of_suc-le-suc, zero-lt-suc, suc_inj, suc-ne-zero}
use native.Mathlib.Decide.{dec_lt}
use native.Mathlib.Omega.{arith}
use lib.ListN.{length}
use lib.Dec.{eqb}
use borrow.Author.Tests.{eq-eqb, ne_eqb, eqb-true, eqb-false}
use Rattle.lists.specs.Lists.{pick, first_where}
use Rattle.shape.specs.Index.{at}
use Rattle.shape.specs.Place.{place_in}
use Rattle.maps.specs.Holds.{Distinct}

-- ---- a function on the numbers below n that meets none twice meets all

abbrev Below : ℕ → (ℕ → ℕ) → Type 0
Below n f = (d : ℕ) → d < n → f d < n

abbrev Once : ℕ → (ℕ → ℕ) → Type 0
Once n f = (a b : ℕ) → a < n → b < n → f a ≡ f b → a ≡ b

-- f on one number less: where it meets n it gives what f gives at n
moved : ℕ → (ℕ → ℕ) → ℕ → ℕ
moved n f d = pick (eqb (f d) n) (f n) (f d)

module _ (n : ℕ) (f : ℕ → ℕ) (below : Below (suc n) f) (once : Once (suc n) f) where
  moved-below : Below n (moved n f)
  unfolding moved
  moved-below d h = go (eqb (f d) n) refl
    where
      go : (b : Bool) → eqb (f d) n ≡ b → pick b (f n) (f d) < n
      go true q =
          let e : f d ≡ n = eqb-true (f d) n q in
          let ne : f n ≡ n → ⊥ = λ z. (let w : d ≡ n = once d n (omega arith) (omega arith) (e ∙ sym z) in let y : ⊥ = omega arith in y) in
          omega (arith, below n (omega arith), ne)
      go false q = let ne : f d ≡ n → ⊥ = eqb-false (f d) n q in omega (arith, below d (omega arith), ne)

  moved-once : Once n (moved n f)
  unfolding moved
  moved-once a c ha hc = go (eqb (f a) n) (eqb (f c) n) refl refl
    where
      go : (b b' : Bool) → eqb (f a) n ≡ b → eqb (f c) n ≡ b' → pick b (f n) (f a) ≡ pick b' (f n) (f c) → a ≡ c
      go true true q r e = once a c (omega arith) (omega arith) (eqb-true (f a) n q ∙ sym (eqb-true (f c) n r))
      go true false q r e = let w : n ≡ c = once n c (omega arith) (omega arith) e in absurd (let y : ⊥ = omega arith in y)
      go false true q r e = let w : a ≡ n = once a n (omega arith) (omega arith) e in absurd (let y : ⊥ = omega arith in y)
      go false false q r e = once a c (omega arith) (omega arith) e

  -- a number that moved meets is one that f meets
  moved-met : (e : ℕ) → (d : ℕ) × (d < n) × (moved n f d ≡ e) → (d : ℕ) × (d < suc n) × (f d ≡ e)
  unfolding moved
  moved-met e (d, h, q) = go (eqb (f d) n) q
    where
      go : (b : Bool) → pick b (f n) (f d) ≡ e → (d : ℕ) × (d < suc n) × (f d ≡ e)
      go true q = (n, omega arith, q)
      go false q = (d, omega arith, q)

  -- n itself: where f meets it at n, or where moved meets f n
  last-met : f n < n → (d : ℕ) × (d < n) × (moved n f d ≡ f n) → (d : ℕ) × (d < suc n) × (f d ≡ n)
  unfolding moved
  last-met l (d, h, q) = go (eqb (f d) n) refl q
    where
      go : (b : Bool) → eqb (f d) n ≡ b → pick b (f n) (f d) ≡ f n → (d : ℕ) × (d < suc n) × (f d ≡ n)
      go true r q = (d, omega arith, eqb-true (f d) n r)
      go false r q = let w : d ≡ n = once d n (omega arith) (omega arith) q in absurd (let y : ⊥ = omega arith in y)

pub onto : (n : ℕ) (f : ℕ → ℕ) → Below n f → Once n f → (e : ℕ) → e < n → (d : ℕ) × (d < n) × (f d ≡ e)
onto zero f below once e h = absurd (not-suc-le-zero h)
onto (suc n) f below once e h = by_place (dec_lt e n) (dec_lt (f n) n) (onto n (moved n f) (moved-below n f below once) (moved-once n f below once))
  where
    by_place : Dec (e < n) → Dec (f n < n) → ((e : ℕ) → e < n → (d : ℕ) × (d < n) × (moved n f d ≡ e)) → (d : ℕ) × (d < suc n) × (f d ≡ e)
    by_place (yes l) m ih = moved-met n f below once e (ih e l)
    by_place (no l) (yes m) ih =
        let w : e ≡ n = omega arith in
        let p = last-met n f below once m (ih (f n) m) in
        (p.0, p.1, p.2 ∙ sym w)
    by_place (no l) (no m) ih = (n, omega arith, omega (arith, below n (omega arith)))

-- ---- the place of a number

pub place_at : (l : List ℕ) → Distinct l → (e : ℕ) → e < length l → place_in l (at l e) ≡ e
unfolding first_where
place_at [] u e h = absurd (not-suc-le-zero h)
place_at (y ∷ l) u zero h = rw (eq-eqb y y refl)
place_at (y ∷ l) u (suc e) h =
    rw (ne_eqb y (at l e) (λ q. suc-ne-zero e (sym (u zero (suc e) (zero-lt-suc (length l)) h q))))
    (ap suc (place_at l (λ i j hi hj q. suc_inj (u (suc i) (suc j) (suc-le-suc hi) (suc-le-suc hj) q)) e (le_of_suc-le-suc h)))

-- in a permutation every number below its length has its place
pub at_place : (l : List ℕ) → Distinct l → ((d : ℕ) → d < length l → at l d < length l) → (e : ℕ) → e < length l → (place_in l e < length l) × (at l (place_in l e) ≡ e)
at_place l u below e h =
    let p = onto (length l) (at l) below u e h in
    let q : place_in l e ≡ p.0 = ap (place_in l) (sym p.2) ∙ place_at l u p.0 p.1 in
    (omega (arith, p.1), ap (at l) q ∙ p.2)
