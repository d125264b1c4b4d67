-- The dimensions that a list leaves: how many, and which stands at each place.
-- Assumes nothing.
use mathlib.Core.Path.{◌≡◌, refl, ap, ◌∙◌}
use mathlib.Core.List.{List, [], ◌∷◌, ◌++◌}
use mathlib.Core.Bool.{Bool, true, false, not, ◌||◌}
use Prim.Native.Nat.{ℕ, zero, suc, ◌+◌, ◌<◌, suc-le-suc}
use native.Mathlib.Nat.{not-suc-le-zero, le_of_suc-le-suc, zero-lt-suc}
use native.Mathlib.Decide.{dec_lt}
use native.Mathlib.Omega.{arith}
use lib.ListN.{length, get_or, length-append}
use lib.IntN.{ℤ, pos}
use Rattle.lists.specs.Lists.{pick, tab}
use Rattle.dimrules.specs.Whole.{eq_int}
use Rattle.shape.specs.Place.{count_below}
use Rattle.checks.specs.Check.{is}
use Rattle.checks.specs.Formula.{◌!◌, member_of, axes, leaving}
use Rattle.checks.proofs.MeaningLaw.{eq_int-true, true-eq_int}

pub among_none : (z : ℤ) (l : List ℤ) → ((i : ℕ) → i < length l → get_or l i (pos 0) ≡ z → ⊥) → member_of z l ≡ false
among_none z [] f = refl
among_none z (y ∷ l) f = by-test (eq_int y z) refl (among_none z l (λ i h q. f (suc i) (suc-le-suc h) q))
  where
    by-test : (b : Bool) → eq_int y z ≡ b → member_of z l ≡ false → b || member_of z l ≡ false
    by-test true q ih = absurd (f zero (zero-lt-suc (length l)) (eq_int-true y z q))
    by-test false q ih = ih

pub among-some : (z : ℤ) (l : List ℤ) (i : ℕ) → i < length l → get_or l i (pos 0) ≡ z → member_of z l ≡ true
among-some z [] i h q = absurd (not-suc-le-zero h)
among-some z (y ∷ l) zero h q = rw (true-eq_int y z q) refl
among-some z (y ∷ l) (suc i) h q = or-last (eq_int y z) (member_of z l) (among-some z l i (le_of_suc-le-suc h) q)
  where
    or-last : (a b : Bool) → b ≡ true → a || b ≡ true
    or-last true b p = refl
    or-last false b p = p

-- ---- one axis more

snoc : {A : Type 0} (n : ℕ) (f : ℕ → A) → tab (suc n) f ≡ tab n f ++ (f n ∷ [])
snoc zero f = refl
snoc {A} (suc n) f = ap (λ (l : List A). f zero ∷ l) (snoc n (λ k. f (suc k)))

leaving-append : (l m bad : List ℤ) → leaving (l ++ m) bad ≡ leaving l bad ++ leaving m bad
leaving-append [] m bad = refl
leaving-append (z ∷ l) m bad = by-test (member_of z bad) (leaving-append l m bad)
  where
    by-test : (b : Bool) → leaving (l ++ m) bad ≡ leaving l bad ++ leaving m bad →
        pick b (leaving (l ++ m) bad) (z ∷ leaving (l ++ m) bad) ≡ pick b (leaving l bad) (z ∷ leaving l bad) ++ leaving m bad
    by-test true ih = ih
    by-test false ih = ap (λ (k : List ℤ). z ∷ k) ih

abbrev last_axis : Bool → ℕ → List ℤ
last_axis b n = pick b [] (pos n ∷ [])

leaving-next : (n : ℕ) (bad : List ℤ) → leaving (axes (suc n)) bad ≡ leaving (axes n) bad ++ last_axis (member_of (pos n) bad) n
leaving-next n bad = ap (λ (l : List ℤ). leaving l bad) (snoc n pos) ∙ leaving-append (axes n) (pos n ∷ []) bad

append-inside : (l m : List ℤ) (d : ℕ) → d < length l → (l ++ m) ! d ≡ l ! d
append-inside [] m d h = absurd (not-suc-le-zero h)
append-inside (z ∷ l) m zero h = refl
append-inside (z ∷ l) m (suc d) h = append-inside l m d (le_of_suc-le-suc h)

append-past : (l : List ℤ) (z : ℤ) → (l ++ (z ∷ [])) ! length l ≡ is z
append-past [] z = refl
append-past (y ∷ l) z = append-past l z

-- ---- how many, and which

module _ (bad : List ℤ) where
  -- how many of the dimensions below d are left: the place of d among those
  abbrev pub left_below : ℕ → ℕ
  left_below d = count_below (λ e. not (member_of (pos e) bad)) d

  pub leaving-long : (n : ℕ) → length (leaving (axes n) bad) ≡ left_below n
  leaving-long zero = refl
  leaving-long (suc n) =
      ap length (leaving-next n bad) ∙ length-append (leaving (axes n) bad) (last_axis (member_of (pos n) bad) n)
      ∙ ap (λ (k : ℕ). k + length (last_axis (member_of (pos n) bad) n)) (leaving-long n) ∙ ap (λ (k : ℕ). left_below n + k) (by-test (member_of (pos n) bad))
    where
      by-test : (b : Bool) → length (last_axis b n) ≡ pick (not b) 1 0
      by-test true = refl
      by-test false = refl

  pub left_less : (n d : ℕ) → d < n → member_of (pos d) bad ≡ false → left_below d < left_below n
  left_less zero d h q = absurd (not-suc-le-zero h)
  left_less (suc n) d h q = by_place (dec_lt d n) (λ k. left_less n d k q)
    where
      by_place : Dec (d < n) → (d < n → left_below d < left_below n) → left_below d < left_below n + pick (not (member_of (pos n) bad)) 1 0
      by_place (yes k) ih = let g = ih k in omega arith
      by_place (no k) ih =
          let e : d ≡ n = omega arith in
          let w : member_of (pos n) bad ≡ false = rw e at q in
          rw (w, e) (omega arith)

  -- dimension d stands at its place
  pub leaving-at : (n d : ℕ) → d < n → member_of (pos d) bad ≡ false → leaving (axes n) bad ! left_below d ≡ is (pos d)
  leaving-at zero d h q = absurd (not-suc-le-zero h)
  leaving-at (suc n) d h q = by_place (dec_lt d n) (λ k. leaving-at n d k q)
    where
      by_place : Dec (d < n) → (d < n → leaving (axes n) bad ! left_below d ≡ is (pos d)) → leaving (axes (suc n)) bad ! left_below d ≡ is (pos d)
      by_place (yes k) ih =
          ap (λ (l : List ℤ). l ! left_below d) (leaving-next n bad)
          ∙ append-inside (leaving (axes n) bad) (last_axis (member_of (pos n) bad) n) (left_below d) (rw (leaving-long n) (left_less n d k q)) ∙ ih k
      by_place (no k) ih =
          let e : d ≡ n = omega arith in
          let w : member_of (pos n) bad ≡ false = rw e at q in
          ap (λ (l : List ℤ). l ! left_below d) (leaving-next n bad)
          ∙ rw (w, e, ← leaving-long n) (append-past (leaving (axes n) bad) (pos n))

  -- and at each place stands one
  pub leaving-from : (n j : ℕ) → j < left_below n → (d : ℕ) × (d < n) × (member_of (pos d) bad ≡ false) × (left_below d ≡ j)
  leaving-from zero j h = absurd (not-suc-le-zero h)
  leaving-from (suc n) j h = by-test (member_of (pos n) bad) refl (dec_lt j (left_below n)) (leaving-from n j)
    where
      by-test : (b : Bool) → member_of (pos n) bad ≡ b → Dec (j < left_below n) →
          (j < left_below n → (d : ℕ) × (d < n) × (member_of (pos d) bad ≡ false) × (left_below d ≡ j)) →
          (d : ℕ) × (d < suc n) × (member_of (pos d) bad ≡ false) × (left_below d ≡ j)
      by-test b q (yes k) ih = let x = ih k in (x.0, (let l = x.1 in omega arith), x.2, x.3)
      by-test true q (no k) ih = let g : j < left_below n + 0 = rw q at h in absurd (let z : ⊥ = omega arith in z)
      by-test false q (no k) ih = let g : j < left_below n + 1 = rw q at h in (n, omega arith, q, omega arith)
