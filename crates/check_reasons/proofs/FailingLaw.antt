-- Where a check fails: a place is shown exactly where the check doesn't hold. Every earlier place holds, at that place every earlier test does, and the
-- numbers that are shown disagree.
-- Assumes nothing.
use mathlib.Core.Path.{◌≡◌, refl, sym, ap, ◌∙◌, subst₂}
use mathlib.Core.List.{List, [], ◌∷◌}
use mathlib.Core.Bool.{Bool, true, false, ◌||◌, true≢false}
use Prim.Native.Nat.{ℕ, zero, suc, ◌+◌, ◌<◌, suc-le-suc}
use native.Mathlib.Nat.{not-suc-le-zero, le_of_suc-le-suc, zero-lt-suc}
use native.Mathlib.Omega.{arith}
use lib.ListN.{length, get_or}
use Rattle.lists.proofs.TestLaw.{both_true}
use Rattle.checks.specs.Check.{is, missing, Test, compare, fact, or_else, Check, test_holds, tests_hold, check_holds}
use Rattle.checks.proofs.MeaningLaw.{unrelated}
use Rattle.check_reasons.specs.Reasons.{Shown, neither, both, shown_by, first_shown, Failing, nowhere, fails_at, failing_from, failing_of, TrulyShown, no_test, FirstFailing, Explained}

-- ---- one test

or-false : (a b : Bool) → a || b ≡ false → a ≡ false
or-false true b e = e
or-false false b e = refl

truly-shown : (t : Test) → test_holds t ≡ false → TrulyShown t (shown_by t)
truly-shown (compare (is a) r (is b)) e = (refl, refl, λ h. true≢false (sym (unrelated r a b h) ∙ e))
truly-shown (compare (is a) r missing) e = tt
truly-shown (compare missing r b) e = tt
truly-shown (fact b) e = tt
truly-shown (or_else t u) e = of_either (shown_by t) (truly-shown t (or-false (test_holds t) (test_holds u) e))
  where
    of_either : (s : Shown) → TrulyShown t s → TrulyShown (or_else t u) s
    of_either neither h = tt
    of_either (both x y) h = h

-- ---- one place

first-shown : (ts : List Test) → tests_hold ts ≡ false → FirstFailing ts (first_shown ts)
first-shown [] e = absurd (true≢false e)
first-shown (t ∷ ts) e = by-test (test_holds t) refl (first-shown ts)
  where
    by-test : (b : Bool) → test_holds t ≡ b → (tests_hold ts ≡ false → FirstFailing ts (first_shown ts)) → FirstFailing (t ∷ ts) (first_shown (t ∷ ts))
    by-test true q ih =
        let r = ih (rw q at e) in
        rw q (record {
          which = suc r.which;
          inside = suc-le-suc r.inside;
          earlier = λ i l. before i l r.earlier;
          fails = r.fails;
          shown = r.shown;
          disagree = r.disagree;
        })
      where
        before : (i : ℕ) → i < suc (ih (rw q at e)).which → ((j : ℕ) → j < (ih (rw q at e)).which → test_holds (get_or ts j no_test) ≡ true) → test_holds (get_or (t ∷ ts) i no_test) ≡ true
        before zero l g = q
        before (suc i) l g = g i (le_of_suc-le-suc l)
    by-test false q ih =
        rw q (record {
          which = 0;
          inside = zero-lt-suc (length ts);
          earlier = λ i l. absurd (not-suc-le-zero l);
          fails = q;
          shown = refl;
          disagree = truly-shown t q;
        })

-- ---- all places

nowhere-from : (c : Check) (k : ℕ) → check_holds c ≡ true → failing_from k c ≡ nowhere
nowhere-from [] k e = refl
nowhere-from (p ∷ ps) k e =
    let h = both_true (tests_hold p) (check_holds ps) e in
    rw h.0 (nowhere-from ps (suc k) h.1)

-- the place that is shown, with why
abbrev FailsFrom : ℕ → Check → Type 0
FailsFrom k c = (d : ℕ) × (s : Shown) × (failing_from k c ≡ fails_at (k + d) s) × Explained c d s

next_place : (p : List Test) (ps : Check) (d : ℕ) (s : Shown) → tests_hold p ≡ true → Explained ps d s → Explained (p ∷ ps) (suc d) s
next_place p ps d s q x =
    record {
      inside = suc-le-suc x.inside;
      earlier = λ e l. before e l;
      here = x.here;
    }
  where
    before : (e : ℕ) → e < suc d → tests_hold (get_or (p ∷ ps) e []) ≡ true
    before zero l = q
    before (suc e) l = x.earlier e (le_of_suc-le-suc l)

fails-from : (c : Check) (k : ℕ) → check_holds c ≡ false → FailsFrom k c
fails-from [] k e = absurd (true≢false e)
fails-from (p ∷ ps) k e = by_place (tests_hold p) refl (fails-from ps (suc k))
  where
    by_place : (b : Bool) → tests_hold p ≡ b → (check_holds ps ≡ false → FailsFrom (suc k) ps) → FailsFrom k (p ∷ ps)
    by_place true q ih =
        let x = ih (rw q at e) in
        let z : suc k + x.0 ≡ k + suc x.0 = omega arith in
        (suc x.0, x.1, rw (q, ← z) x.2, next_place p ps x.0 x.1 q x.3)
    by_place false q ih =
        let z : k + 0 ≡ k = omega arith in (
          0,
          first_shown p,
          rw (q, z) refl,
          record {
            inside = zero-lt-suc (length ps);
            earlier = λ e l. absurd (not-suc-le-zero l);
            here = first-shown p q;
          },
        )

place_in : Failing → ℕ
place_in nowhere = 0
place_in (fails_at d s) = d

shown_in : Failing → Shown
shown_in nowhere = neither
shown_in (fails_at d s) = s

is_nowhere : Failing → Bool
is_nowhere nowhere = true
is_nowhere (fails_at d s) = false

same_place : (d e : ℕ) (s u : Shown) → fails_at d s ≡ fails_at e u → d ≡ e
unfolding place_in
same_place d e s u q = ap place_in q

same-shown : (d e : ℕ) (s u : Shown) → fails_at d s ≡ fails_at e u → s ≡ u
unfolding shown_in
same-shown d e s u q = ap shown_in q

pub not-nowhere : (d : ℕ) (s : Shown) → nowhere ≡ fails_at d s → ⊥
unfolding is_nowhere
not-nowhere d s q = true≢false (ap is_nowhere q)

-- ---- the laws

-- a check that holds fails nowhere
pub holds-nowhere : (c : Check) → check_holds c ≡ true → failing_of c ≡ nowhere
holds-nowhere c e = nowhere-from c 0 e

-- one that doesn't hold fails at a place, and what is shown of it is true
pub fails-somewhere : (c : Check) → check_holds c ≡ false → (d : ℕ) × (s : Shown) × (failing_of c ≡ fails_at d s) × Explained c d s
fails-somewhere c e =
    let x = fails-from c 0 e in
    let z : 0 + x.0 ≡ x.0 = omega arith in
    (x.0, x.1, rw (← z) x.2, x.3)

pub nowhere-holds : (c : Check) → failing_of c ≡ nowhere → check_holds c ≡ true
nowhere-holds c e = by-test (check_holds c) refl
  where
    by-test : (b : Bool) → check_holds c ≡ b → check_holds c ≡ true
    by-test true q = q
    by-test false q = let x = fails-somewhere c q in absurd (not-nowhere x.0 x.1 (sym e ∙ x.2))

-- what is shown is true
pub failing-law : (c : Check) (d : ℕ) (s : Shown) → failing_of c ≡ fails_at d s → Explained c d s
failing-law c d s e = by-test (check_holds c) refl
  where
    by-test : (b : Bool) → check_holds c ≡ b → Explained c d s
    by-test true q = absurd (not-nowhere d s (sym (holds-nowhere c q) ∙ e))
    by-test false q =
        let x = fails-somewhere c q in
        let w : fails_at x.0 x.1 ≡ fails_at d s = sym x.2 ∙ e in
        subst₂ (λ (n : ℕ) (u : Shown). Explained c n u) (same_place x.0 d x.1 s w) (same-shown x.0 d x.1 s w) x.3
