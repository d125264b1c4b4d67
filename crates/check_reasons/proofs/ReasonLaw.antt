-- The reason of a list of constraints: its number is refusal 8's, it is there exactly where one is broken, and it is true.
-- Assumes nothing.
use mathlib.Core.Path.{◌≡◌, refl, sym, ap, ◌∙◌}
use mathlib.Core.List.{List, [], ◌∷◌}
use mathlib.Core.Bool.{Bool, true, false}
use Prim.Native.Nat.{ℕ, zero, suc, ◌+◌, ◌≤◌, ◌<◌, suc-le-suc}
use native.Mathlib.Nat.{not-suc-le-zero, le_of_suc-le-suc, zero-lt-suc}
use native.Mathlib.Omega.{arith}
use lib.ListN.{length, get_or}
use Rattle.lists.specs.Lists.{pick}
use Rattle.checks.specs.Check.{Check, check_holds, broken_from, broken_number}
use Rattle.check_reasons.specs.Reasons.{Shown, nowhere, fails_at, failing_of, because, reason_from, reason_of, Reasoned}
use Rattle.check_reasons.proofs.FailingLaw.{fails-somewhere}

-- ---- the number

number-from : (k : ℕ) (cs : List Check) → (reason_from k cs).number ≡ broken_from k cs
number-from k [] = refl
number-from k (c ∷ cs) = by-test (check_holds c) (number-from (suc k) cs)
  where
    by-test : (b : Bool) → (reason_from (suc k) cs).number ≡ broken_from (suc k) cs → (pick b (reason_from (suc k) cs) (because k (failing_of c))).number ≡ pick b (broken_from (suc k) cs) k
    by-test true ih = ih
    by-test false ih = refl

pub reason-number : (cs : List Check) → (reason_of cs).number ≡ broken_number cs
reason-number cs = number-from 1 cs

-- ---- no reason

-- no constraint is broken: nothing is shown
nothing-from : (k : ℕ) (cs : List Check) → broken_from (suc k) cs ≡ 0 → reason_from (suc k) cs ≡ because 0 nowhere
nothing-from k [] e = refl
nothing-from k (c ∷ cs) e = by-test (check_holds c) e (nothing-from (suc k) cs)
  where
    by-test : (b : Bool) → pick b (broken_from (suc (suc k)) cs) (suc k) ≡ 0 →
        (broken_from (suc (suc k)) cs ≡ 0 → reason_from (suc (suc k)) cs ≡ because 0 nowhere) →
        pick b (reason_from (suc (suc k)) cs) (because (suc k) (failing_of c)) ≡ because 0 nowhere
    by-test true e ih = ih e
    by-test false e ih = absurd (let z : ⊥ = omega arith in z)

pub no-reason : (cs : List Check) → broken_number cs ≡ 0 → reason_of cs ≡ because 0 nowhere
no-reason cs e = nothing-from 0 cs e

-- ---- the reason

abbrev ReasonFrom : ℕ → List Check → ℕ → Type 0
ReasonFrom k cs n = (d : ℕ) × (s : Shown) × (reason_from k cs ≡ because (k + n) (fails_at d s)) × Reasoned cs n d s

next-check : (c : Check) (cs : List Check) (n d : ℕ) (s : Shown) → check_holds c ≡ true → Reasoned cs n d s → Reasoned (c ∷ cs) (suc n) d s
next-check c cs n d s q x = record { inside = suc-le-suc x.inside; earlier = λ i l. before i l; here = x.here }
  where
    before : (i : ℕ) → i < suc n → check_holds (get_or (c ∷ cs) i []) ≡ true
    before zero l = q
    before (suc i) l = x.earlier i (le_of_suc-le-suc l)

-- the first constraint holds, and the rest has a reason
reason-next : (k : ℕ) (c : Check) (cs : List Check) (n : ℕ) → check_holds c ≡ true → ReasonFrom (suc k) cs n → ReasonFrom k (c ∷ cs) (suc n)
reason-next k c cs n q (d, s, e, x) =
    let z : suc k + n ≡ k + suc n = omega arith in
    (d, s, rw (q, ← z) e, next-check c cs n d s q x)

-- the first constraint is broken
reason-here : (k : ℕ) (c : Check) (cs : List Check) → check_holds c ≡ false → ReasonFrom k (c ∷ cs) 0
reason-here k c cs q =
    let x = fails-somewhere c q in
    let z : k + 0 ≡ k = omega arith in (
      x.0,
      x.1,
      rw (q, z) (ap (because k) x.2),
      record { inside = zero-lt-suc (length cs); earlier = λ i l. absurd (not-suc-le-zero l); here = x.3 },
    )

-- a number that is not 0 is at least the first
at_least : (k : ℕ) (cs : List Check) (n : ℕ) → broken_from k cs ≡ suc n → k ≤ suc n
at_least k [] n e = absurd (let z : ⊥ = omega arith in z)
at_least k (c ∷ cs) n e = by-test (check_holds c) e (at_least (suc k) cs n)
  where
    by-test : (b : Bool) → pick b (broken_from (suc k) cs) k ≡ suc n → (broken_from (suc k) cs ≡ suc n → suc k ≤ suc n) → k ≤ suc n
    by-test true e ih = let g = ih e in omega arith
    by-test false e ih = omega arith

reason-from : (k : ℕ) (cs : List Check) (n : ℕ) → broken_from (suc k) cs ≡ suc k + n → ReasonFrom (suc k) cs n
reason-from k [] n e = absurd (let z : ⊥ = omega arith in z)
reason-from k (c ∷ cs) n e = by-test (check_holds c) refl n e (reason-from (suc k) cs)
  where
    by-test : (b : Bool) → check_holds c ≡ b → (m : ℕ) → pick b (broken_from (suc (suc k)) cs) (suc k) ≡ suc k + m →
        ((i : ℕ) → broken_from (suc (suc k)) cs ≡ suc (suc k) + i → ReasonFrom (suc (suc k)) cs i) → ReasonFrom (suc k) (c ∷ cs) m
    by-test true q zero a ih =
        let g = at_least (suc (suc k)) cs k (let z : suc k + 0 ≡ suc k = omega arith in a ∙ z) in
        absurd (let z : ⊥ = omega arith in z)
    by-test true q (suc m) a ih = reason-next (suc k) c cs m q (ih m (let z : suc k + suc m ≡ suc (suc k) + m = omega arith in a ∙ z))
    by-test false q zero a ih = reason-here (suc k) c cs q
    by-test false q (suc m) a ih = absurd (let z : ⊥ = omega arith in z)

-- C(n + 1) is refused: it is shown with a place and what is shown there, and this is true
pub reason-law : (cs : List Check) (n : ℕ) → broken_number cs ≡ suc n → (d : ℕ) × (s : Shown) × (reason_of cs ≡ because (suc n) (fails_at d s)) × Reasoned cs n d s
reason-law cs n e =
    let z : 1 + n ≡ suc n = omega arith in
    let x = reason-from 0 cs n (e ∙ sym z) in
    (x.0, x.1, x.2 ∙ ap (λ (j : ℕ). because j (fails_at x.0 x.1)) z, x.3)
