-- What a refusal can show of a list of constraints: the first that doesn't hold (01, refusal 8), the lowest place at which it fails, and the two numbers
-- of the first comparison that fails there. They come from the same checks as refusal 8's C number. Then when what is shown is true.
-- Assumes nothing.
use Rattle.std.specs.Prelude.{◌≡◌, List, [], ◌∷◌, true, false, ℕ, suc, ◌<◌, length, get_or, ℤ}
use Rattle.lists.specs.Lists.{pick}
use Rattle.checks.specs.Check.{Term, is, missing, Test, compare, fact, or_else, Check, test_holds, tests_hold, check_holds}
use Rattle.checks.specs.Meaning.{Related}

-- ---- what is shown

-- of a test that fails: the two numbers that it compares, or neither where it compares none
pub data Shown : Type 0 where
  neither : Shown
  both : ℤ → ℤ → Shown

-- "a dimension or list place that doesn't exist" (01) is no number: neither is shown
abbrev pub shown_of : Term → Term → Shown
shown_of (is a) (is b) = both a b
shown_of (is a) missing = neither
shown_of missing b = neither

-- of either of two tests, the first
abbrev pub shown_by : Test → Shown
shown_by (compare a r b) = shown_of a b
shown_by (fact b) = neither
shown_by (or_else t u) = shown_by t

-- of the tests at one place, the first that fails
abbrev pub first_shown : List Test → Shown
first_shown [] = neither
first_shown (t ∷ ts) = let rest = first_shown ts in pick (test_holds t) rest (shown_by t)

-- where a check fails: nowhere, or at a place, with what is shown there
pub data Failing : Type 0 where
  nowhere : Failing
  fails_at : ℕ → Shown → Failing

-- the lowest place at which a check fails, counted from d. "the constraint holds if the formula evaluates to either true or to a tensor which only has
-- true elements" (000, "Formulas"): this is the place of its first element that is false
abbrev pub failing_from : ℕ → Check → Failing
failing_from d [] = nowhere
failing_from d (p ∷ ps) = let rest = failing_from (suc d) ps in pick (tests_hold p) rest (fails_at d (first_shown p))

abbrev pub failing_of : Check → Failing
failing_of c = failing_from 0 c

-- of a list of constraints, the C number of the first that doesn't hold, 0 for none, and where it fails: 01, refusal 8, "its C number in 000",
-- "the lowest C number first"
pub record Reason : Type 0 where
  pub number : ℕ
  pub why : Failing

abbrev pub because : ℕ → Failing → Reason
because k f = record { number = k; why = f }

abbrev pub reason_from : ℕ → List Check → Reason
reason_from k [] = because 0 nowhere
reason_from k (c ∷ cs) = let rest = reason_from (suc k) cs in pick (check_holds c) rest (because k (failing_of c))

abbrev pub reason_of : List Check → Reason
reason_of cs = reason_from 1 cs

-- ---- when it is true

-- x and y are the two numbers of the test's first comparison, and they are not related as it says
abbrev pub Disagrees : Test → ℤ → ℤ → Type 0
Disagrees (compare (is a) r (is b)) x y = (a ≡ x) × (b ≡ y) × (Related r x y → ⊥)
Disagrees (compare (is a) r missing) x y = ⊥
Disagrees (compare missing r b) x y = ⊥
Disagrees (fact b) x y = ⊥
Disagrees (or_else t u) x y = Disagrees t x y

-- the numbers that are shown disagree
abbrev pub TrulyShown : Test → Shown → Type 0
TrulyShown t neither = Unit {0}
TrulyShown t (both x y) = Disagrees t x y

-- past a list's end: a test that holds
abbrev pub no_test : Test
no_test = fact true

-- of the tests at one place, one is the first that fails, and s is what is shown of it
pub record FirstFailing (ts : List Test) (s : Shown) : Type 0 where
  pub which : ℕ
  pub inside : which < length ts
  pub earlier : (i : ℕ) → i < which → test_holds (get_or ts i no_test) ≡ true
  pub fails : test_holds (get_or ts which no_test) ≡ false
  pub shown : s ≡ shown_by (get_or ts which no_test)
  pub disagree : TrulyShown (get_or ts which no_test) s

-- place d is the first of a check at which a test fails, and s is what is shown there
pub record Explained (c : Check) (d : ℕ) (s : Shown) : Type 0 where
  pub inside : d < length c
  pub earlier : (e : ℕ) → e < d → tests_hold (get_or c e []) ≡ true
  pub here : FirstFailing (get_or c d []) s

-- constraint C(n + 1) is the first that doesn't hold, and it fails at place d with s
pub record Reasoned (cs : List Check) (n d : ℕ) (s : Shown) : Type 0 where
  pub inside : n < length cs
  pub earlier : (i : ℕ) → i < n → check_holds (get_or cs i []) ≡ true
  pub here : Explained (get_or cs n []) d s
