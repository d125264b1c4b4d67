-- 01, "Sizes", as laws of the judge: the size that a token passes is the first of the eight sentences that hold at it.
-- Assumes nothing.
use mathlib.Core.Path.{◌≡◌, refl, sym, ap, subst, ◌∙◌}
use mathlib.Core.Bool.{Bool, true, false}
use mathlib.Core.List.{List, ◌∷◌, ◌++◌}
use Prim.Native.Nat.{ℕ, zero, suc, ◌-◌, ◌<◌}
use native.Mathlib.Omega.{arith}
use lib.ListN.{get_or}
use Rattle.syntax.specs.Readings.{Reading, readings}
use Rattle.judge.specs.declared.tally.Tally.{Tally}
use Rattle.judge.specs.Tally.{at_start}
use Rattle.judge.specs.Sizes.{many_elements, many_ops, many_items, long_list, large_number, long_name, first_passed, size_passed}
use Rattle.reading_laws.proofs.TallyLaw.{tally_after}
use Rattle.size_laws.specs.SizeSentences.{latest_first, PassedAt, rank, dimensions, elements, ops, items, numbers, range, characters, LowestPassed, NonePassed, SizeNumber, Exactly}
use Rattle.size_laws.proofs.OpenLaw.{OpenedEach, opened-each}
use Rattle.size_laws.proofs.CountedLaw.{tally-turned}
use Rattle.size_laws.proofs.WindowLaw.{WindowedEach, windowed-each}
use Rattle.size_laws.proofs.FirstLaw.{FirstAt, first_found, found, first-none}
use Rattle.size_laws.proofs.TestsLaw.{tests, size-tests, test-says, test-holds}

-- sizes are numbered from 1
numbered : {text : List ℕ} {earlier : List Reading} {x : Reading} {n : ℕ} → PassedAt text earlier x n → 0 < n
numbered (rank t h) = omega arith
numbered (dimensions t h) = omega arith
numbered (elements h) = omega arith
numbered (ops r h) = omega arith
numbered (items r h) = omega arith
numbered (numbers r h) = omega arith
numbered (range r h) = omega arith
numbered (characters r h) = omega arith

module _ (text : List ℕ) (earlier : List Reading) (x : Reading) (o : OpenedEach earlier) (w : WindowedEach (x ∷ earlier)) where
  abbrev bs : List Bool
  bs = tests text earlier x

  size-first : 0 < first_passed 1 bs → LowestPassed text earlier x (first_passed 1 bs)
  size-first h =
      let f = found 0 bs h in
      let e = f.number in
      let q : first_passed 1 bs ≡ suc f.place = omega arith in
      record {
        passed = subst (λ (n : ℕ). PassedAt text earlier x n) (sym q) (test-says text earlier x o w f.place f.first.holds);
        lowest = λ m l p. let g = numbered p in f.first.below (m - 1) (omega arith) (test-holds text earlier x o w p);
      }

  first-at : (n : ℕ) → LowestPassed text earlier x n → FirstAt bs (n - 1)
  first-at n f =
      let g = numbered f.passed in
      record {
        holds = test-holds text earlier x o w f.passed;
        below = λ j l e. f.lowest (suc j) (omega arith) (test-says text earlier x o w j e);
      }

  first-size : (n : ℕ) → LowestPassed text earlier x n → first_passed 1 bs ≡ n
  first-size n f =
      let g = numbered f.passed in
      let e = first_found 0 bs (n - 1) (first-at n f) in
      omega arith

  size_none : first_passed 1 bs ≡ 0 → NonePassed text earlier x
  size_none e m p = first-none 0 bs e (m - 1) (test-holds text earlier x o w p)

  none-size : NonePassed text earlier x → first_passed 1 bs ≡ 0
  none-size n = go (first_passed 1 bs) refl
    where
      go : (m : ℕ) → first_passed 1 bs ≡ m → m ≡ 0
      go zero e = refl
      go (suc m) e = absurd (n (first_passed 1 bs) (size-first (omega arith)).passed)

  by_tests : SizeNumber text earlier x (first_passed 1 bs)
  by_tests = record { passed = size-first; first = first-size; none = size_none; zero = none-size }

-- the number of a token's size is that of the first sentence that holds at it
pub size_number : (text : List ℕ) (before : List Reading) (x : Reading) (after : List Reading) → readings text ≡ before ++ (x ∷ after) → x.fits ≡ true →
    SizeNumber text (latest_first before) x (size_passed text (tally_after text at_start before) x.role x.token)
size_number text before x after e f =
    let o = (opened-each text before x after e f).1 in
    let w = windowed-each text before x after e f in
    let q : size_passed text (tally_after text at_start before) x.role x.token ≡ first_passed 1 (tests text (latest_first before) x) =
    ap (λ (s : Tally). size_passed text s x.role x.token) (tally-turned text before) ∙ size-tests text (latest_first before) x in
    subst (λ (n : ℕ). SizeNumber text (latest_first before) x n) (sym q) (by_tests text (latest_first before) x o w)

-- sizes 3 to 8, each by itself: the judge's test of a token holds exactly where the sentence does
module _ (text : List ℕ) (before : List Reading) (x : Reading) (after : List Reading) (e : readings text ≡ before ++ (x ∷ after)) (f : x.fits ≡ true) where
  abbrev At : ℕ → Type 0
  At n = PassedAt text (latest_first before) x n

  abbrev state : Tally
  state = tally_after text at_start before

  exactly : (k : ℕ) → Exactly (get_or (tests text (latest_first before) x) k false) (At (suc k))
  exactly k =
      let o = (opened-each text before x after e f).1 in
      let w = windowed-each text before x after e f in
      let q : suc k - 1 ≡ k = omega arith in
      record {
        says = test-says text (latest_first before) x o w k;
        holds = λ p. subst (λ (j : ℕ). get_or (tests text (latest_first before) x) j false ≡ true) q (test-holds text (latest_first before) x o w p);
      }

  pub elements-exactly : Exactly (many_elements text state x.role x.token) (At 3)
  elements-exactly = subst (λ (s : Tally). Exactly (many_elements text s x.role x.token) (At 3)) (sym (tally-turned text before)) (exactly 2)

  pub ops-exactly : Exactly (many_ops state x.role) (At 4)
  ops-exactly = subst (λ (s : Tally). Exactly (many_ops s x.role) (At 4)) (sym (tally-turned text before)) (exactly 3)

  pub items-exactly : Exactly (many_items state x.role) (At 5)
  items-exactly = subst (λ (s : Tally). Exactly (many_items s x.role) (At 5)) (sym (tally-turned text before)) (exactly 4)

  pub numbers-exactly : Exactly (long_list state x.role) (At 6)
  numbers-exactly = subst (λ (s : Tally). Exactly (long_list s x.role) (At 6)) (sym (tally-turned text before)) (exactly 5)

  pub range-exactly : Exactly (large_number text x.role x.token) (At 7)
  range-exactly = exactly 6

  pub characters-exactly : Exactly (long_name x.token) (At 8)
  characters-exactly = exactly 7
