-- The first test of a list that holds, by its place.
-- Assumes nothing.
use mathlib.Core.Path.{◌≡◌, refl}
use mathlib.Core.Bool.{Bool, true, false}
use mathlib.Core.List.{List, [], ◌∷◌}
use Prim.Native.Nat.{ℕ, zero, suc, ◌+◌, ◌<◌}
use native.Mathlib.Omega.{arith}
use lib.ListN.{get_or}
use Rattle.judge.specs.Sizes.{first_passed}

pub wrong : {A : Type 0} → false ≡ true → A
wrong e = let z : ◌≡◌ {A = ℕ} 0 1 = cc in absurd (omega arith)

-- the test at place k holds, and none before it
pub record FirstAt (bs : List Bool) (k : ℕ) : Type 0 where
  pub holds : get_or bs k false ≡ true
  pub below : (j : ℕ) → j < k → get_or bs j false ≡ true → ⊥

pub first_found : (m : ℕ) (bs : List Bool) (k : ℕ) → FirstAt bs k → first_passed (suc m) bs ≡ suc m + k
unfolding first_passed
first_found m [] k f = wrong f.holds
first_found m (true ∷ bs) zero f = omega arith
first_found m (true ∷ bs) (suc k) f = absurd (f.below 0 (omega arith) refl)
first_found m (false ∷ bs) zero f = wrong f.holds
first_found m (false ∷ bs) (suc k) f =
    let h = first_found (suc m) bs k (record { holds = f.holds; below = λ j l e. f.below (suc j) (omega arith) e }) in
    omega arith

pub record Found (m : ℕ) (bs : List Bool) : Type 0 where
  pub place : ℕ
  pub number : first_passed (suc m) bs ≡ suc m + place
  pub first : FirstAt bs place

pub found : (m : ℕ) (bs : List Bool) → 0 < first_passed (suc m) bs → Found m bs
unfolding first_passed
found m [] h = absurd (omega arith)
found m (true ∷ bs) h = record { place = 0; number = omega arith; first = record { holds = refl; below = λ j l e. absurd (omega arith) } }
found m (false ∷ bs) h =
    let f = found (suc m) bs h in
    let n = f.number in
    record { place = suc f.place; number = omega arith; first = record { holds = f.first.holds; below = λ j l e. lower f.place f.first.below j l e } }
  where
    lower : (k : ℕ) → ((j : ℕ) → j < k → get_or bs j false ≡ true → ⊥) → (j : ℕ) → j < suc k → get_or (false ∷ bs) j false ≡ true → ⊥
    lower k g zero l e = wrong e
    lower k g (suc j) l e = g j (omega arith) e

-- where none holds
pub first-none : (m : ℕ) (bs : List Bool) → first_passed (suc m) bs ≡ 0 → (j : ℕ) → get_or bs j false ≡ true → ⊥
unfolding first_passed
first-none m [] e j f = wrong f
first-none m (true ∷ bs) e j f = omega arith
first-none m (false ∷ bs) e zero f = wrong f
first-none m (false ∷ bs) e (suc j) f = first-none (suc m) bs e j f
