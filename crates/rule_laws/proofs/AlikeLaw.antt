-- A list of checks and a list of tests with one first broken entry.
-- Assumes nothing.
use mathlib.Core.Path.{◌≡◌, refl}
use mathlib.Core.List.{List, [], ◌∷◌}
use mathlib.Core.Bool.{Bool, true, false}
use Prim.Native.Nat.{ℕ, suc}
use Rattle.lists.specs.Lists.{pick}
use Rattle.checks.specs.Check.{Check, check_holds, broken_from}
use Rattle.rule_laws.specs.Broken.{first_from}

-- alike up to the first that is broken; checks beyond the tests hold
abbrev pub AlikeFirst : List Check → List Bool → Type 0
AlikeFirst [] [] = Unit {0}
AlikeFirst [] (b ∷ bs) = ⊥
AlikeFirst (c ∷ cs) [] = (check_holds c ≡ true) × AlikeFirst cs []
AlikeFirst (c ∷ cs) (b ∷ bs) = (check_holds c ≡ b) × (check_holds c ≡ true → AlikeFirst cs bs)

pub alike-first : (cs : List Check) (bs : List Bool) (k : ℕ) → AlikeFirst cs bs → broken_from k cs ≡ first_from k bs
alike-first [] [] k h = refl
alike-first [] (b ∷ bs) k h = absurd h
alike-first (c ∷ cs) [] k h = rw h.0 (alike-first cs [] (suc k) h.1)
alike-first (c ∷ cs) (b ∷ bs) k h = by-test (check_holds c) refl (alike-first cs bs (suc k))
  where
    by-test : (a : Bool) → check_holds c ≡ a → (AlikeFirst cs bs → broken_from (suc k) cs ≡ first_from (suc k) bs) →
        pick (check_holds c) (broken_from (suc k) cs) k ≡ pick b (first_from (suc k) bs) k
    by-test true q ih = rw (← h.0, q) (ih (h.1 q))
    by-test false q ih = rw (← h.0, q) refl
