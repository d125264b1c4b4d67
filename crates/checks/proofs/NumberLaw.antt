-- Refusal 8's number is 0 exactly where every constraint of a list holds.
-- Assumes nothing.
use mathlib.Core.Path.{◌≡◌, refl}
use mathlib.Core.List.{List, [], ◌∷◌}
use mathlib.Core.Bool.{Bool, true, false}
use Prim.Native.Nat.{ℕ, suc}
use native.Mathlib.Nat.{suc-ne-zero}
use Rattle.lists.specs.Lists.{pick}
use Rattle.checks.specs.Check.{Check, check_holds, broken_from, broken_number}

-- each constraint of a list holds
abbrev pub AllHold : List Check → Type 0
AllHold [] = Unit {0}
AllHold (c ∷ cs) = (check_holds c ≡ true) × AllHold cs

hold-from : (k : ℕ) (cs : List Check) → broken_from (suc k) cs ≡ 0 → AllHold cs
hold-from k [] e = tt
hold-from k (c ∷ cs) e = by-test (check_holds c) e (hold-from (suc k) cs)
  where
    by-test : (b : Bool) → pick b (broken_from (suc (suc k)) cs) (suc k) ≡ 0 → (broken_from (suc (suc k)) cs ≡ 0 → AllHold cs) → (b ≡ true) × AllHold cs
    by-test true q ih = (refl, ih q)
    by-test false q ih = absurd (suc-ne-zero k q)

pub all_hold : (cs : List Check) → broken_number cs ≡ 0 → AllHold cs
all_hold cs e = hold-from 0 cs e

none_from : (k : ℕ) (cs : List Check) → AllHold cs → broken_from k cs ≡ 0
none_from k [] h = refl
none_from k (c ∷ cs) h = rw h.0 (none_from (suc k) cs h.1)

pub none-broken : (cs : List Check) → AllHold cs → broken_number cs ≡ 0
none-broken cs h = none_from 1 cs h
