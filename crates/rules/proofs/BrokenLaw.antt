-- The first broken constraint, and what it says where there is none.
-- Assumes nothing.
use mathlib.Core.Path.{◌≡◌, refl, ap, ◌∙◌}
use mathlib.Core.List.{List, [], ◌∷◌}
use mathlib.Core.Bool.{Bool, true, false, not, cond}
use Prim.Native.Nat.{ℕ, suc, ◌+◌}
use native.Mathlib.Nat.{suc-ne-zero}
use borrow.Author.Tests.{lt-ltb, le-ltb, ltb-true, ltb-false}
use lib.Dec.{ltb}
use lib.ListN.{length}
use Rattle.std.specs.List.{position_or_len}
use Rattle.std.specs.Option.{option_map}
use Rattle.std.specs.declared.option.Option.TheVariants.{None, Some}
use native.Mathlib.Omega.{arith}
use Rattle.rules.specs.Constraint.{constraint_of}
use Rattle.rule_laws.specs.Broken.{first_from, first_broken}

ltb-more : (p l : ℕ) → ltb (1 + p) (suc l) ≡ ltb p l
ltb-more p l = by (ltb p l) refl
  where
    by : (b : Bool) → ltb p l ≡ b → ltb (1 + p) (suc l) ≡ b
    by true e = lt-ltb _ _ (let h = ltb-true p l e in omega arith)
    by false e = le-ltb _ _ (let h = ltb-false p l e in omega arith)

-- the place of the first test that fails, and its number
placed : (cs : List Bool) (n : ℕ) → option_map (λ (k : ℕ). k + suc n) (cond (ltb (position_or_len not cs) (length cs)) (Some (position_or_len not cs)) None) ≡ constraint_of (first_from (suc n) cs)
placed [] n = refl
placed (false ∷ cs) n = let e : 0 + suc n ≡ suc n = omega arith in rw (lt-ltb 0 (suc (length cs)) (omega arith)) (ap Some e)
placed (true ∷ cs) n = by (position_or_len not cs) (length cs) (placed cs (suc n))
  where
    at : (b : Bool) (p : ℕ) → option_map (λ (k : ℕ). k + suc (suc n)) (cond b (Some p) None) ≡ constraint_of (first_from (suc (suc n)) cs) → option_map (λ (k : ℕ). k + suc n) (cond b (Some (1 + p)) None) ≡ constraint_of (first_from (suc (suc n)) cs)
    at true p h = let e : 1 + p + suc n ≡ p + suc (suc n) = omega arith in ap Some e ∙ h
    at false p h = h

    by : (p l : ℕ) → option_map (λ (k : ℕ). k + suc (suc n)) (cond (ltb p l) (Some p) None) ≡ constraint_of (first_from (suc (suc n)) cs) → option_map (λ (k : ℕ). k + suc n) (cond (ltb (1 + p) (suc l)) (Some (1 + p)) None) ≡ constraint_of (first_from (suc (suc n)) cs)
    by p l h = rw (ltb-more p l) (at (ltb p l) p h)

pub broken-place : (cs : List Bool) → option_map (λ (k : ℕ). k + 1) (cond (ltb (position_or_len not cs) (length cs)) (Some (position_or_len not cs)) None) ≡ constraint_of (first_broken cs)
broken-place cs = placed cs 0

-- every test of a list holds
abbrev pub Holds : List Bool → Type 0
Holds [] = Unit {0}
Holds (c ∷ cs) = (c ≡ true) × Holds cs

holds-from : (k : ℕ) (cs : List Bool) → first_from (suc k) cs ≡ 0 → Holds cs
holds-from k [] e = tt
holds-from k (true ∷ cs) e = (refl, holds-from (suc k) cs e)
holds-from k (false ∷ cs) e = absurd (suc-ne-zero k e)

pub holds : (cs : List Bool) → first_broken cs ≡ 0 → Holds cs
holds cs e = holds-from 0 cs e
