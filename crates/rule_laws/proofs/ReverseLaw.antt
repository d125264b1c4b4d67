-- The checks of reverse refuse what its tests refuse, with the same C number. C2 comes before C3, so that its numbers may be any of 64 bits.
-- Assumes nothing.
use mathlib.Core.Path.{◌≡◌, sym, ap, ◌∙◌}
use mathlib.Core.Bool.{Bool, true, false}
use Prim.Native.Nat.{ℕ, ◌-◌, ◌^◌, ◌≤◌, ◌<◌}
use native.Mathlib.Omega.{arith}
use lib.Dec.{ltb}
use lib.IntN.{ℤ, pos, negsuc, nat_abs, pos-ne-negsuc}
use lib.ListN.{length}
use Rattle.lists.specs.Lists.{pick}
use Rattle.dimrules.specs.Whole.{number_of}
use Rattle.dimrules.specs.Dims.{num}
use Rattle.dimrules.specs.declared.TensorType.{TensorType}
use Rattle.dimrules.specs.declared.Numbers.{Numbers}
use Rattle.dimrules.specs.declared.Sides.{Sides}
use Rattle.checks.specs.Check.{broken_number}
use Rattle.checks.specs.Formula.{ints, rank}
use Rattle.checks.proofs.TypeLaw.{types_same}
use Rattle.checks.proofs.NumberLaw.{all_hold}
use Rattle.op_checks.specs.OpChecks.{reverse_checks}
use Rattle.rule_laws.specs.Broken.{sides_of, first_broken}
use Rattle.rule_laws.proofs.AlikeLaw.{alike-first}
use Rattle.rule_laws.proofs.DimensionsLaw.{indexes-same, unique-same, plain-apart}
use Rattle.rule_laws.proofs.Tests.{reverse_tests}

-- ---- numbers of 64 bits

distance : ℤ → ℕ
distance (pos n) = 0
distance (negsuc n) = n

-- two of 64 bits that differ differ as signed numbers
pub numbers_apart : (v w : ℕ) → v < 2 ^ 64 → w < 2 ^ 64 → number_of v ≡ number_of w → v ≡ w
unfolding distance
numbers_apart v w h g q = by_sign (ltb v (2 ^ 63)) (ltb w (2 ^ 63)) q
  where
    by_sign : (a b : Bool) → pick a (pos v) (negsuc (2 ^ 64 - 1 - v)) ≡ pick b (pos w) (negsuc (2 ^ 64 - 1 - w)) → v ≡ w
    by_sign true true q = ap nat_abs q
    by_sign true false q = absurd (pos-ne-negsuc v (2 ^ 64 - 1 - w) q)
    by_sign false true q = absurd (pos-ne-negsuc w (2 ^ 64 - 1 - v) (sym q))
    by_sign false false q = let e : 2 ^ 64 - 1 - v ≡ 2 ^ 64 - 1 - w = ap distance q in omega arith

-- ---- reverse

module _ (x : TensorType) (p : Numbers) (r : TensorType) (few : p.count ≤ length p.list) where
  abbrev sides : Sides
  sides = sides_of x r (rank r) p p p

  reverse-apart : ((d e : ℕ) → d < p.count → e < p.count → number_of (num p d) ≡ number_of (num p e) → num p d ≡ num p e) →
      broken_number (reverse_checks x (ints p) r) ≡ first_broken (reverse_tests x p r)
  unfolding reverse_checks reverse_tests
  reverse-apart apart =
      alike-first (reverse_checks x (ints p) r) (reverse_tests x p r) 1 (
        types_same x r,
        λ h1. (
          unique-same sides few apart,
          λ h2. (
            indexes-same sides,
            λ h3. tt,
          ),
        ),
      )

  pub same-reverse : ((d : ℕ) → d < p.count → num p d < 2 ^ 64) → broken_number (reverse_checks x (ints p) r) ≡ first_broken (reverse_tests x p r)
  same-reverse words = reverse-apart (λ d e k m. numbers_apart (num p d) (num p e) (words d k) (words e m))

  -- where none is broken, whatever the numbers
  pub held-reverse : broken_number (reverse_checks x (ints p) r) ≡ 0 → first_broken (reverse_tests x p r) ≡ 0
  unfolding reverse_checks
  held-reverse e =
      let h = all_hold (reverse_checks x (ints p) r) e in
      sym (reverse-apart (plain-apart sides few h.1.1.0)) ∙ e
