-- Tests of every number below one depend on those numbers alone.
-- Assumes nothing.
use mathlib.Core.Path.{◌≡◌, refl, ap}
use mathlib.Core.List.{List, [], ◌∷◌}
use mathlib.Core.Bool.{Bool, not}
use Prim.Native.Nat.{ℕ, ◌<◌}
use lib.Dec.{eqb}
use Rattle.lists.specs.Lists.{tab, first_where, All}
use Rattle.lists.proofs.AllLaw.{all-tab}
use Rattle.dimrules.specs.Count.{first_failing, everywhere}

first-same : (t u : ℕ → Bool) (xs : List ℕ) → All (λ x. t x ≡ u x) xs → first_where t xs ≡ first_where u xs
unfolding first_where
first-same t u [] a = refl
first-same t u (x ∷ xs) a = rw (a.0, first-same t u xs a.1)

pub everywhere-same : (n : ℕ) (t u : ℕ → Bool) → ((j : ℕ) → j < n → t j ≡ u j) → everywhere n t ≡ everywhere n u
unfolding everywhere first_failing
everywhere-same n t u e =
    ap (λ (f : ℕ). eqb f n) (first-same (λ j. not (t j)) (λ j. not (u j)) (tab n (λ j. j)) (all-tab (λ x. not (t x) ≡ not (u x)) n (λ j. j) (λ i l. ap not (e i l))))
