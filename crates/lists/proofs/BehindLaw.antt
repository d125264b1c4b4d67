-- Laws of a list with one element repeated behind it.
-- Assumes nothing.
use mathlib.Core.Path.{◌≡◌, refl, ap, ◌∙◌}
use mathlib.Core.List.{List, [], ◌∷◌, ◌++◌}
use Prim.Native.Nat.{ℕ, zero, suc, ◌-◌}
use native.Mathlib.Omega.{arith}
use lib.ListN.{length, get_or, drop, replicate}

module _ {A : Type 0} (z : A) where
  get_or-behind : (u : List A) (n j : ℕ) → get_or (u ++ replicate n z) j z ≡ get_or u j z
  get_or-behind [] zero j = refl
  get_or-behind [] (suc n) zero = refl
  get_or-behind [] (suc n) (suc j) = get_or-behind [] n j
  get_or-behind (x ∷ u) n zero = refl
  get_or-behind (x ∷ u) n (suc j) = get_or-behind u n j

  drop-replicate : (n m : ℕ) → drop n (replicate m z) ≡ replicate (m - n) z
  drop-replicate zero m = ap (λ (k : ℕ). replicate k z) (let e : m ≡ m - 0 = omega arith in e)
  drop-replicate (suc n) zero = ap (λ (k : ℕ). replicate k z) (let e : 0 ≡ 0 - suc n = omega arith in e)
  drop-replicate (suc n) (suc m) = drop-replicate n m ∙ ap (λ (k : ℕ). replicate k z) (let e : m - n ≡ suc m - suc n = omega arith in e)

  -- the elements of a list filled up to m are those of the list
  pub get_or-filled : (u : List A) (m j : ℕ) → get_or (u ++ drop (length u) (replicate m z)) j z ≡ get_or u j z
  get_or-filled u m j = ap (λ (t : List A). get_or (u ++ t) j z) (drop-replicate (length u) m) ∙ get_or-behind u (m - length u) j
