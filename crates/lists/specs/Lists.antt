-- Lists by index: choosing, tabulating, searching and testing.
-- Assumes nothing.
use Rattle.std.specs.Prelude.{ℕ, zero, suc, Bool, true, false, List, [], ◌∷◌, ◌++◌}

-- the first where the test holds, else the second
abbrev pub pick {ℓ} : {A : Type ℓ} → Bool → A → A → A
pick true a b = a
pick false a b = b

module _ {A : Type 0} where
  -- the n elements f 0, f 1, ..
  abbrev pub tab : ℕ → (ℕ → A) → List A
  tab zero f = []
  tab (suc n) f = f zero ∷ tab n (λ k. f (suc k))

  -- every element of the list satisfies P
  abbrev pub All : (A → Type 0) → List A → Type 0
  All P [] = Unit {0}
  All P (x ∷ xs) = P x × All P xs

  -- the lists of a list, one after the other
  unfoldable pub concat : List (List A) → List A
  concat [] = []
  concat (x ∷ xs) = x ++ concat xs

  -- the index of the first element that passes the test; the length where none does
  unfoldable pub first_where : (A → Bool) → List A → ℕ
  first_where t [] = 0
  first_where t (x ∷ xs) = pick (t x) 0 (suc (first_where t xs))

-- whether a test holds of every number below n
unfoldable pub all_below : ℕ → (ℕ → Bool) → Bool
all_below zero t = true
all_below (suc n) t = pick (all_below n t) (t n) false
