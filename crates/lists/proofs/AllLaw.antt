-- Laws of All.
-- Assumes nothing.
use mathlib.Core.List.{List, [], ◌∷◌, ◌++◌}
use Prim.Native.Nat.{ℕ, zero, suc, ◌<◌}
use native.Mathlib.Nat.{not-suc-le-zero, le_of_suc-le-suc, zero-lt-suc}
use Prim.Native.Nat.{suc-le-suc}
use lib.ListN.{length, get_or, take, drop}
use Rattle.lists.specs.Lists.{All, tab}

module _ {A : Type 0} (P : A → Type 0) where
  pub all-get : (xs : List A) (d : A) → All P xs → (i : ℕ) → i < length xs → P (get_or xs i d)
  all-get [] d a i h = absurd (not-suc-le-zero h)
  all-get (x ∷ xs) d a zero h = a.0
  all-get (x ∷ xs) d a (suc i) h = all-get xs d a.1 i (le_of_suc-le-suc h)

  pub all-tab : (n : ℕ) (f : ℕ → A) → ((i : ℕ) → i < n → P (f i)) → All P (tab n f)
  all-tab zero f h = tt
  all-tab (suc n) f h = (h zero (zero-lt-suc n), all-tab n (λ k. f (suc k)) (λ i q. h (suc i) (suc-le-suc q)))

  pub all_append : (xs ys : List A) → All P xs → All P ys → All P (xs ++ ys)
  all_append [] ys a b = b
  all_append (x ∷ xs) ys a b = (a.0, all_append xs ys a.1 b)

  pub all_take : (n : ℕ) (xs : List A) → All P xs → All P (take n xs)
  all_take zero xs a = tt
  all_take (suc n) [] a = tt
  all_take (suc n) (x ∷ xs) a = (a.0, all_take n xs a.1)

  pub all_drop : (n : ℕ) (xs : List A) → All P xs → All P (drop n xs)
  all_drop zero xs a = a
  all_drop (suc n) [] a = tt
  all_drop (suc n) (x ∷ xs) a = all_drop n xs a.1

pub all_map : {A : Type 0} {P Q : A → Type 0} → ((x : A) → P x → Q x) → (xs : List A) → All P xs → All Q xs
all_map f [] a = tt
all_map f (x ∷ xs) a = (f x a.0, all_map f xs a.1)
