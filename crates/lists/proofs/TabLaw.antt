-- Laws of tab, and of a loop that fills a list from the front: its first n elements are done, the rest is as it was.
-- Assumes nothing.
use mathlib.Core.Path.{◌≡◌, refl, sym, ap, ◌∙◌}
use mathlib.Core.List.{List, [], ◌∷◌, ◌++◌}
use Prim.Native.Nat.{ℕ, zero, suc, ◌+◌, ◌*◌, ◌-◌, ◌≤◌, ◌<◌, suc-le-suc}
use native.Mathlib.Nat.{not-suc-le-zero, le_of_suc-le-suc, zero-lt-suc, zero-add, zero-mul, suc-add}
use native.Mathlib.Omega.{arith}
use native.Mathlib.Numerals.{add-one}
use lib.ListN.{length, get_or, set, drop, length-append, length-drop, drop_of_length-le}
use mathlib.Core.List.{append-nil, map}
use Rattle.lists.specs.Lists.{tab, concat}

module _ {A : Type 0} where
  pub length-tab : (n : ℕ) (f : ℕ → A) → length (tab n f) ≡ n
  length-tab zero f = refl
  length-tab (suc n) f = ap suc (length-tab n (λ k. f (suc k)))

  pub get_or-tab : (n : ℕ) (f : ℕ → A) (k : ℕ) (z : A) → k < n → get_or (tab n f) k z ≡ f k
  get_or-tab zero f k z h = absurd (not-suc-le-zero h)
  get_or-tab (suc n) f zero z h = refl
  get_or-tab (suc n) f (suc k) z h = get_or-tab n (λ j. f (suc j)) k z (le_of_suc-le-suc h)

  pub tab-cong : (n : ℕ) (f g : ℕ → A) → ((k : ℕ) → k < n → f k ≡ g k) → tab n f ≡ tab n g
  tab-cong zero f g h = refl
  tab-cong (suc n) f g h = λ i. h zero (zero-lt-suc n) i ∷ tab-cong n (λ k. f (suc k)) (λ k. g (suc k)) (λ k b. h (suc k) (suc-le-suc b)) i

  fill_suc : (n : ℕ) (f : ℕ → A) (l : List A) → n < length l → set (tab n f ++ drop n l) n (f n) ≡ tab (suc n) f ++ drop (suc n) l
  fill_suc n f [] h = absurd (not-suc-le-zero h)
  fill_suc zero f (x ∷ l) h = refl
  fill_suc (suc n) f (x ∷ l) h = ap (λ (t : List A). f zero ∷ t) (fill_suc n (λ k. f (suc k)) l (le_of_suc-le-suc h))

  -- a turn of a loop that fills: its store at n takes n elements done to n + 1
  pub fill_step : (n : ℕ) (f : ℕ → A) (l : List A) (v : A) → n < length l → v ≡ f n → set (tab n f ++ drop n l) n v ≡ tab (n + 1) f ++ drop (n + 1) l
  fill_step n f l v h e =
      ap (λ (x : A). set (tab n f ++ drop n l) n x) e ∙ fill_suc n f l h
      ∙ ap (λ (k : ℕ). tab k f ++ drop k l) (sym (add-one n))

  pub tab-get_or : (l : List A) (z : A) → tab (length l) (λ k. get_or l k z) ≡ l
  tab-get_or [] z = refl
  tab-get_or (x ∷ l) z = ap (λ (t : List A). x ∷ t) (tab-get_or l z)

  -- a list of which the first n are filled is as long as it was
  pub length-fill : (n : ℕ) (f : ℕ → A) (l : List A) → n ≤ length l → length (tab n f ++ drop n l) ≡ length l
  length-fill n f l h = length-append (tab n f) (drop n l) ∙ (let e : length (tab n f) ≡ n = length-tab n f in let g : length (drop n l) ≡ length l - n = length-drop n l in omega arith)

  -- where all are filled nothing is left of what it was
  pub fill-whole : (n : ℕ) (f : ℕ → A) (l : List A) → length l ≤ n → tab n f ++ drop n l ≡ tab n f
  fill-whole n f l h = rw (drop_of_length-le l h) (append-nil (tab n f))

  tab-add : (n m : ℕ) (f : ℕ → A) → tab (n + m) f ≡ tab n f ++ tab m (λ k. f (n + k))
  tab-add zero m f = ap (λ (k : ℕ). tab k f) (zero-add m) ∙ tab-cong m f (λ k. f (0 + k)) (λ k b. ap f (sym (zero-add k)))
  tab-add (suc n) m f =
      ap (λ (k : ℕ). tab k f) (suc-add n m)
      ∙ ap (λ (l : List A). f zero ∷ l) (tab-add n m (λ k. f (suc k)) ∙ ap (λ (l : List A). tab n (λ k. f (suc k)) ++ l) (tab-cong m (λ k. f (suc (n + k))) (λ k. f (suc n + k)) (λ k b. ap f (sym (suc-add n k)))))

-- d blocks of m elements
pub tab-blocks : {A : Type 0} (d m : ℕ) (f : ℕ → A) → tab (d * m) f ≡ concat (tab d (λ x. tab m (λ k. f (x * m + k))))
unfolding concat
tab-blocks zero m f = ap (λ (k : ℕ). tab k f) (zero-mul m)
tab-blocks {A} (suc d) m f =
    ap (λ (k : ℕ). tab k f) (let e : suc d * m ≡ m + d * m = omega arith in e)
    ∙ tab-add m (d * m) f
    ∙ ap (λ (l : List A). tab m f ++ l) (tab-blocks d m (λ k. f (m + k)))
    ∙ ap (λ (l : List A). l ++ concat (tab d (λ x. tab m (λ k. f (m + (x * m + k)))))) (tab-cong m f (λ k. f (zero * m + k)) (λ k b. ap f (let e : k ≡ zero * m + k = omega arith in e)))
    ∙ ap (λ (l : List (List A)). tab m (λ k. f (zero * m + k)) ++ concat l)
    (tab-cong d (λ x. tab m (λ k. f (m + (x * m + k)))) (λ x. tab m (λ k. f (suc x * m + k)))
    (λ x h. tab-cong m (λ k. f (m + (x * m + k))) (λ k. f (suc x * m + k)) (λ k b. ap f (let e : m + (x * m + k) ≡ suc x * m + k = omega arith in e))))

pub map-tab : {A B : Type 0} (g : A → B) (n : ℕ) (f : ℕ → A) → map g (tab n f) ≡ tab n (λ i. g (f i))
map-tab g zero f = refl
map-tab {A} {B} g (suc n) f = ap {B = List B} (λ r. g (f zero) ∷ r) (map-tab g n (λ k. f (suc k)))
