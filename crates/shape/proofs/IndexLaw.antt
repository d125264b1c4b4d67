-- The index of a position and back; the canonical order is that of all indices, last dimension fastest.
-- Assumes nothing.
use mathlib.Core.Path.{◌≡◌, refl, sym, ap, ◌∙◌}
use mathlib.Core.List.{List, [], ◌∷◌, map}
use Prim.Native.Nat.{ℕ, zero, suc, ◌+◌, ◌*◌, ◌-◌, ◌/◌, ◌%◌, ◌≤◌, ◌<◌, suc-le-suc, max}
use native.Mathlib.Nat.{not-suc-le-zero, le_of_suc-le-suc, zero-lt-suc, suc-ne-zero, suc_inj, add-zero, mul-pos, mul-le-mul, mul-le-mul_right}
use native.Mathlib.Nat.{mod-lt, div-add-mod', div-lt_iff_lt-mul, mul-add-div_right, div-eq_of_lt, mul-add-mod_self_right, mod-eq_of_lt}
use native.Mathlib.Omega.{arith}
use lib.ListN.{length, drop, length-drop}
use lib.Seq.{get_or-drop}
use Rattle.lists.specs.Lists.{tab, concat}
use Rattle.lists.proofs.TabLaw.{length-tab, tab-cong, tab-blocks, map-tab}
use Rattle.lists.proofs.BehindLaw.{get_or-filled}
use Rattle.shape.specs.Index.{at, size, volume, unravel, ravel, Within, IndexOf, indices, tabulate, in_six}

-- ---- position to index and back

-- below a product of two numbers there is something only where neither is 0
pub factors-pos : (a b : ℕ) {k : ℕ} → k < a * b → (0 < a) × (0 < b)
factors-pos zero b h = omega arith
factors-pos (suc a) zero h = omega arith
factors-pos (suc a) (suc b) h = omega arith

pub length-unravel : (s : List ℕ) (k : ℕ) → length (unravel s k) ≡ length s
length-unravel [] k = refl
length-unravel (d ∷ ds) k = ap suc (length-unravel ds (k % size ds))

pub ravel-unravel : (s : List ℕ) (k : ℕ) → k < size s → ravel s (unravel s k) ≡ k
ravel-unravel [] k h = omega arith
ravel-unravel (d ∷ ds) k h =
    ap (λ (n : ℕ). k / size ds * size ds + n) (ravel-unravel ds (k % size ds) (mod-lt k (factors-pos d (size ds) h).1))
    ∙ div-add-mod' k (size ds)

pub within-unravel : (s : List ℕ) (k : ℕ) → k < size s → Within s (unravel s k)
within-unravel [] k h n l = absurd (not-suc-le-zero l)
within-unravel (d ∷ ds) k h zero l = (div-lt_iff_lt-mul (factors-pos d (size ds) h).1).1 h
within-unravel (d ∷ ds) k h (suc n) l = within-unravel ds (k % size ds) (mod-lt k (factors-pos d (size ds) h).1) n (le_of_suc-le-suc l)

pub index-of-unravel : (s : List ℕ) (k : ℕ) → k < size s → IndexOf s (unravel s k)
index-of-unravel s k h = record { rank = length-unravel s k; within = within-unravel s k h }

pub ravel-lt : (s i : List ℕ) → Within s i → ravel s i < size s
ravel-lt [] i w = omega arith
ravel-lt (d ∷ ds) [] w = mul-pos (w zero (zero-lt-suc (length ds))) (omega (arith, ravel-lt ds [] (λ n l. w (suc n) (suc-le-suc l))))
ravel-lt (d ∷ ds) (x ∷ i) w =
    let m : suc x * size ds ≤ d * size ds = mul-le-mul_right (size ds) (w zero (zero-lt-suc (length ds))) in
    omega (arith, ravel-lt ds i (λ n l. w (suc n) (suc-le-suc l)))

-- the first coordinate, and the index of what is left
unravel-cons : (d x : ℕ) (ds : List ℕ) (k : ℕ) → k < size ds → unravel (d ∷ ds) (x * size ds + k) ≡ x ∷ unravel ds k
unravel-cons d x ds k b =
    let p : 0 < size ds = omega arith in
    rw (mul-add-div_right p x k, div-eq_of_lt b, add-zero x, mul-add-mod_self_right x (size ds) k, mod-eq_of_lt b)

pub unravel-ravel : (s i : List ℕ) → length i ≡ length s → Within s i → unravel s (ravel s i) ≡ i
unravel-ravel [] [] e w = refl
unravel-ravel [] (x ∷ i) e w = absurd (suc-ne-zero (length i) e)
unravel-ravel (d ∷ ds) [] e w = absurd (suc-ne-zero (length ds) (sym e))
unravel-ravel (d ∷ ds) (x ∷ i) e w =
    unravel-cons d x ds (ravel ds i) (ravel-lt ds i (λ n l. w (suc n) (suc-le-suc l)))
    ∙ ap (λ (l : List ℕ). x ∷ l) (unravel-ravel ds i (suc_inj e) (λ n l. w (suc n) (suc-le-suc l)))

pub within-drop : (n : ℕ) (s i : List ℕ) → Within s i → Within (drop n s) (drop n i)
within-drop n s i w d h = rw (get_or-drop n i d 0, get_or-drop n s d 0) (w (n + d) (let e : length (drop n s) ≡ length s - n = length-drop n s in omega arith))

-- ---- sizes

pub volume-pos : (s : List ℕ) → 1 ≤ volume s
volume-pos [] = omega arith
volume-pos (d ∷ ds) = mul-pos (omega arith) (volume-pos ds)

pub size-le-volume : (s : List ℕ) → size s ≤ volume s
size-le-volume [] = omega arith
size-le-volume (d ∷ ds) = mul-le-mul (omega arith) (size-le-volume ds)

-- each dimension is at most the product
pub dim-le-volume : (s : List ℕ) (d : ℕ) → d < length s → at s d ≤ volume s
dim-le-volume [] d h = absurd (not-suc-le-zero h)
dim-le-volume (x ∷ s) zero h = let m : max 1 x * 1 ≤ max 1 x * volume s = mul-le-mul (omega arith) (volume-pos s) in omega arith
dim-le-volume (x ∷ s) (suc d) h =
    let m : 1 * volume s ≤ max 1 x * volume s = mul-le-mul (omega arith) (omega arith) in omega (arith, dim-le-volume s d (le_of_suc-le-suc h))

-- ---- the order

-- the indices at the canonical positions are all the indices in order
pub indices-tab : (s : List ℕ) → tab (size s) (unravel s) ≡ indices s
unfolding indices
indices-tab [] = refl
indices-tab (d ∷ ds) =
    tab-blocks d (size ds) (unravel (d ∷ ds))
    ∙ ap {B = List (List ℕ)} concat (tab-cong d (λ x. tab (size ds) (λ k. unravel (d ∷ ds) (x * size ds + k))) (λ x. map (λ i. x ∷ i) (indices ds))
    (λ x h. tab-cong (size ds) (λ k. unravel (d ∷ ds) (x * size ds + k)) (λ k. x ∷ unravel ds k) (unravel-cons d x ds)
    ∙ sym (map-tab (λ i. x ∷ i) (size ds) (unravel ds)) ∙ ap (map (λ i. x ∷ i)) (indices-tab ds)))

pub tabulate-map : {A : Type 0} (s : List ℕ) (f : List ℕ → A) → tabulate s f ≡ map f (indices s)
tabulate-map s f = sym (map-tab f (size s) (unravel s)) ∙ ap (map f) (indices-tab s)

pub length-tabulate : {A : Type 0} (s : List ℕ) (f : List ℕ → A) → length (tabulate s f) ≡ size s
length-tabulate s f = length-tab (size s) (λ k. f (unravel s k))

pub tabulate-cong : {A : Type 0} (s : List ℕ) (f g : List ℕ → A) → ((i : List ℕ) → IndexOf s i → f i ≡ g i) → tabulate s f ≡ tabulate s g
tabulate-cong s f g h = tab-cong (size s) (λ k. f (unravel s k)) (λ k. g (unravel s k)) (λ k b. h (unravel s k) (index-of-unravel s k b))

-- ---- an index of six numbers

-- the index as a function does not see zeros behind it
pub at-six : (u : List ℕ) → at (in_six u) ≡ at u
at-six u = λ t j. get_or-filled 0 u 6 j t
