-- Laws of concatenate: a turn of the loop over the inputs, and 000's sentence.
-- Assumes nothing.
use mathlib.Core.Path.{◌≡◌, refl, sym, ap, ◌∙◌}
use mathlib.Core.List.{List, [], ◌∷◌, ◌++◌}
use mathlib.Core.Bool.{Bool}
use Prim.Native.Nat.{ℕ, zero, suc, ◌+◌, ◌-◌, ◌≤◌, ◌<◌}
use native.Mathlib.Nat.{not-suc-le-zero, le_of_suc-le-suc, suc-ne-zero}
use native.Mathlib.Numerals.{add-one}
use native.Mathlib.Omega.{arith}
use lib.ListN.{length, get_or, set, take, drop, length-set, drop_of_length-le}
use lib.Seq.{drop-cons, set-append_left}
use lib.Dec.{ltb}
use borrow.Author.Tests.{lt-ltb, le-ltb}
use Rattle.lists.specs.Lists.{pick, tab, All}
use Rattle.lists.proofs.TabLaw.{length-tab, get_or-tab}
use Rattle.shape.specs.Index.{at, element_at}
use Rattle.shape.proofs.ElementLaw.{element_at-front}
use Rattle.maps.specs.Concatenation.{concat_from, concat_at, sum_along}

-- ---- a turn of the loop: input j has the shape f j and the elements g j

drop-tab : (n : ℕ) (f : ℕ → List ℕ) (j : ℕ) → j < n → drop j (tab n f) ≡ f j ∷ drop (j + 1) (tab n f)
drop-tab n f j h =
    drop-cons (tab n f) j [] (let e : length (tab n f) ≡ n = length-tab n f in omega arith)
    ∙ ap (λ (x : List ℕ). x ∷ drop (suc j) (tab n f)) (get_or-tab n f j [] h)
    ∙ ap (λ (k : ℕ). f j ∷ drop k (tab n f)) (sym (add-one j))

module _ (dimension : ℕ) (i : List ℕ) (n : ℕ) (f g : ℕ → List ℕ) (j t : ℕ) where
  later : ℕ → ℕ
  later t = concat_from dimension i (drop (j + 1) (tab n f)) (drop (j + 1) (tab n g)) t

  turn : j < n → concat_from dimension i (drop j (tab n f)) (drop j (tab n g)) t
      ≡ pick (ltb t (at (f j) dimension)) (element_at (g j) (f j) (set i dimension t) 0) (later (t - at (f j) dimension))
  unfolding later
  turn h =
      ap (λ (l : List (List ℕ)). concat_from dimension i l (drop j (tab n g)) t) (drop-tab n f j h)
      ∙ ap (λ (l : List (List ℕ)). concat_from dimension i (f j ∷ drop (j + 1) (tab n f)) l t) (drop-tab n g j h)

  pub concat-here : j < n → t < at (f j) dimension → concat_from dimension i (drop j (tab n f)) (drop j (tab n g)) t ≡ element_at (g j) (f j) (set i dimension t) 0
  unfolding later
  concat-here h b = turn h ∙ ap (λ (x : Bool). pick x (element_at (g j) (f j) (set i dimension t) 0) (later (t - at (f j) dimension))) (lt-ltb t (at (f j) dimension) b)

  pub concat-next : j < n → at (f j) dimension ≤ t
      → concat_from dimension i (drop (j + 1) (tab n f)) (drop (j + 1) (tab n g)) (t - at (f j) dimension) ≡ concat_from dimension i (drop j (tab n f)) (drop j (tab n g)) t
  unfolding later
  concat-next h b = sym (turn h ∙ ap (λ (x : Bool). pick x (element_at (g j) (f j) (set i dimension t) 0) (later (t - at (f j) dimension))) (le-ltb t (at (f j) dimension) b))

  pub concat-end : n ≤ j → concat_from dimension i (drop j (tab n f)) (drop j (tab n g)) t ≡ 0
  concat-end h = ap (λ (l : List (List ℕ)). concat_from dimension i l (drop j (tab n g)) t) (drop_of_length-le (tab n f) {i = j} (let e : length (tab n f) ≡ n = length-tab n f in omega arith))

-- what stands behind an index is not read
pub concat-front : (dimension : ℕ) (u z : List ℕ) (shapes inputs : List (List ℕ)) (t : ℕ) → dimension < length u → All (λ s. length s ≡ length u) shapes
    → concat_from dimension (u ++ z) shapes inputs t ≡ concat_from dimension u shapes inputs t
concat-front dimension u z [] inputs t h a = refl
concat-front dimension u z (s ∷ shapes) [] t h a = refl
concat-front dimension u z (s ∷ shapes) (x ∷ inputs) t h a =
    let e : element_at x s (set (u ++ z) dimension t) 0 ≡ element_at x s (set u dimension t) 0 =
    ap (λ (i : List ℕ). element_at x s i 0) (set-append_left u z dimension t h)
    ∙ element_at-front x s (set u dimension t) z 0 (length-set u dimension t ∙ sym a.0) in
    ap (λ (v : ℕ). pick (ltb t (at s dimension)) v (concat_from dimension (u ++ z) shapes inputs (t - at s dimension))) e
    ∙ ap (pick (ltb t (at s dimension)) (element_at x s (set u dimension t) 0)) (concat-front dimension u z shapes inputs (t - at s dimension) h a.1)

-- ---- 000: "result[i0, ..., id, ..., iR-1] = inputs[k][i0, ..., kd, ..., iR-1]", where "id = d0 + ... + dk-1 + kd"

formula-from : (dimension : ℕ) (i : List ℕ) (shapes inputs : List (List ℕ)) (k kd t : ℕ) → length inputs ≡ length shapes → k < length shapes
    → kd < at (get_or shapes k []) dimension → t ≡ sum_along dimension (take k shapes) + kd
    → concat_from dimension i shapes inputs t ≡ element_at (get_or inputs k []) (get_or shapes k []) (set i dimension kd) 0
formula-from dimension i [] inputs k kd t l h b e = absurd (not-suc-le-zero h)
formula-from dimension i (s ∷ shapes) [] k kd t l h b e = absurd (suc-ne-zero (length shapes) (sym l))
formula-from dimension i (s ∷ shapes) (x ∷ inputs) zero kd t l h b e =
    let q : t ≡ kd = omega arith in
    ap (λ (n : ℕ). concat_from dimension i (s ∷ shapes) (x ∷ inputs) n) q
    ∙ ap (λ (c : Bool). pick c (element_at x s (set i dimension kd) 0) (concat_from dimension i shapes inputs (kd - at s dimension))) (lt-ltb kd (at s dimension) b)
formula-from dimension i (s ∷ shapes) (x ∷ inputs) (suc k) kd t l h b e =
    ap (λ (c : Bool). pick c (element_at x s (set i dimension t) 0) (concat_from dimension i shapes inputs (t - at s dimension))) (le-ltb t (at s dimension) (omega arith))
    ∙ formula-from dimension i shapes inputs k kd (t - at s dimension) (omega arith) (le_of_suc-le-suc h) b (omega arith)

pub concat-formula : (dimension : ℕ) (i : List ℕ) (shapes inputs : List (List ℕ)) (k kd : ℕ) → length inputs ≡ length shapes → k < length shapes
    → kd < at (get_or shapes k []) dimension → at i dimension ≡ sum_along dimension (take k shapes) + kd
    → concat_at dimension shapes inputs i ≡ element_at (get_or inputs k []) (get_or shapes k []) (set i dimension kd) 0
concat-formula dimension i shapes inputs k kd l h b e = formula-from dimension i shapes inputs k kd (at i dimension) l h b e
