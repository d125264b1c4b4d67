-- Attribute lists in arrays of six: only the first numbers, as many as the operand's rank, count.
-- Assumes nothing.
use mathlib.Core.Path.{◌≡◌, refl, sym, ap, ◌∙◌}
use mathlib.Core.List.{List, [], ◌∷◌, map}
use Prim.Native.Nat.{ℕ, zero, suc, ◌+◌, ◌*◌, ◌≤◌, ◌<◌, min}
use native.Mathlib.Omega.{arith}
use lib.ListN.{length, get_or, take, length-take}
use lib.IntN.{ℤ, pos}
use lib.Seq.{get_or-take}
use Rattle.shape.specs.Index.{at}
use Rattle.shape.specs.Whole.{number_of}
use Rattle.maps.specs.Formulas.{gathered, pad_coord, broadcast_coord, broadcast_index, slice_index, pad_index, broadcasted, sliced, padded}
use Rattle.maps.proofs.GatherLaw.{gathered-cong}

-- the list of a shape's dimensions is at most as long as its rank
pub dims-le : (n : ℕ) (l : List ℕ) → length (take n l) ≤ n
dims-le n l = let e : length (take n l) ≡ min n (length l) = length-take n l in omega arith

-- the numbers of a list of patterns
pub numbers-at : (l : List ℕ) (d : ℕ) → number_of (at l d) ≡ get_or (map number_of l) d (pos 0)
numbers-at [] d = refl
numbers-at (w ∷ l) zero = refl
numbers-at (w ∷ l) (suc d) = numbers-at l d

module _ (n : ℕ) (from to x : List ℕ) (e : length from ≤ n) where
  pub same : (l : List ℕ) (d : ℕ) → d < length from → at l d ≡ at (take n l) d
  same l d h = sym (get_or-take n l d 0 (omega arith))

  pub broadcast-take : (dimensions : List ℕ) → broadcasted dimensions from to x ≡ broadcasted (take n dimensions) from to x
  broadcast-take dimensions = gathered-cong (broadcast_index dimensions from) (broadcast_index (take n dimensions) from) from to x 0 (λ i o d h. ap (λ (k : ℕ). broadcast_coord (at from d) (at i k)) (same dimensions d h))

  pub slice-index-take : (start strides : List ℕ) (i : ℕ → ℕ) (d : ℕ) → d < length from → slice_index start strides i d ≡ slice_index (take n start) (take n strides) i d
  slice-index-take start strides i d h =
      ap (λ (k : ℕ). k + i d * at strides d) (same start d h) ∙ ap (λ (k : ℕ). at (take n start) d + i d * k) (same strides d h)

  pub slice-take : (start strides : List ℕ) → sliced start strides from to x ≡ sliced (take n start) (take n strides) from to x
  slice-take start strides =
      gathered-cong (slice_index start strides) (slice_index (take n start) (take n strides)) from to x 0 (λ i o d h. slice-index-take start strides (at i) d h)

  -- low is read from its patterns
  pub pad-take : (low interior : List ℕ) (z : ℕ)
      → gathered (λ i d. pad_coord (number_of (at low d)) (at interior d) (at from d) (i d)) from to x z ≡ padded (map number_of (take n low)) (take n interior) from to x z
  pad-take low interior z =
      gathered-cong (λ i d. pad_coord (number_of (at low d)) (at interior d) (at from d) (i d)) (pad_index (map number_of (take n low)) (take n interior) from) from to x z
      (λ i o d h.
      ap (λ (k : ℤ). pad_coord k (at interior d) (at from d) (at i d)) (ap number_of (same low d h) ∙ numbers-at (take n low) d)
      ∙ ap (λ (k : ℕ). pad_coord (get_or (map number_of (take n low)) d (pos 0)) k (at from d) (at i d)) (same interior d h))
