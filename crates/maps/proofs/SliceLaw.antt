-- slice and dynamic_slice: every operand index is an index of the operand.
-- Assumes nothing.
use mathlib.Core.Path.{◌≡◌, sym, ap, ◌∙◌, subst}
use mathlib.Core.List.{List}
use Prim.Native.Nat.{ℕ, suc, ◌+◌, ◌*◌, ◌-◌, ◌≤◌, ◌<◌}
use native.Mathlib.Nat.{le-div_iff_mul-le, suc-mul, mul-one}
use native.Mathlib.Omega.{arith}
use lib.ListN.{length, take, replicate, get_or-replicate}
use lib.Seq.{get_or-take}
use lib.IntN.{ℤ, pos, negsuc}
use Rattle.lists.specs.Lists.{tab}
use Rattle.lists.proofs.TabLaw.{get_or-tab}
use Rattle.element.specs.declared.ElementType.{ElementType}
use Rattle.shape.specs.Index.{at, Within, IndexOf, in_six}
use Rattle.shape.specs.Whole.{ceil_div}
use Rattle.shape.proofs.IndexLaw.{at-six}
use Rattle.maps.specs.Formulas.{slice_index, sliced, clamp_start, start_at, adjusted_start, dynamic_index, dynamic_sliced}
use Rattle.maps.specs.Holds.{SliceHolds, DynamicSliceHolds}
use Rattle.maps.proofs.GatherLaw.{gathered-cong, index-of-tab}

-- ---- slice

ceil-lt : (x a b : ℕ) → 0 < b → x < ceil_div a b → x * b < a
ceil-lt x a b p h =
    let m : suc x * b ≤ a + b - 1 = (le-div_iff_mul-le p).0 h in
    let e : suc x * b ≡ x * b + b = suc-mul x b in
    omega arith

pub slice-below : (start limit strides from to i : List ℕ) → SliceHolds start limit strides from to → Within to i
    → (d : ℕ) → d < length from → slice_index start strides (at i) d < at from d
slice-below start limit strides from to i ok w d h =
    let b : at i d * at strides d < at limit d - at start d =
    ceil-lt (at i d) (at limit d - at start d) (at strides d) (ok.positive d h) (subst (λ (n : ℕ). at i d < n) (ok.sizes d h) (w d (subst (λ (n : ℕ). d < n) (sym ok.rank) h))) in
    omega (arith, ok.order d h)

pub slice_index_lem : (start limit strides from to i : List ℕ) → SliceHolds start limit strides from to → IndexOf to i → IndexOf from (tab (length from) (slice_index start strides (at i)))
slice_index_lem start limit strides from to i ok o = index-of-tab from (slice_index start strides (at i)) (slice-below start limit strides from to i ok o.within)

-- ---- a start read in its type, and clamped

pub clamp-le : (z : ℤ) (limit : ℕ) → clamp_start z limit ≤ limit
clamp-le (pos v) limit = omega arith
clamp-le (negsuc v) limit = omega arith

-- ---- dynamic_slice is slice at the adjusted starts, with strides of 1

adjusted-le : (t : ElementType) (starts from to : List ℕ) (d : ℕ) → adjusted_start t starts from to d ≤ at from d - at to d
adjusted-le t starts from to d = clamp-le (start_at t starts d) (at from d - at to d)

pub dynamic-below : (t : ElementType) (starts from to i : List ℕ) → DynamicSliceHolds from to → Within to i
    → (d : ℕ) → d < length from → dynamic_index t starts from to (at i) d < at from d
dynamic-below t starts from to i ok w d h =
    omega (arith, adjusted-le t starts from to d, ok.sizes d h, w d (subst (λ (n : ℕ). d < n) (sym ok.rank) h))

pub dynamic-index : (t : ElementType) (starts from to i : List ℕ) → DynamicSliceHolds from to → IndexOf to i → IndexOf from (tab (length from) (dynamic_index t starts from to (at i)))
dynamic-index t starts from to i ok o = index-of-tab from (dynamic_index t starts from to (at i)) (dynamic-below t starts from to i ok o.within)

module _ (t : ElementType) (starts from to : List ℕ) (six : length from ≤ 6) where
  pub adjusted-index : (i : ℕ → ℕ) (d : ℕ) → d < length from
      → slice_index (in_six (tab (length from) (adjusted_start t starts from to))) (replicate 6 1) i d ≡ dynamic_index t starts from to i d
  adjusted-index i d h =
      let f : at (in_six (tab (length from) (adjusted_start t starts from to))) d ≡ adjusted_start t starts from to d =
      ap (λ (g : ℕ → ℕ). g d) (at-six (tab (length from) (adjusted_start t starts from to))) ∙ get_or-tab (length from) (adjusted_start t starts from to) d 0 h in
      let o : at (replicate 6 1) d ≡ 1 = get_or-replicate 6 d 1 0 (omega arith) in
      let m : i d * at (replicate 6 1) d ≡ i d = ap (λ (n : ℕ). i d * n) o ∙ mul-one (i d) in
      omega arith

  pub adjusted-sliced : (n : ℕ) (x : List ℕ) → length from ≤ n
      → sliced (in_six (tab (length from) (adjusted_start t starts from to))) (replicate 6 1) from to x ≡ dynamic_sliced t (take n starts) from to x
  adjusted-sliced n x l =
      gathered-cong (slice_index (in_six (tab (length from) (adjusted_start t starts from to))) (replicate 6 1)) (dynamic_index t (take n starts) from to) from to x 0
      (λ i o d h. adjusted-index (at i) d h ∙ (let b : d < n = omega arith in rw (get_or-take n starts d 0 b)))
