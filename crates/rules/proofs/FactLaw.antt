-- From a verdict without a broken constraint to the facts that evaluating the op requires.
-- Assumes nothing.
use mathlib.Core.Path.{◌≡◌, refl, sym, ap, ◌∙◌, subst}
use mathlib.Core.List.{List}
use mathlib.Core.Bool.{Bool, true, false, ◌&&◌, ◌||◌, false≢true}
use mathlib.Core.Logic.{◌⊎◌, inl, inr}
use Prim.Native.Nat.{ℕ, ◌+◌, ◌-◌, ◌*◌, ◌^◌, ◌≤◌, ◌<◌}
use native.Mathlib.Omega.{arith}
use lib.Dec.{ltb, leb, eqb}
use lib.IntN.{ℤ, pos, negsuc, ◌+ℤ◌, ◌*ℤ◌}
use lib.Signed.{le_z, lt_z}
use borrow.Author.Tests.{leb-true, ltb-true, eqb-true}
use Rattle.lists.proofs.TestLaw.{both_true}
use Rattle.lists.specs.Lists.{pick}
use Rattle.shape.specs.Index.{size}
use Rattle.shape.specs.Dims.{dims_of}
use Rattle.shape.specs.Place.{place_in}
use Rattle.dimrules.specs.Count.{everywhere}
use Rattle.dimrules.specs.Whole.{number_of, up_of, down_of, eq_int, ceil_div, below, in_order, positive, ceiling_is, padded_is}
use Rattle.shape.specs.Place.{is_in}
use Rattle.dimrules.specs.Dims.{list_of, dim, num, is_first, kept_below, kept_is, dim_test}
use Rattle.dimrules.specs.Types.{same_element, same_shape, same_type, same_but_one, shapes_beside, type_test, type_at, operand_test, all_types, sum_of_dims}
use Rattle.dimrules.specs.declared.TensorType.{TensorType}
use Rattle.dimrules.specs.declared.Numbers.{Numbers}
use Rattle.dimrules.specs.declared.Sides.{Sides}
use Rattle.dimrules.specs.declared.DimTest.TheVariants.{Same, SameExcept, InOrder, Positive, Ceiling, Padded, Below, Unique, Moved, Stretched, SizeIs, Kept}
use Rattle.dimrules.specs.declared.TypeTest.{TypeTest}
use Rattle.dimrules.specs.declared.TypeTest.TheVariants.{SameElement, SameType, SameButOne}
use Rattle.dimrules.proofs.CountLaw.{holds_at}
use Rattle.dimrules.proofs.WholeLaw.{pad-sums}
use Rattle.rule_laws.specs.Broken.{first_broken, sides_of}
use Rattle.rule_laws.proofs.Tests.{same_types_tests, abs_tests, constant_tests, convert_tests, iota_tests, reshape_tests, compare_tests, select_tests, clamp_tests, reverse_tests, transpose_tests, broadcast_tests, slice_tests, pad_tests, concatenate_tests, dynamic_slice_tests, reduce_tests}
use Rattle.rules.specs.Facts.{AlikeShapes, AlikeTypes, DimensionsBelow, SameTypesHolds, CompareHolds, SelectHolds, ClampHolds, ReshapeGranted, ReverseHolds, TransposeGranted, BroadcastGranted, SliceGranted, PadGranted, ConcatenateGranted, DynamicSliceGranted, ReduceGranted}
use Rattle.checks.proofs.MeaningLaw.{or-true}
use Rattle.checks.proofs.TypeLaw.{same-element}
use Rattle.rules.proofs.BrokenLaw.{holds}

either_way : {A B C D : Type 0} → (A → C) → (B → D) → A ⊎ B → C ⊎ D
either_way f g (inl a) = inl (f a)
either_way f g (inr b) = inr (g b)

-- ---- types

pub same-shape : (x y : TensorType) → same_shape x y ≡ true → AlikeShapes x.shape y.shape
unfolding same_shape dim_test
same-shape x y e =
    let h = both_true (eqb x.shape.rank y.shape.rank) (everywhere x.shape.rank (dim_test Same (shapes_beside x y 0))) e in
    record {
      rank = eqb-true x.shape.rank y.shape.rank h.0;
      dims = λ d l. eqb-true (dim x.shape d) (dim y.shape d) (holds_at x.shape.rank (dim_test Same (shapes_beside x y 0)) h.1 d l);
    }

pub same-type : (x y : TensorType) → same_type x y ≡ true → AlikeTypes x y
unfolding same_type
same-type x y e =
    let h = both_true (same_element x y) (same_shape x y) e in
    record { element = same-element x y h.0; shape = same-shape x y h.1 }

-- ---- whole numbers

below-from : (w k : ℕ) (a : Bool) →
    le_z (pos 0) (pick a (pos w) (negsuc (2 ^ 64 - 1 - w))) && lt_z (pick a (pos w) (negsuc (2 ^ 64 - 1 - w))) (pos k) ≡ true → w < k
below-from w k true e = ltb-true w k (both_true (leb 0 w) (ltb w k) e).1
below-from w k false e = absurd (false≢true e)

pub below_true : (w k : ℕ) → below w k ≡ true → w < k
unfolding below
below_true w k e = below-from w k (ltb w (2 ^ 63)) e

order_from : (s l n : ℕ) (a b : Bool) →
    le_z (pos 0) (pick a (pos s) (negsuc (2 ^ 64 - 1 - s)))
    && le_z (pick a (pos s) (negsuc (2 ^ 64 - 1 - s))) (pick b (pos l) (negsuc (2 ^ 64 - 1 - l)))
    && le_z (pick b (pos l) (negsuc (2 ^ 64 - 1 - l))) (pos n) ≡ true →
    (s ≤ l) × (l ≤ n)
order_from s l n true true e =
    let h = both_true (leb 0 s && leb s l) (leb l n) e in
    (leb-true s l (both_true (leb 0 s) (leb s l) h.0).1, leb-true l n h.1)
order_from s l n true false e = absurd (false≢true (both_true (leb 0 s) false (both_true (leb 0 s && false) _ e).0).1)
order_from s l n false b e = absurd (false≢true e)

pub order-true : (s l n : ℕ) → in_order s l n ≡ true → (s ≤ l) × (l ≤ n)
unfolding in_order
order-true s l n e = order_from s l n (ltb s (2 ^ 63)) (ltb l (2 ^ 63)) e

positive-from : (w : ℕ) (a : Bool) → ltb w (2 ^ 63) ≡ a → lt_z (pos 0) (pick a (pos w) (negsuc (2 ^ 64 - 1 - w))) ≡ true → (0 < w) × (w < 2 ^ 63)
positive-from w true q e = (ltb-true 0 w e, ltb-true w (2 ^ 63) q)
positive-from w false q e = absurd (false≢true e)

pub positive-true : (w : ℕ) → positive w ≡ true → (0 < w) × (w < 2 ^ 63)
unfolding positive
positive-true w e = positive-from w (ltb w (2 ^ 63)) refl e

pub ceiling-true : (s l stride m : ℕ) → ceiling_is s l stride m ≡ true → m ≡ ceil_div (l - s) stride
unfolding ceiling_is
ceiling-true s l stride m e = eqb-true m (ceil_div (l - s) stride) (both_true (ltb 0 stride) (eqb m (ceil_div (l - s) stride)) e).1

padded-from : (m n i : ℕ) (low high : ℤ) (a : Bool) → ltb i (2 ^ 63) ≡ a →
    le_z (pos 0) (pick a (pos i) (negsuc (2 ^ 64 - 1 - i)))
    && eq_int (pos m) (pos n +ℤ low +ℤ pos (n - 1) *ℤ pick a (pos i) (negsuc (2 ^ 64 - 1 - i)) +ℤ high) ≡ true →
    (i < 2 ^ 63) × (m + down_of low + down_of high ≡ n + up_of low + (n - 1) * i + up_of high)
padded-from m n i low high true q e = (
  ltb-true i (2 ^ 63) q,
  eqb-true (m + down_of low + down_of high) (n + up_of low + (n - 1) * i + up_of high)
      (sym (pad-sums m n (n - 1) i low high) ∙ (both_true (leb 0 i) _ e).1),
)
padded-from m n i low high false q e = absurd (false≢true e)

pub padded-true : (low high i n m : ℕ) → padded_is low high i n m ≡ true →
    (i < 2 ^ 63) × (m + down_of (number_of low) + down_of (number_of high) ≡ n + up_of (number_of low) + (n - 1) * i + up_of (number_of high))
unfolding padded_is
padded-true low high i n m e = padded-from m n i (number_of low) (number_of high) (ltb i (2 ^ 63)) refl e

-- ---- lists of dimensions

pub listed_below : (s : Sides) (count k : ℕ) → s.k ≡ k → everywhere count (dim_test Below s) ≡ true → everywhere count (dim_test Unique s) ≡ true →
    DimensionsBelow s.a count k
unfolding dim_test is_first
listed_below s count k q b u =
    record {
      below = λ d l. subst (λ (x : ℕ). num s.a d < x) q (below_true (num s.a d) s.k (holds_at count (dim_test Below s) b d l));
      unique = λ d e l m w. sym (first d l) ∙ ap (place_in (list_of s.a)) w ∙ first e m;
    }
  where
    first : (d : ℕ) → d < count → place_in (list_of s.a) (num s.a d) ≡ d
    first d l = eqb-true (place_in (list_of s.a) (num s.a d)) d (holds_at count (dim_test Unique s) u d l)

-- ---- classes of ops

pub same-types-law : (types : List TensorType) (arity : ℕ) (r : TensorType) → first_broken (same_types_tests types arity r) ≡ 0 → SameTypesHolds types arity r
unfolding same_types_tests all_types type_test
same-types-law types arity r e =
    let h = holds (same_types_tests types arity r) e in
    record {
      operands = λ j l.
          same-type r (type_at types j)
          (subst (λ (i : ℕ). same_type r (type_at types i) ≡ true) (let z : 0 + j ≡ j = omega arith in z) (holds_at arity (operand_test SameType 0 r types 0) h.0 j l));
    }

pub abs-law : (x r : TensorType) → first_broken (abs_tests x r) ≡ 0 → AlikeTypes r x
unfolding abs_tests
abs-law x r e =
    let h = holds (abs_tests x r) e in
    record { element = same-element r x h.1.0; shape = same-shape r x h.0 }

pub constant-law : (value r : TensorType) → first_broken (constant_tests value r) ≡ 0 → AlikeTypes value r
unfolding constant_tests
constant-law value r e = same-type value r (holds (constant_tests value r) e).0

pub convert-law : (x r : TensorType) → first_broken (convert_tests x r) ≡ 0 → AlikeShapes x.shape r.shape
unfolding convert_tests
convert-law x r e = same-shape x r (holds (convert_tests x r) e).0

pub iota-law : (dimension : ℕ) (r : TensorType) → first_broken (iota_tests dimension r) ≡ 0 → dimension < r.shape.rank
unfolding iota_tests
iota-law dimension r e = below_true dimension r.shape.rank (holds (iota_tests dimension r) e).0

pub reshape-law : (x r : TensorType) → first_broken (reshape_tests x r) ≡ 0 → ReshapeGranted x r
unfolding reshape_tests
reshape-law x r e =
    let h = holds (reshape_tests x r) e in
    record { element = same-element x r h.0; sizes = eqb-true (size (dims_of x.shape)) (size (dims_of r.shape)) h.1.0 }

pub compare-law : (x y : TensorType) (compare_type : ℕ) (r : TensorType) → first_broken (compare_tests x y compare_type r) ≡ 0 → CompareHolds x y r
unfolding compare_tests
compare-law x y compare_type r e =
    let h = holds (compare_tests x y compare_type r) e in
    let s = both_true (same_shape x y) (same_shape x r) h.1.0 in
    record { element = same-element x y h.0; operands = same-shape x y s.0; result = same-shape x r s.1 }

scalar-or-alike : (p x : TensorType) → eqb p.shape.rank 0 || same_shape p x ≡ true → (p.shape.rank ≡ 0) ⊎ AlikeShapes p.shape x.shape
scalar-or-alike p x e = either_way (eqb-true p.shape.rank 0) (same-shape p x) (or-true (eqb p.shape.rank 0) (same_shape p x) e)

pub select_law : (pred t f r : TensorType) → first_broken (select_tests pred t f r) ≡ 0 → SelectHolds pred t f r
unfolding select_tests
select_law pred t f r e =
    let h = holds (select_tests pred t f r) e in
    let s = both_true (same_type t f) (same_type t r) h.1.0 in
    record { predicate = scalar-or-alike pred t h.0; choices = same-type t f s.0; result = same-type t r s.1 }

pub clamp-law : (min x max r : TensorType) → first_broken (clamp_tests min x max r) ≡ 0 → ClampHolds min x max r
unfolding clamp_tests
clamp-law min x max r e =
    let h = holds (clamp_tests min x max r) e in
    let s = both_true (same_element min x) (same_element x max) h.1.1.0 in
    record {
      least = scalar-or-alike min x h.0;
      most = scalar-or-alike max x h.1.0;
      below = same-element min x s.0;
      above = same-element x max s.1;
      result = same-type x r h.1.1.1.0;
    }

pub reverse-law : (x : TensorType) (dimensions : Numbers) (r : TensorType) → first_broken (reverse_tests x dimensions r) ≡ 0 → ReverseHolds x dimensions r
unfolding reverse_tests
reverse-law x dimensions r e =
    let h = holds (reverse_tests x dimensions r) e in
    let s = sides_of x r r.shape.rank dimensions dimensions dimensions in
    record { types = same-type x r h.0; listed = listed_below s dimensions.count r.shape.rank refl h.1.1.0 h.1.0 }

pub transpose-law : (x : TensorType) (permutation : Numbers) (r : TensorType) → first_broken (transpose_tests x permutation r) ≡ 0 → TransposeGranted x permutation r
unfolding transpose_tests dim_test
transpose-law x permutation r e =
    let h = holds (transpose_tests x permutation r) e in
    let s = sides_of x r x.shape.rank permutation permutation permutation in
    let n = x.shape.rank in
    let p = both_true (eqb permutation.count n && everywhere n (dim_test Below s)) (everywhere n (dim_test Unique s)) h.1.0 in
    let q = both_true (eqb permutation.count n) (everywhere n (dim_test Below s)) p.0 in
    let w = both_true (eqb r.shape.rank n) (everywhere n (dim_test Moved s)) h.1.1.0 in
    record {
      element = same-element x r h.0;
      count = eqb-true permutation.count n q.0;
      listed = listed_below s n n refl q.1 p.1;
      rank = eqb-true r.shape.rank n w.0;
      sizes = λ d l. eqb-true (dim r.shape d) (dim x.shape (num permutation d)) (holds_at n (dim_test Moved s) w.1 d l);
    }

pub broadcast-law : (x : TensorType) (dimensions : Numbers) (r : TensorType) → first_broken (broadcast_tests x dimensions r) ≡ 0 → BroadcastGranted x dimensions r
unfolding broadcast_tests dim_test
broadcast-law x dimensions r e =
    let h = holds (broadcast_tests x dimensions r) e in
    let s = sides_of x r r.shape.rank dimensions dimensions dimensions in
    record {
      element = same-element x r h.0;
      count = eqb-true dimensions.count x.shape.rank h.1.0;
      listed = listed_below s dimensions.count r.shape.rank refl h.1.1.0 h.1.1.1.0;
      sizes = λ d l.
          either_way (eqb-true (dim x.shape d) 1) (eqb-true (dim x.shape d) (dim r.shape (num dimensions d)))
          (or-true (eqb (dim x.shape d) 1) (eqb (dim x.shape d) (dim r.shape (num dimensions d))) (holds_at x.shape.rank (dim_test Stretched s) h.1.1.1.1.0 d l));
    }

-- three lists of n numbers each
counts : (a b c : Numbers) (n : ℕ) → eqb a.count n && eqb b.count n && eqb c.count n ≡ true → (a.count ≡ n) × (b.count ≡ n) × (c.count ≡ n)
counts a b c n e =
    let h = both_true (eqb a.count n && eqb b.count n) (eqb c.count n) e in
    let g = both_true (eqb a.count n) (eqb b.count n) h.0 in
    (eqb-true a.count n g.0, eqb-true b.count n g.1, eqb-true c.count n h.1)

pub slice-law : (x : TensorType) (start limit strides : Numbers) (r : TensorType) → first_broken (slice_tests x start limit strides r) ≡ 0 → SliceGranted x start limit strides r
unfolding slice_tests dim_test
slice-law x start limit strides r e =
    let h = holds (slice_tests x start limit strides r) e in
    let s = sides_of x r 0 start limit strides in
    let n = x.shape.rank in
    let w = both_true (eqb r.shape.rank n) (everywhere n (dim_test Ceiling s)) h.1.1.1.1.0 in
    record {
      element = same-element x r h.0;
      counts = counts start limit strides n h.1.0;
      rank = eqb-true r.shape.rank n w.0;
      order = λ d l. order-true (num start d) (num limit d) (dim x.shape d) (holds_at n (dim_test InOrder s) h.1.1.0 d l);
      positive = λ d l. (positive-true (num strides d) (holds_at n (dim_test Positive s) h.1.1.1.0 d l)).0;
      small = λ d l. (positive-true (num strides d) (holds_at n (dim_test Positive s) h.1.1.1.0 d l)).1;
      sizes = λ d l. ceiling-true (num start d) (num limit d) (num strides d) (dim r.shape d) (holds_at n (dim_test Ceiling s) w.1 d l);
    }

pub pad-law : (x v : TensorType) (low high interior : Numbers) (r : TensorType) → first_broken (pad_tests x v low high interior r) ≡ 0 → PadGranted x v low high interior r
unfolding pad_tests dim_test
pad-law x v low high interior r e =
    let h = holds (pad_tests x v low high interior r) e in
    let s = sides_of x r 0 low high interior in
    let n = x.shape.rank in
    let t = both_true (same_element x v) (same_element x r) h.0 in
    let w = both_true (eqb r.shape.rank n) (everywhere n (dim_test Padded s)) h.1.1.1.0 in
    record {
      start = same-element x v t.0;
      element = same-element x r t.1;
      counts = counts low high interior n h.1.0;
      rank = eqb-true r.shape.rank n w.0;
      small = λ d l. (padded-true (num low d) (num high d) (num interior d) (dim x.shape d) (dim r.shape d) (holds_at n (dim_test Padded s) w.1 d l)).0;
      sizes = λ d l. (padded-true (num low d) (num high d) (num interior d) (dim x.shape d) (dim r.shape d) (holds_at n (dim_test Padded s) w.1 d l)).1;
    }

-- alike but for dimension k, which exists
record AlikeButOne (x y : TensorType) (k : ℕ) : Type 0 where
  rank : x.shape.rank ≡ y.shape.rank
  along : k < x.shape.rank
  others : (d : ℕ) → d < x.shape.rank → (d ≡ k → ⊥) → dim x.shape d ≡ dim y.shape d

same-but-one : (x y : TensorType) (k : ℕ) → same_but_one x y k ≡ true → AlikeButOne x y k
unfolding same_but_one dim_test
same-but-one x y k e =
    let n = x.shape.rank in
    let t = dim_test SameExcept (shapes_beside x y k) in
    let h = both_true (eqb n y.shape.rank && below k n) (everywhere n t) e in
    let g = both_true (eqb n y.shape.rank) (below k n) h.0 in
    record {
      rank = eqb-true n y.shape.rank g.0;
      along = below_true k n g.1;
      others = λ d l f. other d f (or-true (eqb d k) (eqb (dim x.shape d) (dim y.shape d)) (holds_at n t h.1 d l));
    }
  where
    other : (d : ℕ) → (d ≡ k → ⊥) → (eqb d k ≡ true) ⊎ (eqb (dim x.shape d) (dim y.shape d) ≡ true) → dim x.shape d ≡ dim y.shape d
    other d f (inl q) = absurd (f (eqb-true d k q))
    other d f (inr q) = eqb-true (dim x.shape d) (dim y.shape d) q

pub concatenate-law : (types : List TensorType) (arity dimension : ℕ) (r : TensorType) → first_broken (concatenate_tests types arity dimension r) ≡ 0 →
    ConcatenateGranted types arity dimension r
unfolding concatenate_tests all_types type_test
concatenate-law types arity dimension r e =
    let h = holds (concatenate_tests types arity dimension r) e in
    let x = type_at types 0 in
    let w = both_true (same_but_one x r dimension) (eqb (dim r.shape dimension) (sum_of_dims types arity dimension)) h.1.1.1.1.1.0 in
    let b = same-but-one x r dimension w.0 in
    record {
      some = ltb-true 0 arity h.1.1.0;
      along = subst (λ (n : ℕ). dimension < n) b.rank b.along;
      elements = λ j l. sym (same-element x r h.1.1.1.1.0) ∙ same-element x (type_at types j) (at_place SameElement 0 h.0 j l);
      ranks = λ j l. sym (input h.1.0 j l).rank ∙ b.rank;
      others = λ j l d m f.
          let m' : d < x.shape.rank = subst (λ (n : ℕ). d < n) (sym b.rank) m in
          sym ((input h.1.0 j l).others d m' f) ∙ b.others d m' f;
      total = eqb-true (dim r.shape dimension) (sum_of_dims types arity dimension) w.1;
    }
  where
    at_place : (t : TypeTest) (k : ℕ) → everywhere arity (operand_test t k (type_at types 0) types 0) ≡ true → (j : ℕ) → j < arity → type_test t k (type_at types 0) (type_at types j) ≡ true
    at_place t k q j l =
        subst (λ (i : ℕ). type_test t k (type_at types 0) (type_at types i) ≡ true) (let z : 0 + j ≡ j = omega arith in z) (holds_at arity (operand_test t k (type_at types 0) types 0) q j l)

    input : everywhere arity (operand_test SameButOne dimension (type_at types 0) types 0) ≡ true → (j : ℕ) → j < arity → AlikeButOne (type_at types 0) (type_at types j) dimension
    input q j l = same-but-one (type_at types 0) (type_at types j) dimension (at_place SameButOne dimension q j l)

pub dynamic-slice-law : (types : List TensorType) (arity : ℕ) (sizes : Numbers) (r : TensorType) → first_broken (dynamic_slice_tests types arity sizes r) ≡ 0 →
    DynamicSliceGranted types arity sizes r
unfolding dynamic_slice_tests dim_test all_types type_test
dynamic-slice-law types arity sizes r e =
    let h = holds (dynamic_slice_tests types arity sizes r) e in
    let x = type_at types 0 in
    let n = x.shape.rank in
    let s = sides_of x r 0 sizes sizes sizes in
    let c = both_true (eqb (arity - 1) n) (eqb sizes.count n) h.1.0 in
    let w = both_true (eqb r.shape.rank n) (everywhere n (dim_test SizeIs s)) h.1.1.1.1.0 in
    record {
      element = same-element x r h.0;
      starts = eqb-true (arity - 1) n c.0;
      count = eqb-true sizes.count n c.1;
      alike = λ j l. same-type (type_at types 1) (type_at types (1 + j)) (holds_at (arity - 1) (operand_test SameType 0 (type_at types 1) types 1) h.1.1.0 j l);
      within = λ d l. (order-true (num sizes d) (num sizes d) (dim x.shape d) (holds_at n (dim_test InOrder s) h.1.1.1.0 d l)).1;
      rank = eqb-true r.shape.rank n w.0;
      shape = λ d l. eqb-true (dim r.shape d) (num sizes d) (holds_at n (dim_test SizeIs s) w.1 d l);
    }

pub reduce-law : (x v a b : TensorType) (dimensions : Numbers) (r : TensorType) → first_broken (reduce_tests x v a b dimensions r) ≡ 0 →
    ReduceGranted x v a b dimensions r
unfolding reduce_tests dim_test kept_is
reduce-law x v a b dimensions r e =
    let h = holds (reduce_tests x v a b dimensions r) e in
    let s = sides_of x r x.shape.rank dimensions dimensions dimensions in
    let n = x.shape.rank in
    let p = both_true (same_element x a && eqb a.shape.rank 0) (same_element x b && eqb b.shape.rank 0) h.1.1.1.1.1.0 in
    let w = both_true (eqb r.shape.rank (kept_below dimensions n)) (everywhere n (dim_test Kept s)) h.1.1.1.1.1.1.0 in
    record {
      start = same-element x v h.1.0;
      listed = listed_below s dimensions.count n refl h.1.1.1.0 h.1.1.1.1.0;
      left = argument a p.0;
      right = argument b p.1;
      rank = eqb-true r.shape.rank (kept_below dimensions n) w.0;
      sizes = λ d l.
          either_way (λ q. q) (eqb-true (dim x.shape d) (dim r.shape (kept_below dimensions d)))
          (or-true (is_in (list_of dimensions) d) (eqb (dim x.shape d) (dim r.shape (kept_below dimensions d))) (holds_at n (dim_test Kept s) w.1 d l));
      element = same-element x r h.1.1.1.1.1.1.1.0;
    }
  where
    argument : (y : TensorType) → same_element x y && eqb y.shape.rank 0 ≡ true → (x.element ≡ y.element) × (y.shape.rank ≡ 0)
    argument y q =
        let g = both_true (same_element x y) (eqb y.shape.rank 0) q in
        (same-element x y g.0, eqb-true y.shape.rank 0 g.1)
