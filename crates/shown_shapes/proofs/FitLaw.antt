-- From the tests of an example to what the ops require.
-- Assumes nothing.
use mathlib.Core.Path.{◌≡◌, refl, sym, ap, ◌∙◌}
use mathlib.Core.Bool.{Bool, true, false, ◌&&◌, ◌||◌, false≢true}
use mathlib.Core.List.{List, [], ◌∷◌}
use lib.Dec.{leb, ltb, eqb}
use Prim.Native.Nat.{ℕ, ◌≤◌, ◌<◌, ◌+◌, ◌-◌}
use lib.ListN.{length, get_or}
use borrow.Author.Tests.{ltb-true, leb-true, eqb-true}
use Rattle.lists.specs.Lists.{All, all_below}
use Rattle.lists.proofs.SearchLaw.{all-at}
use Rattle.shape.specs.Index.{at, size, volume}
use Rattle.shape.specs.Dims.{dims_of, Sized}
use Rattle.shape.specs.Place.{place_in}
use Rattle.shape.specs.Whole.{ceil_div}
use Rattle.shape.specs.declared.Shape.{Shape}
use Rattle.maps.specs.Holds.{Stretches, IotaHolds, TransposeHolds, SliceHolds, PadHolds, DynamicSliceHolds, ConcatenateHolds, InputsLaid}
use Rattle.maps.specs.Concatenation.{no_shape}
use Rattle.reduction.specs.Rows as rows
use Rattle.shown_shapes.specs.Fit.{Fit, Few, IsAlong, transpose_at, IsTranspose, slice_at, IsSlice, IsPad, IsDynamic, input_at, same_but, all_same_but, AreInputs, IsConcatenation}

pub sized : (s : Shape) → leb s.rank 6 ≡ true → leb (volume (dims_of s)) 4096 ≡ true → Sized s
sized s r v = record { rank = leb-true _ _ r; volume = leb-true _ _ v }

pub few : (n : ℕ) → Few n → n ≤ 6
few n f = leb-true n 6 f

module _ (from to : Shape) (x out : List ℕ) (f : Fit from x) (g : Fit to out) where
  pub stretches : Stretches from to x out
  stretches = record { from-sized = sized from f.0 f.1; to-sized = sized to g.0 g.1; operand = f.2; result = g.2 }

  pub reduced-stretches : (count : ℕ) → Few count → rows.ReduceStretches from to count x out
  reduced-stretches count h =
      record { from-sized = sized from f.0 f.1; to-sized = sized to g.0 g.1; few = few count h; operand = f.2; result = g.2 }

pub iota-holds : (d : ℕ) (to : List ℕ) → IsAlong d to → IotaHolds d to
iota-holds d to h = record { along = ltb-true _ _ h }

both : (a b : Bool) → a && b ≡ true → (a ≡ true) × (b ≡ true)
both true b e = (refl, e)
both false b e = absurd (false≢true e)

either : (a b : Bool) → a || b ≡ true → (a ≡ true → ⊥) → b ≡ true
either true b e n = absurd (n refl)
either false b e n = e

module _ (permutation from to : List ℕ) (h : IsTranspose permutation from to) where
  moved : (d : ℕ) → d < length from → (ltb (at permutation d) (length from) ≡ true) × (eqb (place_in permutation (at permutation d)) d ≡ true)
      × (eqb (at to d) (at from (at permutation d)) ≡ true)
  moved d b =
      let p = both _ _ (all-at (length from) (transpose_at permutation from to) d h.2 b) in
      let q = both _ _ p.0 in
      (q.0, q.1, p.1)

  place : (d : ℕ) → d < length permutation → place_in permutation (at permutation d) ≡ d
  place d b = eqb-true _ _ (moved d (rw (← h.0) b)).1

  pub transpose-holds : TransposeHolds permutation from to
  transpose-holds =
      record {
        count = h.0;
        below = λ d b. ltb-true _ _ (moved d (rw (← h.0) b)).0;
        unique = λ i j l m e. sym (place i l) ∙ ap (place_in permutation) e ∙ place j m;
        rank = h.1;
        sizes = λ d b. eqb-true _ _ (moved d b).2;
      }

module _ (start limit strides from to : List ℕ) (h : IsSlice start limit strides from to) where
  facts : (d : ℕ) → d < length from → (leb (at start d) (at limit d) ≡ true) × (leb (at limit d) (at from d) ≡ true) × (ltb 0 (at strides d) ≡ true)
      × (eqb (at to d) (ceil_div (at limit d - at start d) (at strides d)) ≡ true)
  facts d b =
      let e = all-at (length from) (slice_at start limit strides from to) d h.1 b in
      let p = both _ _ e in
      let q = both _ _ p.0 in
      let r = both _ _ q.0 in
      (r.0, r.1, q.1, p.1)

  pub slice-holds : SliceHolds start limit strides from to
  slice-holds =
      record {
        rank = h.0;
        order = λ d b. (leb-true _ _ (facts d b).0, leb-true _ _ (facts d b).1);
        positive = λ d b. ltb-true _ _ (facts d b).2;
        sizes = λ d b. eqb-true _ _ (facts d b).3;
      }

pub pad-holds : (interior from to : List ℕ) → IsPad interior from to → PadHolds interior from to
pad-holds interior from to h = record { rank = h.0; nonnegative = λ d b. ltb-true _ _ (all-at (length from) (λ i. ltb (at interior i) 9223372036854775808) d h.1 b) }

pub dynamic-slice-holds : (from to : List ℕ) → IsDynamic from to → DynamicSliceHolds from to
dynamic-slice-holds from to h = record { rank = h.0; sizes = λ d b. leb-true _ _ (all-at (length from) (λ i. leb (at to i) (at from i)) d h.1 b) }

module _ (x : List ℕ) (shapes : List Shape) (places : List ℕ) (count : ℕ) (h : AreInputs x shapes places count) where
  input : (j : ℕ) → j < count → (leb (get_or shapes j no_shape).rank 6 ≡ true) × (leb (volume (dims_of (get_or shapes j no_shape))) 4096 ≡ true)
      × (leb (at places j + size (dims_of (get_or shapes j no_shape))) (length x) ≡ true)
  input j b =
      let p = both _ _ (all-at count (input_at x shapes places) j h.1 b) in
      let q = both _ _ p.0 in
      (q.0, q.1, p.1)

  pub inputs : InputsLaid x shapes places count
  inputs =
      record {
        few = leb-true _ _ h.0;
        sized = λ j b. sized (get_or shapes j no_shape) (input j b).0 (input j b).1;
        laid = λ j b. leb-true _ _ (input j b).2;
      }

module _ (dimension : ℕ) (to : List ℕ) where
  ranks : (ss : List (List ℕ)) → all_same_but dimension to ss ≡ true → All (λ s. length s ≡ length to) ss
  ranks [] e = tt
  ranks (s ∷ ss) e =
      let p = both (same_but dimension to s) (all_same_but dimension to ss) e in
      let q = both (eqb (length s) (length to)) (all_below (length to) (λ i. eqb i dimension || eqb (at s i) (at to i))) p.0 in
      (eqb-true (length s) (length to) q.0, ranks ss p.1)

  others : (ss : List (List ℕ)) → all_same_but dimension to ss ≡ true → All (λ s. (d : ℕ) → d < length to → (d ≡ dimension → ⊥) → at s d ≡ at to d) ss
  others [] e = tt
  others (s ∷ ss) e =
      let p = both (same_but dimension to s) (all_same_but dimension to ss) e in
      let q = both (eqb (length s) (length to)) (all_below (length to) (λ i. eqb i dimension || eqb (at s i) (at to i))) p.0 in (
        λ d b n. eqb-true (at s d) (at to d) (either (eqb d dimension) (eqb (at s d) (at to d))
            (all-at (length to) (λ i. eqb i dimension || eqb (at s i) (at to i)) d q.1 b) (λ f. n (eqb-true d dimension f))),
        others ss p.1,
      )

pub concatenate-holds : (dimension : ℕ) (ss : List (List ℕ)) (to : List ℕ) → IsConcatenation dimension ss to → ConcatenateHolds dimension ss to
concatenate-holds dimension ss to h =
    record { along = ltb-true _ _ h.0; ranks = ranks dimension to ss h.1; others = others dimension to ss h.1; total = h.2 }
