-- All constraints of slice, pad and dynamic_slice hold if and only if what 000 says of them is true.
-- Assumes nothing.
use mathlib.Core.Path.{◌≡◌, refl, sym, ap, ◌∙◌, subst}
use mathlib.Core.List.{List}
use mathlib.Core.Bool.{true}
use Prim.Native.Nat.{ℕ, ◌-◌, ◌<◌}
use lib.ListN.{length}
use lib.IntN.{ℤ, pos, ◌+ℤ◌, ◌-ℤ◌, ◌*ℤ◌}
use lib.Signed.{◌≤ℤ◌}
use Rattle.dimrules.specs.Dims.{dim}
use Rattle.dimrules.specs.Types.{type_at}
use Rattle.dimrules.specs.declared.TensorType.{TensorType}
use Rattle.checks.specs.Check.{Term, is, equal, less, at_most, Test, check_holds, broken_number}
use Rattle.checks.specs.Formula.{shape, rank, ◌!◌, ◌⊕◌, ◌⊖◌, ◌⊗◌, less_one, ceil, ceil_z, int, entries, ◌and◌, ◌[≤]◌, same_elements, whole, same_types}
use Rattle.checks.proofs.CheckLaw.{each_all, all-each}
use Rattle.checks.proofs.MeaningLaw.{and-true-both, both-and-true}
use Rattle.checks.proofs.ReadingLaw.{at-inside, shape-at, int-list-true, true-int-list, lists-true, true-lists, shape-row-true, true-shape-row}
use Rattle.checks.proofs.NumberLaw.{all_hold, none-broken}
use Rattle.checks.proofs.TypeLaw.{elements-true, true-elements, shape-long, shape_is, equal_is, is-equal, is_same}
use Rattle.op_checks.specs.OpChecks.{slice_checks, pad_checks, dynamic_slice_checks}
use Rattle.constraint_facts.specs.OpFacts.{◌at◌, dim_of, SliceFacts, PadFacts, DynamicSliceFacts}
use Rattle.constraint_facts.proofs.CeilLaw.{ceil-true, true-ceil}
use Rattle.constraint_facts.proofs.WordLaw.{below-same, two-true, true-two, three-true, true-three, types-true, true-types}

-- ---- a list within a shape

module _ (x : TensorType) (l : List ℤ) (long : length l ≡ rank x) where
  within-true : check_holds (entries l [≤] entries (shape x)) ≡ true → (d : ℕ) → d < rank x → l at d ≤ℤ dim_of x d
  within-true e d k = subst (λ (z : ℤ). l at d ≤ℤ z) (shape_is x d k) ((lists-true at_most l (shape x) e).1 d (below-same d (sym long) k))

  true-within : ((d : ℕ) → d < rank x → l at d ≤ℤ dim_of x d) → check_holds (entries l [≤] entries (shape x)) ≡ true
  true-within f =
      true-lists at_most l (shape x) (long ∙ sym (shape-long x)) (λ d i.
      let k : d < rank x = below-same d long i in
      subst (λ (z : ℤ). l at d ≤ℤ z) (sym (shape_is x d k)) (f d k))

-- ---- slice

module _ (x : TensorType) (start limit strides : List ℤ) (r : TensorType) where
  ordered-true : length start ≡ rank x → length limit ≡ rank x →
      check_holds ((int (pos 0) [≤] entries start) and (entries start [≤] entries limit) and (entries limit [≤] entries (shape x))) ≡ true →
      (d : ℕ) → d < rank x → (pos 0 ≤ℤ start at d) × (start at d ≤ℤ limit at d) × (limit at d ≤ℤ dim_of x d)
  ordered-true s l e d k =
      let a = and-true-both ((int (pos 0) [≤] entries start) and (entries start [≤] entries limit)) (entries limit [≤] entries (shape x)) e in
      let b = and-true-both (int (pos 0) [≤] entries start) (entries start [≤] entries limit) a.0 in
      let i : d < length start = below-same d (sym s) k in
      (int-list-true at_most (pos 0) start b.0 d i, (lists-true at_most start limit b.1).1 d i, within-true x limit l a.1 d k)

  true-ordered : length start ≡ rank x → length limit ≡ rank x →
      ((d : ℕ) → d < rank x → (pos 0 ≤ℤ start at d) × (start at d ≤ℤ limit at d) × (limit at d ≤ℤ dim_of x d)) →
      check_holds ((int (pos 0) [≤] entries start) and (entries start [≤] entries limit) and (entries limit [≤] entries (shape x))) ≡ true
  true-ordered s l f =
      both-and-true ((int (pos 0) [≤] entries start) and (entries start [≤] entries limit)) (entries limit [≤] entries (shape x))
      (both-and-true (int (pos 0) [≤] entries start) (entries start [≤] entries limit)
      (true-int-list at_most (pos 0) start (λ d i. (f d (below-same d s i)).0))
      (true-lists at_most start limit (s ∙ sym l) (λ d i. (f d (below-same d s i)).1)))
      (true-within x limit l (λ d k. (f d k).2))

  abbrev slice_formula : ℕ → Term
  slice_formula d = ceil (limit ! d ⊖ start ! d) (strides ! d)

  ceiling-at : length start ≡ rank x → length limit ≡ rank x → length strides ≡ rank x → (d : ℕ) → d < rank x →
      slice_formula d ≡ ceil_z (limit at d -ℤ start at d) (strides at d)
  ceiling-at s l t d h = rw (at-inside start d (rw s h), at-inside limit d (rw l h), at-inside strides d (rw t h)) refl

  pub slice-facts : broken_number (slice_checks x start limit strides r) ≡ 0 → SliceFacts x start limit strides r
  unfolding slice_checks
  slice-facts e =
      let h = all_hold (slice_checks x start limit strides r) e in
      let n = three-true (length start) (length limit) (length strides) (rank x) h.1.0 in
      let t : length strides ≡ rank x = n.2 in
      let l : length limit ≡ rank x = n.1 ∙ t in
      let s : length start ≡ rank x = n.0 ∙ l in
      let w = shape-row-true r (rank x) slice_formula h.1.1.1.1.0 in
      record {
        c1 = elements-true x r h.0;
        c2 = n;
        c3 = ordered-true s l h.1.1.0;
        c4 = λ d k. int-list-true less (pos 0) strides h.1.1.1.0 d (below-same d (sym t) k);
        c5 = (w.0, λ d k. ceil-true (limit at d -ℤ start at d) (strides at d) (dim_of r d) (sym (ceiling-at s l t d k) ∙ equal_is (dim_of r d) (slice_formula d) (w.1 d k)));
      }

  pub facts-slice : SliceFacts x start limit strides r → broken_number (slice_checks x start limit strides r) ≡ 0
  unfolding slice_checks
  facts-slice f =
      let t : length strides ≡ rank x = f.c2.2 in
      let l : length limit ≡ rank x = f.c2.1 ∙ t in
      let s : length start ≡ rank x = f.c2.0 ∙ l in
      none-broken (slice_checks x start limit strides r) (
        true-elements x r f.c1,
        (
          true-three (length start) (length limit) (length strides) (rank x) f.c2,
          (
            true-ordered s l f.c3,
            (
              true-int-list less (pos 0) strides (λ d i. f.c4 d (below-same d t i)),
              (
                true-shape-row r (rank x) slice_formula f.c5.0 (λ d k. is-equal (dim_of r d) (slice_formula d) (ceiling-at s l t d k ∙ true-ceil (limit at d -ℤ start at d) (strides at d) (dim_of r d) (f.c5.1 d k))),
                tt,
              ),
            ),
          ),
        ),
      )

-- ---- pad

module _ (x v : TensorType) (low high interior : List ℤ) (r : TensorType) where
  abbrev pad_formula : ℕ → Term
  pad_formula d = shape x ! d ⊕ low ! d ⊕ less_one (shape x ! d) ⊗ interior ! d ⊕ high ! d

  padded-at : length low ≡ rank x → length high ≡ rank x → length interior ≡ rank x → (d : ℕ) → d < rank x →
      pad_formula d ≡ is (dim_of x d +ℤ low at d +ℤ pos (dim x.shape d - 1) *ℤ interior at d +ℤ high at d)
  padded-at s l t d h = rw (shape-at x d h, at-inside low d (rw s h), at-inside high d (rw l h), at-inside interior d (rw t h)) refl

  pub pad-facts : broken_number (pad_checks x v low high interior r) ≡ 0 → PadFacts x v low high interior r
  unfolding pad_checks
  pad-facts e =
      let h = all_hold (pad_checks x v low high interior r) e in
      let c = and-true-both (same_elements x v) (same_elements v r) h.0 in
      let n = three-true (length low) (length high) (length interior) (rank x) h.1.0 in
      let t : length interior ≡ rank x = n.2 in
      let l : length high ≡ rank x = n.1 ∙ t in
      let s : length low ≡ rank x = n.0 ∙ l in
      let w = shape-row-true r (rank x) pad_formula h.1.1.1.0 in
      record {
        c1 = (elements-true x v c.0, elements-true v r c.1);
        c2 = n;
        c3 = λ d k. int-list-true at_most (pos 0) interior h.1.1.0 d (below-same d (sym t) k);
        c4 = (w.0, λ d k. sym (is_same _ _ (sym (padded-at s l t d k) ∙ equal_is (dim_of r d) (pad_formula d) (w.1 d k))));
      }

  pub facts-pad : PadFacts x v low high interior r → broken_number (pad_checks x v low high interior r) ≡ 0
  unfolding pad_checks
  facts-pad f =
      let t : length interior ≡ rank x = f.c2.2 in
      let l : length high ≡ rank x = f.c2.1 ∙ t in
      let s : length low ≡ rank x = f.c2.0 ∙ l in
      none-broken (pad_checks x v low high interior r) (
        both-and-true (same_elements x v) (same_elements v r) (true-elements x v f.c1.0) (true-elements v r f.c1.1),
        (
          true-three (length low) (length high) (length interior) (rank x) f.c2,
          (
            true-int-list at_most (pos 0) interior (λ d i. f.c3 d (below-same d t i)),
            (
              true-shape-row r (rank x) pad_formula f.c4.0 (λ d k. is-equal (dim_of r d) (pad_formula d) (padded-at s l t d k ∙ ap is (sym (f.c4.1 d k)))),
              tt,
            ),
          ),
        ),
      )

-- ---- dynamic_slice

module _ (x : TensorType) (starts : List TensorType) (sizes : List ℤ) (r : TensorType) where
  abbrev start_test : ℕ → Test
  start_test j = whole (same_types (type_at starts 0) (type_at starts j))

  pub dynamic-slice-facts : broken_number (dynamic_slice_checks x starts sizes r) ≡ 0 → DynamicSliceFacts x starts sizes r
  unfolding dynamic_slice_checks
  dynamic-slice-facts e =
      let h = all_hold (dynamic_slice_checks x starts sizes r) e in
      let n = two-true (length starts) (length sizes) (rank x) h.1.0 in
      let c = and-true-both (int (pos 0) [≤] entries sizes) (entries sizes [≤] entries (shape x)) h.1.1.1.0 in
      let w = lists-true equal (shape r) sizes h.1.1.1.1.0 in
      record {
        c1 = elements-true x r h.0;
        c2 = n;
        c3 = λ j k. types-true (type_at starts 0) (type_at starts j) (all-each (length starts) start_test h.1.1.0 j k);
        c4 = λ d k. (int-list-true at_most (pos 0) sizes c.0 d (below-same d (sym n.1) k), within-true x sizes n.1 c.1 d k);
        c5 = (sym (shape-long r) ∙ w.0, λ d k. sym (shape_is r d k) ∙ w.1 d (below-same d (sym (shape-long r)) k));
      }

  pub facts-dynamic-slice : DynamicSliceFacts x starts sizes r → broken_number (dynamic_slice_checks x starts sizes r) ≡ 0
  unfolding dynamic_slice_checks
  facts-dynamic-slice f =
      none-broken (dynamic_slice_checks x starts sizes r) (
        true-elements x r f.c1,
        (
          true-two (length starts) (length sizes) (rank x) f.c2,
          (
            each_all (length starts) start_test (λ j k. true-types (type_at starts 0) (type_at starts j) (f.c3 j k)),
            (
              both-and-true (int (pos 0) [≤] entries sizes) (entries sizes [≤] entries (shape x))
                  (true-int-list at_most (pos 0) sizes (λ d i. (f.c4 d (below-same d f.c2.1 i)).0)) (true-within x sizes f.c2.1 (λ d k. (f.c4 d k).1)),
              (
                true-lists equal (shape r) sizes (shape-long r ∙ f.c5.0) (λ d i.
                    let k : d < rank r = below-same d (shape-long r) i in
                    shape_is r d k ∙ f.c5.1 d k),
                tt,
              ),
            ),
          ),
        ),
      )
