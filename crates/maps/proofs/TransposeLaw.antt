-- transpose, for every rank: the element of the result at index i is the operand's element at the index j with i[d] = j[permutation[d]] for all d.
-- Assumes nothing.
use mathlib.Core.Path.{◌≡◌, sym, ap, ◌∙◌}
use mathlib.Core.List.{List}
use Prim.Native.Nat.{ℕ, ◌<◌}
use native.Mathlib.Omega.{arith}
use lib.ListN.{length}
use Rattle.lists.specs.Lists.{tab}
use Rattle.lists.proofs.TabLaw.{get_or-tab}
use Rattle.shape.specs.Index.{at, IndexOf, element_at}
use Rattle.shape.specs.Place.{place_in}
use Rattle.maps.specs.Formulas.{transpose_index, transposed}
use Rattle.maps.specs.Holds.{TransposeHolds}
use Rattle.maps.proofs.GatherLaw.{gathered-at, index_is, index-of-tab}
use Rattle.maps.proofs.PermutationLaw.{place_at, at_place}

-- "result_index[d] = operand_index[permutation[d]]"
abbrev pub TransposeIndex : List ℕ → List ℕ → List ℕ → Type 0
TransposeIndex permutation i j = (d : ℕ) → d < length permutation → at i d ≡ at j (at permutation d)

module _ (permutation from to : List ℕ) (ok : TransposeHolds permutation from to) where
  place : (e : ℕ) → e < length from → (place_in permutation e < length permutation) × (at permutation (place_in permutation e) ≡ e)
  place e h = at_place permutation ok.unique (λ d l. omega (arith, ok.below d l, ok.count)) e (omega (arith, ok.count))

  -- there is such an index of the operand
  pub transpose-index : (i : List ℕ) → IndexOf to i → (j : List ℕ) × IndexOf from j × TransposeIndex permutation i j
  transpose-index i o =
      let f : ℕ → ℕ = transpose_index permutation (at i) in (
        tab (length from) f,
        index-of-tab from f
            (λ e h.
            let p = place e h in
            let l : place_in permutation e < length from = omega (arith, p.0, ok.count) in
            omega (arith, o.within (place_in permutation e) (omega (arith, ok.rank)), ok.sizes (place_in permutation e) l, ap (at from) p.1)),
        λ d h. sym (get_or-tab (length from) f (at permutation d) 0 (ok.below d h) ∙ ap (at i) (place_at permutation ok.unique d h)),
      )

  -- and at each such index stands the result's element
  pub transpose-formula : (x i j : List ℕ) (w : ℕ) → IndexOf to i → IndexOf from j → TransposeIndex permutation i j
      → element_at (transposed permutation from to x) to i w ≡ element_at x from j 0
  transpose-formula x i j w o p e =
      gathered-at (transpose_index permutation) from to x 0 i w o
      ∙ ap (λ (k : List ℕ). element_at x from k 0)
      (index_is (length from) (transpose_index permutation (at i)) j p.rank
      (λ d h. let q = place d h in e (place_in permutation d) q.0 ∙ ap (at j) q.1))
