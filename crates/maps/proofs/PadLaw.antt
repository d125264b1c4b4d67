-- pad by ℤ: the (pad_index low interior from (at i)) that the code finds, and 000's sentence.
-- Assumes nothing.
use mathlib.Core.Path.{◌≡◌, refl, sym, ap, ◌∙◌}
use mathlib.Core.List.{List}
use mathlib.Core.Bool.{Bool, true, false}
use Prim.Native.Nat.{ℕ, ◌+◌, ◌*◌, ◌/◌, ◌%◌, ◌<◌}
use native.Mathlib.Nat.{mul-mod_left, mul-div_cancel, div-add-mod'}
use native.Mathlib.Omega.{arith}
use lib.ListN.{length, get_or}
use lib.IntN.{ℤ, pos, negsuc, ◌+ℤ◌, ◌-ℤ◌, ◌*ℤ◌, +ℤ_comm, +ℤ-neg_ℤ_cancel, -ℤ-+ℤ_cancel}
use lib.Dec.{eqb}
use borrow.Author.Tests.{eq-eqb, eqb-true}
use Rattle.lists.specs.Lists.{pick, tab}
use Rattle.lists.proofs.TabLaw.{get_or-tab}
use Rattle.shape.specs.Index.{at, IndexOf, element_at}
use Rattle.shape.proofs.ElementLaw.{element-default}
use Rattle.maps.specs.Formulas.{pad_step, pad_coord, pad_index, padded}
use Rattle.maps.proofs.GatherLaw.{gathered-at, index_is, index-of-tab}

-- ---- one coordinate: "result_index = edge_padding_low + operand_index * (interior_padding + 1)"

step-multiple : (interior n o : ℕ) → pad_step interior n (pos (o * (interior + 1))) ≡ o
step-multiple interior n o =
    simp (eq-eqb (o * (interior + 1) % (interior + 1)) 0 (mul-mod_left o (interior + 1))) (mul-div_cancel o (let p : 0 < interior + 1 = omega arith in p))

pub pad-found : (low : ℤ) (interior n x o : ℕ) → pos x ≡ low +ℤ pos o *ℤ (pos interior +ℤ pos 1) → pad_coord low interior n x ≡ o
pad-found low interior n x o e =
    ap (pad_step interior n)
    (ap (λ (z : ℤ). z -ℤ low) (e ∙ +ℤ_comm low (pos (o * (interior + 1)))) ∙ +ℤ-neg_ℤ_cancel (pos (o * (interior + 1))) low)
    ∙ step-multiple interior n o

step-found : (interior n o : ℕ) (z : ℤ) → pad_step interior n z ≡ o → o < n → z ≡ pos (o * (interior + 1))
step-found interior n o (negsuc t) e h = absurd (let z : ⊥ = omega arith in z)
step-found interior n o (pos t) e h = ap pos (go (eqb (t % (interior + 1)) 0) refl e)
  where
    go : (b : Bool) → eqb (t % (interior + 1)) 0 ≡ b → pick b (t / (interior + 1)) n ≡ o → t ≡ o * (interior + 1)
    go true q e =
        let z : t % (interior + 1) ≡ 0 = eqb-true _ _ q in
        let d : t / (interior + 1) * (interior + 1) + t % (interior + 1) ≡ t = div-add-mod' t (interior + 1) in
        let m : t / (interior + 1) * (interior + 1) ≡ o * (interior + 1) = ap (λ (k : ℕ). k * (interior + 1)) e in
        omega arith
    go false q e = absurd (let z : ⊥ = omega arith in z)

pub found-pad : (low : ℤ) (interior n x o : ℕ) → pad_coord low interior n x ≡ o → o < n → pos x ≡ low +ℤ pos o *ℤ (pos interior +ℤ pos 1)
found-pad low interior n x o e h =
    sym (-ℤ-+ℤ_cancel (pos x) low)
    ∙ ap (λ (z : ℤ). z +ℤ low) (step-found interior n o (pos x -ℤ low) e h)
    ∙ +ℤ_comm (pos (o * (interior + 1))) low

-- ---- 000: "result[result_index] is operand[operand_index] if result_index = edge_padding_low + operand_index * (interior_padding + 1),
-- padding_value otherwise"

abbrev pub PadIndex : List ℤ → List ℕ → List ℕ → List ℕ → Type 0
PadIndex low interior i j = (d : ℕ) → d < length j → pos (at i d) ≡ get_or low d (pos 0) +ℤ pos (at j d) *ℤ (pos (at interior d) +ℤ pos 1)

module _ (low : List ℤ) (interior from to x : List ℕ) (z : ℕ) (i : List ℕ) (w : ℕ) (o : IndexOf to i) where
  pub pad-operand : (j : List ℕ) → IndexOf from j → PadIndex low interior i j → element_at (padded low interior from to x z) to i w ≡ element_at x from j z
  pad-operand j p e =
      gathered-at (pad_index low interior from) from to x z i w o
      ∙ ap (λ (k : List ℕ). element_at x from k z)
      (index_is (length from) (pad_index low interior from (at i)) j p.rank (λ d h. pad-found (get_or low d (pos 0)) (at interior d) (at from d) (at i d) (at j d) (e d (omega (arith, p.rank)))))

  pub pad-otherwise : ((j : List ℕ) → IndexOf from j → PadIndex low interior i j → ⊥) → element_at (padded low interior from to x z) to i w ≡ z
  pad-otherwise none =
      gathered-at (pad_index low interior from) from to x z i w o
      ∙ element-default x from (tab (length from) (pad_index low interior from (at i))) z
      (λ within.
      let below : (d : ℕ) → d < length from → pad_index low interior from (at i) d < at from d = λ d h. rw (get_or-tab (length from) (pad_index low interior from (at i)) d 0 h) at (within d h) in
      let p = index-of-tab from (pad_index low interior from (at i)) below in
      none (tab (length from) (pad_index low interior from (at i))) p
      (λ d h.
      let l : d < length from = omega (arith, p.rank) in
      rw (get_or-tab (length from) (pad_index low interior from (at i)) d 0 l) (found-pad (get_or low d (pos 0)) (at interior d) (at from d) (at i d) (pad_index low interior from (at i) d) refl (below d l))))
