-- What single lines of the lists say, place by place.
-- Assumes nothing.
use mathlib.Core.Path.{◌≡◌, refl, sym, ◌∙◌, subst}
use mathlib.Core.List.{List}
use mathlib.Core.Bool.{true}
use Prim.Native.Nat.{ℕ, ◌-◌, ◌<◌}
use lib.ListN.{length}
use lib.IntN.{ℤ, pos, ◌+ℤ◌, ◌-ℤ◌, ◌*ℤ◌}
use lib.Signed.{◌≤ℤ◌}
use Rattle.dimrules.specs.Dims.{dim}
use Rattle.dimrules.specs.declared.TensorType.{TensorType}
use Rattle.checks.specs.Check.{Term, is, at_most, Check, check_holds}
use Rattle.checks.specs.Formula.{shape, rank, ◌!◌, ◌‼◌, ◌⊕◌, ◌⊖◌, ◌⊗◌, less_one, ceil, ceil_z, int, nat, entries, ◌and◌, ◌[=]◌, ◌[≤]◌}
use Rattle.checks.proofs.MeaningLaw.{and-true-both, both-and-true}
use Rattle.checks.proofs.ReadingLaw.{at-inside, shape-at, nats-true, true-nats, int-list-true, true-int-list, lists-true, true-lists}
use Rattle.checks.proofs.TypeLaw.{◌at◌, dim_of, shape-long, shape_is}

-- three lists as long as the rank
pub three-true : (a b c n : ℕ) → check_holds ((nat a [=] nat b) and (nat b [=] nat c) and (nat c [=] nat n)) ≡ true → (a ≡ b) × (b ≡ c) × (c ≡ n)
three-true a b c n e =
    let h = and-true-both ((nat a [=] nat b) and (nat b [=] nat c)) (nat c [=] nat n) e in
    let g = and-true-both (nat a [=] nat b) (nat b [=] nat c) h.0 in
    (nats-true a b g.0, nats-true b c g.1, nats-true c n h.1)

pub true-three : (a b c n : ℕ) → (a ≡ b) × (b ≡ c) × (c ≡ n) → check_holds ((nat a [=] nat b) and (nat b [=] nat c) and (nat c [=] nat n)) ≡ true
true-three a b c n h =
    both-and-true ((nat a [=] nat b) and (nat b [=] nat c)) (nat c [=] nat n)
    (both-and-true (nat a [=] nat b) (nat b [=] nat c) (true-nats a b h.0) (true-nats b c h.1)) (true-nats c n h.2)

-- 0 <= start <= limit <= shape
module _ (x : TensorType) (start limit : List ℤ) where
  abbrev pub ordered : Check
  ordered = (int (pos 0) [≤] entries start) and (entries start [≤] entries limit) and (entries limit [≤] entries (shape x))

  abbrev pub Ordered : Type 0
  Ordered = (d : ℕ) → d < rank x → (pos 0 ≤ℤ start at d) × (start at d ≤ℤ limit at d) × (limit at d ≤ℤ dim_of x d)

  pub ordered-true : length start ≡ rank x → length limit ≡ rank x → check_holds ordered ≡ true → Ordered
  ordered-true s l e d h =
      let a = and-true-both ((int (pos 0) [≤] entries start) and (entries start [≤] entries limit)) (entries limit [≤] entries (shape x)) e in
      let b = and-true-both (int (pos 0) [≤] entries start) (entries start [≤] entries limit) a.0 in
      let k : d < length start = rw s h in
      let m : d < length limit = rw l h in (
        int-list-true at_most (pos 0) start b.0 d k,
        (lists-true at_most start limit b.1).1 d k,
        subst (λ (z : ℤ). limit at d ≤ℤ z) (shape_is x d h) ((lists-true at_most limit (shape x) a.1).1 d m),
      )

  pub true-ordered : length start ≡ rank x → length limit ≡ rank x → Ordered → check_holds ordered ≡ true
  true-ordered s l f =
      both-and-true ((int (pos 0) [≤] entries start) and (entries start [≤] entries limit)) (entries limit [≤] entries (shape x))
      (both-and-true (int (pos 0) [≤] entries start) (entries start [≤] entries limit)
      (true-int-list at_most (pos 0) start (λ d k. (f d (rw s at k)).0))
      (true-lists at_most start limit (s ∙ sym l) (λ d k. (f d (rw s at k)).1)))
      (true-lists at_most limit (shape x) (l ∙ sym (shape-long x)) (λ d k.
      let h : d < rank x = rw l at k in
      subst (λ (z : ℤ). limit at d ≤ℤ z) (sym (shape_is x d h)) (f d h).2))

-- slice's C5 at a dimension
pub ceiling-at : (x : TensorType) (start limit strides : List ℤ) → length start ≡ rank x → length limit ≡ rank x → length strides ≡ rank x → (d : ℕ) → d < rank x →
    ceil (limit ! d ⊖ start ! d) (strides ! d) ≡ ceil_z (limit at d -ℤ start at d) (strides at d)
ceiling-at x start limit strides s l t d h = rw (at-inside start d (rw s h), at-inside limit d (rw l h), at-inside strides d (rw t h)) refl

-- pad's C4 at a dimension
module _ (x : TensorType) (low high interior : List ℤ) where
  abbrev pub pad_formula : ℕ → Term
  pad_formula d = shape x ! d ⊕ low ! d ⊕ less_one (shape x ! d) ⊗ interior ! d ⊕ high ! d

  pub padded-at : length low ≡ rank x → length high ≡ rank x → length interior ≡ rank x → (d : ℕ) → d < rank x →
      pad_formula d ≡ is (dim_of x d +ℤ low at d +ℤ pos (dim x.shape d - 1) *ℤ interior at d +ℤ high at d)
  padded-at s l t d h = rw (shape-at x d h, at-inside low d (rw s h), at-inside high d (rw l h), at-inside interior d (rw t h)) refl

-- dim(x, p[d])
pub moved_at : (x : TensorType) (p : List ℤ) (d q : ℕ) → d < length p → p at d ≡ pos q → q < rank x → shape x ‼ (p ! d) ≡ is (dim_of x q)
moved_at x p d q h e k = rw (at-inside p d h, e) (shape-at x q k)
