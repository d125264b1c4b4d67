-- Laws of reading in sequence, as the code does it: each step from the answer of the step before.
-- Assumes nothing.
use mathlib.Core.Path.{◌≡◌, refl, sym, ap, ◌∙◌}
use mathlib.Core.Bool.{Bool, true, false}
use mathlib.Core.List.{List}
use Prim.Native.Nat.{ℕ, suc, ◌+◌, ◌-◌, ◌≤◌, ◌<◌}
use native.Mathlib.Nat.{sub-zero}
use native.Mathlib.Omega.{arith}
use borrow.Author.Tests.{ne_eqb}
use lib.Dec.{eqb}
use lib.ListN.{length, get_or}
use Rattle.lists.proofs.SearchLaw.{pick_second}
use Rattle.element.specs.declared.ElementType.{ElementType}
use Rattle.shape.specs.Index.{rest}
use Rattle.shape.proofs.DimensionLaw.{rest-cons, rest_all}
use Rattle.laid.specs.Laid.{Laid, laid, lay}
use Rattle.laid.proofs.LaidLaw.{lay-append}
use Rattle.dense.specs.Dense.{Read, read_then, mark_at, comma_before, one_at, items_at, dense_at}
use Rattle.dense.specs.Filled.{DenseReading, Outcome, outcome, after, reading_of}

module _ (r : Read) (f : ℕ → Read) (l : Laid) (p : DenseReading) (m : List ℕ) (e : outcome p m ≡ after r l) where
  ok_of : p.ok ≡ r.ok
  unfolding after
  ok_of = ap (λ (o : Outcome). o.ok) e

  then_ok : p.ok ≡ true → after (f p.next) (laid p.place m) ≡ after (read_then r f) l
  unfolding after read_then
  then_ok h =
      let a : r.ok ≡ true = sym ok_of ∙ h in
      let n : p.next ≡ r.next = ap (λ (o : Outcome). o.next) e in
      let s : laid p.place m ≡ lay r.elements l = ap (λ (o : Outcome). o.slots) e in
      rw (n, s, a, lay-append)

  then-stop : p.ok ≡ false → outcome p m ≡ after (read_then r f) l
  unfolding read_then
  then-stop h = e ∙ ap (λ (d : Read). after d l) (pick_second r.ok _ r r (sym ok_of ∙ h) refl)

-- marks and separators write nothing
module _ (text : List ℕ) (at place : ℕ) {p : DenseReading} (m : List ℕ) where
  mark-read : (b : ℕ) → p ≡ reading_of (mark_at b text at) place → outcome p m ≡ after (mark_at b text at) (laid place m)
  unfolding after mark_at lay
  mark-read b e = rw e

  before-read : (b : Bool) → p ≡ reading_of (comma_before b text at) place → outcome p m ≡ after (comma_before b text at) (laid place m)
  unfolding after comma_before lay
  before-read b e = rw e

-- the items of a list from item j on: a loop's turn and its end
module _ (item : ℕ → Read) (size j : ℕ) (text : List ℕ) (at : ℕ) where
  items-end : size ≤ j → items_at item (size - j) (eqb j 0) text at ≡ mark_at 93 text at
  unfolding items_at
  items-end h = let e : size - j ≡ 0 = omega arith in rw e

  items_more : j < size → items_at item (size - j) (eqb j 0) text at
      ≡ read_then (comma_before (eqb j 0) text at) (λ a. read_then (item a) (λ b. items_at item (size - (j + 1)) (eqb (j + 1) 0) text b))
  unfolding items_at
  items_more h = let e : size - j ≡ suc (size - (j + 1)) = omega arith in rw (e, ne_eqb (j + 1) 0 (λ z. omega arith))

  module _ (place : ℕ) (m : List ℕ) where
    pub close-items : {p : DenseReading} → size ≤ j → p ≡ reading_of (mark_at 93 text at) place → outcome p m ≡ after (items_at item (size - j) (eqb j 0) text at) (laid place m)
    close-items h e = rw (items-end h) (mark-read text at place m 93 e)

    module _ {s : DenseReading} (h : j < size) (e : s ≡ reading_of (comma_before (eqb j 0) text at) place) where
      pub no-separator : s.ok ≡ false → outcome s m ≡ after (items_at item (size - j) (eqb j 0) text at) (laid place m)
      no-separator n = rw (items_more h) (then-stop _ _ _ _ _ (before-read text at place m (eqb j 0) e) n)

      module _ {r : DenseReading} (m' : List ℕ) (o : s.ok ≡ true) (i : outcome r m' ≡ after (item s.next) (laid s.place m)) where
        pub no_item : r.ok ≡ false → outcome r m' ≡ after (items_at item (size - j) (eqb j 0) text at) (laid place m)
        no_item n = rw (items_more h) (then-stop _ _ _ _ _ i n ∙ then_ok _ _ _ _ _ (before-read text at place m (eqb j 0) e) o)

        pub next-item : r.ok ≡ true → after (items_at item (size - (j + 1)) (eqb (j + 1) 0) text r.next) (laid r.place m') ≡ after (items_at item (size - j) (eqb j 0) text at) (laid place m)
        next-item y = rw (items_more h) (then_ok _ _ _ _ _ i y ∙ then_ok _ _ _ _ _ (before-read text at place m (eqb j 0) e) o)

-- the last k of the dimensions
module _ (e : ElementType) (dims : List ℕ) (rank k : ℕ) (text : List ℕ) (at : ℕ) where
  pub dense-one : (l : Laid) → k ≡ 0 → after (one_at e text at) l ≡ after (dense_at e (rest dims rank (rank - k)) text at) l
  unfolding dense_at
  dense-one l h = rw (rest_all dims rank (rank - k) (omega arith))

  module _ (p : (k ≡ 0 → ⊥)) (h : k ≤ rank) (l : rank ≤ length dims) where
    dense-open : dense_at e (rest dims rank (rank - k)) text at
        ≡ read_then (mark_at 91 text at) (λ a. items_at (λ b. dense_at e (rest dims rank (rank - (k - 1))) text b) (get_or dims (rank - k) 0) true text a)
    unfolding dense_at
    dense-open =
        let q : 0 < k = omega arith in
        let n : rank - k + 1 ≡ rank - (k - 1) = omega arith in
        rw (rest-cons dims rank (rank - k) (omega arith) l, n)

    module _ {o : DenseReading} (place : ℕ) (m : List ℕ) (q : o ≡ reading_of (mark_at 91 text at) place) where
      pub no-bracket : o.ok ≡ false → outcome o m ≡ after (dense_at e (rest dims rank (rank - k)) text at) (laid place m)
      no-bracket n = rw dense-open (then-stop _ _ _ _ _ (mark-read text at place m 91 q) n)

      pub first-item : o.ok ≡ true → after (items_at (λ b. dense_at e (rest dims rank (rank - (k - 1))) text b) (get_or dims (rank - k) 0 - 0) (eqb 0 0) text o.next) (laid o.place m)
          ≡ after (dense_at e (rest dims rank (rank - k)) text at) (laid place m)
      first-item y = rw (dense-open, sub-zero) (then_ok _ _ _ _ _ (mark-read text at place m 91 q) y)
