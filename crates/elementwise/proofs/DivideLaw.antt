-- The walk of a division: where it finds a zero divisor, and what it has left behind at its end.
-- Assumes nothing.
use mathlib.Core.Path.{◌≡◌, refl, sym, ap, ◌∙◌}
use mathlib.Core.Bool.{Bool, true, false}
use mathlib.Core.List.{List}
use Prim.Native.Nat.{ℕ, ◌+◌, ◌≤◌, ◌<◌}
use native.Mathlib.Omega.{arith}
use lib.Dec.{eqb}
use lib.ListN.{length, get_or}
use borrow.Author.Tests.{lt-ltb, le-ltb, eqb-true}
use Rattle.std.specs.Prelude.{Ok, Err}
use Rattle.lists.specs.Lists.{pick, first_where}
use Rattle.lists.proofs.SearchLaw.{Passed, passed_here, passed-end}
use Rattle.lists.proofs.AllLaw.{all-get}
use Rattle.element.specs.Types.{SlotHolds}
use Rattle.element.specs.declared.ElementType.{ElementType}
use Rattle.division.specs.declared.Division.{Division}
use Rattle.elementwise.specs.Elementwise.{Tensor, Holds, is_zero, operand_at, zero_divisor, division_at, Divides}
use Rattle.elementwise.proofs.FillLaw.{Done, done_all}

pub value-at : {t : ElementType} {n : ℕ} {x : Tensor} → Holds t n x → (k : ℕ) → k < n → SlotHolds t (get_or x k 0)
value-at {t} {n} {x} h k q = all-get (SlotHolds t) x 0 h.ranged k (omega (arith, h.sized))

-- whether the divisor of element k is zero, by the test of operand j's element v
module _ (x y : Tensor) (k j v : ℕ) (read : v ≡ operand_at x y k j) where
  pub zero-here : {b : Bool} → b ≡ true → b ≡ zero_divisor j v → is_zero (get_or y k 0) ≡ true
  zero-here {b} p q = go (eqb j 0) (sym p ∙ q) read
    where
      go : (c : Bool) → true ≡ pick c false (is_zero v) → v ≡ pick c (get_or x k 0) (get_or y k 0) → is_zero (get_or y k 0) ≡ true
      go true e f = let z : true ≡ false = e in cc
      go false e f = ap is_zero (sym f) ∙ sym e

  pub none_here : {b : Bool} → b ≡ false → b ≡ zero_divisor j v → 1 < j + 1 → is_zero (get_or y k 0) ≡ false
  none_here {b} p q h = go (eqb j 0) refl (sym p ∙ q) read
    where
      go : (c : Bool) → eqb j 0 ≡ c → false ≡ pick c false (is_zero v) → v ≡ pick c (get_or x k 0) (get_or y k 0) → is_zero (get_or y k 0) ≡ false
      go true n e f = let z : j ≡ 0 = eqb-true j 0 n in absurd (omega arith)
      go false n e f = ap is_zero (sym f) ∙ sym e

-- the walk's two ends
module _ {number : ℕ} {op : Division} {t : ElementType} {x y : Tensor} {old new : List ℕ} (same : length y ≡ length old) where
  pub zero-at : (k : ℕ) → k < length old → is_zero (get_or y k 0) ≡ true → Passed is_zero y k → Done (division_at op t x y) old k new → Divides number op t x y (Err (record { op = number; element = k })) old new
  zero-at k h z p d =
      let e : k ≡ first_where is_zero y = passed_here is_zero y k (omega arith) z p in
      record { answers = rw (← e, lt-ltb k (length old) h); leaves = rw (← e, lt-ltb k (length old) h) d.filled }

  pub zero-nowhere : {k : ℕ} → length old ≤ k → Passed is_zero y k → Done (division_at op t x y) old k new → Divides number op t x y (Ok tt) old new
  zero-nowhere {k} h p d =
      let e : k ≡ first_where is_zero y = passed-end is_zero y k (omega arith) p in
      let past = le-ltb (first_where is_zero y) (length old) (omega arith) in
      record { answers = rw past; leaves = rw past (done_all (omega (arith, d.size)) d) }
