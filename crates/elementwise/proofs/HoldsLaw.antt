-- Each result holds values of its type.
-- Assumes nothing.
use mathlib.Core.Path.{◌≡◌, subst}
use mathlib.Core.Bool.{Bool, true, false}
use Prim.Native.Nat.{ℕ, ◌<◌}
use native.Mathlib.Omega.{arith}
use lib.Dec.{ltb}
use Rattle.lists.specs.Lists.{pick, tab, first_where}
use Rattle.lists.proofs.TabLaw.{length-tab}
use Rattle.lists.proofs.AllLaw.{all-tab}
use Rattle.run.specs.Run.{gives, stops}
use Rattle.element.specs.Types.{SlotHolds}
use Rattle.element.specs.declared.ElementType.{ElementType}
use Rattle.element.specs.declared.ElementType.TheVariants.{I1}
use Rattle.division.specs.declared.Division.{Division}
use Rattle.division.proofs.Dispatch.{division-closed}
use Rattle.scalar.specs.declared.Unary.{Unary}
use Rattle.scalar.specs.declared.Binary.{Binary}
use Rattle.scalar.specs.declared.Direction.{Direction}
use Rattle.scalar.proofs.Closed.{unary-closed, binary-closed, compare-closed, clamp-closed, select-closed, convert-closed}
use Rattle.elementwise.specs.Elementwise.{Tensor, Holds, spread, spread_size, unary_at, binary_at, compare_at, convert_at, select_at, clamp_at, is_zero, division_at, divided}
use Rattle.elementwise.proofs.DivideLaw.{value-at}

pub tab-holds : (t : ElementType) (n : ℕ) (f : ℕ → ℕ) → ((k : ℕ) → k < n → SlotHolds t (f k)) → Holds t n (tab n f)
tab-holds t n f h = record { sized = length-tab n f; ranged = all-tab (SlotHolds t) n f h }

module _ (t : ElementType) (n : ℕ) where
  pub unary-holds : (op : Unary) {x : Tensor} → Holds t n x → Holds t n (tab n (unary_at op t x))
  unary-holds op h = tab-holds t n _ (λ k q. unary-closed op t _ (value-at h k q))

  pub binary-holds : (op : Binary) {x y : Tensor} → Holds t n x → Holds t n y → Holds t n (tab n (binary_at op t x y))
  binary-holds op h g = tab-holds t n _ (λ k q. binary-closed op t _ _ (value-at h k q) (value-at g k q))

  pub compare-holds : (d : Direction) (x y : Tensor) → Holds I1 n (tab n (compare_at d t x y))
  compare-holds d x y = tab-holds I1 n _ (λ k q. compare-closed d t _ _)

  pub convert-holds : (from : ElementType) (x : Tensor) → Holds t n (tab n (convert_at from t x))
  convert-holds from x = tab-holds t n _ (λ k q. convert-closed from t _)

  pub select-holds : (single : Bool) (pred : Tensor) {x y : Tensor} → Holds t n x → Holds t n y → Holds t n (tab n (select_at single pred x y))
  select-holds single pred h g = tab-holds t n _ (λ k q. select-closed t _ _ _ (value-at h k q) (value-at g k q))

  spread-value : (single : Bool) {x : Tensor} → Holds t (spread_size single n) x → (k : ℕ) → k < n → SlotHolds t (spread single x k)
  spread-value true h k q = value-at h 0 (omega arith)
  spread-value false h k q = value-at h k q

  pub clamp-holds : (one other : Bool) {min x max : Tensor} → Holds t (spread_size one n) min → Holds t n x → Holds t (spread_size other n) max
      → Holds t n (tab n (clamp_at t one other min x max))
  clamp-holds one other a h b = tab-holds t n _ (λ k q. clamp-closed t _ _ _ (spread-value one a k q) (value-at h k q) (spread-value other b k q))

  pub divided-holds : (op : Division) (x y v : Tensor) → divided op t n x y ≡ gives v → Holds t n v
  divided-holds op x y v = go (ltb (first_where is_zero y) n)
    where
      go : (b : Bool) → pick b (stops (first_where is_zero y)) (gives (tab n (division_at op t x y))) ≡ gives v → Holds t n v
      go true e = absurd (let z : ◌≡◌ {A = ℕ} 0 1 = cc in omega arith)
      go false e =
          let z : tab n (division_at op t x y) ≡ v = cc in
          subst (Holds t n) z (tab-holds t n _ (λ k q. division-closed op t _ _))
