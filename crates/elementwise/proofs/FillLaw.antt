-- Loops that fill a lent stretch from the front: n elements are done, the rest is as it was.
-- Assumes nothing.
use mathlib.Core.Path.{◌≡◌, refl, ap, ◌∙◌}
use mathlib.Core.List.{List, ◌++◌}
use Prim.Native.Nat.{ℕ, ◌+◌, ◌≤◌, ◌<◌}
use native.Mathlib.Omega.{arith}
use lib.ListN.{length, set, drop, get_or, get_or-append}
use mathlib.Core.Bool.{Bool, true, false}
use Rattle.lists.specs.Lists.{tab, pick}
use Rattle.elementwise.specs.Elementwise.{spread_size}
use Rattle.lists.proofs.TabLaw.{length-tab, get_or-tab, fill_step, length-fill, fill-whole}

-- of the list l, which was l₀, the first k elements are f's
pub record Done (f : ℕ → ℕ) (l₀ : List ℕ) (k : ℕ) (l : List ℕ) : Type 0 where
  pub within : k ≤ length l₀
  pub size : length l ≡ length l₀
  pub filled : l ≡ tab k f ++ drop k l₀

module _ {f : ℕ → ℕ} {l₀ : List ℕ} where
  pub done_none : Done f l₀ 0 l₀
  done_none = record { within = omega arith; size = refl; filled = refl }

  pub done_below : {k : ℕ} {l : List ℕ} (v : ℕ) → k < length l₀ → v ≡ f k → Done f l₀ k l → Done f l₀ (k + 1) (set l k v)
  done_below {k} {l} v h e d =
      let q : set l k v ≡ tab (k + 1) f ++ drop (k + 1) l₀ =
      ap (λ (x : List ℕ). set x k v) d.filled ∙ fill_step k f l₀ v h e in
      record {
        within = omega (arith, d.size);
        size = ap (λ (x : List ℕ). length x) q ∙ length-fill (k + 1) f l₀ (omega (arith, d.size));
        filled = q;
      }

  pub done_next : {k : ℕ} {l : List ℕ} (v : ℕ) → k < length l → v ≡ f k → Done f l₀ k l → Done f l₀ (k + 1) (set l k v)
  done_next v h e d = done_below v (omega (arith, d.size)) e d

  pub done_all : {k : ℕ} {l : List ℕ} → length l ≤ k → Done f l₀ k l → l ≡ tab (length l₀) f
  done_all {k} {l} h d =
      let q : k ≡ length l₀ = omega (arith, d.size, d.within) in
      d.filled ∙ ap (λ (n : ℕ). tab n f ++ drop n l₀) q ∙ fill-whole (length l₀) f l₀ (omega arith)

  pub done_at : {k : ℕ} {l : List ℕ} (i : ℕ) → i < k → Done f l₀ k l → get_or l i 0 ≡ f i
  done_at {k} {l} i h d =
      ap (λ (x : List ℕ). get_or x i 0) d.filled ∙ get_or-append (tab k f) (drop k l₀) 0 i (omega (arith, length-tab k f)) ∙ get_or-tab k f i 0 h

-- an operand of rank 0 or of n elements has the place that element k below n is read at
pub spread-within : (single : Bool) (n k : ℕ) (x : List ℕ) → length x ≡ spread_size single n → k < n → pick single 0 k < length x
spread-within true n k x e h = omega arith
spread-within false n k x e h = omega arith
