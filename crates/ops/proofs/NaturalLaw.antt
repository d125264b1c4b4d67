-- Attribute numbers that are not negative: the number of a pattern is the pattern.
-- Assumes nothing.
use mathlib.Core.Path.{◌≡◌, refl, ap, ◌∙◌}
use mathlib.Core.List.{List, [], ◌∷◌, map}
use Prim.Native.Nat.{ℕ, ◌^◌, ◌<◌}
use borrow.Author.Tests.{lt-ltb}
use Rattle.lists.specs.Lists.{All}
use Rattle.shape.specs.Whole.{number_of}
use Rattle.ops.specs.OpAttributes.{natural, naturals}

pub natural-number : (w : ℕ) → w < 2 ^ 63 → natural (number_of w) ≡ w
natural-number w h = rw (lt-ltb w (2 ^ 63) h) refl

pub naturals-numbers : (l : List ℕ) → All (λ w. w < 2 ^ 63) l → naturals (map number_of l) ≡ l
naturals-numbers [] a = refl
naturals-numbers (w ∷ l) a = ap (λ (n : ℕ). n ∷ naturals (map number_of l)) (natural-number w a.0) ∙ ap {B = List ℕ} (λ r. w ∷ r) (naturals-numbers l a.1)
