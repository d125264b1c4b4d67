-- Reading a list's number at a place, and the size of a dimension.
-- Assumes nothing.
use mathlib.Core.Path.{◌≡◌, refl, sym}
use mathlib.Core.List.{List, [], ◌∷◌}
use Prim.Native.Nat.{ℕ, zero, suc, ◌≤◌, ◌<◌}
use native.Mathlib.Nat.{not-suc-le-zero, le_of_suc-le-suc}
use native.Mathlib.Decide.{dec_lt}
use native.Mathlib.Omega.{arith}
use lib.ListN.{length, take, length-take}
use lib.Seq.{get_or-take}
use Rattle.shape.specs.Index.{at}
use Rattle.shape.specs.Dims.{dims_of, Sized}
use Rattle.shape.specs.declared.Shape.{Shape}
use Rattle.shape.proofs.IndexLaw.{dim-le-volume}
use Rattle.dimrules.specs.Dims.{dim}

at-past : (l : List ℕ) (d : ℕ) → length l ≤ d → at l d ≡ 0
at-past [] d h = refl
at-past (x ∷ l) zero h = absurd (not-suc-le-zero h)
at-past (x ∷ l) (suc d) h = at-past l d (le_of_suc-le-suc h)

pub at-behind : (l : List ℕ) (n d : ℕ) → n ≤ d → 0 ≡ at (take n l) d
at-behind l n d h = sym (at-past (take n l) d (rw (length-take n l) (omega arith)))

pub at-outside : (l : List ℕ) (n d : ℕ) → length l ≤ d → 0 ≡ at (take n l) d
at-outside l n d h = sym (at-past (take n l) d (rw (length-take n l) (omega arith)))

pub at-inside : (l : List ℕ) (n d : ℕ) → d < n → at l d ≡ at (take n l) d
at-inside l n d h = sym (get_or-take n l d 0 h)

-- no dimension is above 4,096 (01, "Sizes", 2)
pub dim-small : (s : Shape) → Sized s → (d : ℕ) → dim s d ≤ 4096
dim-small s h d = by_place (dec_lt d (length (dims_of s)))
  where
    by_place : Dec (d < length (dims_of s)) → dim s d ≤ 4096
    by_place (yes l) = omega (arith, dim-le-volume (dims_of s) d l, h.volume)
    by_place (no l) = let e : dim s d ≡ 0 = at-past (dims_of s) d (omega arith) in omega arith
