-- Laws of same and name_place: turns of the loop that searches, and what it finds.
-- Assumes nothing.
use mathlib.Core.Path.{◌≡◌, refl, ap, ap₂}
use mathlib.Core.Bool.{Bool, true, false, ◌&&◌, false≢true}
use mathlib.Core.List.{List, [], ◌∷◌}
use Prim.Native.Nat.{ℕ, suc, ◌+◌, ◌≤◌, ◌<◌}
use native.Mathlib.Nat.{not-suc-le-zero, le_of_suc-le-suc}
use native.Mathlib.Numerals.{add-one}
use lib.Dec.{eqb}
use lib.ListN.{length, get_or, drop, drop_of_length-le}
use lib.Pointwise.{pointwise}
use lib.Seq.{drop-cons}
use borrow.Author.Tests.{eqb-true}
use Rattle.lists.specs.Lists.{pick, first_where}
use Rattle.optable.specs.Find.{same, name_place}

-- the equality of slices
pub pointwise-same : (w p : List ℕ) → pointwise eqb w p ≡ same w p
unfolding same
pointwise-same [] [] = refl
pointwise-same [] (y ∷ p) = refl
pointwise-same (x ∷ w) [] = refl
pointwise-same (x ∷ w) (y ∷ p) = ap (λ b. eqb x y && b) (pointwise-same w p)

and_left : (a b : Bool) → a && b ≡ true → a ≡ true
and_left true b e = refl
and_left false b e = e

and_right : (a b : Bool) → a && b ≡ true → b ≡ true
and_right true b e = e
and_right false b e = absurd (false≢true e)

pub same-equal : (w p : List ℕ) → same w p ≡ true → w ≡ p
unfolding same
same-equal [] [] e = refl
same-equal [] (y ∷ p) e = absurd (false≢true e)
same-equal (x ∷ w) [] e = absurd (false≢true e)
same-equal (x ∷ w) (y ∷ p) e = ap₂ ◌∷◌ (eqb-true x y (and_left (eqb x y) (same w p) e)) (same-equal w p (and_right (eqb x y) (same w p) e))

-- a turn of the search, and its end
pub place-step : (ns : List (List ℕ)) (w : List ℕ) (k : ℕ) → k < length ns →
    name_place (drop k ns) w ≡ pick (same (get_or ns k []) w) 0 (suc (name_place (drop (k + 1) ns) w))
unfolding name_place first_where
place-step ns w k h = rw (add-one, drop-cons ns k [] h)

pub place_end : (ns : List (List ℕ)) (w : List ℕ) (k : ℕ) → length ns ≤ k → name_place (drop k ns) w ≡ 0
unfolding name_place first_where
place_end ns w k h = rw (drop_of_length-le ns h)

-- a name that is found is the one that stands at its place
pub place_is : (ns : List (List ℕ)) (w : List ℕ) → name_place ns w < length ns → get_or ns (name_place ns w) [] ≡ w
unfolding name_place first_where
place_is [] w h = absurd (not-suc-le-zero h)
place_is (n ∷ ns) w h = by-test (same n w) refl h (place_is ns w)
  where
    by-test : (b : Bool) → same n w ≡ b → pick b 0 (suc (name_place ns w)) < suc (length ns) → (name_place ns w < length ns → get_or ns (name_place ns w) [] ≡ w) →
        get_or (n ∷ ns) (pick b 0 (suc (name_place ns w))) [] ≡ w
    by-test true e h rest = same-equal n w e
    by-test false e h rest = rest (le_of_suc-le-suc h)
