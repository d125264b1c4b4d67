-- Shapes and attribute lists that were read, as the lists of their numbers.
-- Assumes nothing.
use mathlib.Core.Path.{◌≡◌, refl, sym, ap, ◌∙◌, subst}
use mathlib.Core.List.{List, [], ◌∷◌}
use mathlib.Core.Logic.{◌⊎◌, inl, inr}
use Prim.Native.Nat.{ℕ, suc, suc-le-suc, ◌^◌, ◌<◌}
use native.Mathlib.Omega.{arith}
use lib.ListN.{length, take}
use lib.Dec.{eqb}
use lib.Seq.{length-take-le, ext_get_or, get_or-take}
use borrow.Author.Tests.{ne_eqb}
use Rattle.lists.specs.Lists.{All}
use Rattle.shape.specs.Index.{at, size}
use Rattle.shape.specs.Dims.{dims_of}
use Rattle.shape.specs.declared.Shape.{Shape}
use Rattle.dimrules.specs.Dims.{list_of, num}
use Rattle.dimrules.specs.declared.Numbers.{Numbers}
use Rattle.elementwise.specs.Elementwise.{spread_size}
use Rattle.apply.specs.Apply.{AreNatural}
use Rattle.rules.specs.Facts.{AlikeShapes}
use Rattle.facts.specs.Facts.{ShapeRead, ListRead}

pub rank_is : (s : Shape) → ShapeRead s → length (dims_of s) ≡ s.rank
rank_is s h = length-take-le s.rank s.dims (let e = h.six in let b = h.sized.rank in omega arith)

pub count-is : (a : Numbers) → ListRead a → length (list_of a) ≡ a.count
count-is a h = length-take-le a.count a.list (let e = h.six in let b = h.few in omega arith)

-- two shapes with one meaning have the same dimensions
pub alike-dims : (x y : Shape) → ShapeRead x → ShapeRead y → AlikeShapes x y → dims_of x ≡ dims_of y
alike-dims x y p q h =
    ext_get_or 0 (dims_of x) (dims_of y) (rank_is x p ∙ h.rank ∙ sym (rank_is y q)) (λ d l. h.dims d (rw (rank_is x p) at l))

pub alike_size : (x y : Shape) → ShapeRead x → ShapeRead y → AlikeShapes x y → size (dims_of x) ≡ size (dims_of y)
alike_size x y p q h = ap size (alike-dims x y p q h)

-- a place below the number of dimensions is below the rank
pub below-rank : (s : Shape) → ShapeRead s → (d : ℕ) → d < length (dims_of s) → d < s.rank
below-rank s h d l = subst (λ (n : ℕ). d < n) (rank_is s h) l

-- where a list has n numbers, they are the first n of its array
pub first_of : (P : List ℕ → Type 0) (a : Numbers) {n : ℕ} → a.count ≡ n → P (list_of a) → P (take n a.list)
first_of P a {n} e p = subst (λ (k : ℕ). P (take k a.list)) e p

-- the numbers of a list are not negative
pub natural-list : (a : Numbers) → ListRead a → ((d : ℕ) → d < a.count → num a d < 2 ^ 63) → AreNatural a.count a.list
natural-list a h f = all-at (list_of a) (λ d l. f d (subst (λ (n : ℕ). d < n) (count-is a h) l))
  where
    all-at : (l : List ℕ) → ((d : ℕ) → d < length l → at l d < 2 ^ 63) → All (λ w. w < 2 ^ 63) l
    all-at [] g = tt
    all-at (w ∷ l) g = (g 0 (omega arith), all-at l (λ d q. g (suc d) (suc-le-suc q)))

-- numbers below a rank
pub natural-below : (a : Numbers) → ListRead a → (s : Shape) → ShapeRead s → ((d : ℕ) → d < a.count → num a d < s.rank) → AreNatural a.count a.list
natural-below a h s p f = natural-list a h (λ d l. omega (arith, f d l, p.sized.rank))

-- a number alone is the first of its array
pub lone : (a : Numbers) → a.count ≡ 1 → num a 0 ≡ at a.list 0
lone a e = get_or-take a.count a.list 0 0 (omega arith)

-- the length of an operand of rank 0, or of n elements
pub spread-size : (l : List ℕ) (n : ℕ) → (length l ≡ 0) ⊎ (size l ≡ n) → size l ≡ spread_size (eqb (length l) 0) n
spread-size [] n e = refl
spread-size (d ∷ l) n (inl e) = absurd (omega arith)
spread-size (d ∷ l) n (inr e) = rw (ne_eqb (suc (length l)) 0 (λ q. omega arith)) e
