-- Tests joined by "and", and lists of a few items.
-- Assumes nothing.
use mathlib.Core.Path.{◌≡◌, refl, sym, subst}
use mathlib.Core.List.{List, [], ◌∷◌, ◌++◌}
use mathlib.Core.Bool.{Bool, true, false, ◌&&◌, false≢true}
use Prim.Native.Nat.{ℕ, zero, suc, ◌+◌, ◌<◌, ◌≤◌}
use native.Mathlib.Omega.{arith}
use lib.ListN.{length, get_or}
use borrow.Author.Tests.{eq-eqb}
use Rattle.dimrules.specs.declared.TensorType.{TensorType}
use Rattle.dimrules.specs.declared.DimTest.TheVariants.{Same}
use Rattle.dimrules.specs.Count.{everywhere}
use Rattle.dimrules.specs.Dims.{dim, dim_test}
use Rattle.dimrules.specs.Types.{element_code, shapes_beside, same_element, same_shape, same_type}
use Rattle.dimrules.proofs.CountLaw.{Reached, reach-none, reach-next, reach-end}

pub six : (a b c d e f : Bool) → a && b && c && d && e && f ≡ true → (a ≡ true) × (b ≡ true) × (c ≡ true) × (d ≡ true) × (e ≡ true) × (f ≡ true)
six true true true true true true q = (refl, refl, refl, refl, refl, refl)
six false b c d e f q = absurd (false≢true q)
six true false c d e f q = absurd (false≢true q)
six true true false d e f q = absurd (false≢true q)
six true true true false e f q = absurd (false≢true q)
six true true true true false f q = absurd (false≢true q)
six true true true true true false q = absurd (false≢true q)

pub eight : (a b c d e f g h : Bool) → a && b && c && d && e && f && g && h ≡ true → (a ≡ true) × (b ≡ true) × (c ≡ true) × (d ≡ true) × (e ≡ true) × (f ≡ true) × (g ≡ true) × (h ≡ true)
eight true true true true true true true true q = (refl, refl, refl, refl, refl, refl, refl, refl)
eight false b c d e f g h q = absurd (false≢true q)
eight true false c d e f g h q = absurd (false≢true q)
eight true true false d e f g h q = absurd (false≢true q)
eight true true true false e f g h q = absurd (false≢true q)
eight true true true true false f g h q = absurd (false≢true q)
eight true true true true true false g h q = absurd (false≢true q)
eight true true true true true true false h q = absurd (false≢true q)
eight true true true true true true true false q = absurd (false≢true q)

pub nine : (a b c d e f g h i : Bool) → a && b && c && d && e && f && g && h && i ≡ true → (a ≡ true) × (b ≡ true) × (c ≡ true) × (d ≡ true) × (e ≡ true) × (f ≡ true) × (g ≡ true) × (h ≡ true) × (i ≡ true)
nine true true true true true true true true true q = (refl, refl, refl, refl, refl, refl, refl, refl, refl)
nine false b c d e f g h i q = absurd (false≢true q)
nine true false c d e f g h i q = absurd (false≢true q)
nine true true false d e f g h i q = absurd (false≢true q)
nine true true true false e f g h i q = absurd (false≢true q)
nine true true true true false f g h i q = absurd (false≢true q)
nine true true true true true false g h i q = absurd (false≢true q)
nine true true true true true true false h i q = absurd (false≢true q)
nine true true true true true true true false i q = absurd (false≢true q)
nine true true true true true true true true false q = absurd (false≢true q)

-- two tests that hold of the same
pub same_tests : (a b : Bool) → (a ≡ true → a ≡ b) → (b ≡ true → a ≡ b) → a ≡ b
same_tests true b f g = f refl
same_tests false true f g = g refl
same_tests false false f g = refl

-- ---- lists

pub get_left : (l m : List ℕ) (j : ℕ) → j < length l → get_or (l ++ m) j 0 ≡ get_or l j 0
get_left [] m j h = absurd (omega arith)
get_left (x ∷ l) m zero h = refl
get_left (x ∷ l) m (suc j) h = get_left l m j (omega arith)

pub get-right : (l m : List ℕ) (n : ℕ) → length l ≡ n → get_or (l ++ m) n 0 ≡ get_or m 0 0
get-right [] m zero e = refl
get-right [] m (suc n) e = absurd (omega arith)
get-right (x ∷ l) m zero e = absurd (omega arith)
get-right (x ∷ l) m (suc n) e = get-right l m n (omega arith)

pub one-item : (l : List ℕ) → length l ≡ 1 → l ≡ get_or l 0 0 ∷ []
one-item [] e = absurd (omega arith)
one-item (x ∷ []) e = refl
one-item (x ∷ y ∷ l) e = absurd (omega arith)

pub two_items : (l : List ℕ) → length l ≡ 2 → l ≡ get_or l 0 0 ∷ get_or l 1 0 ∷ []
two_items [] e = absurd (omega arith)
two_items (x ∷ []) e = absurd (omega arith)
two_items (x ∷ y ∷ []) e = refl
two_items (x ∷ y ∷ z ∷ l) e = absurd (omega arith)

-- ---- a type is the same as itself

reached : (n : ℕ) (t : ℕ → Bool) → ((d : ℕ) → t d ≡ true) → (d : ℕ) → d ≤ n → Reached n t d
reached n t f zero h = reach-none n t
reached n t f (suc d) h =
    let e : suc d ≡ d + 1 = omega arith in
    subst (Reached n t) (sym e) (reach-next n t d (reached n t f d (omega arith)) (omega arith) (f d))

holds-everywhere : (n : ℕ) (t : ℕ → Bool) → ((d : ℕ) → t d ≡ true) → everywhere n t ≡ true
unfolding everywhere
holds-everywhere n t f = eq-eqb _ n (sym (reach-end n t n (reached n t f n (omega arith)) (omega arith) (omega arith)))

pub type-itself : (x : TensorType) → same_type x x ≡ true
unfolding same_type same_element same_shape dim_test
type-itself x =
    rw (eq-eqb (element_code x.element) (element_code x.element) refl, eq-eqb x.shape.rank x.shape.rank refl)
    (holds-everywhere x.shape.rank (dim_test Same (shapes_beside x x 0)) (λ d. eq-eqb (dim x.shape d) (dim x.shape d) refl))
