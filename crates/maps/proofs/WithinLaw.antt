-- broadcast_in_dim, reverse and concatenate: every operand index is an index of the operand, so that the default of element_at is never read.
-- Assumes nothing.
use mathlib.Core.Path.{◌≡◌, refl, sym, ◌∙◌, subst}
use mathlib.Core.List.{List, [], ◌∷◌}
use mathlib.Core.Bool.{Bool, true, false}
use mathlib.Core.Logic.{⊎_elim}
use Prim.Native.Nat.{ℕ, suc, ◌+◌, ◌-◌, ◌<◌, suc-le-suc}
use native.Mathlib.Nat.{zero-lt-suc}
use native.Mathlib.Decide.{dec_lt, ℕ_discrete}
use native.Mathlib.Omega.{arith}
use lib.ListN.{length, get_or, set, take, length-set}
use lib.Seq.{get_or-set_same, get_or-set_other}
use lib.Dec.{ltb, eqb}
use borrow.Author.Tests.{eqb-true, eqb-false}
use Rattle.lists.specs.Lists.{pick, tab}
use Rattle.lists.proofs.AllLaw.{all-get}
use Rattle.shape.specs.Index.{at, IndexOf}
use Rattle.shape.specs.Place.{place_in}
use Rattle.maps.specs.Formulas.{broadcast_index, reverse_index}
use Rattle.maps.specs.Concatenation.{sum_along}
use Rattle.maps.specs.Holds.{BroadcastHolds, ConcatenateHolds}
use Rattle.maps.proofs.GatherLaw.{index-of-tab}

pub broadcast-index : (dimensions from to i : List ℕ) → BroadcastHolds dimensions from to → IndexOf to i → IndexOf from (tab (length from) (broadcast_index dimensions from (at i)))
broadcast-index dimensions from to i ok o = index-of-tab from (broadcast_index dimensions from (at i)) (λ d h. go d h (eqb (at from d) 1) refl)
  where
    go : (d : ℕ) → d < length from → (b : Bool) → eqb (at from d) 1 ≡ b → pick b 0 (at i (at dimensions d)) < at from d
    go d h true q = omega (arith, eqb-true (at from d) 1 q)
    go d h false q =
        ⊎_elim (λ e. absurd (eqb-false (at from d) 1 q e)) (λ e. subst (λ (n : ℕ). at i (at dimensions d) < n) (sym e) (o.within (at dimensions d) (ok.below d h))) (ok.sizes d h)

pub reverse-index : (dimensions s i : List ℕ) → IndexOf s i → IndexOf s (tab (length s) (reverse_index dimensions s (at i)))
reverse-index dimensions s i o = index-of-tab s (reverse_index dimensions s (at i)) (λ d h. go (ltb (place_in dimensions d) (length dimensions)) (o.within d h))
  where
    go : {n x : ℕ} (b : Bool) → x < n → pick b (n - x - 1) x < n
    go true h = omega arith
    go false h = h

-- ---- concatenate: the input in which a coordinate along the dimension lies, and the coordinate there

pub record Place (dimension : ℕ) (shapes : List (List ℕ)) (t : ℕ) : Type 0 where
  pub input : ℕ
  pub coordinate : ℕ
  pub is-input : input < length shapes
  pub below : coordinate < at (get_or shapes input []) dimension
  pub is : t ≡ sum_along dimension (take input shapes) + coordinate

placed : (dimension : ℕ) (shapes : List (List ℕ)) (t : ℕ) → t < sum_along dimension shapes → Place dimension shapes t
placed dimension [] t h = absurd (let z : ⊥ = omega arith in z)
placed dimension (s ∷ shapes) t h = go (dec_lt t (at s dimension)) (placed dimension shapes (t - at s dimension))
  where
    go : Dec (t < at s dimension) → (t - at s dimension < sum_along dimension shapes → Place dimension shapes (t - at s dimension)) → Place dimension (s ∷ shapes) t
    go (yes l) ih = record { input = 0; coordinate = t; is-input = zero-lt-suc (length shapes); below = l; is = omega arith }
    go (no l) ih =
        let p = ih (omega arith) in
        record { input = suc p.input; coordinate = p.coordinate; is-input = suc-le-suc p.is-input; below = p.below; is = omega (arith, p.is) }

-- every index of the result lies in one of the inputs
pub concat-place : (dimension : ℕ) (shapes : List (List ℕ)) (to i : List ℕ) → ConcatenateHolds dimension shapes to → IndexOf to i → Place dimension shapes (at i dimension)
concat-place dimension shapes to i ok o = placed dimension shapes (at i dimension) (omega (arith, o.within dimension ok.along, ok.total))

-- there the operand's index is an index of that input
pub concat-index : (dimension : ℕ) (shapes : List (List ℕ)) (to i : List ℕ) (k kd : ℕ) → ConcatenateHolds dimension shapes to → IndexOf to i
    → k < length shapes → kd < at (get_or shapes k []) dimension → IndexOf (get_or shapes k []) (set i dimension kd)
concat-index dimension shapes to i k kd ok o h b =
    record {
      rank = length-set i dimension kd ∙ o.rank ∙ sym same;
      within = λ d l. go d l (ℕ_discrete d dimension);
    }
  where
    same : length (get_or shapes k []) ≡ length to
    same = all-get (λ s. length s ≡ length to) shapes [] ok.ranks k h

    go : (d : ℕ) → d < length (get_or shapes k []) → Dec (d ≡ dimension) → at (set i dimension kd) d < at (get_or shapes k []) d
    go d l (yes q) = rw q (rw (get_or-set_same i dimension kd 0 (omega (arith, o.rank, ok.along))) b)
    go d l (no q) =
        let m : d < length to = omega (arith, same) in
        rw (get_or-set_other i dimension d kd 0 q) (omega (arith, o.within d m, all-get (λ s. (d : ℕ) → d < length to → (d ≡ dimension → ⊥) → at s d ≡ at to d) shapes [] ok.others k h d m q))
