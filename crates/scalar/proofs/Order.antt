-- The greater and the lesser of two values: associative, with the lowest and the highest value as identities.
-- Assumes nothing.
use Rattle.std.proofs.Common.{◌≡◌, ℕ, Bool, true, false, T, ℤ, pos, negsuc, ◌≤ℤ◌, ◌<ℤ◌, sym, refl, ap, ◌∙◌, le_of_lt, le_antisymm, le→leb, ltb→lt, leb→le}
use lib.Signed.{lt_z, le_z, lt_z_yes, lt_z_no, <ℤ-≤ℤ_trans, <ℤ_irrefl}
use Rattle.lists.specs.Lists.{pick}
use Rattle.element.specs.Types.{value_of, slot_of, SlotHolds, lowest_of, highest_of}
use Rattle.element.specs.declared.ElementType.{ElementType}
use Rattle.element.proofs.Slots.{slot-value}
use Rattle.element.proofs.Range.{value-lt}
use Rattle.element.proofs.Ends.{ends, between}
use Rattle.scalar.specs.Ops.{lt_of, maximum_of, minimum_of}
use Rattle.scalar.specs.Body.{Reducible}

-- the order of the integers, as its test computes

lt-le : (a b : ℤ) → T (lt_z a b) → T (le_z a b)
lt-le (pos a) (pos b) h = le→leb a b (le_of_lt (ltb→lt a b h))
lt-le (pos a) (negsuc b) h = h
lt-le (negsuc a) (pos b) h = h
lt-le (negsuc a) (negsuc b) h = le→leb b a (le_of_lt (ltb→lt b a h))

antisym : (a b : ℤ) → T (le_z a b) → T (le_z b a) → a ≡ b
antisym (pos a) (pos b) h k = ap pos (le_antisymm (leb→le a b h) (leb→le b a k))
antisym (pos a) (negsuc b) h k = absurd h
antisym (negsuc a) (pos b) h k = absurd k
antisym (negsuc a) (negsuc b) h k = ap negsuc (le_antisymm (leb→le a b k) (leb→le b a h))

abbrev <-le : {a b : ℤ} → a <ℤ b → a ≤ℤ b
<-le {a} {b} h = record { le = lt-le a b h.lt }

-- the greater by a test
abbrev greater : (ℕ → ℕ → Bool) → ℕ → ℕ → ℕ
greater lt a b = pick (lt a b) b a

-- where e is the least of the values that satisfy ok
module _ (lt : ℕ → ℕ → Bool)
    (trans : (a b c : ℕ) → lt a b ≡ true → lt b c ≡ true → lt a c ≡ true)
    (cotrans : (a b c : ℕ) → lt a b ≡ false → lt b c ≡ false → lt a c ≡ false)
    (ok : ℕ → Type 0) (e : ℕ) (least : ok e) (none : (a : ℕ) → ok a → lt a e ≡ false) (same : (a : ℕ) → ok a → lt e a ≡ false → a ≡ e) where
  greater-assoc : (a b c : ℕ) → greater lt (greater lt a b) c ≡ greater lt a (greater lt b c)
  greater-assoc a b c = go (lt a b) (lt b c) refl refl
    where
      go : (p q : Bool) → lt a b ≡ p → lt b c ≡ q → greater lt (greater lt a b) c ≡ greater lt a (greater lt b c)
      go true true e f = simp (e, f, trans a b c e f)
      go true false e f = simp (e, f)
      go false true e f = simp (e, f)
      go false false e f = simp (e, f, cotrans a b c e f)

  greater-ok : (a b : ℕ) → ok a → ok b → ok (greater lt a b)
  greater-ok a b x y = go (lt a b)
    where
      go : (p : Bool) → ok (pick p b a)
      go true = y
      go false = x

  greater-left : (a : ℕ) → ok a → greater lt e a ≡ a
  greater-left a x = go (lt e a) refl
    where
      go : (p : Bool) → lt e a ≡ p → greater lt e a ≡ a
      go true f = simp f
      go false f = simp f (sym (same a x f))

  greater-reducible : Reducible ok (greater lt) e
  greater-reducible = record {
    neutral = least;
    closed = greater-ok;
    assoc = λ a b c x y z. greater-assoc a b c;
    left = greater-left;
    right = λ a x. simp (none a x);
  }

module _ (lt : ℕ → ℕ → Bool) where
  greater-comm : (a b : ℕ) → (lt a b ≡ true → lt b a ≡ true → ⊥) → (lt a b ≡ false → lt b a ≡ false → a ≡ b) → greater lt a b ≡ greater lt b a
  greater-comm a b one same = go (lt a b) (lt b a) refl refl
    where
      go : (p q : Bool) → lt a b ≡ p → lt b a ≡ q → pick p b a ≡ pick q a b
      go true true e f = absurd (one e f)
      go true false e f = refl
      go false true e f = refl
      go false false e f = same e f

  greater-self : (a : ℕ) → greater lt a a ≡ a
  greater-self a = go (lt a a)
    where
      go : (p : Bool) → pick p a a ≡ a
      go true = refl
      go false = refl

-- by value

module _ (t : ElementType) where
  below : (a b : ℕ) → lt_of t a b ≡ true → value_of t a <ℤ value_of t b
  unfolding lt_of
  below a b e = lt_z_yes (rw e tt)

  above : (a b : ℕ) → lt_of t a b ≡ false → value_of t b ≤ℤ value_of t a
  unfolding lt_of
  above a b e = lt_z_no (rw e tt)

  lt_trans : (a b c : ℕ) → lt_of t a b ≡ true → lt_of t b c ≡ true → lt_of t a c ≡ true
  lt_trans a b c e f = go (lt_of t a c) refl
    where
      go : (p : Bool) → lt_of t a c ≡ p → lt_of t a c ≡ true
      go true g = g
      go false g = absurd (<ℤ_irrefl (<ℤ-≤ℤ_trans (below a b e) (<-le (<ℤ-≤ℤ_trans (below b c f) (above a c g)))))

  lt-cotrans : (a b c : ℕ) → lt_of t a b ≡ false → lt_of t b c ≡ false → lt_of t a c ≡ false
  lt-cotrans a b c e f = go (lt_of t a c) refl
    where
      go : (p : Bool) → lt_of t a c ≡ p → lt_of t a c ≡ false
      go true g = absurd (<ℤ_irrefl (<ℤ-≤ℤ_trans (<ℤ-≤ℤ_trans (below a c g) (above b c f)) (above a b e)))
      go false g = g

  not-below : (a b : ℕ) → value_of t b ≤ℤ value_of t a → lt_of t a b ≡ false
  not-below a b h = go (lt_of t a b) refl
    where
      go : (p : Bool) → lt_of t a b ≡ p → lt_of t a b ≡ false
      go true g = absurd (<ℤ_irrefl (<ℤ-≤ℤ_trans (below a b g) h))
      go false g = g

  same-slot : (a b : ℕ) → SlotHolds t a → SlotHolds t b → value_of t a ≤ℤ value_of t b → value_of t b ≤ℤ value_of t a → a ≡ b
  same-slot a b x y h k = sym (slot-value t (value-lt t a x)) ∙ ap slot_of (antisym (value_of t a) (value_of t b) h.le k.le) ∙ slot-value t (value-lt t b y)

  -- of two values one at most is below the other, and two of which none is are one slot
  not-both : (a b : ℕ) → lt_of t a b ≡ true → lt_of t b a ≡ true → ⊥
  not-both a b e f = <ℤ_irrefl (<ℤ-≤ℤ_trans (below a b e) (<-le (below b a f)))

  if_none : (a b : ℕ) → SlotHolds t a → SlotHolds t b → lt_of t a b ≡ false → lt_of t b a ≡ false → a ≡ b
  if_none a b x y e f = same-slot a b x y (above b a f) (above a b e)

  -- no value is below the lowest or above the highest
  none_below : (a : ℕ) → SlotHolds t a → lt_of t a (lowest_of t) ≡ false
  none_below a x = not-below a (lowest_of t) (between t a x).0

  none_above : (a : ℕ) → SlotHolds t a → lt_of t (highest_of t) a ≡ false
  none_above a x = not-below (highest_of t) a (between t a x).1

pub maximum-reducible : (t : ElementType) → Reducible (SlotHolds t) (maximum_of t) (lowest_of t)
unfolding maximum_of
maximum-reducible t =
    greater-reducible (lt_of t) (lt_trans t) (lt-cotrans t) (SlotHolds t) (lowest_of t) (ends t).lowest (none_below t)
    (λ a x e. if_none t a (lowest_of t) x (ends t).lowest (none_below t a x) e)

-- the lesser is the greater by the opposite test
pub minimum-reducible : (t : ElementType) → Reducible (SlotHolds t) (minimum_of t) (highest_of t)
unfolding minimum_of
minimum-reducible t =
    greater-reducible (λ a b. lt_of t b a) (λ a b c e f. lt_trans t c b a f e) (λ a b c e f. lt-cotrans t c b a f e) (SlotHolds t) (highest_of t) (ends t).highest
    (none_above t) (λ a x e. if_none t a (highest_of t) x (ends t).highest e (none_above t a x))

module _ (t : ElementType) where
  pub maximum-comm : (a b : ℕ) → SlotHolds t a → SlotHolds t b → maximum_of t a b ≡ maximum_of t b a
  unfolding maximum_of
  maximum-comm a b x y = greater-comm (lt_of t) a b (not-both t a b) (if_none t a b x y)

  pub minimum-comm : (a b : ℕ) → SlotHolds t a → SlotHolds t b → minimum_of t a b ≡ minimum_of t b a
  unfolding minimum_of
  minimum-comm a b x y = greater-comm (λ a b. lt_of t b a) a b (not-both t b a) (λ e f. if_none t a b x y f e)

  pub maximum-self : (a : ℕ) → maximum_of t a a ≡ a
  unfolding maximum_of
  maximum-self a = greater-self (lt_of t) a

  pub minimum-self : (a : ℕ) → minimum_of t a a ≡ a
  unfolding minimum_of
  minimum-self a = greater-self (λ a b. lt_of t b a) a
