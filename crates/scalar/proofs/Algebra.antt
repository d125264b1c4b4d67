-- Sums and products of values are associative and have their identities, over the width; on `i1` they are or and and.
-- Assumes nothing.
use Rattle.std.proofs.Common.{◌≡◌, ℕ, ◌+◌, ◌*◌, ◌%◌, ◌^◌, Bool, true, false, ℤ, pos, ◌+ℤ◌, ◌*ℤ◌, sym, refl, ap, ◌∙◌, add_assoc, mul_assoc, arith, lit<, pow_pos}
use native.Mathlib.Nat.{mod-add-mod, add-mod-mod}
use lib.Bits.{bit_and, bit_or, and_comm, or_comm, and_self, or_self}
use lib.IntN.{+ℤ_idl, +ℤ_idr, +ℤ_comm, *ℤ_comm, *ℤ-one, one}
use Rattle.lists.specs.Lists.{pick}
use Rattle.element.specs.Types.{residue, read, width_of, signed_of, bool_of, all_of, value_of, wrap_to, slot_for, slot_of, SlotHolds}
use Rattle.element.specs.declared.ElementType.{ElementType}
use Rattle.element.specs.declared.ElementType.TheVariants.{I1, I8, I16, I32, I64, U8, U16, U32, U64}
use Rattle.element.proofs.Mod.{mul-mod-l, mul-mod-r}
use Rattle.element.proofs.Residue.{residue-narrow, residue-add, residue-mul}
use Rattle.element.proofs.Wrap.{extend-mod}
use Rattle.element.proofs.Slots.{sized, slot-value, wrap_to-is, wrap_to-lt}
use Rattle.element.proofs.Signed.{value-small}
use Rattle.element.proofs.Range.{value-fixed, wrapped-value}
use Rattle.element.proofs.Ends.{ends, zero-value}
use Rattle.scalar.specs.Ops.{add_of, multiply_of}
use Rattle.scalar.specs.Body.{Reducible}
use Rattle.scalar.proofs.Bitwise.{or-reducible, and-reducible}

-- the type's modulus
abbrev modulus : ElementType → ℕ
modulus t = 2 ^ width_of t

-- integers that are congruent modulo 2^n are taken to one slot
pub wrap_to-residue : (t : ElementType) (x y : ℤ) → residue (modulus t) x ≡ residue (modulus t) y → wrap_to t x ≡ wrap_to t y
unfolding wrap_to slot_for
wrap_to-residue t x y e = ap (λ (r : ℕ). slot_of (read (signed_of t) (width_of t) r)) e

-- and the value of that slot is congruent to them
pub residue-kept : (t : ElementType) (z : ℤ) → residue (modulus t) (value_of t (wrap_to t z)) ≡ residue (modulus t) z
residue-kept t z =
    residue-narrow (sized t).most (value_of t (wrap_to t z)) ∙ ap (λ (x : ℕ). x % modulus t) (slot-value t (wrap_to-lt t z) ∙ wrap_to-is t z)
    ∙ extend-mod (width_of t) 64 (sized t).most (signed_of t) (slot_of z) ∙ sym (residue-narrow (sized t).most z)

-- an operation on integers, on slots of the type
abbrev on : ElementType → (ℤ → ℤ → ℤ) → ℕ → ℕ → ℕ
on t f a b = wrap_to t (f (value_of t a) (value_of t b))

-- it is associative where it goes over to an associative operation on residues, and has the identity that it has on integers
module _ (t : ElementType) (f : ℤ → ℤ → ℤ) (g : ℕ → ℕ → ℕ)
    (hom : (x y : ℤ) → residue (modulus t) (f x y) ≡ g (residue (modulus t) x) (residue (modulus t) y))
    (g-assoc : (a b c : ℕ) → g (g a b) c ≡ g a (g b c)) where
  on-assoc : (a b c : ℕ) → on t f (on t f a b) c ≡ on t f a (on t f b c)
  on-assoc a b c =
      wrap_to-residue t (f (value_of t (on t f a b)) z) (f x (value_of t (on t f b c)))
      (hom (value_of t (on t f a b)) z ∙ ap (λ (u : ℕ). g u (residue (modulus t) z)) (residue-kept t (f x y) ∙ hom x y)
      ∙ g-assoc (residue (modulus t) x) (residue (modulus t) y) (residue (modulus t) z)
      ∙ sym (hom x (value_of t (on t f b c)) ∙ ap (g (residue (modulus t) x)) (residue-kept t (f y z) ∙ hom y z)))
    where
      x : ℤ
      x = value_of t a

      y : ℤ
      y = value_of t b

      z : ℤ
      z = value_of t c

  on-reducible : (e : ℕ) → SlotHolds t e → ((z : ℤ) → f (value_of t e) z ≡ z) → ((z : ℤ) → f z (value_of t e) ≡ z) → Reducible (SlotHolds t) (on t f) e
  on-reducible e v l r = record {
    neutral = v;
    closed = λ a b x y. wrapped-value t (f (value_of t a) (value_of t b));
    assoc = λ a b c x y z. on-assoc a b c;
    left = λ a x. ap (wrap_to t) (l (value_of t a)) ∙ value-fixed t a x;
    right = λ a x. ap (wrap_to t) (r (value_of t a)) ∙ value-fixed t a x;
  }

-- sums and products modulo m
sum-assoc : (m a b c : ℕ) → ((a + b) % m + c) % m ≡ (a + (b + c) % m) % m
sum-assoc m a b c = mod-add-mod (a + b) m c ∙ ap (λ (x : ℕ). x % m) (add_assoc a b c) ∙ sym (add-mod-mod a (b + c) m)

product-assoc : (m a b c : ℕ) → ((a * b) % m * c) % m ≡ (a * ((b * c) % m)) % m
product-assoc m a b c = mul-mod-l (a * b) c m ∙ ap (λ (x : ℕ). x % m) (mul_assoc a b c) ∙ sym (mul-mod-r a (b * c) m)

sum-reducible : (t : ElementType) → Reducible (SlotHolds t) (on t ◌+ℤ◌) 0
sum-reducible t =
    on-reducible t ◌+ℤ◌ (λ (x y : ℕ). (x + y) % modulus t) (residue-add (modulus t) (pow_pos (width_of t))) (sum-assoc (modulus t)) 0 (zero-value t)
    (λ z. rw (value-small t 0 (lit< tt)) (+ℤ_idl z)) (λ z. rw (value-small t 0 (lit< tt)) (+ℤ_idr z))

product-reducible : (t : ElementType) → Reducible (SlotHolds t) (on t ◌*ℤ◌) 1
unfolding one
product-reducible t =
    on-reducible t ◌*ℤ◌ (λ (x y : ℕ). (x * y) % modulus t) (residue-mul (modulus t) (pow_pos (width_of t))) (product-assoc (modulus t)) 1 (ends t).one
    (λ z. rw (value-small t 1 (lit< tt)) (*ℤ_comm (pos 1) z ∙ *ℤ-one z)) (λ z. rw (value-small t 1 (lit< tt)) (*ℤ-one z))

pub add-reducible : (t : ElementType) → Reducible (SlotHolds t) (add_of t) 0
unfolding add_of
add-reducible t = go (bool_of t)
  where
    go : (b : Bool) → Reducible (SlotHolds t) (λ (a c : ℕ). pick b (bit_or a c) (on t ◌+ℤ◌ a c)) 0
    go true = or-reducible t
    go false = sum-reducible t

-- on `i1`, 1 has all bits set
all_one : (t : ElementType) → bool_of t ≡ true → all_of t ≡ 1
all_one I1 e = refl
all_one I8 e = let z : ◌≡◌ {A = ℕ} 0 1 = cc in absurd (omega arith)
all_one I16 e = let z : ◌≡◌ {A = ℕ} 0 1 = cc in absurd (omega arith)
all_one I32 e = let z : ◌≡◌ {A = ℕ} 0 1 = cc in absurd (omega arith)
all_one I64 e = let z : ◌≡◌ {A = ℕ} 0 1 = cc in absurd (omega arith)
all_one U8 e = let z : ◌≡◌ {A = ℕ} 0 1 = cc in absurd (omega arith)
all_one U16 e = let z : ◌≡◌ {A = ℕ} 0 1 = cc in absurd (omega arith)
all_one U32 e = let z : ◌≡◌ {A = ℕ} 0 1 = cc in absurd (omega arith)
all_one U64 e = let z : ◌≡◌ {A = ℕ} 0 1 = cc in absurd (omega arith)

pub multiply-reducible : (t : ElementType) → Reducible (SlotHolds t) (multiply_of t) 1
unfolding multiply_of
multiply-reducible t = go (bool_of t) refl
  where
    go : (b : Bool) → bool_of t ≡ b → Reducible (SlotHolds t) (λ (a c : ℕ). pick b (bit_and a c) (on t ◌*ℤ◌ a c)) 1
    go true e = rw (all_one t e) at (and-reducible t)
    go false e = product-reducible t

-- commutative; on `i1` idempotent

module _ (t : ElementType) where
  pub add_comm : (a b : ℕ) → add_of t a b ≡ add_of t b a
  unfolding add_of
  add_comm a b = rw (or_comm a b, +ℤ_comm (value_of t a) (value_of t b))

  pub multiply-comm : (a b : ℕ) → multiply_of t a b ≡ multiply_of t b a
  unfolding multiply_of
  multiply-comm a b = rw (and_comm a b, *ℤ_comm (value_of t a) (value_of t b))

  pub add-self : bool_of t ≡ true → (a : ℕ) → add_of t a a ≡ a
  unfolding add_of
  add-self e a = rw e (or_self a)

  pub multiply-self : bool_of t ≡ true → (a : ℕ) → multiply_of t a a ≡ a
  unfolding multiply_of
  multiply-self e a = rw e (and_self a)
