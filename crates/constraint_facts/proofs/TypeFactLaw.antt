-- All constraints of an op on types alone hold if and only if what 000 says of it is true: add and its like, abs, clamp, compare, convert, select,
-- constant, iota, reshape.
-- Assumes nothing.
use mathlib.Core.Path.{◌≡◌, refl, sym, ◌∙◌}
use mathlib.Core.List.{List, [], ◌∷◌}
use mathlib.Core.Logic.{◌⊎◌, inl, inr}
use mathlib.Core.Bool.{Bool, true, false, ◌||◌, true≢false, false≢true}
use Prim.Native.Nat.{ℕ, zero, suc, ◌<◌, suc-le-suc}
use native.Mathlib.Nat.{not-suc-le-zero, le_of_suc-le-suc, zero-lt-suc}
use lib.ListN.{length}
use lib.Dec.{eqb}
use lib.IntN.{ℤ}
use borrow.Author.Tests.{eqb-true, eq-eqb}
use Rattle.lists.specs.Lists.{pick}
use Rattle.element.specs.Types.{signed_of}
use Rattle.element.specs.declared.ElementType.{ElementType}
use Rattle.shape.specs.Index.{size}
use Rattle.shape.specs.Dims.{dims_of}
use Rattle.dimrules.specs.Types.{type_at}
use Rattle.dimrules.specs.declared.TensorType.{TensorType}
use Rattle.rules.specs.Facts.{AlikeTypes}
use Rattle.checks.specs.Check.{fact, check_holds, broken_number}
use Rattle.checks.specs.Formula.{shape, rank, entries, ◌[=]◌, same_elements, same_types}
use Rattle.checks.proofs.CheckLaw.{holds-once}
use Rattle.checks.proofs.MeaningLaw.{and-true-both, both-and-true, or-true}
use Rattle.checks.proofs.ReadingLaw.{nats-true, true-nats}
use Rattle.checks.proofs.NumberLaw.{all_hold, none-broken}
use Rattle.checks.proofs.TypeLaw.{elements-true, true-elements}
use Rattle.op_checks.specs.OpChecks.{SIGNED, UNSIGNED, absent, compare_type_is, all_of_type, same_types_checks, abs_checks, clamp_checks, compare_checks, convert_checks, select_checks, constant_checks, iota_checks, reshape_checks}
use Rattle.constraint_facts.specs.OpFacts.{SameTypesFacts, AbsFacts, ClampFacts, CompareFacts, ConvertFacts, SelectFacts, ConstantFacts, IotaFacts, ReshapeFacts}
use Rattle.constraint_facts.proofs.WordLaw.{shapes-true, true-shapes, types-true, true-types, scalar-true, true-scalar, index-true, true-index}

-- ---- add, and, ..

of-type-true : (xs : List TensorType) (r : TensorType) → check_holds (all_of_type xs r) ≡ true → (j : ℕ) → j < length xs → AlikeTypes (type_at xs j) r
of-type-true [] r e j k = absurd (not-suc-le-zero k)
of-type-true (x ∷ xs) r e zero k = types-true x r (and-true-both (same_types x r) (all_of_type xs r) e).0
of-type-true (x ∷ xs) r e (suc j) k = of-type-true xs r (and-true-both (same_types x r) (all_of_type xs r) e).1 j (le_of_suc-le-suc k)

true-of-type : (xs : List TensorType) (r : TensorType) → ((j : ℕ) → j < length xs → AlikeTypes (type_at xs j) r) → check_holds (all_of_type xs r) ≡ true
true-of-type [] r f = refl
true-of-type (x ∷ xs) r f =
    both-and-true (same_types x r) (all_of_type xs r) (true-types x r (f zero (zero-lt-suc (length xs)))) (true-of-type xs r (λ j k. f (suc j) (suc-le-suc k)))

module _ (operands : List TensorType) (result : TensorType) where
  pub same-types-facts : broken_number (same_types_checks operands result) ≡ 0 → SameTypesFacts operands result
  unfolding same_types_checks
  same-types-facts e = let h = all_hold (same_types_checks operands result) e in record { c1 = of-type-true operands result h.0 }

  pub facts-same-types : SameTypesFacts operands result → broken_number (same_types_checks operands result) ≡ 0
  unfolding same_types_checks
  facts-same-types f = none-broken (same_types_checks operands result) (true-of-type operands result f.c1, tt)

-- ---- abs

module _ (operand result : TensorType) where
  pub abs-facts : broken_number (abs_checks operand result) ≡ 0 → AbsFacts operand result
  unfolding abs_checks
  abs-facts e =
      let h = all_hold (abs_checks operand result) e in
      record { c1 = shapes-true result operand h.0; c2 = elements-true result operand h.1.0 }

  pub facts-abs : AbsFacts operand result → broken_number (abs_checks operand result) ≡ 0
  unfolding abs_checks
  facts-abs f = none-broken (abs_checks operand result) (true-shapes result operand f.c1, (true-elements result operand f.c2, tt))

-- ---- clamp

module _ (min operand max result : TensorType) where
  pub clamp-facts : broken_number (clamp_checks min operand max result) ≡ 0 → ClampFacts min operand max result
  unfolding clamp_checks
  clamp-facts e =
      let h = all_hold (clamp_checks min operand max result) e in
      let g = and-true-both (same_elements min operand) (same_elements operand max) h.1.1.0 in
      record {
        c1 = scalar-true min operand h.0;
        c2 = scalar-true max operand h.1.0;
        c3 = (elements-true min operand g.0, elements-true operand max g.1);
        c4 = types-true operand result h.1.1.1.0;
      }

  pub facts-clamp : ClampFacts min operand max result → broken_number (clamp_checks min operand max result) ≡ 0
  unfolding clamp_checks
  facts-clamp f =
      none-broken (clamp_checks min operand max result) (
        true-scalar min operand f.c1,
        (
          true-scalar max operand f.c2,
          (
            both-and-true (same_elements min operand) (same_elements operand max) (true-elements min operand f.c3.0) (true-elements operand max f.c3.1),
            (true-types operand result f.c4, tt),
          ),
        ),
      )

-- ---- compare

abbrev ByType : ℕ → ElementType → Type 0
ByType c e = (c ≡ absent) ⊎ ((signed_of e ≡ true → c ≡ SIGNED) × (signed_of e ≡ false → c ≡ UNSIGNED))

compare-type-true : (c : ℕ) (e : ElementType) → compare_type_is c e ≡ true → ByType c e
unfolding compare_type_is
compare-type-true c e h = by_way (or-true (eqb c absent) (eqb c (pick (signed_of e) SIGNED UNSIGNED)) h)
  where
    by_sign : (b : Bool) → signed_of e ≡ b → eqb c (pick b SIGNED UNSIGNED) ≡ true → (signed_of e ≡ true → c ≡ SIGNED) × (signed_of e ≡ false → c ≡ UNSIGNED)
    by_sign true q t = (λ s. eqb-true c SIGNED t, λ s. absurd (true≢false (sym q ∙ s)))
    by_sign false q t = (λ s. absurd (false≢true (sym q ∙ s)), λ s. eqb-true c UNSIGNED t)

    by_way : (eqb c absent ≡ true) ⊎ (eqb c (pick (signed_of e) SIGNED UNSIGNED) ≡ true) → ByType c e
    by_way (inl t) = inl (eqb-true c absent t)
    by_way (inr t) = inr (by_sign (signed_of e) refl t)

true-compare-type : (c : ℕ) (e : ElementType) → ByType c e → compare_type_is c e ≡ true
unfolding compare_type_is
true-compare-type c e (inl q) = rw (eq-eqb c absent q) refl
true-compare-type c e (inr f) = or-last (eqb c absent) (by_sign (signed_of e) refl)
  where
    or-last : (a : Bool) → eqb c (pick (signed_of e) SIGNED UNSIGNED) ≡ true → a || eqb c (pick (signed_of e) SIGNED UNSIGNED) ≡ true
    or-last true t = refl
    or-last false t = t

    by_sign : (b : Bool) → signed_of e ≡ b → eqb c (pick (signed_of e) SIGNED UNSIGNED) ≡ true
    by_sign true q = rw q (eq-eqb c SIGNED (f.0 q))
    by_sign false q = rw q (eq-eqb c UNSIGNED (f.1 q))

module _ (lhs rhs : TensorType) (compare_type : ℕ) (result : TensorType) where
  pub compare-facts : broken_number (compare_checks lhs rhs compare_type result) ≡ 0 → CompareFacts lhs rhs compare_type result
  unfolding compare_checks
  compare-facts e =
      let h = all_hold (compare_checks lhs rhs compare_type result) e in
      let g = and-true-both (entries (shape lhs) [=] entries (shape rhs)) (entries (shape rhs) [=] entries (shape result)) h.1.0 in
      record {
        c1 = elements-true lhs rhs h.0;
        c2 = (shapes-true lhs rhs g.0, shapes-true rhs result g.1);
        c3 = compare-type-true compare_type lhs.element (sym (holds-once (fact (compare_type_is compare_type lhs.element))) ∙ h.1.1.0);
      }

  pub facts-compare : CompareFacts lhs rhs compare_type result → broken_number (compare_checks lhs rhs compare_type result) ≡ 0
  unfolding compare_checks
  facts-compare f =
      none-broken (compare_checks lhs rhs compare_type result) (
        true-elements lhs rhs f.c1,
        (
          both-and-true (entries (shape lhs) [=] entries (shape rhs)) (entries (shape rhs) [=] entries (shape result)) (true-shapes lhs rhs f.c2.0) (true-shapes rhs result f.c2.1),
          (holds-once (fact (compare_type_is compare_type lhs.element)) ∙ true-compare-type compare_type lhs.element f.c3, tt),
        ),
      )

-- ---- convert

module _ (operand result : TensorType) where
  pub convert-facts : broken_number (convert_checks operand result) ≡ 0 → ConvertFacts operand result
  unfolding convert_checks
  convert-facts e = let h = all_hold (convert_checks operand result) e in record { c1 = shapes-true operand result h.0 }

  pub facts-convert : ConvertFacts operand result → broken_number (convert_checks operand result) ≡ 0
  unfolding convert_checks
  facts-convert f = none-broken (convert_checks operand result) (true-shapes operand result f.c1, tt)

-- ---- select

module _ (pred on_true on_false result : TensorType) where
  pub select-facts : broken_number (select_checks pred on_true on_false result) ≡ 0 → SelectFacts pred on_true on_false result
  unfolding select_checks
  select-facts e =
      let h = all_hold (select_checks pred on_true on_false result) e in
      let g = and-true-both (same_types on_true on_false) (same_types on_false result) h.1.0 in
      record { c1 = scalar-true pred on_true h.0; c2 = (types-true on_true on_false g.0, types-true on_false result g.1) }

  pub facts-select : SelectFacts pred on_true on_false result → broken_number (select_checks pred on_true on_false result) ≡ 0
  unfolding select_checks
  facts-select f =
      none-broken (select_checks pred on_true on_false result) (
        true-scalar pred on_true f.c1,
        (both-and-true (same_types on_true on_false) (same_types on_false result) (true-types on_true on_false f.c2.0) (true-types on_false result f.c2.1), tt),
      )

-- ---- constant

module _ (value output : TensorType) where
  pub constant-facts : broken_number (constant_checks value output) ≡ 0 → ConstantFacts value output
  unfolding constant_checks
  constant-facts e = let h = all_hold (constant_checks value output) e in record { c1 = types-true value output h.0 }

  pub facts-constant : ConstantFacts value output → broken_number (constant_checks value output) ≡ 0
  unfolding constant_checks
  facts-constant f = none-broken (constant_checks value output) (true-types value output f.c1, tt)

-- ---- iota

module _ (iota_dimension : ℤ) (output : TensorType) where
  pub iota-facts : broken_number (iota_checks iota_dimension output) ≡ 0 → IotaFacts iota_dimension output
  unfolding iota_checks
  iota-facts e = let h = all_hold (iota_checks iota_dimension output) e in record { c1 = index-true iota_dimension (rank output) h.0 }

  pub facts-iota : IotaFacts iota_dimension output → broken_number (iota_checks iota_dimension output) ≡ 0
  unfolding iota_checks
  facts-iota f = none-broken (iota_checks iota_dimension output) (true-index iota_dimension (rank output) f.c1, tt)

-- ---- reshape

module _ (operand result : TensorType) where
  pub reshape-facts : broken_number (reshape_checks operand result) ≡ 0 → ReshapeFacts operand result
  unfolding reshape_checks
  reshape-facts e =
      let h = all_hold (reshape_checks operand result) e in
      record { c1 = elements-true operand result h.0; c2 = nats-true (size (dims_of operand.shape)) (size (dims_of result.shape)) h.1.0 }

  pub facts-reshape : ReshapeFacts operand result → broken_number (reshape_checks operand result) ≡ 0
  unfolding reshape_checks
  facts-reshape f =
      none-broken (reshape_checks operand result) (
        true-elements operand result f.c1,
        (true-nats (size (dims_of operand.shape)) (size (dims_of result.shape)) f.c2, (refl, tt)),
      )
