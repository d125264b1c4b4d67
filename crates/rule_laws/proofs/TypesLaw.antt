-- The ops whose constraints are on types alone: their checks refuse what their tests refuse, with the same C number.
-- Assumes nothing.
use mathlib.Core.Path.{◌≡◌, refl, sym, ap, ◌∙◌, subst}
use mathlib.Core.List.{List, [], ◌∷◌}
use mathlib.Core.Bool.{Bool, true, ◌&&◌, ◌||◌}
use Prim.Native.Nat.{ℕ, zero, suc, ◌+◌, ◌<◌, suc-le-suc}
use native.Mathlib.Nat.{not-suc-le-zero, le_of_suc-le-suc, zero-lt-suc}
use native.Mathlib.Omega.{arith}
use lib.ListN.{length}
use lib.Dec.{eqb}
use lib.IntN.{ℤ, pos}
use borrow.Author.Tests.{eqb-true, eq-eqb}
use Rattle.lists.specs.Lists.{tab}
use Rattle.lists.proofs.TestLaw.{both_true}
use Rattle.shape.specs.Index.{size}
use Rattle.shape.specs.Dims.{dims_of}
use Rattle.dimrules.specs.Types.{element_code, type_at, same_element, same_shape, same_type, type_test, operand_test, all_types}
use Rattle.dimrules.specs.declared.TensorType.{TensorType}
use Rattle.dimrules.specs.declared.TypeTest.TheVariants.{SameType}
use Rattle.dimrules.proofs.CountLaw.{holds_at}
use Rattle.checks.specs.Check.{is, equal, compare, fact, or_else, check_holds, broken_number}
use Rattle.checks.specs.Formula.{shape, rank, nat, entries, ◌and◌, once, ◌[=]◌, whole, same_elements, same_types}
use Rattle.checks.proofs.CheckLaw.{and-true, same_tests, holds-and, holds-once, everywhere-all}
use Rattle.checks.proofs.MeaningLaw.{and-true-both, both-and-true}
use Rattle.checks.proofs.ReadingLaw.{nats-true, true-nats, lists-true, true-lists}
use Rattle.checks.proofs.TypeLaw.{◌at◌, same-element, shapes-same, types_same}
use Rattle.op_checks.specs.OpChecks.{types_from, all_of_type, compare_type_is, same_types_checks, abs_checks, constant_checks, convert_checks, reshape_checks, compare_checks, select_checks, clamp_checks}
use Rattle.rule_laws.specs.Broken.{first_broken}
use Rattle.rule_laws.proofs.AlikeLaw.{alike-first}
use Rattle.rule_laws.proofs.Tests.{same_types_tests, abs_tests, constant_tests, convert_tests, reshape_tests, compare_tests, select_tests, clamp_tests}

-- ---- shapes and types as whole numbers

lists-eq : (l m : List ℤ) → length l ≡ length m → ((d : ℕ) → d < length l → l at d ≡ m at d) → l ≡ m
lists-eq [] [] q f = refl
lists-eq [] (z ∷ m) q f = absurd (let w : ⊥ = omega arith in w)
lists-eq (y ∷ l) [] q f = absurd (let w : ⊥ = omega arith in w)
lists-eq (y ∷ l) (z ∷ m) q f =
    let h : y ≡ z = f 0 (zero-lt-suc (length l)) in
    let t : l ≡ m = lists-eq l m (omega arith) (λ d k. f (suc d) (suc-le-suc k)) in
    rw (h, t)

pub shape-eq : (x y : TensorType) → same_shape x y ≡ true → shape x ≡ shape y
shape-eq x y e = let h = lists-true equal (shape x) (shape y) (shapes-same x y ∙ e) in lists-eq (shape x) (shape y) h.0 h.1

pub eq-shape : (x y : TensorType) → shape x ≡ shape y → same_shape x y ≡ true
eq-shape x y q =
    sym (shapes-same x y)
    ∙ subst (λ (l : List ℤ). check_holds (entries (shape x) [=] entries l) ≡ true) q (true-lists equal (shape x) (shape x) refl (λ d k. refl))

pub eq-element : (x y : TensorType) → x.element ≡ y.element → same_element x y ≡ true
unfolding same_element
eq-element x y q = eq-eqb (element_code x.element) (element_code y.element) (ap element_code q)

pub type-eq : (x y : TensorType) → same_type x y ≡ true → (x.element ≡ y.element) × (shape x ≡ shape y)
unfolding same_type
type-eq x y e = let h = both_true (same_element x y) (same_shape x y) e in (same-element x y h.0, shape-eq x y h.1)

pub eq-type : (x y : TensorType) → x.element ≡ y.element → shape x ≡ shape y → same_type x y ≡ true
unfolding same_type
eq-type x y p q = and-true (same_element x y) (same_shape x y) (eq-element x y p) (eq-shape x y q)

-- type(x) = type(y) = type(z), and the tests of x with each
pub types-chain : (x y z : TensorType) → check_holds (same_types x y and same_types y z) ≡ same_type x y && same_type x z
types-chain x y z =
    holds-and (same_types x y) (same_types y z)
    ∙ rw (types_same x y, types_same y z)
    (same_tests _ _
    (λ e.
    let h = both_true (same_type x y) (same_type y z) e in
    let p = type-eq x y h.0 in
    let q = type-eq y z h.1 in
    and-true (same_type x y) (same_type x z) h.0 (eq-type x z (p.0 ∙ q.0) (p.1 ∙ q.1)))
    (λ e.
    let h = both_true (same_type x y) (same_type x z) e in
    let p = type-eq x y h.0 in
    let q = type-eq x z h.1 in
    and-true (same_type x y) (same_type y z) h.0 (eq-type y z (sym p.0 ∙ q.0) (sym p.1 ∙ q.1))))

pub shapes-chain : (x y z : TensorType) →
    check_holds ((entries (shape x) [=] entries (shape y)) and (entries (shape y) [=] entries (shape z))) ≡ same_shape x y && same_shape x z
shapes-chain x y z =
    holds-and (entries (shape x) [=] entries (shape y)) (entries (shape y) [=] entries (shape z))
    ∙ rw (shapes-same x y, shapes-same y z)
    (same_tests _ _
    (λ e.
    let h = both_true (same_shape x y) (same_shape y z) e in
    and-true (same_shape x y) (same_shape x z) h.0 (eq-shape x z (shape-eq x y h.0 ∙ shape-eq y z h.1)))
    (λ e.
    let h = both_true (same_shape x y) (same_shape x z) e in
    and-true (same_shape x y) (same_shape y z) h.0 (eq-shape y z (sym (shape-eq x y h.0) ∙ shape-eq x z h.1))))

pub nats-same : (i j : ℕ) → check_holds (nat i [=] nat j) ≡ eqb i j
nats-same i j = same_tests _ _ (λ e. eq-eqb i j (nats-true i j e)) (λ e. true-nats i j (eqb-true i j e))

-- rank(x) = 0 or shape(x) = shape(y)
pub scalar-same : (x y : TensorType) →
    check_holds (once (or_else (compare (is (pos (rank x))) equal (is (pos 0))) (whole (entries (shape x) [=] entries (shape y))))) ≡ eqb (rank x) 0 || same_shape x y
scalar-same x y =
    holds-once (or_else (compare (is (pos (rank x))) equal (is (pos 0))) (whole (entries (shape x) [=] entries (shape y))))
    ∙ ap (λ (b : Bool). eqb (rank x) 0 || b) (shapes-same x y)

-- ---- type(operands) = type(result)

types-alike : (n : ℕ) (f : ℕ → TensorType) (r : TensorType) → check_holds (all_of_type (tab n f) r) ≡ true → (j : ℕ) → j < n → same_type r (f j) ≡ true
types-alike zero f r e j h = absurd (not-suc-le-zero h)
types-alike (suc n) f r e j h = by_place j h (and-true-both (same_types (f zero) r) (all_of_type (tab n (λ k. f (suc k))) r) e) (types-alike n (λ k. f (suc k)) r)
  where
    by_place : (j : ℕ) → j < suc n → (check_holds (same_types (f zero) r) ≡ true) × (check_holds (all_of_type (tab n (λ k. f (suc k))) r) ≡ true) →
        (check_holds (all_of_type (tab n (λ k. f (suc k))) r) ≡ true → (j : ℕ) → j < n → same_type r (f (suc j)) ≡ true) → same_type r (f j) ≡ true
    by_place zero h b ih = let q = type-eq (f zero) r (sym (types_same (f zero) r) ∙ b.0) in eq-type r (f zero) (sym q.0) (sym q.1)
    by_place (suc j) h b ih = ih b.1 j (le_of_suc-le-suc h)

alike-types : (n : ℕ) (f : ℕ → TensorType) (r : TensorType) → ((j : ℕ) → j < n → same_type r (f j) ≡ true) → check_holds (all_of_type (tab n f) r) ≡ true
alike-types zero f r h = refl
alike-types (suc n) f r h =
    let q = type-eq r (f zero) (h zero (zero-lt-suc n)) in
    both-and-true (same_types (f zero) r) (all_of_type (tab n (λ k. f (suc k))) r)
    (types_same (f zero) r ∙ eq-type (f zero) r (sym q.0) (sym q.1))
    (alike-types n (λ k. f (suc k)) r (λ j k. h (suc j) (suc-le-suc k)))

pub same-same-types : (types : List TensorType) (arity : ℕ) (r : TensorType) → broken_number (same_types_checks (types_from types 0 arity) r) ≡ first_broken (same_types_tests types arity r)
unfolding same_types_checks same_types_tests all_types type_test
same-same-types types arity r =
    alike-first (same_types_checks (types_from types 0 arity) r) (same_types_tests types arity r) 1 (
      same_tests _ _
          (λ e. everywhere-all arity (operand_test SameType 0 r types 0) (types-alike arity (λ j. type_at types (0 + j)) r e))
          (λ e. alike-types arity (λ j. type_at types (0 + j)) r (holds_at arity (operand_test SameType 0 r types 0) e)),
      λ h1. tt,
    )

-- ---- the other ops

pub same-abs : (x r : TensorType) → broken_number (abs_checks x r) ≡ first_broken (abs_tests x r)
unfolding abs_checks abs_tests
same-abs x r = alike-first (abs_checks x r) (abs_tests x r) 1 (shapes-same r x, λ h1. (holds-once (fact (same_element r x)), λ h2. tt))

pub same-constant : (value r : TensorType) → broken_number (constant_checks value r) ≡ first_broken (constant_tests value r)
unfolding constant_checks constant_tests
same-constant value r = alike-first (constant_checks value r) (constant_tests value r) 1 (types_same value r, λ h1. tt)

pub same-convert : (x r : TensorType) → broken_number (convert_checks x r) ≡ first_broken (convert_tests x r)
unfolding convert_checks convert_tests
same-convert x r = alike-first (convert_checks x r) (convert_tests x r) 1 (shapes-same x r, λ h1. tt)

pub same-reshape : (x r : TensorType) → broken_number (reshape_checks x r) ≡ first_broken (reshape_tests x r)
unfolding reshape_checks reshape_tests
same-reshape x r =
    alike-first (reshape_checks x r) (reshape_tests x r) 1 (
      holds-once (fact (same_element x r)),
      λ h1. (nats-same (size (dims_of x.shape)) (size (dims_of r.shape)), λ h2. (refl, tt)),
    )

pub same-compare : (x y : TensorType) (compare_type : ℕ) (r : TensorType) → broken_number (compare_checks x y compare_type r) ≡ first_broken (compare_tests x y compare_type r)
unfolding compare_checks compare_tests
same-compare x y compare_type r =
    alike-first (compare_checks x y compare_type r) (compare_tests x y compare_type r) 1 (
      holds-once (fact (same_element x y)),
      λ h1. (shapes-chain x y r, λ h2. (holds-once (fact (compare_type_is compare_type x.element)), λ h3. tt)),
    )

pub same_select : (pred t f r : TensorType) → broken_number (select_checks pred t f r) ≡ first_broken (select_tests pred t f r)
unfolding select_checks select_tests
same_select pred t f r =
    alike-first (select_checks pred t f r) (select_tests pred t f r) 1 (
      scalar-same pred t,
      λ h1. (types-chain t f r, λ h2. tt),
    )

pub same-clamp : (min x max r : TensorType) → broken_number (clamp_checks min x max r) ≡ first_broken (clamp_tests min x max r)
unfolding clamp_checks clamp_tests
same-clamp min x max r =
    alike-first (clamp_checks min x max r) (clamp_tests min x max r) 1 (
      scalar-same min x,
      λ h1. (
        scalar-same max x,
        λ h2. (
          holds-and (same_elements min x) (same_elements x max) ∙ rw (holds-once (fact (same_element min x)), holds-once (fact (same_element x max))) refl,
          λ h3. (types_same x r, λ h4. tt),
        ),
      ),
    )
