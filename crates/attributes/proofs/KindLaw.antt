-- The equality of kinds is that of their numbers; whether the value of an attribute is of a kind, by the kind.
-- Assumes nothing.
use mathlib.Core.Path.{◌≡◌, refl, sym, ap, ◌∙◌}
use mathlib.Core.Bool.{Bool, true, false, not, false≢true}
use mathlib.Core.List.{List, map}
use Prim.Native.Nat.{ℕ, ◌<◌, ◌≤◌}
use native.Mathlib.Decide.{dec_le}
use native.Mathlib.Omega.{arith}
use borrow.Author.Tests.{lt-ltb, le-ltb}
use lib.ListN.{length, get_or-eq_default}
use lib.Dec.{eqb, ltb}
use Rattle.std.specs.Option.{option_eq}
use Rattle.std.specs.Prelude.{Option, None, Some}
use Rattle.optable.specs.contracts.ValueKindPartialEq.TheImpl.{eq-value}
use Rattle.optable.specs.declared.ValueKind.{ValueKind}
use Rattle.optable.specs.declared.ValueKind.TheVariants as kind
use Rattle.optable.specs.Table.{Named, attributes, no_attribute, no_kind, attribute_kind, kind_number, DenseKind, Direction, CompareType}
use Rattle.lists.specs.Lists.{pick, all_below}
use Rattle.lists.proofs.SearchLaw.{all-at}
use Rattle.attribute.specs.Attribute.{form_at}
use Rattle.attributes.specs.Attributes.{choice_fits, dense_fits, kind_fits}

pub same-kind : (a b : Option ValueKind) → option_eq eq-value.it a b ≡ eqb (kind_number a) (kind_number b)
same-kind None None = refl
same-kind None (Some kind.Numbers) = refl
same-kind (Some kind.Numbers) None = refl
same-kind None (Some kind.Number) = refl
same-kind (Some kind.Number) None = refl
same-kind None (Some kind.Dense) = refl
same-kind (Some kind.Dense) None = refl
same-kind None (Some kind.Direction) = refl
same-kind (Some kind.Direction) None = refl
same-kind None (Some kind.CompareType) = refl
same-kind (Some kind.CompareType) None = refl
same-kind (Some kind.Numbers) (Some kind.Numbers) = refl
same-kind (Some kind.Numbers) (Some kind.Number) = refl
same-kind (Some kind.Numbers) (Some kind.Dense) = refl
same-kind (Some kind.Numbers) (Some kind.Direction) = refl
same-kind (Some kind.Numbers) (Some kind.CompareType) = refl
same-kind (Some kind.Number) (Some kind.Numbers) = refl
same-kind (Some kind.Number) (Some kind.Number) = refl
same-kind (Some kind.Number) (Some kind.Dense) = refl
same-kind (Some kind.Number) (Some kind.Direction) = refl
same-kind (Some kind.Number) (Some kind.CompareType) = refl
same-kind (Some kind.Dense) (Some kind.Numbers) = refl
same-kind (Some kind.Dense) (Some kind.Number) = refl
same-kind (Some kind.Dense) (Some kind.Dense) = refl
same-kind (Some kind.Dense) (Some kind.Direction) = refl
same-kind (Some kind.Dense) (Some kind.CompareType) = refl
same-kind (Some kind.Direction) (Some kind.Numbers) = refl
same-kind (Some kind.Direction) (Some kind.Number) = refl
same-kind (Some kind.Direction) (Some kind.Dense) = refl
same-kind (Some kind.Direction) (Some kind.Direction) = refl
same-kind (Some kind.Direction) (Some kind.CompareType) = refl
same-kind (Some kind.CompareType) (Some kind.Numbers) = refl
same-kind (Some kind.CompareType) (Some kind.Number) = refl
same-kind (Some kind.CompareType) (Some kind.Dense) = refl
same-kind (Some kind.CompareType) (Some kind.Direction) = refl
same-kind (Some kind.CompareType) (Some kind.CompareType) = refl

not-not : (b : Bool) → b ≡ not (not b)
not-not true = refl
not-not false = refl

module _ (text : List ℕ) (name : ℕ) (f : Option ValueKind) (d : ValueKind) (form : kind_number f ≡ form_at text name) (b : Bool) (e : b ≡ not (option_eq eq-value.it f (Some d))) where
  tested : eqb (form_at text name) (kind_number (Some d)) ≡ not b
  tested = ap (λ (n : ℕ). eqb n (kind_number (Some d))) (sym form) ∙ sym (same-kind f (Some d)) ∙ not-not (option_eq eq-value.it f (Some d)) ∙ ap not (sym e)

  pub differs : b ≡ true → false ≡ kind_fits text name (kind_number (Some d))
  unfolding kind_fits
  differs t = sym (rw (tested, t) refl)

  -- what is left to test
  fits-as : b ≡ false →
      pick (eqb (kind_number (Some d)) DenseKind) (dense_fits text name)
      (pick (eqb (kind_number (Some d)) Direction) (choice_fits text name (kind_number (Some d)))
      (pick (eqb (kind_number (Some d)) CompareType) (choice_fits text name (kind_number (Some d))) true))
      ≡ kind_fits text name (kind_number (Some d))
  unfolding kind_fits
  fits-as t = sym (rw (tested, t) refl)

  pub dense-fits : b ≡ false → d ≡ kind.Dense → dense_fits text name ≡ kind_fits text name (kind_number (Some d))
  dense-fits t q = sym (rw q refl) ∙ fits-as t

  pub direction-fits : b ≡ false → d ≡ kind.Direction → choice_fits text name (kind_number (Some d)) ≡ kind_fits text name (kind_number (Some d))
  direction-fits t q = sym (rw q refl) ∙ fits-as t

  pub type-fits : b ≡ false → d ≡ kind.CompareType → choice_fits text name (kind_number (Some d)) ≡ kind_fits text name (kind_number (Some d))
  type-fits t q = sym (rw q refl) ∙ fits-as t

  pub numbers-fit : b ≡ false → d ≡ kind.Numbers → true ≡ kind_fits text name (kind_number (Some d))
  numbers-fit t q = sym (rw q refl) ∙ fits-as t

  pub number-fits : b ≡ false → d ≡ kind.Number → true ≡ kind_fits text name (kind_number (Some d))
  number-fits t q = sym (rw q refl) ∙ fits-as t

-- the attributes of the table are those that have a kind
known : (k : ℕ) → k < length attributes → not (eqb (attribute_kind k) no_kind) ≡ true
unfolding attribute_kind attributes all_below
known k h = all-at (length attributes) (λ i. not (eqb (attribute_kind i) no_kind)) k refl h

past-none : (k : ℕ) → length attributes ≤ k → attribute_kind k ≡ no_kind
unfolding attribute_kind attributes
past-none k h = get_or-eq_default (map (λ (a : Named). a.kind) attributes) no_kind {n = k} h

pub kind-none : (k : ℕ) → no_kind ≡ attribute_kind k → ltb k no_attribute ≡ false
kind-none k e = by_place (dec_le (length attributes) k)
  where
    by_place : Dec (length attributes ≤ k) → ltb k no_attribute ≡ false
    by_place (yes h) = le-ltb k no_attribute h
    by_place (no h) = absurd (false≢true (ap (λ n. not (eqb n no_kind)) e ∙ known k (omega arith)))

pub kind-some : (k : ℕ) (d : ValueKind) → kind_number (Some d) ≡ attribute_kind k → ltb k no_attribute ≡ true
kind-some k d e = by_place (dec_le (length attributes) k)
  where
    positive : (d : ValueKind) → 0 < kind_number (Some d)
    positive kind.Numbers = omega arith
    positive kind.Number = omega arith
    positive kind.Dense = omega arith
    positive kind.Direction = omega arith
    positive kind.CompareType = omega arith

    by_place : Dec (length attributes ≤ k) → ltb k no_attribute ≡ true
    by_place (no h) = lt-ltb k no_attribute (omega arith)
    by_place (yes h) = let q = past-none k h in let r = positive d in absurd (omega (arith, e))
