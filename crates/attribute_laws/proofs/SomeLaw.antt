-- Tests of the items of a list and of the numbers below one, by index.
-- Assumes nothing.
use mathlib.Core.Path.{◌≡◌, refl, sym, ap, subst}
use mathlib.Core.List.{List, [], ◌∷◌, map}
use mathlib.Core.Bool.{Bool, true, false, not, ◌||◌}
use Prim.Native.Nat.{ℕ, zero, suc, ◌<◌, ◌≤◌}
use native.Mathlib.Nat.{not-suc-le-zero, le_of_suc-le-suc}
use native.Mathlib.Omega.{arith}
use lib.Dec.{eqb}
use lib.ListN.{length, get_or}
use borrow.Author.Tests.{eq-eqb, ne_eqb}
use Rattle.lists.specs.Lists.{pick, first_where}
use Rattle.scan.specs.Bytes.{among}
use Rattle.dimrules.specs.Count.{first_failing, everywhere}
use Rattle.dimrules.proofs.CountLaw.{Reached, reach-none, reach-next, reach-end}
use Rattle.source.specs.Source.{AttributeText}
use Rattle.verifier.specs.AttributeRules.{some_of, attribute_number, doubled_attribute}
use Rattle.default_laws.proofs.DenseLaw.{not-both}

-- ---- two tests

pub neither : (a b : Bool) → a || b ≡ false → (a ≡ false) × (b ≡ false)
neither true b e = absurd (not-both {b = true} refl e)
neither false b e = (refl, e)

pub none_of_two : (a b : Bool) → a ≡ false → b ≡ false → a || b ≡ false
none_of_two a b e f = rw (e, f)

-- each holds where the other does
pub same_test : (a b : Bool) → (a ≡ true → b ≡ true) → (b ≡ true → a ≡ true) → a ≡ b
same_test true true f g = refl
same_test true false f g = sym (f refl)
same_test false true f g = g refl
same_test false false f g = refl

pub not-false-true : (b : Bool) → not b ≡ true → b ≡ false
not-false-true true e = absurd (not-both {b = true} refl (sym e))
not-false-true false e = refl

pub not-true-false : (b : Bool) → not b ≡ false → b ≡ true
not-true-false true e = refl
not-true-false false e = absurd (not-both {b = true} refl e)

-- ---- a test of every item

module _ {A : Type 0} (t : A → Bool) (d : A) where
  pub some-false : (l : List A) → some_of t l ≡ false → (j : ℕ) → j < length l → t (get_or l j d) ≡ false
  some-false [] e j h = absurd (not-suc-le-zero h)
  some-false (x ∷ l) e zero h = (neither (t x) (some_of t l) e).0
  some-false (x ∷ l) e (suc j) h = some-false l (neither (t x) (some_of t l) e).1 j (le_of_suc-le-suc h)

  pub some-none : (l : List A) → ((j : ℕ) → j < length l → t (get_or l j d) ≡ false) → some_of t l ≡ false
  some-none [] f = refl
  some-none (x ∷ l) f = none_of_two (t x) (some_of t l) (f 0 (omega arith)) (some-none l (λ j h. f (suc j) (omega arith)))

-- ---- numbers of items

pub length-map : {A B : Type 0} (f : A → B) (l : List A) → length (map f l) ≡ length l
length-map f [] = refl
length-map f (x ∷ l) = ap (λ (n : ℕ). suc n) (length-map f l)

pub get-map : {A B : Type 0} (f : A → B) (d : A) (l : List A) (j : ℕ) → get_or (map f l) j (f d) ≡ f (get_or l j d)
get-map f d [] j = refl
get-map f d (x ∷ l) zero = refl
get-map f d (x ∷ l) (suc j) = get-map f d l j

module _ {A : Type 0} (f : A → ℕ) (d : A) where
  pub among-false : (l : List A) (k : ℕ) → among (map f l) k ≡ false → (j : ℕ) → j < length l → k ≡ f (get_or l j d) → ⊥
  among-false [] k e j h q = absurd (not-suc-le-zero h)
  among-false (x ∷ l) k e zero h q = not-both (eq-eqb k (f x) q) (neither (eqb k (f x)) (among (map f l) k) e).0
  among-false (x ∷ l) k e (suc j) h q = among-false l k (neither (eqb k (f x)) (among (map f l) k) e).1 j (le_of_suc-le-suc h) q

  pub among_none : (l : List A) (k : ℕ) → ((j : ℕ) → j < length l → k ≡ f (get_or l j d) → ⊥) → among (map f l) k ≡ false
  among_none [] k n = refl
  among_none (x ∷ l) k n = none_of_two (eqb k (f x)) (among (map f l) k) (ne_eqb k (f x) (n 0 (omega arith))) (among_none l k (λ j h. n (suc j) (omega arith)))

module _ (text : List ℕ) (d : AttributeText) where
  pub doubled-false : (l : List AttributeText) → doubled_attribute text l ≡ false → (i j : ℕ) → i < j → j < length l → attribute_number text (get_or l i d) ≡ attribute_number text (get_or l j d) → ⊥
  doubled-false [] e i j g h q = absurd (not-suc-le-zero h)
  doubled-false (a ∷ l) e i zero g h q = absurd (not-suc-le-zero g)
  doubled-false (a ∷ l) e zero (suc j) g h q =
      among-false (attribute_number text) d l (attribute_number text a) (neither (among (map (attribute_number text) l) (attribute_number text a)) (doubled_attribute text l) e).0 j (le_of_suc-le-suc h) q
  doubled-false (a ∷ l) e (suc i) (suc j) g h q =
      doubled-false l (neither (among (map (attribute_number text) l) (attribute_number text a)) (doubled_attribute text l) e).1 i j (le_of_suc-le-suc g) (le_of_suc-le-suc h) q

  pub doubled-none : (l : List AttributeText) → ((i j : ℕ) → i < j → j < length l → attribute_number text (get_or l i d) ≡ attribute_number text (get_or l j d) → ⊥) → doubled_attribute text l ≡ false
  doubled-none [] n = refl
  doubled-none (a ∷ l) n =
      none_of_two (among (map (attribute_number text) l) (attribute_number text a)) (doubled_attribute text l)
      (among_none (attribute_number text) d l (attribute_number text a) (λ j h q. n 0 (suc j) (omega arith) (omega arith) q)) (doubled-none l (λ i j g h q. n (suc i) (suc j) (omega arith) (omega arith) q))

-- ---- a test at every number below one

pub everywhere-all : (n : ℕ) (t : ℕ → Bool) → ((j : ℕ) → j < n → t j ≡ true) → everywhere n t ≡ true
unfolding everywhere
everywhere-all n t f = let e = reach-end n t n (reached n (omega arith)) (omega arith) (omega arith) in eq-eqb (first_failing n t) n (sym e)
  where
    reached : (d : ℕ) → d ≤ n → Reached n t d
    reached zero h = reach-none n t
    reached (suc d) h = subst (Reached n t) (omega arith) (reach-next n t d (reached d (omega arith)) (omega arith) (f d (omega arith)))

-- what is found is within the list
pub first-within : {A : Type 0} (t : A → Bool) (l : List A) → first_where t l ≤ length l
unfolding first_where
first-within t [] = omega arith
first-within t (x ∷ l) = go (t x) (first-within t l)
  where
    go : (b : Bool) → first_where t l ≤ length l → pick b 0 (suc (first_where t l)) ≤ suc (length l)
    go true h = omega arith
    go false h = omega arith
