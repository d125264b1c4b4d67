-- A dense value has exactly as many elements as its shape, each a value of its type.
-- Assumes nothing.
use mathlib.Core.Path.{◌≡◌, refl, ◌∙◌}
use mathlib.Core.Bool.{Bool, true, false}
use mathlib.Core.List.{List, [], ◌∷◌, ◌++◌}
use Prim.Native.Nat.{ℕ, zero, suc, ◌+◌, ◌*◌, ◌≤◌}
use native.Mathlib.Nat.{zero-add, zero-mul, suc-mul}
use native.Mathlib.Omega.{arith}
use lib.Dec.{eqb}
use lib.ListN.{length, length-append}
use Rattle.lists.specs.Lists.{pick, All, tab}
use Rattle.lists.proofs.TabLaw.{length-tab}
use Rattle.lists.proofs.AllLaw.{all_append, all-tab}
use Rattle.text.specs.Lex.{token_at}
use Rattle.element.specs.Types.{SlotHolds}
use Rattle.element.specs.declared.ElementType.{ElementType}
use Rattle.shape.specs.Index.{size}
use Rattle.types.specs.Numbers.{NumberRead}
use Rattle.dense.specs.Dense.{Read, literal_of, read_then, mark_at, comma_before, one_at, items_at, dense_at, same_literal, dense_value}
use Rattle.dense.proofs.LiteralLaw.{literal-value}

-- what is read: n elements, or at most n before the fault, all of them values of the type
pub record Elements (e : ElementType) (n : ℕ) (r : Read) : Type 0 where
  pub exactly : r.ok ≡ true → length r.elements ≡ n
  pub most : length r.elements ≤ n
  pub values : All (SlotHolds e) r.elements

module _ (e : ElementType) where
  none : (r : Read) → r.elements ≡ [] → Elements e 0 r
  none r h = let l : length r.elements ≡ 0 = rw h in record { exactly = λ o. l; most = omega arith; values = rw h tt }

  then-elements : (m n : ℕ) (r : Read) (f : ℕ → Read) → Elements e m r → ((a : ℕ) → Elements e n (f a)) → Elements e (m + n) (read_then r f)
  unfolding read_then
  then-elements m n r f x y = go r.ok refl
    where
      s : Read
      s = f r.next

      go : (b : Bool) → r.ok ≡ b → Elements e (m + n) (pick b (record { ok = s.ok; elements = r.elements ++ s.elements; next = s.next }) r)
      go true h =
          let l : length (r.elements ++ s.elements) ≡ length r.elements + length s.elements = length-append r.elements s.elements in
          record {
            exactly = λ o. omega (arith, x.exactly h, (y r.next).exactly o);
            most = omega (arith, x.most, (y r.next).most);
            values = all_append (SlotHolds e) r.elements s.elements x.values (y r.next).values;
          }
      go false h = record {
        exactly = λ o. let z : ◌≡◌ {A = ℕ} 0 1 = cc in absurd (omega arith);
        most = omega (arith, x.most);
        values = x.values;
      }

  items-elements : (n : ℕ) (item : ℕ → Read) (text : List ℕ) → ((a : ℕ) → Elements e n (item a)) → (d : ℕ) (first : Bool) (at : ℕ) → Elements e (d * n) (items_at item d first text at)
  unfolding items_at mark_at comma_before
  items-elements n item text y zero first at = rw (zero-mul n) (none _ refl)
  items-elements n item text y (suc d) first at =
      let m : suc d * n ≡ 0 + (n + d * n) = suc-mul d n ∙ omega arith in
      rw m (then-elements 0 (n + d * n) _ _ (none _ refl) (λ a. then-elements n (d * n) _ _ (y a) (λ b. items-elements n item text y d false b)))

  -- the slot of one literal n times
  same-elements : (n : ℕ) (v : NumberRead) (next : ℕ) → (v.fits ≡ true → SlotHolds e v.bits) → Elements e n (record { ok = v.fits; elements = pick v.fits (tab n (λ k. v.bits)) []; next = next })
  same-elements n v next h = go v.fits h
    where
      go : (b : Bool) → (b ≡ true → SlotHolds e v.bits) → Elements e n (record { ok = b; elements = pick b (tab n (λ k. v.bits)) []; next = next })
      go true h = let l : length (tab n (λ k. v.bits)) ≡ n = length-tab n (λ k. v.bits) in
          record { exactly = λ o. l; most = omega arith; values = all-tab (SlotHolds e) n (λ k. v.bits) (λ i q. h refl) }
      go false h = record { exactly = λ o. let z : ◌≡◌ {A = ℕ} 0 1 = cc in absurd (omega arith); most = omega arith; values = tt }

  pub dense-elements : (dims text : List ℕ) (at : ℕ) → Elements e (size dims) (dense_at e dims text at)
  unfolding dense_at one_at mark_at
  dense-elements [] text at = same-elements 1 (literal_of e text (token_at text at)) (token_at text at).end (literal-value e text (token_at text at))
  dense-elements (d ∷ ds) text at =
      rw (← zero-add (d * size ds)) (then-elements 0 (d * size ds) _ _ (none _ refl) (λ a. items-elements (size ds) _ text (λ b. dense-elements ds text b) d true a))

  pub value-elements : (dims text : List ℕ) (at : ℕ) → Elements e (size dims) (dense_value e dims text at)
  unfolding dense_value same_literal
  value-elements dims text at = go (eqb (token_at text at).kind 91)
    where
      go : (b : Bool) → Elements e (size dims) (pick b (dense_at e dims text at) (same_literal e dims text at))
      go true = dense-elements dims text at
      go false = same-elements (size dims) (literal_of e text (token_at text at)) (token_at text at).end (literal-value e text (token_at text at))

-- a value that is read whole
module _ (e : ElementType) (dims text : List ℕ) (at : ℕ) (h : (dense_value e dims text at).ok ≡ true) where
  pub dense-length : length (dense_value e dims text at).elements ≡ size dims
  dense-length = (value-elements e dims text at).exactly h

  pub dense-values : All (SlotHolds e) (dense_value e dims text at).elements
  dense-values = (value-elements e dims text at).values
