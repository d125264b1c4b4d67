-- How many values there are, where each stands, and that every type among them is within sizes 1 and 2 of 01 and has six dimensions in its array.
-- Assumes nothing.
use mathlib.Core.Path.{◌≡◌, refl, ◌∙◌}
use mathlib.Core.Bool.{Bool, true, false}
use mathlib.Core.List.{List, [], ◌∷◌}
use Prim.Native.Nat.{ℕ, zero, suc, ◌+◌, ◌-◌, ◌≤◌, ◌<◌}
use native.Mathlib.Nat.{not-suc-le-zero, le_of_suc-le-suc}
use native.Mathlib.Omega.{arith}
use lib.ListN.{length, get_or}
use lib.Dec.{ltb}
use borrow.Author.Tests.{lt-ltb}
use Rattle.lists.specs.Lists.{pick, tab}
use Rattle.lists.proofs.TabLaw.{length-tab, get_or-tab}
use Rattle.shape.specs.Dims.{Sized}
use Rattle.program.specs.declared.Program.{Program}
use Rattle.program.specs.Program.{program_of}
use Rattle.places.specs.Places.{type_in, type_of_part}
use Rattle.places.proofs.TypeInLaw.{type-in-sized, type-in-six}
use Rattle.values.specs.declared.Value.{Value}
use Rattle.values.specs.Values.{no_value, input_value, result_value, inputs_of, ops_of, value_at, values_in, values_of}

pub inputs-small : (p : Program) → inputs_of p ≤ 8
unfolding inputs_of
inputs-small p = omega arith

pub ops-small : (p : Program) → ops_of p ≤ 256
unfolding ops_of
ops-small p = omega arith

pub inputs-few : (text : List ℕ) (p : Program) → (values_in text p).inputs ≤ 8
unfolding values_in
inputs-few text p = inputs-small p

pub count-few : (text : List ℕ) (p : Program) → (values_in text p).count ≤ 264
unfolding values_in
count-few text p = omega (arith, inputs-small p, ops-small p)

pub list-long : (text : List ℕ) (p : Program) → length (values_in text p).list ≡ 264
unfolding values_in
list-long text p = length-tab {A = Value} 264 (λ i. pick (ltb i (inputs_of p + ops_of p)) (value_at text p i) no_value)

-- an element that is there, whatever stands for one that is not
pub any-default : (l : List Value) (i : ℕ) (d e : Value) → i < length l → get_or l i d ≡ get_or l i e
any-default [] i d e h = absurd (not-suc-le-zero h)
any-default (x ∷ l) zero d e h = refl
any-default (x ∷ l) (suc i) d e h = any-default l i d e (le_of_suc-le-suc h)

-- value i stands at place i
pub value-stands : (text : List ℕ) (p : Program) (i : ℕ) → i < (values_in text p).count → get_or (values_in text p).list i no_value ≡ value_at text p i
unfolding values_in
value-stands text p i h = get_or-tab 264 (λ j. pick (ltb j (inputs_of p + ops_of p)) (value_at text p j) no_value) i no_value (omega (arith, inputs-small p, ops-small p)) ∙ rw (lt-ltb _ _ h)

-- what holds of the type of no value and of every type that is read holds of every value's type
module _ (P : Value → Type 0) (none : P no_value) (text : List ℕ) (read : (a at : ℕ) → P (record { name = a; ty = type_in text at })) where
  either : (b : Bool) (x y : Value) → P x → P y → P (pick b x y)
  either true x y p q = p
  either false x y p q = q

  of-value : (p : Program) (i : ℕ) → P (value_at text p i)
  unfolding value_at input_value result_value type_of_part
  of-value p i = either (ltb i (inputs_of p)) _ _ (read _ _) (read _ _)

  of-tab : (n : ℕ) (f : ℕ → Value) (i : ℕ) → ((j : ℕ) → P (f j)) → P (get_or (tab n f) i no_value)
  of-tab zero f i h = none
  of-tab (suc n) f zero h = h zero
  of-tab (suc n) f (suc i) h = of-tab n (λ k. f (suc k)) i (λ k. h (suc k))

  of-each : (p : Program) (i : ℕ) → P (get_or (values_in text p).list i no_value)
  unfolding values_in
  of-each p i = of-tab 264 _ i (λ j. either (ltb j (inputs_of p + ops_of p)) _ _ (of-value p j) none)

pub value-sized : (text : List ℕ) (p : Program) (i : ℕ) → Sized (get_or (values_in text p).list i no_value).ty.shape
value-sized text p i = of-each (λ v. Sized v.ty.shape) (record { rank = omega arith; volume = omega arith }) text (λ a at. type-in-sized text at) p i

pub value-six : (text : List ℕ) (p : Program) (i : ℕ) → length (get_or (values_in text p).list i no_value).ty.shape.dims ≡ 6
value-six text p i = of-each (λ v. length v.ty.shape.dims ≡ 6) refl text (λ a at. type-in-six text at) p i

-- the same of a text
pub text-count : (text : List ℕ) → (values_of text).count ≤ 264
unfolding values_of
text-count text = count-few text (program_of text)

pub text-inputs : (text : List ℕ) → (values_of text).inputs ≤ 8
unfolding values_of
text-inputs text = inputs-few text (program_of text)

pub text-long : (text : List ℕ) → length (values_of text).list ≡ 264
unfolding values_of
text-long text = list-long text (program_of text)

pub text-sized : (text : List ℕ) (i : ℕ) → Sized (get_or (values_of text).list i no_value).ty.shape
unfolding values_of
text-sized text i = value-sized text (program_of text) i

pub text-six : (text : List ℕ) (i : ℕ) → length (get_or (values_of text).list i no_value).ty.shape.dims ≡ 6
unfolding values_of
text-six text i = value-six text (program_of text) i
