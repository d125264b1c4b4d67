-- Values in slots, one after the other: by the list of values and by the code's offsets.
-- Assumes nothing.
use mathlib.Core.Path.{◌≡◌, refl, sym, ap, ◌∙◌}
use mathlib.Core.List.{List, [], ◌∷◌, ◌++◌}
use mathlib.Core.Bool.{Bool, true, false, not}
use Prim.Native.Nat.{ℕ, zero, suc, ◌+◌, ◌<◌, ◌≤◌}
use Prim.Native.Nat.{suc-le-suc}
use native.Mathlib.Nat.{not-suc-le-zero, le_of_suc-le-suc, zero-lt-suc}
use native.Mathlib.Omega.{arith}
use lib.Dec.{leb, ltb, eqb}
use lib.ListN.{length, get_or, take, drop, replicate}
use lib.Seq.{drop-drop}
use Rattle.lists.specs.Lists.{tab, first_where}
use Rattle.lists.proofs.TabLaw.{tab-cong}
use Rattle.element.specs.declared.ElementType.{ElementType}
use Rattle.element.specs.declared.ElementType.TheVariants.{I1}
use Rattle.elementwise.specs.Elementwise.{Tensor}
use Rattle.dimrules.specs.Count.{sum_below}
use Rattle.values.specs.declared.Value.{Value}
use Rattle.values.specs.declared.Values.{Values}
use Rattle.values.specs.Values.{no_value}
use Rattle.offsets.specs.Offsets.{size_at, offset_at}
use Rattle.layout.specs.Layout.{value_in, tensors_in}
use Rattle.answers.specs.Answered.{slots_of, slots_of_all, tensors_from, slot_types}
use Rattle.verdict_laws.proofs.TypedSameLaw.{KnownBefore}

-- ---- sums

sum_first : (n : ℕ) (f : ℕ → ℕ) → sum_below (suc n) f ≡ f 0 + sum_below n (λ i. f (suc i))
sum_first zero f = omega arith
sum_first (suc n) f = let z = sum_first n f in rw z (let w : f 0 + sum_below n (λ i. f (suc i)) + f (suc n) ≡ f 0 + (sum_below n (λ i. f (suc i)) + f (suc n)) = omega arith in w)

-- the slots of the first n values of a list
abbrev pub slots_before : List Value → ℕ → ℕ
slots_before known n = sum_below n (λ i. slots_of (get_or known i no_value))

slots-summed : (known : List Value) → slots_of_all known ≡ slots_before known (length known)
slots-summed [] = refl
slots-summed (v ∷ known) = ap (λ (n : ℕ). slots_of v + n) (slots-summed known) ∙ sym (sum_first (length known) (λ i. slots_of (get_or (v ∷ known) i no_value)))

sum_alike : (n : ℕ) (f g : ℕ → ℕ) → ((i : ℕ) → i < n → f i ≡ g i) → sum_below n f ≡ sum_below n g
sum_alike zero f g h = refl
sum_alike (suc n) f g h = rw (sum_alike n f g (λ i q. h i (omega arith)), h n (omega arith)) refl

-- ---- tensors

tensors-by : (known : List Value) (slots : List ℕ) → tensors_from known slots ≡ tab (length known) (λ i. take (slots_of (get_or known i no_value)) (drop (slots_before known i) slots))
tensors-by [] slots = refl
tensors-by (v ∷ known) slots =
    ap (λ (l : List Tensor). take (slots_of v) slots ∷ l)
    (tensors-by known (drop (slots_of v) slots)
    ∙ tab-cong (length known) (λ i. take (slots_of (get_or known i no_value)) (drop (slots_before known i) (drop (slots_of v) slots)))
    (λ i. take (slots_of (get_or known i no_value)) (drop (slots_before (v ∷ known) (suc i)) slots))
    (λ i h. ap (take (slots_of (get_or known i no_value))) (drop-drop (slots_before known i) (slots_of v) slots ∙ ap (λ (n : ℕ). drop n slots) (sym (sum_first i (λ j. slots_of (get_or (v ∷ known) j no_value)))))))

-- ---- against the code's offsets

module _ (vs : Values) (n : ℕ) (known : List Value) (k : KnownBefore vs.list n known) where
  pub size_same : (i : ℕ) → i < n → slots_of (get_or known i no_value) ≡ size_at vs i
  unfolding size_at
  size_same i h = ap slots_of (k.held i h)

  pub before_same : (i : ℕ) → i ≤ n → slots_before known i ≡ offset_at vs i
  unfolding offset_at
  before_same i h = sum_alike i (λ j. slots_of (get_or known j no_value)) (size_at vs) (λ j q. size_same j (omega arith))

  pub slots_same : slots_of_all known ≡ offset_at vs n
  slots_same = slots-summed known ∙ ap (slots_before known) k.count ∙ before_same n (omega arith)

  pub tensors-same : (slots : List ℕ) → tensors_from known slots ≡ tensors_in vs slots n
  tensors-same slots =
      tensors-by known slots ∙ ap (λ (m : ℕ). tab m (λ i. take (slots_of (get_or known i no_value)) (drop (slots_before known i) slots))) k.count
      ∙ tab-cong n (λ i. take (slots_of (get_or known i no_value)) (drop (slots_before known i) slots)) (value_in vs slots)
      (λ i h. rw (size_same i h, before_same i (omega arith)) refl)

-- ---- the types of slots

type-within : (v : Value) (rest : List ElementType) (s : ℕ) → s < slots_of v → get_or (replicate (slots_of v) v.ty.element ++ rest) s I1 ≡ v.ty.element
type-within v rest s h = go (slots_of v) s h
  where
    go : (n s : ℕ) → s < n → get_or (replicate n v.ty.element ++ rest) s I1 ≡ v.ty.element
    go zero s h = absurd (not-suc-le-zero h)
    go (suc n) zero h = refl
    go (suc n) (suc s) h = go n s (le_of_suc-le-suc h)

type-past : (e : ElementType) (rest : List ElementType) (n s : ℕ) → get_or (replicate n e ++ rest) (n + s) I1 ≡ get_or rest s I1
type-past e rest zero s = let z : 0 + s ≡ s = omega arith in ap (λ (m : ℕ). get_or rest m I1) z
type-past e rest (suc n) s = let z : suc n + s ≡ suc (n + s) = omega arith in ap (λ (m : ℕ). get_or (e ∷ (replicate n e ++ rest)) m I1) z ∙ type-past e rest n s

-- a slot within value i has its type
pub slot-type : (known : List Value) (i s : ℕ) → i < length known → s < slots_of (get_or known i no_value) → get_or (slot_types known) (slots_before known i + s) I1 ≡ (get_or known i no_value).ty.element
slot-type [] i s h l = absurd (not-suc-le-zero h)
slot-type (v ∷ known) zero s h l = let z : 0 + s ≡ s = omega arith in ap (λ (m : ℕ). get_or (slot_types (v ∷ known)) m I1) z ∙ type-within v (slot_types known) s l
slot-type (v ∷ known) (suc i) s h l =
    let z : slots_before (v ∷ known) (suc i) + s ≡ slots_of v + (slots_before known i + s) = let w = sum_first i (λ j. slots_of (get_or (v ∷ known) j no_value)) in omega arith in
    ap (λ (m : ℕ). get_or (slot_types (v ∷ known)) m I1) z ∙ type-past v.ty.element (slot_types known) (slots_of v) (slots_before known i + s) ∙ slot-type known i s (le_of_suc-le-suc h) l
