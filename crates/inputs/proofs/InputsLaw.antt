-- The input that a slot belongs to, and what it says that no slot is foreign.
-- Assumes nothing.
use mathlib.Core.Path.{◌≡◌, sym, subst}
use mathlib.Core.Bool.{Bool, true, false, not}
use mathlib.Core.List.{List}
use Prim.Native.Nat.{ℕ, zero, suc, ◌+◌, ◌≤◌, ◌<◌}
use native.Mathlib.Numerals.{add-one}
use native.Mathlib.Omega.{arith}
use lib.Dec.{leb}
use lib.ListN.{length, get_or, drop}
use lib.Seq.{get_or-take, get_or-drop}
use borrow.Author.Tests.{eq-eqb, le-leb, lt-leb}
use Rattle.lists.specs.Lists.{tab, All}
use Rattle.lists.proofs.TabLaw.{length-tab, tab-get_or}
use Rattle.lists.proofs.SearchLaw.{first-le}
use Rattle.lists.proofs.AllLaw.{all-tab}
use Rattle.element.specs.Types.{SlotHolds}
use Rattle.elementwise.specs.Elementwise.{Holds}
use Rattle.dimrules.specs.Count.{first_failing, everywhere}
use Rattle.dimrules.proofs.CountLaw.{Reached, reach-none, reach-next, reach_here, reach-end, holds_at}
use Rattle.values.specs.declared.Values.{Values}
use Rattle.values.specs.Values.{no_value}
use Rattle.offsets.specs.Offsets.{size_at, offset_at, offsets_of}
use Rattle.offsets.proofs.OffsetsLaw.{offset_read, offset-next, offset-le}
use Rattle.layout.specs.Layout.{value_in}
use Rattle.layout.proofs.LayoutLaw.{length-value}
use Rattle.inputs.specs.Inputs.{input_slots, input_of, slot_fits, first_foreign}

-- The first failing place ------------------------------------------------------------------------------------------------

module _ (n : ℕ) (t : ℕ → Bool) where
  pub failing-le : first_failing n t ≤ n
  unfolding first_failing
  failing-le = omega (arith, first-le (λ d. not (t d)) (tab n (λ d. d)), length-tab n (λ (d : ℕ). d))

  reach-all : (d : ℕ) → d ≤ n → ((e : ℕ) → e < d → t e ≡ true) → Reached n t d
  reach-all zero h p = reach-none n t
  reach-all (suc d) h p =
      subst (λ (k : ℕ). Reached n t k) (add-one d) (reach-next n t d (reach-all d (omega arith) (λ e q. p e (omega arith))) h (p d (omega arith)))

  -- every place before d passes, d does not
  failing-at : (d : ℕ) → d < n → ((e : ℕ) → e < d → t e ≡ true) → t d ≡ false → first_failing n t ≡ d
  failing-at d h p f = sym (reach_here n t d (reach-all d (omega arith) p) h f)

  -- where none fails every place passes
  none-fails : first_failing n t ≡ n → (d : ℕ) → d < n → t d ≡ true
  unfolding everywhere
  none-fails e = holds_at n t (eq-eqb (first_failing n t) n e)

-- Inputs -----------------------------------------------------------------------------------------------------------------

module _ (vs : Values) where
  -- input j ends at slot s or before it
  abbrev ends_by : ℕ → ℕ → Bool
  ends_by s j = leb (offset_at vs (j + 1)) s

  -- every input before i does
  abbrev pub Past : ℕ → ℕ → Type 0
  Past s i = Reached vs.inputs (ends_by s) i

  pub past-none : (s : ℕ) → Past s 0
  past-none s = reach-none vs.inputs (ends_by s)

  module _ (offsets : List ℕ) (e : offsets ≡ offsets_of vs) where
    module _ (few : vs.inputs ≤ 8) (s i : ℕ) (past : Past s i) (h : i < vs.inputs) where
      pub past-here : s < get_or offsets (i + 1) 0 → i ≡ input_of vs s
      unfolding input_of
      past-here l = reach_here vs.inputs (ends_by s) i past h (lt-leb (offset_at vs (i + 1)) s (omega (arith, offset_read vs offsets e (i + 1) (omega arith), l)))

      pub past_next : get_or offsets (i + 1) 0 ≤ s → Past s (i + 1)
      past_next l = reach-next vs.inputs (ends_by s) i past h (le-leb (offset_at vs (i + 1)) s (omega (arith, offset_read vs offsets e (i + 1) (omega arith), l)))

  pub past_end : (s i : ℕ) → Past s i → vs.inputs ≤ i → i ≤ vs.inputs → vs.inputs ≡ input_of vs s
  unfolding input_of
  past_end s i past = reach-end vs.inputs (ends_by s) i past

  pub input-le : (s : ℕ) → input_of vs s ≤ vs.inputs
  unfolding input_of
  input-le s = failing-le vs.inputs (ends_by s)

  -- each slot of input i belongs to it
  pub input-at : (i k : ℕ) → i < vs.inputs → k < size_at vs i → input_of vs (offset_at vs i + k) ≡ i
  unfolding input_of
  input-at i k h b =
      let s = offset_at vs i + k in
      failing-at vs.inputs (ends_by s) i h (λ j q. le-leb (offset_at vs (j + 1)) s (omega (arith, offset-le vs (j + 1) i (omega arith))))
      (lt-leb (offset_at vs (i + 1)) s (omega (arith, offset-next vs i)))

  -- the slots of each input are input slots
  input-within : (i : ℕ) → i < vs.inputs → offset_at vs i + size_at vs i ≤ input_slots vs
  unfolding input_slots
  input-within i h = omega (arith, offset-next vs i, offset-le vs (i + 1) vs.inputs (omega arith))

  -- element k of input i is a value of the input's type
  element-fits : (inputs : List ℕ) → first_foreign vs inputs ≡ input_slots vs → (i k : ℕ) → i < vs.inputs → k < size_at vs i →
      SlotHolds (get_or vs.list i no_value).ty.element (get_or (value_in vs inputs i) k 0)
  unfolding first_foreign slot_fits
  element-fits inputs none i k h b =
      let fits = none-fails (input_slots vs) (slot_fits vs inputs) none (offset_at vs i + k) (omega (arith, input-within i h)) in
      rw (get_or-take (size_at vs i) (drop (offset_at vs i) inputs) k 0 b, get_or-drop (offset_at vs i) inputs k 0) (rw (input-at i k h b) at fits)

  -- where no slot is foreign every input holds values of its type
  pub inputs-hold : (inputs : List ℕ) → length inputs ≡ input_slots vs → first_foreign vs inputs ≡ input_slots vs →
      (i : ℕ) → i < vs.inputs → Holds (get_or vs.list i no_value).ty.element (size_at vs i) (value_in vs inputs i)
  inputs-hold inputs full none i h =
      let v = value_in vs inputs i in
      let P = SlotHolds (get_or vs.list i no_value).ty.element in
      let long : length v ≡ size_at vs i = length-value vs inputs i (rw full (input-within i h)) in
      let each = all-tab P (length v) (λ k. get_or v k 0) (λ k b. element-fits inputs none i k h (rw (← long) b)) in
      record { sized = long; ranged = subst (All P) (tab-get_or v 0) each }
