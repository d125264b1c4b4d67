-- Refusals 9 to 11 of an accepted text, one after the other.
-- Assumes nothing.
use mathlib.Core.Path.{◌≡◌, ap, ◌∙◌}
use mathlib.Core.List.{List}
use Prim.Native.Nat.{ℕ, ◌≤◌, ◌<◌}
use native.Mathlib.Omega.{arith}
use lib.ListN.{length}
use borrow.Author.Tests.{lt-ltb, le-ltb, eq-eqb, ne_eqb}
use Rattle.judge.specs.Judge.{refuse}
use Rattle.values.specs.declared.Values.{Values}
use Rattle.program.specs.declared.Program.{Program as Places}
use Rattle.program.specs.Program.{program_of}
use Rattle.values.specs.Values.{values_in, values_of}
use Rattle.offsets.specs.Offsets.{needed_of}
use Rattle.verify.specs.Verify.{verdict}
use Rattle.inputs.specs.Inputs.{input_slots, first_foreign}
use Rattle.evaluation.specs.Evaluated.{answer, ran, fitted, evaluated}

module _ (text inputs old : List ℕ) (vs : Values) (e : vs ≡ values_of text) where
  pub refuses-9 : length old < needed_of vs → answer (refuse 9 (needed_of vs) 0) old ≡ fitted text inputs old
  unfolding fitted
  refuses-9 h = rw (e, lt-ltb (length old) (needed_of (values_of text)) (rw e at h))

  module _ (space : needed_of vs ≤ length old) where
    pub refuses-10 : (length inputs ≡ input_slots vs → ⊥) → answer (refuse 10 (input_slots vs) 0) old ≡ fitted text inputs old
    unfolding fitted
    refuses-10 h = rw (e, le-ltb (length old) (needed_of (values_of text)) (rw e at space), ne_eqb (length inputs) (input_slots (values_of text)) (rw e at h))

    module _ (full : length inputs ≡ input_slots vs) where
      pub refuses-11 : first_foreign vs inputs < input_slots vs → answer (refuse 11 (first_foreign vs inputs) 0) old ≡ fitted text inputs old
      unfolding fitted
      refuses-11 h =
          rw (
            e,
            le-ltb (length old) (needed_of (values_of text)) (rw e at space),
            eq-eqb (length inputs) (input_slots (values_of text)) (rw e at full),
            lt-ltb (first_foreign (values_of text) inputs) (input_slots (values_of text)) (rw e at h),
          )

      pub fits : input_slots vs ≤ first_foreign vs inputs → ran text inputs old ≡ fitted text inputs old
      unfolding fitted
      fits h =
          rw (
            le-ltb (length old) (needed_of (values_of text)) (rw e at space),
            eq-eqb (length inputs) (input_slots (values_of text)) (rw e at full),
            le-ltb (first_foreign (values_of text) inputs) (input_slots (values_of text)) (rw e at h),
          )

-- ---- of every text

module _ (text inputs old : List ℕ) where
  pub refused : ((verdict text).number ≡ 0 → ⊥) → answer (verdict text) old ≡ evaluated text inputs old
  unfolding evaluated
  refused h = rw (ne_eqb (verdict text).number 0 h)

  pub not-refused : (verdict text).number ≡ 0 → fitted text inputs old ≡ evaluated text inputs old
  unfolding evaluated
  not-refused h = rw (eq-eqb (verdict text).number 0 h)

pub as_values : (text : List ℕ) (p : Places) (vs : Values) → p ≡ program_of text → vs ≡ values_in text p → vs ≡ values_of text
unfolding values_of
as_values text p vs e f = f ∙ ap (values_in text) e
