-- The turns of the walk over the ops.
-- Assumes nothing.
use Prim.Native.Nat.{ℕ, suc}
use mathlib.Core.Path.{◌≡◌, refl}
use mathlib.Core.List.{List}
use lib.Dec.{eqb}
use borrow.Author.Tests.{eq-eqb, ne_eqb}
use Rattle.lists.specs.Lists.{pick}
use Rattle.judge.specs.Judge.{accepted}
use Rattle.program.specs.declared.Program.{Program}
use Rattle.values.specs.declared.Values.{Values}
use Rattle.opwise.specs.Opwise.{op_refusal, ops_from}

module _ (text : List ℕ) (p : Program) (vs : Values) where
  -- one op more: it is refused, or the walk goes on
  pub step : (left k : ℕ) → ops_from text p vs (suc left) k ≡ pick (eqb (op_refusal text p vs k).number 0) (ops_from text p vs left (suc k)) (op_refusal text p vs k)
  unfolding ops_from
  step left k = refl

  pub refused : (left k n : ℕ) → left ≡ suc n → ((op_refusal text p vs k).number ≡ 0 → ⊥) → ops_from text p vs left k ≡ op_refusal text p vs k
  refused left k n e h = rw (e, step n k, ne_eqb (op_refusal text p vs k).number 0 h)

  pub goes_on : (left k n : ℕ) → left ≡ suc n → (op_refusal text p vs k).number ≡ 0 → ops_from text p vs left k ≡ ops_from text p vs n (suc k)
  goes_on left k n e h = rw (e, step n k, eq-eqb (op_refusal text p vs k).number 0 h)

  pub none_left : (k : ℕ) → ops_from text p vs 0 k ≡ accepted
  unfolding ops_from
  none_left k = refl
