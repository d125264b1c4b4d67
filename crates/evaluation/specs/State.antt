-- Where evaluating stands between two ops.
-- Assumes nothing.
use Rattle.std.specs.Prelude.{◌≡◌, Result, List, ◌++◌, ℕ, ◌+◌, ◌-◌, ◌≤◌, length, take, drop, replicate}
use Rattle.run.specs.Run.{Out, on_out, evaluate_from}
use Rattle.run.specs.Ways.{language_of}
use Rattle.elementwise.specs.declared.ZeroDivisor.{ZeroDivisor}
use Rattle.elementwise.specs.Elementwise.{Tensor, step_numbers, out_numbers}
use Rattle.ops.specs.Ops.{hlo}
use Rattle.values.specs.declared.Values.{Values}
use Rattle.values.specs.Values.{values_of}
use Rattle.offsets.specs.Offsets.{offset_at, needed_of}
use Rattle.nodes.specs.Nodes.{nodes_of}
use Rattle.layout.specs.Layout.{tensors_in}
use Rattle.inputs.specs.Inputs.{input_slots, first_foreign}
use Rattle.steps.specs.Steps.{ValuesHeld}
use Rattle.evaluation.specs.Evaluated.{evaluation_of}

-- the slots before op k's result
abbrev pub slots_before_op : List ℕ → ℕ → ℕ
slots_before_op text k = offset_at (values_of text) ((values_of text).inputs + k)

-- After k ops: the values so far stand in `done` and at the front of the store, behind them is what the store held at first, and evaluating goes
-- on from them.
pub record State (text inputs old : List ℕ) (k : ℕ) (done store : List ℕ) : Type 0 where
  pub held : ValuesHeld (values_of text) ((values_of text).inputs + k) done
  pub front : take (slots_before_op text k) store ≡ take (slots_before_op text k) done
  pub rest : drop (slots_before_op text k) store ≡ drop (slots_before_op text k) old
  pub goes_on : evaluate_from (language_of hlo) k (drop k (nodes_of text).ops) (tensors_in (values_of text) done ((values_of text).inputs + k)) 0 ≡ evaluation_of text inputs

-- the stretch of value n, at..end, lies within `done` and the store, of these lengths
pub record Stretch (vs : Values) (n at end room space : ℕ) : Type 0 where
  pub start : at ≡ offset_at vs n
  pub stop : end ≡ offset_at vs (n + 1)
  pub inside : end ≤ room
  pub within : end ≤ space
  pub small : end ≤ 8192

-- what the op with this number, whose stretch is at..end, answers and leaves in `done` and in the store: its tensor; where it stops, zeros in the store
pub record Written (number : ℕ) (m : Out Tensor ℕ) (at end : ℕ) (r : Result (Unit {0}) ZeroDivisor) (done done2 store store2 : List ℕ) : Type 0 where
  pub answers : step_numbers r ≡ out_numbers number m
  pub done-is : done2 ≡ on_out m (λ v. take at done ++ (v ++ drop end done)) (λ w. done)
  pub store_is : store2 ≡ take at store ++ (on_out m (λ v. v) (λ w. replicate (end - at) 0) ++ drop end store)

-- the slots with zeros from slot at to slot end
abbrev pub zeroed : ℕ → ℕ → List ℕ → List ℕ
zeroed at end slots = take at slots ++ (replicate (end - at) 0 ++ drop end slots)

-- the slots with x at their front
abbrev pub copied : List ℕ → List ℕ → List ℕ
copied x slots = x ++ drop (length x) slots

-- the inputs stand at the front of `done` and of the store, and there is room for all values
pub record InputsStarted (vs : Values) (done store : List ℕ) : Type 0 where
  pub room : needed_of vs ≤ length done
  pub space : needed_of vs ≤ length store
  pub same : take (input_slots vs) done ≡ take (input_slots vs) store
  pub fit : first_foreign vs (take (input_slots vs) store) ≡ input_slots vs
