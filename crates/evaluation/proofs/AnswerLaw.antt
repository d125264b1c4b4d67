-- The numbers that the answers of a division and of an op stand for are 01's: those of the bench's own refusal 12, and 0 where there is none.
-- Assumes nothing.
use mathlib.Core.Path.{◌≡◌, refl}
use mathlib.Core.List.{List}
use Prim.Native.Nat.{ℕ}
use Rattle.run.specs.Run.{results, stopped, gives, stops}
use Rattle.std.specs.Prelude.{Ok, Err, Some, None}
use Rattle.division.specs.Division.{divided_numbers}
use Rattle.elementwise.specs.Elementwise.{Tensor, step_numbers, out_numbers}
use Rattle.judge.specs.Refusals.{Refusal}
use Rattle.evaluation.specs.Evaluated.{refusal_of}

-- "An answer has three numbers: refusal, A, B"
abbrev pub three : Refusal → ℕ × ℕ × ℕ
three r = (r.number, r.a, r.b)

-- an op that stops, at this op and element, after these values
pub zero-answers : (vs : List Tensor) (op element : ℕ)
    → (step_numbers (Err (record { op = op; element = element })) ≡ three (refusal_of (stopped vs op element))) × (out_numbers op (stops element) ≡ three (refusal_of (stopped vs op element)))
zero-answers vs op element = (refl, refl)

-- an op that fills its stretch
pub filled-answers : (vs : List Tensor) (op : ℕ) (v : Tensor) → (step_numbers (Ok tt) ≡ three (refusal_of (results vs))) × (out_numbers op (gives v) ≡ three (refusal_of (results vs)))
filled-answers vs op v = (refl, refl)

-- one division: its first number is the refusal's
pub divided-answers : (vs : List Tensor) (op element v : ℕ)
    → ((divided_numbers None).0 ≡ (refusal_of (stopped vs op element)).number) × ((divided_numbers (Some v)).0 ≡ (refusal_of (results vs)).number)
divided-answers vs op element v = (refl, refl)
