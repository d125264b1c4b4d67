-- What the reading functions answer, and what the memory that they are lent holds afterwards.
-- Assumes nothing.
use Rattle.std.specs.Prelude.{ℕ, List, ◌++◌, Bool, true, false, length, drop, Result, Ok, Err}
use Rattle.laid.specs.Laid.{Laid, laid, lay}
use Rattle.dense.specs.declared.Position.{Position}
use Rattle.dense.specs.Dense.{Read}

-- what a function that reads answers: whether the text is as it should be, the place after what was read, and the place of the next slot to write
pub record DenseReading : Type 0 where
  pub ok : Bool
  pub next : ℕ
  pub place : ℕ

-- the same as the code holds it
abbrev pub dense_reading : Result Position Position → DenseReading
dense_reading (Ok p) = record { ok = true; next = p.next; place = p.place }
dense_reading (Err p) = record { ok = false; next = p.next; place = p.place }

-- the answer of a function that reads, with its memory
pub record Outcome : Type 0 where
  pub ok : Bool
  pub next : ℕ
  pub slots : Laid

abbrev pub outcome : DenseReading → List ℕ → Outcome
outcome r memory = record { ok = r.ok; next = r.next; slots = laid r.place memory }

-- after what is read: its elements are laid into the memory, as far as they were read
unfoldable pub after : Read → Laid → Outcome
after d l = record { ok = d.ok; next = d.next; slots = lay d.elements l }

-- the answer of a function that reads no element
abbrev pub reading_of : Read → ℕ → DenseReading
reading_of d place = record { ok = d.ok; next = d.next; place = place }

-- the answer on a whole value, with its memory: the elements from the first slot on, as far as they were read, and the rest as it was
pub record Filled : Type 0 where
  pub ok : Bool
  pub slots : List ℕ

abbrev pub filled : Bool → List ℕ → Filled
filled ok slots = record { ok = ok; slots = slots }

abbrev pub filled_by : Read → List ℕ → Filled
filled_by d old = filled d.ok (d.elements ++ drop (length d.elements) old)
