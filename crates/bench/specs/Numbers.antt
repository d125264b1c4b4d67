-- "An answer has three numbers: refusal, A, B." (01, "The twelve refusals"), as C and Rust take them.
-- Assumes nothing.
use Rattle.judge.specs.Refusals.{Refusal}
use Rattle.bench.specs.declared.Answer.{Answer}

abbrev pub three_numbers : Refusal → Answer
three_numbers r = record { refusal = r.number; a = r.a; b = r.b }
