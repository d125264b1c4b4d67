use Rattle.std.proofs.Common.{arith, refl, length, ◌<◌}
use Rattle.std.proofs.lemmas.Bool.Decides.{nat_tests}
use Rattle.scan.proofs.ByteLaw.{test-inside}
use Rattle.scan.specs.Ascii.{ascii}
use Rattle.scan.specs.Bytes.{among}
use Rattle.scan.specs.Quantized.{scientific_end}
use Rattle.scan.proofs.quantized.scientific_end.Goals as goal
use Rattle.scan.proofs.quantized.scientific_end.Goals.{in-101, in_default}

pub overflow_add-at : goal.overflow_add-at
overflow_add-at c = elim c.match-matches.branch [
  | in-101 w ↦ let h : c.args.at < length c.args.text.now = test-inside (among (ascii "eE")) c.args.text.now c.args.at refl (rw (← c.byte_at.ensures) (grind (arith, nat_tests))) in omega arith
  | in_default w ↦ absurd (cc)
]

pub returns-then-matches : goal.returns-then-matches
unfolding scientific_end
returns-then-matches c = elim c.match-matches.branch [
  | in-101 w ↦ grind (arith, nat_tests)
  | in_default w ↦ grind (arith, nat_tests)
]

pub returns-else-matches : goal.returns-else-matches
unfolding scientific_end
returns-else-matches c = elim c.match-matches.branch [
  | in-101 w ↦ grind (arith, nat_tests)
  | in_default w ↦ grind (arith, nat_tests)
]
