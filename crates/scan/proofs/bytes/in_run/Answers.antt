use Rattle.std.proofs.Common.{arith}
use Rattle.std.proofs.lemmas.Bool.Decides.{nat_tests}
use Rattle.scan.specs.Bytes.{in_run}
use Rattle.scan.proofs.bytes.in_run.Goals as goal

pub returns-then-is_digit : goal.returns-then-is_digit
unfolding in_run
returns-then-is_digit c = grind (arith, nat_tests)

pub returns-then-letters : goal.returns-then-letters
unfolding in_run
returns-then-letters c = grind (arith, nat_tests)

pub returns-else-letters : goal.returns-else-letters
unfolding in_run
returns-else-letters c = grind (arith, nat_tests)
