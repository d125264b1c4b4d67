use Rattle.std.proofs.Common.{arith}
use Rattle.std.proofs.lemmas.Bool.Decides.{nat_tests}
use Rattle.scan.specs.Bytes.{is_letter}
use Rattle.scan.proofs.bytes.is_letter.Goals as goal

pub returns-in_default : goal.returns-in_default
unfolding is_letter
returns-in_default c = grind (arith, nat_tests)

pub returns-in_default-2 : goal.returns-in_default-2
unfolding is_letter
returns-in_default-2 c = grind (arith, nat_tests)

pub returns-in_default-3 : goal.returns-in_default-3
unfolding is_letter
returns-in_default-3 c = grind (arith, nat_tests)

pub returns-in-97-to-122 : goal.returns-in-97-to-122
unfolding is_letter
returns-in-97-to-122 c = grind (arith, nat_tests)

pub returns-in-97-to-122-2 : goal.returns-in-97-to-122-2
unfolding is_letter
returns-in-97-to-122-2 c = grind (arith, nat_tests)

pub returns-in-97-to-122-3 : goal.returns-in-97-to-122-3
unfolding is_letter
returns-in-97-to-122-3 c = grind (arith, nat_tests)
