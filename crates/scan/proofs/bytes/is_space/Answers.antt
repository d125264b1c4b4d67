use Rattle.std.proofs.Common.{arith}
use Rattle.std.proofs.lemmas.Bool.Decides.{nat_tests}
use Rattle.scan.specs.Bytes.{is_space}
use Rattle.scan.proofs.bytes.is_space.Goals as goal

pub returns-in_default : goal.returns-in_default
unfolding is_space
returns-in_default c = grind (arith, nat_tests)

pub returns-in_default-2 : goal.returns-in_default-2
unfolding is_space
returns-in_default-2 c = grind (arith, nat_tests)

pub returns-in-32 : goal.returns-in-32
unfolding is_space
returns-in-32 c = grind (arith, nat_tests)

pub returns-in-32-2 : goal.returns-in-32-2
unfolding is_space
returns-in-32-2 c = grind (arith, nat_tests)
