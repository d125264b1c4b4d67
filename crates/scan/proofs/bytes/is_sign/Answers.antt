use Rattle.std.proofs.Common.{arith}
use Rattle.std.proofs.lemmas.Bool.Decides.{nat_tests}
use Rattle.scan.specs.Bytes.{is_sign}
use Rattle.scan.proofs.bytes.is_sign.Goals as goal

pub returns-in-45 : goal.returns-in-45
unfolding is_sign
returns-in-45 c = grind (arith, nat_tests)

pub returns-in_default : goal.returns-in_default
unfolding is_sign
returns-in_default c = grind (arith, nat_tests)
