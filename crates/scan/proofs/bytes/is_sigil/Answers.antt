use Rattle.std.proofs.Common.{arith}
use Rattle.std.proofs.lemmas.Bool.Decides.{nat_tests}
use Rattle.scan.specs.Bytes.{is_sigil}
use Rattle.scan.proofs.bytes.is_sigil.Goals as goal

pub returns-in-37 : goal.returns-in-37
unfolding is_sigil
returns-in-37 c = grind (arith, nat_tests)

pub returns-in_default : goal.returns-in_default
unfolding is_sigil
returns-in_default c = grind (arith, nat_tests)
