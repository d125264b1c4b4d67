use Rattle.std.proofs.Common.{arith}
use Rattle.std.proofs.lemmas.Bool.Decides.{nat_tests}
use Rattle.scan.specs.Bytes.{is_digit}
use Rattle.scan.specs.TypeText.{size_next}
use Rattle.scan.proofs.typetext.size_next.Goals as goal

pub returns-in-Whole-eq63 : goal.returns-in-Whole-eq63
unfolding size_next is_digit
returns-in-Whole-eq63 c = grind (arith, nat_tests)

pub returns-in-Digits-eq120 : goal.returns-in-Digits-eq120
unfolding size_next is_digit
returns-in-Digits-eq120 c = grind (arith, nat_tests)

pub returns-in-Digits-eq120-2 : goal.returns-in-Digits-eq120-2
unfolding size_next is_digit
returns-in-Digits-eq120-2 c = grind (arith, nat_tests)

pub returns-in-Whole-48-to-57 : goal.returns-in-Whole-48-to-57
unfolding size_next is_digit
returns-in-Whole-48-to-57 c = grind (arith, nat_tests)

pub returns-in-Whole-48-to-57-2 : goal.returns-in-Whole-48-to-57-2
unfolding size_next is_digit
returns-in-Whole-48-to-57-2 c = grind (arith, nat_tests)

pub returns-in_default : goal.returns-in_default
unfolding size_next is_digit
returns-in_default c = grind (arith, nat_tests)

pub returns-in_default-2 : goal.returns-in_default-2
unfolding size_next is_digit
returns-in_default-2 c = grind (arith, nat_tests)

pub returns-in_default-3 : goal.returns-in_default-3
unfolding size_next is_digit
returns-in_default-3 c = grind (arith, nat_tests)

pub returns-in_default-4 : goal.returns-in_default-4
unfolding size_next is_digit
returns-in_default-4 c = grind (arith, nat_tests)

pub returns-in_default-5 : goal.returns-in_default-5
unfolding size_next is_digit
returns-in_default-5 c = grind (arith, nat_tests)
