use Rattle.std.proofs.Common.{arith}
use Rattle.std.proofs.lemmas.Bool.Decides.{nat_tests}
use Rattle.scan.specs.TypeText.{byte_end}
use Rattle.scan.proofs.typetext.byte_end.Goals as goal
use Rattle.scan.proofs.typetext.byte_end.Goals.{else-at-text-via-then-at-text+else-text-at, else-at-text-via-else-at-text}

pub returns-then-text-at : goal.returns-then-text-at
unfolding byte_end
returns-then-text-at c = grind (arith, nat_tests)

pub returns-else-at-text : goal.returns-else-at-text
unfolding byte_end
returns-else-at-text c = elim c.else-at-text.branch [
  | else-at-text-via-then-at-text+else-text-at w ↦ grind (arith, nat_tests)
  | else-at-text-via-else-at-text w ↦ grind (arith, nat_tests)
]
