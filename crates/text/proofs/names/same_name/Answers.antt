use Rattle.std.proofs.Common.{arith, ◌∙◌}
use Rattle.std.proofs.lemmas.Bool.Decides.{nat_tests}
use borrow.Author.Tests.{eq-eqb}
use Rattle.text.specs.Names.{same_name}
use Rattle.text.proofs.NameLaw.{same-slices}
use Rattle.text.proofs.names.same_name.Goals as goal

pub returns-then-a-b : goal.returns-then-a-b
unfolding same_name
returns-then-a-b c = rw (eq-eqb _ _ c.if-a-b.true, ← c.name_bytes.ensures, ← c.name_bytes-then-a-b.ensures) (c.eq.ensures ∙ same-slices _ _)

pub returns-else-a-b : goal.returns-else-a-b
unfolding same_name
returns-else-a-b c = grind (arith, nat_tests)
