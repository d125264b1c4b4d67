use Rattle.op_checks.specs.OpChecks.{compare_type_is}
use Rattle.optable.proofs.TableLaw.{choices-count, signed-place, unsigned-place}
use borrow.Author.Tests.{eq-eqb, ne_eqb}
use Rattle.rules.proofs.compare_type_is.Goals as goal
use Rattle.rules.proofs.compare_type_is.Goals.{then-is_signed, else-is_signed}

pub returns-then-choice-eq-NONE : goal.returns-then-choice-eq-NONE
unfolding compare_type_is
returns-then-choice-eq-NONE c = simp (choices-count, eq-eqb _ _ c.if-choice-eq-NONE.true)

pub returns-else-choice-eq-NONE : goal.returns-else-choice-eq-NONE
unfolding compare_type_is
returns-else-choice-eq-NONE c = elim c.if-is_signed.branch [
  | then-is_signed w ↦ simp (choices-count, signed-place, ne_eqb _ _ c.if-choice-eq-NONE.false, ← c.is_signed.ensures, w.if-is_signed.true, w.of_type-is)
  | else-is_signed w ↦ simp (choices-count, unsigned-place, ne_eqb _ _ c.if-choice-eq-NONE.false, ← c.is_signed.ensures, w.if-is_signed.false, w.of_type-is)
]
