use Rattle.optable.proofs.TableLaw.{value-place, type-place}
use Rattle.typing.specs.Typing.{operation_of}
use Rattle.typing.proofs.operation_of.Goals as goal

pub returns : goal.returns
unfolding operation_of
returns c = simp (value-place, type-place, ← c.body_type-right.ensures, ← c.body_type-left.ensures, ← c.dense_type-value.ensures, ← c.choice_of-choice.ensures, ← c.numbers_of-c.ensures, ← c.numbers_of-b.ensures, ← c.numbers_of-a.ensures, ← c.type_of-result.ensures, ← c.types_of-types.ensures, ← c.arity_of-arity.ensures)
