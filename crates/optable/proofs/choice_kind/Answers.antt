use mathlib.Core.Path.{refl, ◌∙◌}
use borrow.Author.Tests.{lt-ltb, le-ltb}
use Rattle.optable.specs.Table.{choice_kind, said_at, choices}
use Rattle.optable.proofs.TableLaw.{choices-count}
use Rattle.optable.proofs.choice_kind.Goals as goal

pub returns-then-k-lt-NONE : goal.returns-then-k-lt-NONE
unfolding choice_kind said_at choices
returns-then-k-lt-NONE c = c.kind_said.ensures ∙ rw (lt-ltb _ _ c.if-k-lt-NONE.true) refl

pub returns : goal.returns
unfolding choice_kind
returns c = simp (choices-count, le-ltb _ _ c.if-k-lt-NONE.false)
