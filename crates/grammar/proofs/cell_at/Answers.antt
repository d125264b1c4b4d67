use borrow.Author.Rules.{rules}
use borrow.Author.Tests.{lt-ltb, le-ltb}
use Rattle.grammar.specs.Machine.{cell}
use Rattle.grammar.specs.Tables.{lettered}
use Rattle.grammar.proofs.CellRows.{cells}
use Rattle.grammar.proofs.TableRight.{cell-right}
use Rattle.grammar.proofs.cell_at.Goals as goal
use Rattle.grammar.proofs.cell_at.Goals.{else-s-lt-COUNT-via-then-s-lt-COUNT+else-kind-lt-COUNT, else-s-lt-COUNT-via-else-s-lt-COUNT}

pub returns-then-kind-lt-COUNT : goal.returns-then-kind-lt-COUNT
unfolding cells
returns-then-kind-lt-COUNT c = cell-right c.args.s c.args.kind (search rules) (search rules)

pub returns-else-s-lt-COUNT : goal.returns-else-s-lt-COUNT
unfolding cell lettered
returns-else-s-lt-COUNT c = elim c.else-s-lt-COUNT.branch [
  | else-s-lt-COUNT-via-then-s-lt-COUNT+else-kind-lt-COUNT w ↦ (simp (lt-ltb _ _ w.if-s-lt-COUNT.true, le-ltb _ _ w.if-kind-lt-COUNT.false), search rules)
  | else-s-lt-COUNT-via-else-s-lt-COUNT w ↦ (simp (le-ltb _ _ w.if-s-lt-COUNT.false), search rules)
]
