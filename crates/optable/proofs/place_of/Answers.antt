use Rattle.optable.proofs.ScanLaw.{name-here, name-next, name-none}
use Rattle.optable.proofs.TableLaw.{names-length}
use borrow.Author.Rules.{rules}
use Rattle.optable.proofs.place_of.Goals as goal

pub overflow_add-first : goal.overflow_add-first
overflow_add-first c = search (rules, names-length)

pub returns-then-eq-clause-found : goal.returns-then-eq-clause-found
returns-then-eq-clause-found c = name-here _ _ _ c.requires _ c.loop-k.invariant.1 c.loop-k-test.true _ c.name_at.ensures _ c.eq.ensures c.if-eq.true

pub loop-k-preserved : goal.loop-k-preserved
loop-k-preserved c = (search rules, name-next _ _ _ c.requires _ c.loop-k.invariant.1 c.loop-k-test.true _ c.name_at.ensures _ c.eq.ensures c.if-eq.false)

pub returns-clause-found : goal.returns-clause-found
returns-clause-found c = name-none _ _ _ c.requires _ c.loop-k.invariant.1 c.loop-k-test.false c.loop-k.invariant.0
