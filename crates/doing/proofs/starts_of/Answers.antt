use Rattle.elementwise.proofs.FillLaw.{done_none, done_next, done_all}
use borrow.Author.Rules.{rules}
use Rattle.doing.proofs.starts_of.Goals as goal

pub loop-d-init : goal.loop-d-init
loop-d-init c = done_none

pub loop-d-preserved : goal.loop-d-preserved
loop-d-preserved c = done_next _ (search rules) c.slot_at.ensures c.loop-d.invariant

pub returns : goal.returns
returns c = done_all (search rules) c.loop-d.invariant
