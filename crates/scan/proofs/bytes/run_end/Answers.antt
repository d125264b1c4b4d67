use Rattle.std.proofs.Common.{◌∙◌, sym}
use Rattle.scan.specs.Bytes.{run_end}
use Rattle.scan.proofs.ByteLaw.{tail-end, run-step, run_past}
use Rattle.scan.proofs.bytes.run_end.Goals as goal

pub returns-then-not-in_run : goal.returns-then-not-in_run
unfolding run_end
returns-then-not-in_run c = rw (← c.tail-b-items.ensures, ← c.loop-i.invariant, run-step _ _ _ _ c.loop-i-test.true) (simp (← c.in_run.ensures, c.if-not-in_run.true))

pub loop-i-preserved : goal.loop-i-preserved
loop-i-preserved c = rw (← c.loop-i.invariant, run-step _ _ _ _ c.loop-i-test.true) (simp (← c.in_run.ensures, c.if-not-in_run.false))

pub returns : goal.returns
unfolding run_end
returns c = rw (← c.tail-b-items.ensures, ← c.loop-i.invariant, run_past _ _ _ _ c.loop-i-test.false) (c.max.ensures ∙ sym (tail-end _ _ _ _ c.tail-b-items.ensures c.loop-i.auto.i-end c.loop-i-test.false))
