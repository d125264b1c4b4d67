-- Each turn adds to what was read before.
use Rattle.std.proofs.Common.{rules}
use Rattle.streams.proofs.TookLaw.{turn-more}
use Rattle.streams.proofs.further_bytes.Goals as goal

pub loop-preserved : goal.loop-preserved
loop-preserved g c = record {
  within = search rules;
  bytes = turn-more _ _ _ _ _ _ c.loop-test.true c.in_ok-n.ensures.within c.loop.invariant.bytes c.in_ok-n.ensures.bytes;
}
