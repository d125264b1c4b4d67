-- Each read adds to what was read before.
use Rattle.std.proofs.Common.{rules}
use Rattle.streams.proofs.TookLaw.{front-more, read-took}
use Rattle.streams.proofs.read_front.Goals as goal

pub loop-done-preserved : goal.loop-done-preserved
loop-done-preserved g c = record {
  within = search rules;
  bytes = front-more _ _ _ _ _ _ _ _ _ c.loop-done.invariant.within c.in_ok-n.ensures.bound.0 c.loop-done.invariant.bytes (read-took _ _ _ _ c.in_ok-n.ensures.bytes);
}
