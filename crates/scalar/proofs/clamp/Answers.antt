use Rattle.std.proofs.Common.{◌∙◌}
use Rattle.scalar.specs.Ops.{clamp_of}
use Rattle.scalar.proofs.clamp.Goals as goal

pub returns : goal.returns
unfolding clamp_of
returns c = c.minimum.ensures ∙ rw c.maximum.ensures
