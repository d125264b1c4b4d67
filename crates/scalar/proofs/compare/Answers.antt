use Rattle.std.proofs.Common.{◌∙◌}
use Rattle.scalar.specs.Ops.{holds, compare_of}
use Rattle.scalar.proofs.Bytes.{byte-pick}
use Rattle.scalar.proofs.compare.Goals as goal

pub returns : goal.returns
unfolding compare_of
returns c = c.from.ensures ∙ rw c.compares.ensures (byte-pick (holds c.args.d c.args.t c.args.a c.args.b))
