use Rattle.scalar.proofs.Shift.{ones_low}
use Rattle.element.specs.Types.{width_of}
use Rattle.std.proofs.Common.{sym}
use Rattle.scalar.specs.Ops.{popcnt_of}
use Rattle.element.proofs.Slots.{low-is}
use Rattle.scalar.proofs.popcnt.Goals as goal

pub returns : goal.returns
unfolding popcnt_of
returns c = rw (c.from.ensures, c.mask.ensures, low-is c.args.t c.args.a) (sym (ones_low (width_of c.args.t) c.args.a))
