use Rattle.std.proofs.Common.{◌%◌, ◌^◌, mod-lt, arith, pow_pos}
use Rattle.element.specs.Types.{width_of}
use Rattle.scalar.specs.Ops.{count_leading_zeros_of}
use Rattle.element.proofs.Slots.{sized, low-is}
use Rattle.scalar.proofs.Shift.{leading-more}
use Rattle.scalar.proofs.count_leading_zeros.Goals as goal

pub overflow_sub-result-2 : goal.overflow_sub-result-2
overflow_sub-result-2 c =
    let t = c.args.t in let a = c.args.a in
    rw (c.from.ensures, c.mask.ensures, low-is t a, c.width.ensures, ← leading-more (width_of t) 64 (a % 2 ^ width_of t) (sized t).most (mod-lt a (pow_pos (width_of t)))) (omega arith)

pub returns : goal.returns
unfolding count_leading_zeros_of
returns c =
    let t = c.args.t in let a = c.args.a in
    rw (c.from.ensures, c.mask.ensures, low-is t a, c.width.ensures, ← leading-more (width_of t) 64 (a % 2 ^ width_of t) (sized t).most (mod-lt a (pow_pos (width_of t)))) (omega arith)
