use Rattle.std.proofs.Common.{sym, ◌∙◌}
use Rattle.scalar.proofs.Shift.{abs-plain, abs-least, abs-negative}
use Rattle.scalar.proofs.abs.Goals as goal

pub returns-then-a-lowest : goal.returns-then-a-lowest
returns-then-a-lowest c =
    let s = c in
    c.highest.ensures ∙ abs-least s.args.t s.ranges.a.fits (sym c.is_negative.ensures ∙ c.if-not-is_negative.false) (c.if-a-lowest.true ∙ c.lowest.ensures)

pub returns-else-a-lowest : goal.returns-else-a-lowest
returns-else-a-lowest c =
    let s = c in
    abs-negative s.args.t s.ranges.a.fits (sym c.is_negative.ensures ∙ c.if-not-is_negative.false) (λ e. c.if-a-lowest.false (e ∙ sym c.lowest.ensures)) c.wrapping_neg.type_inv c.wrapping_neg.ensures

pub returns-then-not-is_negative : goal.returns-then-not-is_negative
returns-then-not-is_negative c = abs-plain c.args.t c.ranges.a.fits (sym c.is_negative.ensures ∙ c.if-not-is_negative.true)
