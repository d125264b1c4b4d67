use mathlib.Core.Path.{sym, ◌∙◌}
use borrow.Author.Tests.{le-leb}
use Rattle.element.proofs.Range.{low_value, signed_test, unsigned-test}
use Rattle.element.proofs.is_value.Goals as goal

pub returns-then-s-highest : goal.returns-then-s-highest
returns-then-s-highest c = le-leb c.args.s c.highest.result c.if-s-highest.true ∙ sym (low_value c.args.t (rw c.highest.ensures at c.if-s-highest.true))

pub returns-then-is_signed : goal.returns-then-is_signed
returns-then-is_signed c =
    let s = c in
    rw c.lowest.ensures
    (signed_test s.args.t s.ranges.s.fits (rw c.highest.ensures at c.if-s-highest.false)
    (sym c.is_signed.ensures ∙ c.if-is_signed.true))

pub returns-else-is_signed : goal.returns-else-is_signed
returns-else-is_signed c =
    let s = c in
    c.if-is_signed.false ∙ unsigned-test s.args.t s.ranges.s.fits (rw c.highest.ensures at c.if-s-highest.false)
    (sym c.is_signed.ensures ∙ c.if-is_signed.false)
