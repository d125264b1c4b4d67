use Rattle.dimrules.proofs.WholeLaw.{pad-sums, lower-half}
use lib.Dec.{leb-zero}
use mathlib.Core.Path.{sym, ◌∙◌}
use Rattle.dimrules.specs.Whole.{non_negative, padded_is}
use Rattle.dimrules.proofs.padded_is.Goals as goal

pub returns-then-non_negative : goal.returns-then-non_negative
unfolding padded_is non_negative
returns-then-non_negative c =
    let e = sym c.non_negative.ensures ∙ c.if-non_negative.true in
    simp (lower-half c.args.interior e, leb-zero, pad-sums, c.same_sums.ensures, c.saturating_sub-k.ensures, c.split-h.ensures.0, c.split-h.ensures.1, c.split-l.ensures.0, c.split-l.ensures.1)

pub returns-else-non_negative : goal.returns-else-non_negative
unfolding padded_is non_negative
returns-else-non_negative c =
    let e = sym c.non_negative.ensures ∙ c.if-non_negative.false in
    simp (e, c.if-non_negative.false)
