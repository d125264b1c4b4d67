use mathlib.Core.Path.{◌∙◌}
use Rattle.attributes.proofs.KindLaw.{differs, dense-fits, direction-fits, type-fits, numbers-fit, number-fits}
use Rattle.attributes.proofs.kind_fits.Goals as goal

pub returns-then-ne : goal.returns-then-ne
returns-then-ne c = differs _ _ _ _ c.form_at.ensures _ c.ne.ensures c.if-ne.true

pub returns-in-Dense : goal.returns-in-Dense
returns-in-Dense c = c.dense_value_fits.ensures ∙ dense-fits _ _ _ _ c.form_at.ensures _ c.ne.ensures c.if-ne.false c.in-Dense.is

pub returns-in-Direction : goal.returns-in-Direction
returns-in-Direction c = c.choice_fits.ensures ∙ direction-fits _ _ _ _ c.form_at.ensures _ c.ne.ensures c.if-ne.false c.in-Direction.is

pub returns-in-CompareType : goal.returns-in-CompareType
returns-in-CompareType c = c.choice_fits-in-CompareType.ensures ∙ type-fits _ _ _ _ c.form_at.ensures _ c.ne.ensures c.if-ne.false c.in-CompareType.is

pub returns-in-Numbers : goal.returns-in-Numbers
returns-in-Numbers c = numbers-fit _ _ _ _ c.form_at.ensures _ c.ne.ensures c.if-ne.false c.in-Numbers.is

pub returns-in-Number : goal.returns-in-Number
returns-in-Number c = number-fits _ _ _ _ c.form_at.ensures _ c.ne.ensures c.if-ne.false c.in-Number.is
