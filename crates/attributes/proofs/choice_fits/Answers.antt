use mathlib.Core.Path.{◌∙◌}
use Rattle.std.specs.Prelude.{Some}
use Rattle.optable.specs.Table.{choices}
use Rattle.attributes.specs.Attributes.{choice_fits}
use Rattle.attributes.proofs.KindLaw.{same-kind}
use Rattle.attributes.proofs.choice_fits.Goals as goal

pub returns : goal.returns
unfolding choice_fits choices
returns c =
    c.eq.ensures ∙ same-kind c.choice_kind.result (Some c.args.kind)
    ∙ simp (c.choice_kind.ensures, c.unwrap_or-choice.ensures, c.choice_at.ensures.found)
