use mathlib.Core.Path.{ap, ◌∙◌}
use mathlib.Core.List.{List, [], ◌∷◌}
use Rattle.optable.specs.declared.ValueKind.{ValueKind}
use Rattle.optable.specs.declared.ValueKind.TheVariants.{CompareType, Direction}
use Rattle.optable.specs.Table.{choice_form, choice_kinds, kind_number}
use Rattle.optable.proofs.TableLaw.{kind-read}
use Rattle.optable.proofs.choice_form.Goals as goal

abbrev kinds : List ValueKind
kinds = Direction ∷ CompareType ∷ []

pub returns : goal.returns
unfolding choice_form choice_kinds
returns c = ap kind_number c.copied.ensures ∙ kind-read kinds _ _ c.get.ensures.lookup
