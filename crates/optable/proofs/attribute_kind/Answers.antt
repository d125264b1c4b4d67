use mathlib.Core.Path.{ap, ◌∙◌}
use mathlib.Core.List.{List, [], ◌∷◌}
use Rattle.optable.specs.declared.ValueKind.{ValueKind}
use Rattle.optable.specs.declared.ValueKind.TheVariants.{CompareType, Dense, Direction, Number, Numbers}
use Rattle.optable.specs.Table.{attribute_kind, attributes, kind_number}
use Rattle.optable.proofs.TableLaw.{kind-read}
use Rattle.optable.proofs.attribute_kind.Goals as goal

abbrev kinds : List ValueKind
kinds = Dense ∷ Number ∷ Numbers ∷ Numbers ∷ Numbers ∷ Numbers ∷ Numbers ∷ Number ∷ Numbers ∷ Numbers ∷ Numbers ∷ Numbers ∷ Numbers ∷ Direction ∷ CompareType ∷ []

pub returns : goal.returns
unfolding attribute_kind attributes
returns c = ap kind_number c.copied.ensures ∙ kind-read kinds _ _ c.get.ensures.lookup
