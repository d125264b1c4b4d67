use Rattle.optable.specs.Table.{names, op_names, attribute_names, choice_kind_names, choice_names, ops, attributes, choice_kinds, choices}
use Rattle.optable.specs.Find.{find_attribute}
use Rattle.optable.proofs.TableLaw.{names-length}
use borrow.Author.Rules.{rules}
use Rattle.optable.proofs.find_attribute.Goals as goal

pub find-requires : goal.find-requires
find-requires c = search (rules, names-length)

pub returns-clause-found : goal.returns-clause-found
unfolding find_attribute names op_names attribute_names choice_kind_names choice_names ops attributes choice_kinds choices
returns-clause-found c = c.find.ensures.found

pub returns-clause-within : goal.returns-clause-within
unfolding ops attributes choice_kinds choices
returns-clause-within c = c.find.ensures.within
