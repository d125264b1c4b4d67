use mathlib.Core.Path.{refl}
use borrow.Author.Rules.{rules}
use Rattle.lists.specs.Lists.{all_below, first_where}
use Rattle.more_examples.proofs.empty.moved_none.Goals as goal

pub transpose-requires : goal.transpose-requires
unfolding all_below first_where
transpose-requires g c = ((refl, refl, search rules), (refl, refl, search rules), (refl, refl, refl))
