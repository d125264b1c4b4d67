use mathlib.Core.Path.{refl}
use Rattle.lists.specs.Lists.{all_below}
use borrow.Author.Rules.{rules}
use Rattle.more_examples.proofs.empty.pad_examples.Goals as goal

pub pad-requires : goal.pad-requires
unfolding all_below
pad-requires g c = ((refl, refl, search rules), (refl, refl, refl), (refl, refl))
