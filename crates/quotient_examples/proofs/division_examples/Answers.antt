use mathlib.Core.Path.{refl}
use borrow.Author.Rules.{rules}
use Rattle.element.specs.Types.{is_value}
use Rattle.quotient_examples.proofs.division_examples.Goals as goal

pub division-requires : goal.division-requires
unfolding is_value
division-requires g c = (search rules, ((refl, refl), (refl, refl)))

pub division-requires-2 : goal.division-requires-2
unfolding is_value
division-requires-2 g c = (search rules, ((refl, refl), (refl, refl)))
