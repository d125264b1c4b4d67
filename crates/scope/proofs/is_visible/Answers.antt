use mathlib.Core.Path.{refl, sym, ◌∙◌}
use Rattle.scope.proofs.ScopeLaw.{visible-next, visible-end}
use Rattle.scope.proofs.is_visible.Goals as goal

pub loop-i-init : goal.loop-i-init
loop-i-init c = refl

pub returns-then-is_definition : goal.returns-then-is_definition
returns-then-is_definition c = rw (← c.loop-i.invariant, visible-next _ _ _ _ c.loop-i-test.true) (simp (← c.is_definition.ensures, c.if-is_definition.true))

pub loop-i-preserved : goal.loop-i-preserved
loop-i-preserved c = rw (← c.loop-i.invariant, visible-next _ _ _ _ c.loop-i-test.true) (simp (← c.is_definition.ensures, c.if-is_definition.false))

pub returns : goal.returns
returns c = sym (visible-end _ _ _ _ c.loop-i-test.false) ∙ c.loop-i.invariant
