use Rattle.std.proofs.Common.{◌≡◌, refl, ℕ, ◌+◌, drop, Some}
use lib.Dec.{eqb}
use Rattle.lists.specs.Lists.{pick}
use Rattle.scan.specs.declared.typetext.Dimension.{Dimension}
use Rattle.scan.specs.declared.typetext.Dimension.TheVariants.{Whole, Digits, Unknown}
use Rattle.scan.specs.TypeText.{size_number, shape_end_from, shape_end}
use Rattle.scan.proofs.TypeLaw.{shape-past, shape-step}
use Rattle.scan.proofs.typetext.shape_end.Goals as goal
use Rattle.scan.proofs.typetext.shape_end.Goals.{in-Whole, in_default}

goes-on : (d : Dimension) (a b e : ℕ) (f : ℕ → ℕ) → (d ≡ Whole → ⊥) → f e ≡ pick (eqb (size_number (Some d)) 3) a (f (pick (eqb (size_number (Some d)) 0) b e))
goes-on Whole a b e f n = absurd (n refl)
goes-on Digits a b e f n = refl
goes-on Unknown a b e f n = refl

pub returns-in-None : goal.returns-in-None
unfolding shape_end
returns-in-None c = rw (← c.tail-b-items.ensures, ← c.loop-i.invariant, shape-step _ _ _ _ _ c.loop-i-test.true, ← c.in-None.ensures)

pub loop-i-preserved : goal.loop-i-preserved
loop-i-preserved c = rw (← c.loop-i.invariant, shape-step _ _ _ _ _ c.loop-i-test.true, ← c.in-Some.ensures) (elim c.match-size.branch [
  | in-Whole w ↦ rw (w.end-is, w.in-Whole.is)
  | in_default w ↦ let next = c.in-Some.next in rw w.end-is (goes-on next _ _ _ (λ (e : ℕ). shape_end_from e (size_number (Some next)) (c.args.at + (c.loop-i.i + 1)) (drop (c.loop-i.i + 1) c.tail-b-items.result.now)) w.in_default.not-Whole)
])

pub returns : goal.returns
unfolding shape_end
returns c = rw (← c.tail-b-items.ensures, ← c.loop-i.invariant, shape-past _ _ _ _ _ c.loop-i-test.false)
