use mathlib.Core.Path.{sym, ap, ◌∙◌}
use Prim.Native.Nat.{ℕ}
use lib.Dec.{eqb}
use Rattle.std.specs.Prelude.{unwrap_or}
use borrow.Author.Tests.{ne_eqb, eq-eqb}
use Rattle.attributes.specs.Attributes.{attribute_fits}
use Rattle.attributes.proofs.AttributesLaw.{found-below}
use Rattle.attributes.proofs.KindLaw.{kind-none, kind-some}
use Rattle.attributes.proofs.attribute_fits.Goals as goal

pub returns-in_default : goal.returns-in_default
unfolding attribute_fits
returns-in_default c = simp (← c.attribute_of-k.ensures, kind-none _ c.in_default.ensures)

pub returns-then-is_none : goal.returns-then-is_none
unfolding attribute_fits
returns-then-is_none c =
    let s = kind-some _ _ c.in-Some.ensures in
    let slot = c.attribute_slot.ensures in
    let n = sym (found-below c.attribute_slot.result _ _ slot.found slot.within) ∙ c.if-is_none.ensures in
    simp (← c.attribute_of-k.ensures, s, n)

pub returns-then-unwrap_or-j : goal.returns-then-unwrap_or-j
unfolding attribute_fits
returns-then-unwrap_or-j c =
    let s = kind-some _ _ c.in-Some.ensures in
    let slot = c.attribute_slot.ensures in
    let n = sym (found-below c.attribute_slot.result _ _ slot.found slot.within) ∙ c.if-is_none.ensures in
    let at = c.unwrap_or.ensures ∙ ap (λ (n : ℕ). unwrap_or c.stands_at.result n) c.attributes_of.ensures ∙ c.stands_at.ensures.found in
    let p = ap (λ (n : ℕ). eqb n c.args.j) (sym at) ∙ ne_eqb c.unwrap_or.result c.args.j c.if-unwrap_or-j.true in
    simp (← c.attribute_of-k.ensures, s, n, p)

pub returns : goal.returns
unfolding attribute_fits
returns c =
    let s = kind-some _ _ c.in-Some.ensures in
    let slot = c.attribute_slot.ensures in
    let n = sym (found-below c.attribute_slot.result _ _ slot.found slot.within) ∙ c.if-is_none.ensures in
    let at = c.unwrap_or.ensures ∙ ap (λ (n : ℕ). unwrap_or c.stands_at.result n) c.attributes_of.ensures ∙ c.stands_at.ensures.found in
    let p = ap (λ (n : ℕ). eqb n c.args.j) (sym at) ∙ eq-eqb c.unwrap_or.result c.args.j c.if-unwrap_or-j.false in
    simp (← c.attribute_of-k.ensures, s, n, p, ← c.in-Some.ensures, c.kind_fits.ensures, ← c.place_of.ensures)
