use mathlib.Core.Path.{sym, ◌∙◌}
use native.Mathlib.Omega.{arith}
use Rattle.dimrules.proofs.CountLaw.{reach-none, reach-next}
use Rattle.attributes.specs.Attributes.{attribute_fits}
use Rattle.attributes.proofs.AttributesLaw.{attributes-most, fails-at, passes-all}
use Rattle.attributes.proofs.each_fits.Goals as goal

pub loop-j-init : goal.loop-j-init
loop-j-init c =
    let a = c.args in
    (c.attributes_of-j-end.ensures, omega arith, reach-none c.attributes_of-j-end.result (attribute_fits a.text.now a.op a.row))

pub attribute_fits-requires : goal.attribute_fits-requires
attribute_fits-requires c = let m = attributes-most c.args.op in let q = c.loop-j.invariant.0 in let h = c.loop-j-test.true in omega arith

pub returns-then-not-attribute_fits : goal.returns-then-not-attribute_fits
returns-then-not-attribute_fits c =
    let a = c.args in
    let v = c.loop-j.invariant in
    rw (← v.0)
    (fails-at c.attributes_of-j-end.result (attribute_fits a.text.now a.op a.row) c.loop-j.j v.2 c.loop-j-test.true (sym c.attribute_fits.ensures ∙ c.if-not-attribute_fits.true))

pub loop-j-preserved : goal.loop-j-preserved
loop-j-preserved c =
    let a = c.args in
    let v = c.loop-j.invariant in
    let h = c.loop-j-test.true in
    (v.0, omega arith, reach-next c.attributes_of-j-end.result (attribute_fits a.text.now a.op a.row) c.loop-j.j v.2 h (sym c.attribute_fits.ensures ∙ c.if-not-attribute_fits.false))

pub returns : goal.returns
returns c =
    let a = c.args in
    let v = c.loop-j.invariant in
    rw (← v.0) (passes-all c.attributes_of-j-end.result (attribute_fits a.text.now a.op a.row) c.loop-j.j v.2 c.loop-j-test.false v.1)
