use native.Mathlib.Omega.{arith}
use borrow.Author.Tests.{eq-eqb, ne_eqb}
use Rattle.attributes.proofs.AttributesLaw.{attributes-most, seek-none, seek-next, seek-here, seek-end}
use Rattle.attributes.proofs.stands_at.Goals as goal

pub loop-j-init : goal.loop-j-init
loop-j-init c = (c.attributes_of-j-end.ensures, omega arith, let a = c.args in seek-none a.text.now a.op a.k)

pub attribute_of-requires : goal.attribute_of-requires
attribute_of-requires c = let m = attributes-most c.args.op in let q = c.loop-j.invariant.0 in let h = c.loop-j-test.true in omega arith

pub returns-then-attribute_of-k-clause-found : goal.returns-then-attribute_of-k-clause-found
returns-then-attribute_of-k-clause-found c =
    let v = c.loop-j.invariant in
    let h = c.loop-j-test.true in
    let a = c.args in
    seek-here a.text.now a.op a.k c.loop-j.j v.2 (rw (← v.0) h) (rw (← c.attribute_of.ensures) (eq-eqb _ _ c.if-attribute_of-k.true))

pub returns-then-attribute_of-k-clause-within : goal.returns-then-attribute_of-k-clause-within
returns-then-attribute_of-k-clause-within c = rw (← c.loop-j.invariant.0) c.loop-j-test.true

pub loop-j-preserved : goal.loop-j-preserved
loop-j-preserved c =
    let v = c.loop-j.invariant in
    let h = c.loop-j-test.true in
    let a = c.args in
    (v.0, omega arith, seek-next a.text.now a.op a.k c.loop-j.j v.2 (rw (← v.0) h) (rw (← c.attribute_of.ensures) (ne_eqb _ _ c.if-attribute_of-k.false)))

pub returns-clause-found : goal.returns-clause-found
returns-clause-found c =
    let v = c.loop-j.invariant in
    let a = c.args in
    seek-end a.text.now a.op a.k c.loop-j.j v.2 (rw (← v.0) c.loop-j-test.false) (rw (← v.0) v.1)
