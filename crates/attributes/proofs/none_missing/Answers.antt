use Prim.Native.Nat.{ℕ}
use mathlib.Core.Bool.{Bool}
use mathlib.Core.Path.{sym, ◌∙◌}
use native.Mathlib.Omega.{arith}
use Rattle.dimrules.proofs.CountLaw.{reach-none, reach-next}
use Rattle.attributes.specs.Attributes.{stands, needed_at}
use Rattle.attributes.proofs.AttributesLaw.{fails-at, passes-all}
use Rattle.attributes.proofs.none_missing.Goals as goal

pub loop-s-init : goal.loop-s-init
loop-s-init c =
    let a = c.args in
    (omega arith, reach-none a.row.needed (λ s. stands a.text.now a.op (needed_at a.row s)))

pub returns-then-not-stands : goal.returns-then-not-stands
returns-then-not-stands c =
    let a = c.args in
    let here : ℕ → Bool = λ s. stands a.text.now a.op (needed_at a.row s) in
    let e = rw c.needed_at.ensures at c.stands.ensures in
    fails-at a.row.needed here c.loop-s.s c.loop-s.invariant.1 c.loop-s-test.true (sym e ∙ c.if-not-stands.true)

pub loop-s-preserved : goal.loop-s-preserved
loop-s-preserved c =
    let a = c.args in
    let here : ℕ → Bool = λ s. stands a.text.now a.op (needed_at a.row s) in
    let e = rw c.needed_at.ensures at c.stands.ensures in
    let h = c.loop-s-test.true in
    (omega arith, reach-next a.row.needed here c.loop-s.s c.loop-s.invariant.1 h (sym e ∙ c.if-not-stands.false))

pub returns : goal.returns
returns c =
    let a = c.args in
    passes-all a.row.needed (λ s. stands a.text.now a.op (needed_at a.row s)) c.loop-s.s c.loop-s.invariant.1 c.loop-s-test.false c.loop-s.invariant.0
