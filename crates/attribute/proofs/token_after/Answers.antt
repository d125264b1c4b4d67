use mathlib.Core.Path.{◌≡◌, sym, ◌∙◌}
use Prim.Native.Nat.{◌+◌, ◌-◌}
use native.Mathlib.Omega.{arith}
use native.Mathlib.Numerals.{unary_clauses}
use Rattle.attribute.proofs.ScanLaw.{after-step, after_none}
use Rattle.attribute.proofs.token_after.Goals as goal

pub loop-init : goal.loop-init
loop-init c = (omega arith, simp unary_clauses)

pub loop-preserved : goal.loop-preserved
loop-preserved c =
    let l = c.loop in
    let text = c.args.text.now in
    let t = c.loop-test.true in
    let e : c.args.n - (l.counter + 1) ≡ c.args.n - l.counter - 1 = omega arith in
    (omega arith, rw (e, c.past-c.ensures) (sym (after-step (c.args.n - l.counter) text l.c (omega arith)) ∙ l.invariant.1))

pub returns : goal.returns
returns c =
    let l = c.loop in
    let t = c.loop-test.false in
    c.token.ensures ∙ sym (after_none (c.args.n - l.counter) c.args.text.now l.c (omega arith)) ∙ l.invariant.1
