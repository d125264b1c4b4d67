use mathlib.Core.Path.{◌≡◌, refl, sym, ◌∙◌}
use Prim.Native.Nat.{◌+◌, ◌-◌}
use native.Mathlib.Omega.{arith}
use Rattle.cursor.specs.Cursor.{token_of, cursor_after}
use Rattle.attribute.specs.Attribute.{none_read}
use Rattle.attribute.proofs.ScanLaw.{numbers_more, numbers-stop, numbers-none}
use Rattle.attribute.proofs.numbers_from.Goals as goal

pub loop-init : goal.loop-init
unfolding none_read
loop-init c = (omega arith, refl)

pub loop-preserved : goal.loop-preserved
loop-preserved c =
    let l = c.loop in
    let text = c.args.text.now in
    let t = c.loop-test.true in
    let mark = c.token-mark in
    let goes = sym c.goes_on.ensures ∙ c.if-not-goes_on.false in
    let number = c.token-number in
    let read : number.result ≡ token_of text (cursor_after mark.result) = rw (← c.after.ensures) number.ensures in
    let e : 6 - (l.counter + 1) ≡ 6 - l.counter - 1 = omega arith in (
      omega arith,
      rw (e, c.after-c.ensures, c.with_number-ns.ensures, c.pattern_at.ensures)
          (sym (numbers_more (6 - l.counter) l.ns text l.c mark.result number.result (omega arith) mark.ensures read goes) ∙ l.invariant.1),
    )

pub returns-then-not-goes_on : goal.returns-then-not-goes_on
returns-then-not-goes_on c =
    let l = c.loop in
    let t = c.loop-test.true in
    let mark = c.token-mark in
    sym (numbers-stop (6 - l.counter) l.ns c.args.text.now l.c mark.result (omega arith) mark.ensures (sym c.goes_on.ensures ∙ c.if-not-goes_on.true)) ∙ l.invariant.1

pub returns : goal.returns
returns c =
    let l = c.loop in
    let t = c.loop-test.false in
    sym (numbers-none (6 - l.counter) l.ns c.args.text.now l.c.at (omega arith)) ∙ l.invariant.1
