use mathlib.Core.Path.{◌≡◌, sym, ◌∙◌}
use Prim.Native.Nat.{◌+◌, ◌-◌}
use native.Mathlib.Omega.{arith}
use lib.ListN.{length}
use native.Mathlib.Numerals.{unary_clauses}
use Rattle.attribute.proofs.ScanLaw.{close-stop, close_more, close-none}
use Rattle.attribute.proofs.close_of.Goals as goal

pub loop-init : goal.loop-init
loop-init c = (omega arith, simp unary_clauses)

pub returns-then-ends_literal : goal.returns-then-ends_literal
returns-then-ends_literal c =
    let l = c.loop in
    let text = c.args.text.now in
    let m = c.loop-test.true in
    let t = c.token-t in
    rw c.after-c.ensures
    (sym (close-stop (length text - l.counter) text l.c t.result (omega arith) t.ensures (sym c.ends_literal.ensures ∙ c.if-ends_literal.true)) ∙ l.invariant.1)

pub loop-preserved : goal.loop-preserved
loop-preserved c =
    let l = c.loop in
    let text = c.args.text.now in
    let m = c.loop-test.true in
    let t = c.token-t in
    let e : length text - (l.counter + 1) ≡ length text - l.counter - 1 = omega arith in (
      omega arith,
      rw (e, c.after-c.ensures)
          (sym (close_more (length text - l.counter) text l.c t.result (omega arith) t.ensures (sym c.ends_literal.ensures ∙ c.if-ends_literal.false)) ∙ l.invariant.1),
    )

pub returns : goal.returns
returns c =
    let l = c.loop in
    let m = c.loop-test.false in
    sym (close-none (length c.args.text.now - l.counter) c.args.text.now l.c.at (omega arith)) ∙ l.invariant.1
