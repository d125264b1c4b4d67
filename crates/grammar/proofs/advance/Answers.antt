use mathlib.Core.Path.{refl}
use native.Mathlib.Omega.{arith}
use Rattle.grammar.proofs.TableRight.{tail-short}
use Rattle.grammar.proofs.StepLaw.{sought-none, sought-all, by-rule, by-leaf, by-fail, by-skip}
use Rattle.grammar.proofs.advance.Goals as goal

pub loop-i-init : goal.loop-i-init
loop-i-init c = (refl, sought-none _ _ _ c.requires.1)

pub returns-in-43 : goal.returns-in-43
returns-in-43 c =
    let l = c.loop-i in
    let a = c.cell_at in
    rw (← l.invariant.0) (by-leaf l.stack _ _ l.i a.result (omega arith) l.invariant.1 a.ensures.0 c.in-43.is)

pub returns-in_default : goal.returns-in_default
returns-in_default c =
    let l = c.loop-i in
    let a = c.cell_at in
    rw (← l.invariant.0)
    (by-rule l.stack _ _ l.i a.result (omega arith) l.invariant.1 a.ensures.0 _ _ _ (omega arith) c.symbol_of.ensures
    (tail-short a.result (omega arith) a.ensures.1) c.push.ensures)

pub returns-in_default-2 : goal.returns-in_default-2
returns-in_default-2 c =
    let l = c.loop-i in
    let a = c.cell_at in
    rw (← l.invariant.0) (by-fail l.stack _ _ l.i a.result (omega arith) l.invariant.1 a.ensures.0 (omega arith) (λ q. omega arith) (λ q. omega arith))

pub loop-i-preserved : goal.loop-i-preserved
loop-i-preserved c =
    let l = c.loop-i in
    let a = c.cell_at in
    (l.invariant.0, by-skip l.stack _ _ l.i a.result (omega arith) l.invariant.1 a.ensures.0 c.in-45.is)

pub returns : goal.returns
returns c =
    let l = c.loop-i in
    rw (← l.invariant.0) (sought-all l.stack _ _ l.i l.invariant.1 (omega arith))
