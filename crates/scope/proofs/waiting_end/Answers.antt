use mathlib.Core.Path.{◌≡◌, refl}
use Prim.Native.Nat.{suc, ◌+◌}
use lib.ListN.{drop}
use borrow.Author.Tests.{lt-ltb, le-ltb}
use Rattle.scope.specs.Scoped.{waiting_count}
use Rattle.scope.proofs.ScopeLaw.{count_next, count-end}
use native.Mathlib.Omega.{arith}
use Rattle.scope.proofs.waiting_end.Goals as goal

pub loop-i-init : goal.loop-i-init
loop-i-init c = refl

pub returns-then-entries-i-le-BODY : goal.returns-then-entries-i-le-BODY
returns-then-entries-i-le-BODY c =
    let l = c.loop-i in
    let z : waiting_count (drop l.i c.args.entries.now) ≡ 0 = rw (count_next _ _ c.loop-i-test.true, le-ltb _ _ c.if-entries-i-le-BODY.true) in
    let n = l.invariant in
    omega arith

pub loop-i-preserved : goal.loop-i-preserved
loop-i-preserved c =
    let l = c.loop-i in
    let z : waiting_count (drop l.i c.args.entries.now) ≡ suc (waiting_count (drop (l.i + 1) c.args.entries.now)) = rw (count_next _ _ c.loop-i-test.true, lt-ltb _ _ c.if-entries-i-le-BODY.false) in
    let n = l.invariant in
    omega arith

pub returns : goal.returns
returns c =
    let l = c.loop-i in
    let z = count-end c.args.entries.now l.i c.loop-i-test.false in
    let n = l.invariant in
    omega arith
