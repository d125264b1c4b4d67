use mathlib.Core.Path.{◌≡◌, sym, subst, ◌∙◌}
use borrow.Author.Tests.{ltb-true}
use mathlib.Core.Bool.{true, false}
use Prim.Native.Nat.{ℕ, ◌+◌, ◌-◌, ◌<◌}
use lib.ListN.{get_or, drop}
use Rattle.scope.specs.Scope.{visible}
use Rattle.scope.proofs.ScopeLaw.{settling-first, settling-next, settling-fault, settling-end, still-waits}
use borrow.Author.Rules.{rules}
use native.Mathlib.Omega.{arith}
use Rattle.scope.proofs.settle_names.Goals as goal

before-next : {top : ℕ} (k : ℕ) → top < k → k - 1 + 1 ≡ k
before-next k h = omega arith

pub loop-k-init : goal.loop-k-init
loop-k-init c = settling-first _ _ _ _ c.requires c.waiting_end-k.ensures

pub offset_bounds-entries-k : goal.offset_bounds-entries-k
offset_bounds-entries-k c =
    let l = c.loop-k in
    let v = l.invariant in
    let w = v.within in
    let z = v.size in
    let q = v.low in
    search rules

pub bounds-entries-k : goal.bounds-entries-k
bounds-entries-k c =
    let l = c.loop-k in
    let v = l.invariant in
    let w = v.within in
    let z = v.size in
    let q = v.low in
    omega arith

pub overflow_sub-a : goal.overflow_sub-a
overflow_sub-a c =
    let l = c.loop-k in
    ltb-true _ _ (still-waits _ _ _ _ _ l.invariant c.loop-k-test.true)

pub returns-then-is_visible : goal.returns-then-is_visible
returns-then-is_visible c =
    let l = c.loop-k in
    let v = l.invariant in
    let w = v.within in
    let z = v.size in
    let q = v.low in
    record { answer = sym (settling-fault _ _ _ _ _ v c.loop-k-test.true (subst (λ j. visible c.args.text.now (get_or l.entries (l.k - 1) 0 - 131073) (drop j l.entries) ≡ true) (before-next l.k c.loop-k-test.true) (sym c.is_visible.ensures ∙ c.if-is_visible.true))); size = z; room = omega arith; within = omega arith }

pub offset_bounds-entries-k-in-loop-k : goal.offset_bounds-entries-k-in-loop-k
offset_bounds-entries-k-in-loop-k c =
    let l = c.loop-k in
    let v = l.invariant in
    let w = v.within in
    let z = v.size in
    let q = v.low in
    search rules

pub bounds-entries-k-in-loop-k : goal.bounds-entries-k-in-loop-k
bounds-entries-k-in-loop-k c =
    let l = c.loop-k in
    let v = l.invariant in
    let w = v.within in
    let z = v.size in
    let q = v.low in
    omega arith

pub loop-k-preserved : goal.loop-k-preserved
loop-k-preserved c =
    let l = c.loop-k in
    settling-next _ _ _ _ _ l.invariant c.loop-k-test.true (subst (λ j. visible c.args.text.now (get_or l.entries (l.k - 1) 0 - 131073) (drop j l.entries) ≡ false) (before-next l.k c.loop-k-test.true) (sym c.is_visible.ensures ∙ c.if-is_visible.false))

pub returns : goal.returns
returns c =
    let l = c.loop-k in
    let v = l.invariant in
    let w = v.within in
    let z = v.size in
    let q = v.low in
    record { answer = settling-end v c.loop-k-test.false; size = z; room = omega arith; within = omega arith }
