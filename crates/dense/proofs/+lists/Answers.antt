use borrow.Author.Rules.{rules}
use Rattle.std.proofs.lemmas.Result.{err_from_is_err_and}
use mathlib.Core.Path.{◌≡◌, refl, ◌∙◌}
use native.Mathlib.Omega.{arith}
use lib.ListN.{length}
use Rattle.dense.proofs.ReadLaw.{close-items, no-separator, no_item, next-item, dense-one, no-bracket, first-item}
use Prim.Native.Nat.{◌≤◌}
use Rattle.dense.proofs.+lists.Goals as goal

pub returns-then-k-eq0 : goal.returns-then-k-eq0
returns-then-k-eq0 t c = c.element.ensures ∙ dense-one _ _ _ _ _ _ _ c.if-k-eq0.true

pub returns-in_err-here : goal.returns-in_err-here
returns-in_err-here t c =
    let a = c.args in
    let h : a.k ≤ a.shape.rank = c.requires.0 in
    let six : length a.shape.dims ≡ 6 = search rules in
    let l : a.shape.rank ≤ length a.shape.dims = omega (arith, c.requires.1) in
    let p = err_from_is_err_and c.from_residual.result c.from_residual.ensures.1 in rw (p.1, p.2) (no-bracket _ _ _ _ _ _ c.if-k-eq0.false h l _ _ c.in_err-here.ensures refl)

pub loop-j-init : goal.loop-j-init
loop-j-init t c =
    let a = c.args in
    let h : a.k ≤ a.shape.rank = c.requires.0 in
    let six : length a.shape.dims ≡ 6 = search rules in
    let l : a.shape.rank ≤ length a.shape.dims = omega (arith, c.requires.1) in
    (refl, first-item _ _ _ _ _ _ c.if-k-eq0.false h l _ _ c.in_ok-here.ensures refl)

pub returns-in_err-item : goal.returns-in_err-item
returns-in_err-item t c = let p = err_from_is_err_and c.from_residual-in_err-item.result c.from_residual-in_err-item.ensures.1 in rw (p.1, p.2) (no-separator _ _ _ _ _ _ _ c.loop-j-test.true c.in_err-item.ensures refl ∙ c.loop-j.invariant.1)

pub returns-in_err-here-2 : goal.returns-in_err-here-2
returns-in_err-here-2 t c = let p = err_from_is_err_and c.from_residual-in_err-here-2.result c.from_residual-in_err-here-2.ensures.1 in rw (p.1, p.2) (no_item _ _ _ _ _ _ _ c.loop-j-test.true c.in_ok-item.ensures _ refl c.in_err-here-2.ensures refl ∙ c.loop-j.invariant.1)

pub loop-j-preserved : goal.loop-j-preserved
loop-j-preserved t c = (c.lists.auto.out ∙ c.loop-j.invariant.0, next-item _ _ _ _ _ _ _ c.loop-j-test.true c.in_ok-item.ensures _ refl c.in_ok-here-2.ensures refl ∙ c.loop-j.invariant.1)

pub returns : goal.returns
returns t c = close-items _ _ _ _ _ _ _ c.loop-j-test.false c.mark-2.ensures ∙ c.loop-j.invariant.1
