use borrow.Author.Rules.{rules}
use mathlib.Core.Path.{◌≡◌, refl, ◌∙◌}
use native.Mathlib.Omega.{arith}
use lib.ListN.{length, get_or}
use Rattle.shape.specs.Index.{size, rest}
use Rattle.printed.proofs.PrintLaw.{left_step, left_end, next-item, close-items, size_none, value-one, first-left, first-item}
use Prim.Native.Nat.{◌≤◌, ◌-◌}
use Rattle.printed.proofs.+put_lists.Goals as goal

pub bounds-slots-slot : goal.bounds-slots-slot
bounds-slots-slot t c = let a = c.args in
    let z = size_none a.e a.shape.dims a.shape.rank a.k c.if-k-eq0.true in
    omega (arith, z, c.requires)

pub overflow_add-result : goal.overflow_add-result
overflow_add-result t c = let a = c.args in
    let z = size_none a.e a.shape.dims a.shape.rank a.k c.if-k-eq0.true in
    omega (arith, z, c.requires, c.well_formed.1.1.1.0.0)

pub shape_of-out-then-k-eq0 : goal.shape_of-out-then-k-eq0
shape_of-out-then-k-eq0 t c = c.put_literal.auto.out

pub returns-then-k-eq0 : goal.returns-then-k-eq0
returns-then-k-eq0 t c = let a = c.args in
    let z = size_none a.e a.shape.dims a.shape.rank a.k c.if-k-eq0.true in
    (omega (arith, z), c.put_literal.ensures ∙ value-one _ _ _ _ a.slots.now a.slot _ c.if-k-eq0.true)

pub loop-j-init : goal.loop-j-init
loop-j-init t c =
    let a = c.args in
    let h : a.k ≤ a.shape.rank = c.requires.0 in
    let six : length a.shape.dims ≡ 6 = search rules in
    let l : a.shape.rank ≤ length a.shape.dims = omega (arith, c.requires.1) in
    (refl, first-left a.e _ _ _ c.if-k-eq0.false h l _, refl)

pub put_lists-r-requires : goal.put_lists-r-requires
put_lists-r-requires t c =
    let a = c.args in
    let n = size (rest a.shape.dims a.shape.rank (a.shape.rank - (a.k - 1))) in
    let z = left_step n (get_or a.shape.dims (a.shape.rank - a.k) 0) c.loop-j.j c.loop-j-test.true in
    let ne = c.if-k-eq0.false in omega (arith, z, c.requires, c.loop-j.invariant.1)

pub loop-j-preserved : goal.loop-j-preserved
loop-j-preserved t c =
    let a = c.args in
    let n = size (rest a.shape.dims a.shape.rank (a.shape.rank - (a.k - 1))) in
    let z = left_step n (get_or a.shape.dims (a.shape.rank - a.k) 0) c.loop-j.j c.loop-j-test.true in (
      c.put_lists-r.auto.out ∙ c.put_separator-p.auto.out ∙ c.loop-j.invariant.0,
      omega (arith, z, c.put_lists-r.ensures.0, c.loop-j.invariant.1),
      next-item _ _ _ _ _ _ _ _ _ _ c.loop-j-test.true c.put_lists-r.ensures.0 c.put_separator-p.ensures c.put_lists-r.ensures.1 ∙ c.loop-j.invariant.2,
    )

pub shape_of-out : goal.shape_of-out
shape_of-out t c = c.put.auto.out ∙ c.loop-j.invariant.0 ∙ c.put-place.auto.out

pub returns : goal.returns
returns t c =
    let a = c.args in
    let h : a.k ≤ a.shape.rank = c.requires.0 in
    let six : length a.shape.dims ≡ 6 = search rules in
    let l : a.shape.rank ≤ length a.shape.dims = omega (arith, c.requires.1) in
    let n = size (rest a.shape.dims a.shape.rank (a.shape.rank - (a.k - 1))) in
    let z = left_end n (get_or a.shape.dims (a.shape.rank - a.k) 0) c.loop-j.j c.loop-j-test.false in (
      omega (arith, z, c.loop-j.invariant.1),
      close-items _ _ _ _ a.slots.now c.loop-j.here _ _ c.loop-j-test.false c.put.ensures ∙ c.loop-j.invariant.2
          ∙ first-item _ _ _ _ c.if-k-eq0.false h l _ _ _ c.put-place.ensures,
    )
