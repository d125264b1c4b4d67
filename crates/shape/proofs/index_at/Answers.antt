use Prim.Native.Nat.{ℕ}
use mathlib.Core.Path.{◌≡◌, ◌∙◌, refl}
use mathlib.Core.List.{List}
use native.Mathlib.Omega.{arith}
use native.Mathlib.Nat.{mod-lt}
use lib.ListN.{length, get_or, replicate}
use lib.Seq.{length-take-le}
use Rattle.lists.proofs.TabLaw.{fill_step, tab-get_or}
use Rattle.shape.specs.Index.{unravel}
use Rattle.shape.specs.Dims.{dims_of}
use Rattle.shape.proofs.IndexLaw.{factors-pos, length-unravel}
use Rattle.shape.proofs.DimensionLaw.{rest-cons, unravel-turn}
use borrow.Author.Rules.{rules}
use Rattle.shape.proofs.index_at.Goals as goal

pub size_of-step-requires : goal.size_of-step-requires
size_of-step-requires c = c.requires.0

pub loop-d-init : goal.loop-d-init
loop-d-init c =
    let six : length c.args.s.dims ≡ 6 = search rules in
    (omega arith, omega arith, c.size_of-step.ensures, omega (arith, c.requires.1), refl, refl)

pub nonzero_div-step : goal.nonzero_div-step
nonzero_div-step c =
    let l = c.loop-d in
    let e = rest-cons c.args.s.dims _ _ c.loop-d-test.true l.invariant.1 in
    (factors-pos _ _ (rw (l.invariant.2, e) at l.invariant.3)).0

pub nonzero_div-index : goal.nonzero_div-index
nonzero_div-index c =
    let l = c.loop-d in
    let a = c.args in
    let u : List ℕ = unravel (dims_of a.s) a.k in
    let e = rest-cons a.s.dims _ _ c.loop-d-test.true l.invariant.1 in
    let t = unravel-turn e u l.d _ _ l.invariant.2 l.invariant.3 l.invariant.4 in
    omega (arith, mod-lt l.left t.0)

pub nonzero_rem-left : goal.nonzero_rem-left
nonzero_rem-left c =
    let l = c.loop-d in
    let a = c.args in
    let u : List ℕ = unravel (dims_of a.s) a.k in
    let e = rest-cons a.s.dims _ _ c.loop-d-test.true l.invariant.1 in
    let t = unravel-turn e u l.d _ _ l.invariant.2 l.invariant.3 l.invariant.4 in
    omega (arith, mod-lt l.left t.0)

pub loop-d-preserved : goal.loop-d-preserved
loop-d-preserved c =
    let l = c.loop-d in
    let a = c.args in
    let u : List ℕ = unravel (dims_of a.s) a.k in
    let e = rest-cons a.s.dims _ _ c.loop-d-test.true l.invariant.1 in
    let t = unravel-turn e u l.d _ _ l.invariant.2 l.invariant.3 l.invariant.4 in
    (omega arith, l.invariant.1, t.1, mod-lt l.left t.0, t.3, rw l.invariant.5 (fill_step l.d (λ j. get_or u j 0) (replicate 6 0) _ (omega arith) t.2))

pub returns : goal.returns
returns c =
    let l = c.loop-d in
    let a = c.args in
    let u : List ℕ = unravel (dims_of a.s) a.k in
    let e : l.d ≡ length u = omega (arith, length-unravel (dims_of a.s) a.k, length-take-le a.s.rank a.s.dims l.invariant.1) in
    l.invariant.5 ∙ rw (e, tab-get_or u 0)
