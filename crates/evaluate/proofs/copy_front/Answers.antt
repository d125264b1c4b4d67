use Prim.Native.Nat.{ℕ, ◌+◌}
use mathlib.Core.Path.{◌≡◌, ◌∙◌, ap, refl}
use mathlib.Core.List.{List, ◌++◌}
use native.Mathlib.Omega.{arith}
use lib.ListN.{length, drop, set, get_or}
use Rattle.lists.specs.Lists.{tab}
use Rattle.lists.proofs.TabLaw.{fill_step, length-fill, tab-get_or}
use Rattle.evaluate.proofs.copy_front.Goals as goal

pub loop-k-init : goal.loop-k-init
loop-k-init c = (refl, refl)

pub loop-k-preserved : goal.loop-k-preserved
loop-k-preserved c =
    let filled : set c.loop-k.out c.loop-k.k (at_ c.loop-k.k) ≡ tab (c.loop-k.k + 1) at_ ++ drop (c.loop-k.k + 1) c.args.out.now =
    ap (λ (l : List ℕ). set l c.loop-k.k (at_ c.loop-k.k)) c.loop-k.invariant.1
    ∙ fill_step c.loop-k.k at_ c.args.out.now (at_ c.loop-k.k) (omega (arith, c.loop-k-test.true, c.requires)) refl in
    (ap length filled ∙ length-fill (c.loop-k.k + 1) at_ c.args.out.now (omega (arith, c.loop-k-test.true, c.requires)), filled)
  where
    at_ : ℕ → ℕ
    at_ j = get_or c.args.x.now j 0

pub returns : goal.returns
returns c =
    let whole : c.loop-k.k ≡ length c.args.x.now = omega (arith, c.loop-k-test.false, c.loop-k.auto.k-end) in
    c.loop-k.invariant.1 ∙ rw (whole, tab-get_or c.args.x.now 0)
