use mathlib.Core.Path.{◌≡◌, refl, ap, ◌∙◌}
use Prim.Native.Nat.{ℕ, ◌-◌}
use native.Mathlib.Omega.{arith}
use Rattle.offsets.specs.Offsets.{offset_at, needed_of}
use Rattle.offsets.proofs.OffsetsLaw.{offset-turn, sum-small}
use Rattle.offsets.proofs.needed_of.Goals as goal

pub loop-i-init : goal.loop-i-init
unfolding offset_at
loop-i-init c = (omega arith, refl)

pub value_size-at-requires : goal.value_size-at-requires
value_size-at-requires c = (omega (arith, c.requires.few), c.requires)

pub overflow_add-at : goal.overflow_add-at
overflow_add-at c =
    let s = c in
    let h = c.loop-i in
    omega (arith, sum-small s.args.vs s.requires h.i h.at c.value_size-at.result (omega (arith, s.requires.few)) h.invariant.1 c.value_size-at.ensures)

pub loop-i-preserved : goal.loop-i-preserved
loop-i-preserved c =
    let h = c.loop-i in
    (omega arith, offset-turn c.args.vs h.i h.at c.value_size-at.result h.invariant.1 c.value_size-at.ensures)

pub returns : goal.returns
unfolding needed_of
returns c =
    let vs = c.args.vs in
    let e : c.loop-i.i ≡ vs.count = omega arith in
    c.loop-i.invariant.1 ∙ ap (λ (n : ℕ). offset_at vs n) e
