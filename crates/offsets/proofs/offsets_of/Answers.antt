use mathlib.Core.Path.{◌≡◌, refl, ap, ◌∙◌}
use mathlib.Core.List.{List, ◌++◌}
use Prim.Native.Nat.{ℕ, ◌-◌}
use native.Mathlib.Omega.{arith}
use lib.ListN.{drop, set, replicate}
use Rattle.lists.specs.Lists.{tab}
use Rattle.lists.proofs.TabLaw.{fill_step, fill-whole}
use Rattle.offsets.specs.Offsets.{offset_at, offsets_of}
use Rattle.offsets.proofs.OffsetsLaw.{offset-turn, sum-small}
use Rattle.offsets.proofs.offsets_of.Goals as goal

pub loop-i-init : goal.loop-i-init
unfolding offset_at
loop-i-init c = (omega arith, refl, refl)

pub value_size-requires : goal.value_size-requires
value_size-requires c = (omega arith, c.requires)

pub overflow_add-next : goal.overflow_add-next
overflow_add-next c =
    let s = c in
    let h = c.loop-i in
    omega (arith, sum-small s.args.vs s.requires h.i h.at c.value_size.result (omega arith) h.invariant.2 c.value_size.ensures)

pub loop-i-preserved : goal.loop-i-preserved
loop-i-preserved c =
    let vs = c.args.vs in
    let h = c.loop-i in (
      omega arith,
      ap (λ (l : List ℕ). set l h.i h.at) h.invariant.1 ∙ fill_step h.i (offset_at vs) (replicate 264 0) h.at (omega arith) h.invariant.2,
      offset-turn vs h.i h.at c.value_size.result h.invariant.2 c.value_size.ensures,
    )

pub returns : goal.returns
unfolding offsets_of
returns c =
    let f = offset_at c.args.vs in
    let e : c.loop-i.i ≡ 264 = omega arith in
    c.loop-i.invariant.1 ∙ ap (λ (n : ℕ). tab n f ++ drop n (replicate 264 0)) e ∙ fill-whole 264 f (replicate 264 0) (omega arith)
