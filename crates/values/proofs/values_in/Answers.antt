use Prim.Native.Nat.{ℕ, ◌+◌, ◌-◌}
use mathlib.Core.Path.{◌≡◌, refl, ap, ◌∙◌}
use mathlib.Core.List.{List, ◌++◌}
use native.Mathlib.Omega.{arith}
use lib.ListN.{drop, set, replicate}
use Rattle.lists.specs.Lists.{tab}
use Rattle.lists.proofs.TabLaw.{fill_step, fill-whole}
use Rattle.values.specs.declared.Value.{Value}
use Rattle.values.specs.Values.{ops_of, values_in}
use Rattle.values.proofs.ValuesLaw.{inputs-small, ops-small}
use Rattle.values.proofs.values_in.Invariants.{each}
use Rattle.values.proofs.values_in.Goals as goal

pub loop-i-init : goal.loop-i-init
loop-i-init c = (omega arith, refl)

pub loop-i-preserved : goal.loop-i-preserved
loop-i-preserved c =
    let a = c.args in
    let v = c.loop-i.invariant in
    let i : ℕ = c.loop-i.i in
    let l : List Value = replicate 264 c.no_value-list.result in (
      omega arith,
      ap (λ (l : List Value). set l i c.value_or_none.result) v.1 ∙ fill_step i (each a.text.now a.p) l c.value_or_none.result (omega arith) c.value_or_none.ensures,
    )

pub overflow_add-result : goal.overflow_add-result
overflow_add-result c =
    let p = c.args.p in
    omega (arith, c.ops_of.ensures, c.inputs_of-inputs.ensures, inputs-small p, ops-small p)

pub returns : goal.returns
unfolding values_in
returns c =
    let a = c.args in
    let h = c in
    let l : List Value = replicate 264 c.no_value-list.result in
    let e : h.loop-i.i ≡ 264 = omega arith in
    let q : h.loop-i.list ≡ tab 264 (each a.text.now a.p) = h.loop-i.invariant.1 ∙ ap (λ (n : ℕ). tab n (each a.text.now a.p) ++ drop n l) e ∙ fill-whole 264 (each a.text.now a.p) l (omega arith) in
    simp (q, c.inputs_of-inputs.ensures, c.ops_of.ensures)
