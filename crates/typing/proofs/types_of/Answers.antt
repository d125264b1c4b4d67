use Prim.Native.Nat.{ℕ, ◌-◌}
use mathlib.Core.Path.{◌≡◌, refl, ap, ◌∙◌}
use mathlib.Core.List.{List, ◌++◌}
use native.Mathlib.Omega.{arith}
use lib.ListN.{drop, set, replicate}
use Rattle.lists.specs.Lists.{tab}
use Rattle.lists.proofs.TabLaw.{fill_step, fill-whole}
use Rattle.dimrules.specs.declared.TensorType.{TensorType}
use Rattle.typing.specs.Typing.{types_of}
use Rattle.typing.proofs.types_of.Goals as goal

pub loop-j-init : goal.loop-j-init
loop-j-init c = (omega arith, refl)

pub loop-j-preserved : goal.loop-j-preserved
loop-j-preserved c =
    let a = c.args in
    let v = c.loop-j.invariant in
    let j : ℕ = c.loop-j.j in
    let l : List TensorType = replicate 8 c.blank_type-types.result in (
      omega arith,
      ap (λ (l : List TensorType). set l j c.type_at.result) v.1 ∙ fill_step j (types_of a.text.now a.op) l c.type_at.result (omega arith) c.type_at.ensures,
    )

pub returns : goal.returns
returns c =
    let a = c.args in
    let h = c in
    let l : List TensorType = replicate 8 c.blank_type-types.result in
    let e : h.loop-j.j ≡ 8 = omega arith in
    h.loop-j.invariant.1 ∙ ap (λ (n : ℕ). tab n (types_of a.text.now a.op) ++ drop n l) e ∙ fill-whole 8 (types_of a.text.now a.op) l (omega arith)
