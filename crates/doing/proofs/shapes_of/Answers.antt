use Prim.Native.Nat.{ℕ}
use mathlib.Core.Path.{◌≡◌, refl, ap, ◌∙◌}
use mathlib.Core.List.{List, ◌++◌}
use native.Mathlib.Omega.{arith}
use lib.ListN.{drop, set, replicate}
use Rattle.lists.specs.Lists.{tab}
use Rattle.lists.proofs.TabLaw.{fill_step, fill-whole}
use Rattle.shape.specs.declared.Shape.{Shape}
use Rattle.dimrules.specs.Types.{type_at}
use Rattle.doing.proofs.shapes_of.Goals as goal

pub loop-j-init : goal.loop-j-init
loop-j-init c = (omega arith, refl)

pub loop-j-preserved : goal.loop-j-preserved
loop-j-preserved c =
    let types = c.args.types in
    let v = c.loop-j.invariant in
    let j : ℕ = c.loop-j.j in
    let f : ℕ → Shape = λ i. (type_at types i).shape in (
      omega arith,
      ap (λ (l : List Shape). set l j (f j)) v.1 ∙ fill_step j f (replicate 8 (f 0)) (f j) (omega arith) refl,
    )

pub returns : goal.returns
returns c =
    let types = c.args.types in
    let f : ℕ → Shape = λ i. (type_at types i).shape in
    let e : c.loop-j.j ≡ 8 = omega arith in
    c.loop-j.invariant.1 ∙ ap (λ (n : ℕ). tab n f ++ drop n (replicate 8 (f 0))) e ∙ fill-whole 8 f (replicate 8 (f 0)) (omega arith)
