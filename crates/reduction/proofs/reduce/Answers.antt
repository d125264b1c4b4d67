use Prim.Native.Nat.{ℕ}
use mathlib.Core.Path.{◌≡◌, ◌∙◌, sym, ap, refl}
use mathlib.Core.List.{List, ◌++◌}
use native.Mathlib.Omega.{arith}
use lib.ListN.{length, take, drop, set}
use Rattle.lists.specs.Lists.{tab}
use Rattle.lists.proofs.TabLaw.{fill_step, length-fill, fill-whole, map-tab}
use Rattle.shape.specs.Index.{size, unravel}
use Rattle.shape.specs.Dims.{dims_of}
use Rattle.run.specs.Tree.{fold}
use Rattle.scalar.specs.Body.{body_of}
use Rattle.reduction.specs.Rows.{row_for_index}
use Rattle.reduction.proofs.reduce.Goals as goal

pub loop-k-init : goal.loop-k-init
loop-k-init c = (omega arith, refl)

pub reduced_at-requires : goal.reduced_at-requires
reduced_at-requires c =
    let p = c.requires in
    (p.from-sized, p.to-sized, p.operand, p.few, omega (arith, p.result))

pub offset_bounds-out-k : goal.offset_bounds-out-k
offset_bounds-out-k c =
    let row_ : ℕ → List ℕ = (λ i. row_for_index (take c.args.count c.args.dimensions) (dims_of c.args.from) c.args.x.now (unravel (dims_of c.args.to) i)) in
    let elem_ : ℕ → ℕ = (λ i. fold (body_of c.args.b c.args.t) c.args.start (row_ i)) in
    let long_ : length c.loop-k.out ≡ length c.args.out.now = (let a = c in
    ap length c.loop-k.invariant.1 ∙ length-fill c.loop-k.k (elem_) a.args.out.now (omega arith)) in
    omega (arith, long_)

pub bounds-out-k : goal.bounds-out-k
bounds-out-k c =
    let row_ : ℕ → List ℕ = (λ i. row_for_index (take c.args.count c.args.dimensions) (dims_of c.args.from) c.args.x.now (unravel (dims_of c.args.to) i)) in
    let elem_ : ℕ → ℕ = (λ i. fold (body_of c.args.b c.args.t) c.args.start (row_ i)) in
    let long_ : length c.loop-k.out ≡ length c.args.out.now = (let a = c in
    ap length c.loop-k.invariant.1 ∙ length-fill c.loop-k.k (elem_) a.args.out.now (omega arith)) in
    omega (arith, long_)

pub loop-k-preserved : goal.loop-k-preserved
loop-k-preserved c =
    let row_ : ℕ → List ℕ = (λ i. row_for_index (take c.args.count c.args.dimensions) (dims_of c.args.from) c.args.x.now (unravel (dims_of c.args.to) i)) in
    let elem_ : ℕ → ℕ = (λ i. fold (body_of c.args.b c.args.t) c.args.start (row_ i)) in
    let a = c in
    let k : ℕ = c.loop-k.k in (
      omega arith,
      ap (λ (l : List ℕ). set l k c.reduced_at.result) c.loop-k.invariant.1
          ∙ fill_step k (elem_) a.args.out.now c.reduced_at.result (omega arith) c.reduced_at.ensures,
    )

pub shape_of-out : goal.shape_of-out
shape_of-out c =
    let row_ : ℕ → List ℕ = (λ i. row_for_index (take c.args.count c.args.dimensions) (dims_of c.args.from) c.args.x.now (unravel (dims_of c.args.to) i)) in
    let elem_ : ℕ → ℕ = (λ i. fold (body_of c.args.b c.args.t) c.args.start (row_ i)) in
    let long_ : length c.loop-k.out ≡ length c.args.out.now = (let a = c in
    ap length c.loop-k.invariant.1 ∙ length-fill c.loop-k.k (elem_) a.args.out.now (omega arith)) in
    long_

pub returns : goal.returns
returns c =
    let row_ : ℕ → List ℕ = (λ i. row_for_index (take c.args.count c.args.dimensions) (dims_of c.args.from) c.args.x.now (unravel (dims_of c.args.to) i)) in
    let elem_ : ℕ → ℕ = (λ i. fold (body_of c.args.b c.args.t) c.args.start (row_ i)) in
    let a = c in
    let e : c.loop-k.k ≡ size (dims_of a.args.to) = omega (arith, a.requires.result) in
    c.loop-k.invariant.1
    ∙ ap (λ (n : ℕ). tab n (elem_) ++ drop n a.args.out.now) e
    ∙ fill-whole (size (dims_of a.args.to)) (elem_) a.args.out.now (omega (arith, a.requires.result))
    ∙ sym (map-tab (fold (body_of a.args.b a.args.t) a.args.start) (size (dims_of a.args.to)) (row_))
