use Prim.Native.Nat.{ℕ}
use mathlib.Core.Path.{◌≡◌, ◌∙◌, ap, refl}
use mathlib.Core.List.{List, ◌++◌}
use native.Mathlib.Omega.{arith}
use lib.ListN.{length, drop, set}
use Rattle.lists.specs.Lists.{tab}
use Rattle.lists.proofs.TabLaw.{fill_step, length-fill, fill-whole}
use Rattle.shape.specs.Index.{size, unravel}
use Rattle.shape.specs.Dims.{dims_of}
use Rattle.maps.specs.Kinds.{mapped_at}
use Rattle.maps.proofs.map_into.Goals as goal

pub loop-k-init : goal.loop-k-init
loop-k-init c = (omega arith, refl)

pub map_element-requires : goal.map_element-requires
map_element-requires c = let p = c.requires in (p.0, omega (arith, p.1))

pub offset_bounds-out-k : goal.offset_bounds-out-k
offset_bounds-out-k c =
    let elem_ : ℕ → ℕ = (λ j. mapped_at c.args.m (dims_of c.args.from) c.args.x.now c.args.z (unravel (dims_of c.args.to) j)) in
    let long_ : length c.loop-k.out ≡ length c.args.out.now = (let a = c in
    ap length c.loop-k.invariant.1 ∙ length-fill c.loop-k.k (elem_) a.args.out.now (omega arith)) in
    omega (arith, long_)

pub bounds-out-k : goal.bounds-out-k
bounds-out-k c =
    let elem_ : ℕ → ℕ = (λ j. mapped_at c.args.m (dims_of c.args.from) c.args.x.now c.args.z (unravel (dims_of c.args.to) j)) in
    let long_ : length c.loop-k.out ≡ length c.args.out.now = (let a = c in
    ap length c.loop-k.invariant.1 ∙ length-fill c.loop-k.k (elem_) a.args.out.now (omega arith)) in
    omega (arith, long_)

pub loop-k-preserved : goal.loop-k-preserved
loop-k-preserved c =
    let elem_ : ℕ → ℕ = (λ j. mapped_at c.args.m (dims_of c.args.from) c.args.x.now c.args.z (unravel (dims_of c.args.to) j)) in
    let a = c in
    let k : ℕ = c.loop-k.k in (
      omega arith,
      ap (λ (l : List ℕ). set l k c.map_element.result) c.loop-k.invariant.1
          ∙ fill_step k (elem_) a.args.out.now c.map_element.result (omega arith) c.map_element.ensures,
    )

pub shape_of-out : goal.shape_of-out
shape_of-out c =
    let elem_ : ℕ → ℕ = (λ j. mapped_at c.args.m (dims_of c.args.from) c.args.x.now c.args.z (unravel (dims_of c.args.to) j)) in
    let long_ : length c.loop-k.out ≡ length c.args.out.now = (let a = c in
    ap length c.loop-k.invariant.1 ∙ length-fill c.loop-k.k (elem_) a.args.out.now (omega arith)) in
    long_

pub returns : goal.returns
returns c =
    let elem_ : ℕ → ℕ = (λ j. mapped_at c.args.m (dims_of c.args.from) c.args.x.now c.args.z (unravel (dims_of c.args.to) j)) in
    let a = c in
    let e : c.loop-k.k ≡ size (dims_of a.args.to) = omega (arith, a.requires.1) in
    c.loop-k.invariant.1
    ∙ ap (λ (n : ℕ). tab n (elem_) ++ drop n a.args.out.now) e
    ∙ fill-whole (size (dims_of a.args.to)) (elem_) a.args.out.now (omega (arith, a.requires.1))
