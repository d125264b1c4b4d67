use Prim.Native.Nat.{ℕ}
use mathlib.Core.Path.{◌≡◌, ◌∙◌, ap, refl}
use mathlib.Core.List.{List, ◌++◌}
use native.Mathlib.Omega.{arith}
use lib.ListN.{length, drop, set}
use Rattle.lists.specs.Lists.{tab}
use Rattle.lists.proofs.TabLaw.{fill_step, length-fill, fill-whole}
use Rattle.shape.specs.Index.{size, unravel}
use Rattle.shape.specs.Dims.{dims_of}
use Rattle.maps.specs.Concatenation.{concat_at, shapes_of, inputs_in}
use Rattle.maps.proofs.concatenate.Goals as goal

pub loop-k-init : goal.loop-k-init
loop-k-init c = (omega arith, refl)

pub concat_at-requires : goal.concat_at-requires
concat_at-requires c = let p = c.requires in (p.0, p.2, p.3, omega (arith, p.1))

pub offset_bounds-out-k : goal.offset_bounds-out-k
offset_bounds-out-k c =
    let elem_ : ℕ → ℕ = (λ j. concat_at c.args.dimension (shapes_of c.args.shapes c.args.count) (inputs_in c.args.x.now c.args.shapes c.args.places c.args.count) (unravel (dims_of c.args.to) j)) in
    let long_ : length c.loop-k.out ≡ length c.args.out.now = (let a = c in
    ap length c.loop-k.invariant.1 ∙ length-fill c.loop-k.k (elem_) a.args.out.now (omega arith)) in
    omega (arith, long_)

pub bounds-out-k : goal.bounds-out-k
bounds-out-k c =
    let elem_ : ℕ → ℕ = (λ j. concat_at c.args.dimension (shapes_of c.args.shapes c.args.count) (inputs_in c.args.x.now c.args.shapes c.args.places c.args.count) (unravel (dims_of c.args.to) j)) in
    let long_ : length c.loop-k.out ≡ length c.args.out.now = (let a = c in
    ap length c.loop-k.invariant.1 ∙ length-fill c.loop-k.k (elem_) a.args.out.now (omega arith)) in
    omega (arith, long_)

pub loop-k-preserved : goal.loop-k-preserved
loop-k-preserved c =
    let elem_ : ℕ → ℕ = (λ j. concat_at c.args.dimension (shapes_of c.args.shapes c.args.count) (inputs_in c.args.x.now c.args.shapes c.args.places c.args.count) (unravel (dims_of c.args.to) j)) in
    let a = c in
    let k : ℕ = c.loop-k.k in (
      omega arith,
      ap (λ (l : List ℕ). set l k c.concat_at.result) c.loop-k.invariant.1
          ∙ fill_step k (elem_) a.args.out.now c.concat_at.result (omega arith) c.concat_at.ensures,
    )

pub shape_of-out : goal.shape_of-out
shape_of-out c =
    let elem_ : ℕ → ℕ = (λ j. concat_at c.args.dimension (shapes_of c.args.shapes c.args.count) (inputs_in c.args.x.now c.args.shapes c.args.places c.args.count) (unravel (dims_of c.args.to) j)) in
    let long_ : length c.loop-k.out ≡ length c.args.out.now = (let a = c in
    ap length c.loop-k.invariant.1 ∙ length-fill c.loop-k.k (elem_) a.args.out.now (omega arith)) in
    long_

pub returns : goal.returns
returns c =
    let elem_ : ℕ → ℕ = (λ j. concat_at c.args.dimension (shapes_of c.args.shapes c.args.count) (inputs_in c.args.x.now c.args.shapes c.args.places c.args.count) (unravel (dims_of c.args.to) j)) in
    let a = c in
    let e : c.loop-k.k ≡ size (dims_of a.args.to) = omega (arith, a.requires.1) in
    c.loop-k.invariant.1
    ∙ ap (λ (n : ℕ). tab n (elem_) ++ drop n a.args.out.now) e
    ∙ fill-whole (size (dims_of a.args.to)) (elem_) a.args.out.now (omega (arith, a.requires.1))
