use Prim.Native.Nat.{ℕ}
use mathlib.Core.Path.{◌≡◌, ◌∙◌, sym, ap, refl}
use mathlib.Core.List.{List, ◌++◌}
use native.Mathlib.Omega.{arith}
use lib.ListN.{length, drop, set}
use Rattle.lists.specs.Lists.{tab}
use Rattle.lists.proofs.TabLaw.{fill_step, length-fill, fill-whole, tab-get_or}
use Rattle.shape.specs.Index.{at}
use Rattle.shape.specs.Dims.{dims_of}
use Rattle.maps.proofs.ReshapeLaw.{reshape-same}
use Rattle.maps.proofs.reshape.Goals as goal

pub loop-k-init : goal.loop-k-init
loop-k-init c = (omega arith, refl)

pub offset_bounds-x-k : goal.offset_bounds-x-k
offset_bounds-x-k c =
    let alike_ : length c.args.out.now ≡ length c.args.x.now = (c.requires.0.result ∙ sym c.requires.1.sizes ∙ sym c.requires.0.operand) in
    omega (arith, alike_)

pub bounds-x-k : goal.bounds-x-k
bounds-x-k c =
    let alike_ : length c.args.out.now ≡ length c.args.x.now = (c.requires.0.result ∙ sym c.requires.1.sizes ∙ sym c.requires.0.operand) in
    omega (arith, alike_)

pub offset_bounds-out-k : goal.offset_bounds-out-k
offset_bounds-out-k c =
    let long_ : length c.loop-k.out ≡ length c.args.out.now = (let a = c.args in
    ap length c.loop-k.invariant.1 ∙ length-fill c.loop-k.k (at a.x.now) a.out.now (omega arith)) in
    omega (arith, long_)

pub bounds-out-k : goal.bounds-out-k
bounds-out-k c =
    let long_ : length c.loop-k.out ≡ length c.args.out.now = (let a = c.args in
    ap length c.loop-k.invariant.1 ∙ length-fill c.loop-k.k (at a.x.now) a.out.now (omega arith)) in
    omega (arith, long_)

pub loop-k-preserved : goal.loop-k-preserved
loop-k-preserved c =
    let a = c.args in
    let k : ℕ = c.loop-k.k in (
      omega arith,
      ap (λ (l : List ℕ). set l k (at a.x.now k)) c.loop-k.invariant.1
          ∙ fill_step k (at a.x.now) a.out.now (at a.x.now k) (omega arith) refl,
    )

pub shape_of-out : goal.shape_of-out
shape_of-out c =
    let long_ : length c.loop-k.out ≡ length c.args.out.now = (let a = c.args in
    ap length c.loop-k.invariant.1 ∙ length-fill c.loop-k.k (at a.x.now) a.out.now (omega arith)) in
    long_

pub returns : goal.returns
returns c =
    let alike_ : length c.args.out.now ≡ length c.args.x.now = (c.requires.0.result ∙ sym c.requires.1.sizes ∙ sym c.requires.0.operand) in
    let a = c in
    let x = a.args.x.now in
    let out = a.args.out.now in
    let e : c.loop-k.k ≡ length x = omega (arith, alike_) in
    c.loop-k.invariant.1
    ∙ ap (λ (n : ℕ). tab n (at x) ++ drop n out) e
    ∙ fill-whole (length x) (at x) out (omega (arith, alike_))
    ∙ tab-get_or x 0
    ∙ sym (reshape-same (dims_of a.args.from) (dims_of a.args.to) x a.requires.1.sizes a.requires.0.operand)
