use Prim.Native.Nat.{ℕ, ◌≤◌, ◌-◌, ◌+◌}
use mathlib.Core.Path.{◌≡◌, ◌∙◌, sym, ap, refl}
use mathlib.Core.List.{List}
use native.Mathlib.Omega.{arith}
use lib.ListN.{length, take, drop, get_or, set, length-drop}
use lib.Seq.{length-take-le}
use Rattle.lists.specs.Lists.{tab}
use Rattle.shape.specs.Index.{at, size, element_at}
use Rattle.shape.specs.Dims.{dims_of}
use Rattle.shape.specs.declared.Shape.{Shape}
use Rattle.maps.specs.Concatenation.{concat_from, no_shape}
use Rattle.maps.proofs.ConcatLaw.{concat-here, concat-next, concat-end}
use Rattle.maps.proofs.concat_element.Goals as goal

pub loop-j-init : goal.loop-j-init
loop-j-init c = (omega arith, refl)

pub offset_bounds-shapes-j : goal.offset_bounds-shapes-j
offset_bounds-shapes-j c = omega (arith, c.requires.1.few)

pub bounds-shapes-j : goal.bounds-shapes-j
bounds-shapes-j c = omega (arith, c.requires.1.few)

pub size_along-w-requires : goal.size_along-w-requires
size_along-w-requires c = (c.requires.1.sized c.loop-j.j c.loop-j-test.true).rank

pub offset_bounds-places-j : goal.offset_bounds-places-j
offset_bounds-places-j c = omega (arith, c.requires.1.few)

pub bounds-places-j : goal.bounds-places-j
bounds-places-j c = omega (arith, c.requires.1.few)

pub size_of-requires : goal.size_of-requires
size_of-requires c = c.requires.1.sized c.loop-j.j c.loop-j-test.true

pub overflow_add-e : goal.overflow_add-e
overflow_add-e c =
    let laid_ : at c.args.places c.loop-j.j + size (dims_of (get_or c.args.shapes c.loop-j.j no_shape)) ≤ length c.args.x.now = (c.requires.1.laid c.loop-j.j c.loop-j-test.true) in
    omega (arith, laid_, c.size_of.ensures)

pub offset_bounds-x-p : goal.offset_bounds-x-p
offset_bounds-x-p c =
    let laid_ : at c.args.places c.loop-j.j + size (dims_of (get_or c.args.shapes c.loop-j.j no_shape)) ≤ length c.args.x.now = (c.requires.1.laid c.loop-j.j c.loop-j-test.true) in
    omega (arith, laid_)

pub slice_bounds-element_at-count : goal.slice_bounds-element_at-count
slice_bounds-element_at-count c = omega arith

pub slice_bounds-element_at-start : goal.slice_bounds-element_at-start
slice_bounds-element_at-start c = omega arith

pub slice_bounds-element_at-end : goal.slice_bounds-element_at-end
slice_bounds-element_at-end c =
    let laid_ : at c.args.places c.loop-j.j + size (dims_of (get_or c.args.shapes c.loop-j.j no_shape)) ≤ length c.args.x.now = (c.requires.1.laid c.loop-j.j c.loop-j-test.true) in
    omega (arith, laid_, c.size_of.ensures)

pub element_at-requires : goal.element_at-requires
element_at-requires c =
    let input_at_ : ℕ → List ℕ = (λ j. take (size (dims_of (get_or c.args.shapes j no_shape))) (drop (at c.args.places j) c.args.x.now)) in
    let laid_ : at c.args.places c.loop-j.j + size (dims_of (get_or c.args.shapes c.loop-j.j no_shape)) ≤ length c.args.x.now = (c.requires.1.laid c.loop-j.j c.loop-j-test.true) in
    let lent_ : let l = c in let a = l in take (at a.args.places l.loop-j.j + c.size_of.result - at a.args.places l.loop-j.j) (drop (at a.args.places l.loop-j.j) a.args.x.now) ≡ input_at_ l.loop-j.j = (let l = c in
    let a = l.args in
    let p : ℕ = at a.places l.loop-j.j in
    ap (λ (n : ℕ). take n (drop p a.x.now)) (let e : p + c.size_of.result - p ≡ size (dims_of (get_or a.shapes l.loop-j.j no_shape)) = omega (arith, c.size_of.ensures) in e)) in
    let l = c in
    let a = l in
    let j : ℕ = l.loop-j.j in
    let p : ℕ = at a.args.places j in
    let n : ℕ = size (dims_of (get_or a.args.shapes j no_shape)) in
    let e : length (drop p a.args.x.now) ≡ length a.args.x.now - p = length-drop p a.args.x.now in (
      a.requires.1.sized j c.loop-j-test.true,
      ap length (lent_) ∙ length-take-le n (drop p a.args.x.now) (omega (arith, laid_)),
    )

pub returns-then-t-w : goal.returns-then-t-w
returns-then-t-w c =
    let shape_at_ : ℕ → Shape = (λ j. get_or c.args.shapes j no_shape) in
    let input_at_ : ℕ → List ℕ = (λ j. take (size (dims_of (get_or c.args.shapes j no_shape))) (drop (at c.args.places j) c.args.x.now)) in
    let lent_ : let l = c in let a = l in take (at a.args.places l.loop-j.j + c.size_of.result - at a.args.places l.loop-j.j) (drop (at a.args.places l.loop-j.j) a.args.x.now) ≡ input_at_ l.loop-j.j = (let l = c in
    let a = l.args in
    let p : ℕ = at a.places l.loop-j.j in
    ap (λ (n : ℕ). take n (drop p a.x.now)) (let e : p + c.size_of.result - p ≡ size (dims_of (get_or a.shapes l.loop-j.j no_shape)) = omega (arith, c.size_of.ensures) in e)) in
    let l = c in
    let a = l in
    let j : ℕ = l.loop-j.j in
    let t : ℕ = l.loop-j.t in
    let s = dims_of (get_or a.args.shapes j no_shape) in
    c.element_at.ensures
    ∙ ap (λ (x : List ℕ). element_at x s (set a.args.index a.args.dimension t) 0) (lent_)
    ∙ sym (concat-here a.args.dimension a.args.index a.args.count (λ k. dims_of (shape_at_ k)) (input_at_) j t c.loop-j-test.true
    (omega (arith, c.if-t-w.true, c.size_along-w.ensures)))
    ∙ l.loop-j.invariant.1

pub loop-j-preserved : goal.loop-j-preserved
loop-j-preserved c =
    let shape_at_ : ℕ → Shape = (λ j. get_or c.args.shapes j no_shape) in
    let input_at_ : ℕ → List ℕ = (λ j. take (size (dims_of (get_or c.args.shapes j no_shape))) (drop (at c.args.places j) c.args.x.now)) in
    let l = c in
    let a = l in
    let j : ℕ = l.loop-j.j in
    let t : ℕ = l.loop-j.t in
    let f : ℕ → List ℕ = λ k. dims_of (shape_at_ k) in (
      omega arith,
      ap (λ (w : ℕ). concat_from a.args.dimension a.args.index (drop (j + 1) (tab a.args.count f)) (drop (j + 1) (tab a.args.count (input_at_))) (t - w)) c.size_along-w.ensures
          ∙ concat-next a.args.dimension a.args.index a.args.count f (input_at_) j t c.loop-j-test.true (omega (arith, c.if-t-w.false, c.size_along-w.ensures))
          ∙ l.loop-j.invariant.1,
    )

pub returns : goal.returns
returns c =
    let shape_at_ : ℕ → Shape = (λ j. get_or c.args.shapes j no_shape) in
    let input_at_ : ℕ → List ℕ = (λ j. take (size (dims_of (get_or c.args.shapes j no_shape))) (drop (at c.args.places j) c.args.x.now)) in
    let l = c in
    let a = l in
    sym (concat-end a.args.dimension a.args.index a.args.count (λ k. dims_of (shape_at_ k)) (input_at_) l.loop-j.j l.loop-j.t (omega arith)) ∙ l.loop-j.invariant.1
