use Prim.Native.Nat.{ℕ, ◌≤◌, ◌+◌}
use mathlib.Core.Path.{◌≡◌, ◌∙◌, sym, ap, refl}
use mathlib.Core.List.{List}
use mathlib.Core.Bool.{Bool}
use native.Mathlib.Omega.{arith}
use lib.ListN.{length, take, set, length-set}
use Rattle.shape.specs.Index.{at, in_six}
use Rattle.shape.specs.Dims.{shape_from}
use Rattle.shape.specs.Place.{is_in}
use Rattle.reduction.specs.Rows.{collect}
use Rattle.reduction.proofs.CollectLaw.{collect-few, collect-left, collect-store, collect-dims, length_taken}
use borrow.Author.Rules.{rules}
use Rattle.reduction.proofs.slice_shape.Goals as goal
use Rattle.reduction.proofs.slice_shape.Goals.{then-is_in, else-is_in}

pub loop-d-init : goal.loop-d-init
loop-d-init c = (omega arith, refl, refl, refl)

pub offset_bounds-taken-n : goal.offset_bounds-taken-n
offset_bounds-taken-n c =
    let few_ : c.loop-d.n ≤ c.loop-d.d = (let l = c in
    let a = l.args in
    omega (arith, l.loop-d.invariant.1, collect-few l.loop-d.d (is_in (take a.count a.dimensions)) (at a.from.dims))) in
    omega (arith, few_)

pub bounds-taken-n : goal.bounds-taken-n
bounds-taken-n c =
    let few_ : c.loop-d.n ≤ c.loop-d.d = (let l = c in
    let a = l.args in
    omega (arith, l.loop-d.invariant.1, collect-few l.loop-d.d (is_in (take a.count a.dimensions)) (at a.from.dims))) in
    omega (arith, few_, c.loop-d.invariant.3)

pub overflow_add-n : goal.overflow_add-n
overflow_add-n c =
    let few_ : c.loop-d.n ≤ c.loop-d.d = (let l = c in
    let a = l.args in
    omega (arith, l.loop-d.invariant.1, collect-few l.loop-d.d (is_in (take a.count a.dimensions)) (at a.from.dims))) in
    omega (arith, few_)

pub loop-d-preserved : goal.loop-d-preserved
loop-d-preserved c =
    let l = c in
    let a = l.args in
    let d : ℕ = l.loop-d.d in
    let t : ℕ → Bool = is_in (take a.count a.dimensions) in
    let f : ℕ → ℕ = at a.from.dims in
    let is = sym c.is_in.ensures in (
      omega arith,
      elim c.if-is_in.branch [
        | then-is_in w ↦ w.n-is ∙ ap (λ (n : ℕ). n + 1) l.loop-d.invariant.1 ∙ sym (length_taken d t f (is ∙ w.if-is_in.true))
        | else-is_in w ↦ w.n-is ∙ l.loop-d.invariant.1 ∙ ap length (sym (collect-left d t f (is ∙ w.if-is_in.false)))
      ],
      elim c.if-is_in.branch [
        | then-is_in w ↦ w.taken-is ∙ ap (λ (n : ℕ). set l.loop-d.taken n (f d)) l.loop-d.invariant.1
            ∙ ap (λ (s : List ℕ). set s (length (collect d t f)) (f d)) l.loop-d.invariant.2 ∙ collect-store d t f (is ∙ w.if-is_in.true) (omega arith)
        | else-is_in w ↦ w.taken-is ∙ l.loop-d.invariant.2 ∙ ap in_six (sym (collect-left d t f (is ∙ w.if-is_in.false)))
      ],
      elim c.if-is_in.branch [
        | then-is_in w ↦ ap length w.taken-is ∙ length-set l.loop-d.taken l.loop-d.n (f d) ∙ l.loop-d.invariant.3
        | else-is_in w ↦ ap length w.taken-is ∙ l.loop-d.invariant.3
      ],
    )

pub returns : goal.returns
returns c =
    let l = c in
    let a = l.args in
    let six : length a.from.dims ≡ 6 = search rules in
    let t : ℕ → Bool = is_in (take a.count a.dimensions) in
    let whole : collect l.loop-d.d t (at a.from.dims) ≡ _ =
    ap (λ (k : ℕ). collect k t (at a.from.dims)) (let e : l.loop-d.d ≡ a.from.rank = omega arith in e) ∙ collect-dims a.from.rank a.from.dims t (omega arith) in
    (λ i. record { rank = l.loop-d.invariant.1 i; dims = l.loop-d.invariant.2 i }) ∙ ap shape_from whole
