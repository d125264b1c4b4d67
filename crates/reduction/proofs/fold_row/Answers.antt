use Prim.Native.Nat.{ℕ, ◌+◌}
use mathlib.Core.Path.{◌∙◌, sym, ap, refl}
use native.Mathlib.Omega.{arith}
use lib.ListN.{length, take, drop}
use Rattle.lists.specs.Lists.{tab}
use Rattle.run.specs.Tree.{fold}
use Rattle.scalar.specs.Body.{body_of}
use Rattle.shape.specs.Index.{at, size, unravel, element_at}
use Rattle.shape.specs.Dims.{dims_of}
use Rattle.reduction.specs.Rows.{inserted}
use Rattle.reduction.proofs.RowLaw.{fold-turn, fold_end}
use Rattle.reduction.proofs.fold_row.Goals as goal

pub loop-q-init : goal.loop-q-init
loop-q-init c = (omega arith, refl)

pub loop-q-preserved : goal.loop-q-preserved
loop-q-preserved c =
    let elem_ : ℕ → ℕ = (λ q. element_at c.args.x.now (dims_of c.args.from) (tab (length (dims_of c.args.from)) (inserted (take c.args.count c.args.dimensions) (at c.args.j) (at (unravel (dims_of c.args.inner) q)))) 0) in
    let l = c in
    let a = l in
    let n : ℕ = size (dims_of a.args.inner) in
    let q : ℕ = l.loop-q.q in
    let f : ℕ → ℕ → ℕ = body_of a.args.b a.args.t in (
      omega arith,
      ap (λ (v : ℕ). fold f v (drop (q + 1) (tab n (elem_)))) (c.apply_body-value.ensures ∙ ap (f l.loop-q.value) c.row_element-y.ensures)
          ∙ sym (fold-turn f n (elem_) l.loop-q.value q (omega (arith, l.size_of-n.ensures)))
          ∙ l.loop-q.invariant.1,
    )

pub returns : goal.returns
returns c =
    let elem_ : ℕ → ℕ = (λ q. element_at c.args.x.now (dims_of c.args.from) (tab (length (dims_of c.args.from)) (inserted (take c.args.count c.args.dimensions) (at c.args.j) (at (unravel (dims_of c.args.inner) q)))) 0) in
    let l = c in
    let a = l in
    sym (fold_end (body_of a.args.b a.args.t) (size (dims_of a.args.inner)) (elem_) l.loop-q.value l.loop-q.q (omega (arith, l.size_of-n.ensures)))
    ∙ l.loop-q.invariant.1
