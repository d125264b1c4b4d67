use Prim.Native.Nat.{ℕ, ◌-◌, ◌+◌}
use mathlib.Core.Path.{◌≡◌, ◌∙◌, sym, ap, refl}
use mathlib.Core.List.{List, ◌++◌}
use mathlib.Core.Bool.{Bool, true, false}
use native.Mathlib.Nat.{add-zero}
use native.Mathlib.Omega.{arith}
use lib.ListN.{take, drop, set, replicate}
use Rattle.lists.specs.Lists.{pick, tab}
use Rattle.lists.proofs.TabLaw.{fill_step, length-tab}
use Rattle.shape.specs.Index.{at}
use Rattle.shape.specs.Place.{is_in, count_below}
use Rattle.reduction.specs.Rows.{inserted}
use Rattle.reduction.proofs.CollectLaw.{count-step}
use Rattle.reduction.proofs.insert_index.Goals as goal
use Rattle.reduction.proofs.insert_index.Goals.{then-is_in, else-is_in}

inserted-in : (s j r : List ℕ) (d n : ℕ) → is_in s d ≡ true → n ≡ count_below (is_in s) d → at r n ≡ inserted s (at j) (at r) d
inserted-in s j r d n e q = rw (e, q)

inserted-out : (s j r : List ℕ) (d n : ℕ) → is_in s d ≡ false → n ≡ count_below (is_in s) d → at j (d - n) ≡ inserted s (at j) (at r) d
inserted-out s j r d n e q = rw (e, q)

pub loop-d-init : goal.loop-d-init
loop-d-init c = (omega arith, omega arith, refl, refl)

pub loop-d-preserved : goal.loop-d-preserved
loop-d-preserved c =
    let l = c in
    let a = l.args in
    let n : ℕ = l.loop-d.n in
    let d : ℕ = l.loop-d.d in
    let s : List ℕ = take a.count a.dimensions in
    let is = sym c.is_in.ensures in
    let count : n + pick (is_in s d) 1 0 ≡ count_below (is_in s) (d + 1) = ap (λ (k : ℕ). k + pick (is_in s d) 1 0) l.loop-d.invariant.2 ∙ sym (count-step (is_in s) d) in (
      omega arith,
      elim c.if-is_in.branch [
        | then-is_in w ↦ omega (arith, w.n-is)
        | else-is_in w ↦ omega (arith, w.n-is)
      ],
      elim c.if-is_in.branch [
        | then-is_in w ↦ w.n-is ∙ ap (λ (b : Bool). n + pick b 1 0) (sym (is ∙ w.if-is_in.true)) ∙ count
        | else-is_in w ↦ w.n-is ∙ sym (add-zero n) ∙ ap (λ (b : Bool). n + pick b 1 0) (sym (is ∙ w.if-is_in.false)) ∙ count
      ],
      elim c.if-is_in.branch [
        | then-is_in w ↦ w.index-is ∙ ap (λ (q : List ℕ). set q d (at a.r n)) l.loop-d.invariant.3
            ∙ fill_step d (inserted s (at a.j) (at a.r)) (replicate 6 0) (at a.r n) (omega arith) (inserted-in s a.j a.r d n (is ∙ w.if-is_in.true) l.loop-d.invariant.2)
        | else-is_in w ↦ w.index-is ∙ ap (λ (q : List ℕ). set q d (at a.j (d - n))) l.loop-d.invariant.3
            ∙ fill_step d (inserted s (at a.j) (at a.r)) (replicate 6 0) (at a.j (d - n)) (omega arith) (inserted-out s a.j a.r d n (is ∙ w.if-is_in.false) l.loop-d.invariant.2)
      ],
    )

pub returns : goal.returns
returns c =
    let l = c in
    let a = l.args in
    let f : ℕ → ℕ = inserted (take a.count a.dimensions) (at a.j) (at a.r) in
    l.loop-d.invariant.3
    ∙ ap (λ (k : ℕ). tab k f ++ drop k (replicate 6 0)) (let e : l.loop-d.d ≡ a.rank = omega arith in e)
    ∙ ap (λ (k : ℕ). tab a.rank f ++ drop k (replicate 6 0)) (sym (length-tab a.rank f))
