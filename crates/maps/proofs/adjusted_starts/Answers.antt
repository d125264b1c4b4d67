use Prim.Native.Nat.{ℕ, ◌<◌, ◌-◌, min}
use mathlib.Core.Path.{◌≡◌, ◌∙◌, sym, ap, refl}
use mathlib.Core.List.{List, ◌++◌}
use native.Mathlib.Omega.{arith}
use lib.ListN.{length, drop, set, replicate, length-take}
use lib.Seq.{get_or-take, length-take-le}
use Rattle.lists.specs.Lists.{tab}
use Rattle.lists.proofs.TabLaw.{fill_step, tab-cong, length-tab}
use Rattle.shape.specs.Dims.{dims_of}
use Rattle.shape.specs.Index.{at}
use Rattle.maps.specs.Formulas.{clamp_start, start_at, adjusted_start}
use borrow.Author.Rules.{rules}
use Rattle.maps.proofs.adjusted_starts.Goals as goal

pub loop-d-init : goal.loop-d-init
loop-d-init c = (omega arith, refl)

pub overflow_sub-from : goal.overflow_sub-from
overflow_sub-from c =
    let ranked_ : length (dims_of c.args.from) ≡ c.args.from.rank = (let six : length c.args.from.dims ≡ 6 = search rules in
    length-take-le c.args.from.rank c.args.from.dims (omega arith)) in
    let large-at_ : (d : ℕ) → d < c.args.from.rank → at (dims_of c.args.from) d ≡ at c.args.from.dims d = (λ d h. get_or-take c.args.from.rank c.args.from.dims d 0 h) in
    let small_at_ : (d : ℕ) → d < c.args.from.rank → at (dims_of c.args.to) d ≡ at c.args.to.dims d = (λ d h. let e : length (dims_of c.args.to) ≡ min c.args.to.rank (length c.args.to.dims) = length-take c.args.to.rank c.args.to.dims in
    get_or-take c.args.to.rank c.args.to.dims d 0 (omega (arith, c.requires.1.rank, ranked_))) in
    let a = c in
    omega (arith, a.requires.1.sizes c.loop-d.d (omega (arith, ranked_)), large-at_ c.loop-d.d (omega arith), small_at_ c.loop-d.d (omega arith))

pub loop-d-preserved : goal.loop-d-preserved
loop-d-preserved c =
    let a = c.args in
    let d : ℕ = c.loop-d.d in (
      omega arith,
      ap (λ (l : List ℕ). set l d c.clamp_start.result) c.loop-d.invariant.1
          ∙ fill_step d (adjusted_start a.t a.starts a.from.dims a.to.dims) (replicate 6 0) c.clamp_start.result (omega arith) c.clamp_start.ensures,
    )

pub returns : goal.returns
returns c =
    let ranked_ : length (dims_of c.args.from) ≡ c.args.from.rank = (let six : length c.args.from.dims ≡ 6 = search rules in
    length-take-le c.args.from.rank c.args.from.dims (omega arith)) in
    let large-at_ : (d : ℕ) → d < c.args.from.rank → at (dims_of c.args.from) d ≡ at c.args.from.dims d = (λ d h. get_or-take c.args.from.rank c.args.from.dims d 0 h) in
    let small_at_ : (d : ℕ) → d < c.args.from.rank → at (dims_of c.args.to) d ≡ at c.args.to.dims d = (λ d h. let e : length (dims_of c.args.to) ≡ min c.args.to.rank (length c.args.to.dims) = length-take c.args.to.rank c.args.to.dims in
    get_or-take c.args.to.rank c.args.to.dims d 0 (omega (arith, c.requires.1.rank, ranked_))) in
    let s = c in
    let a = s.args in
    let n : ℕ = length (dims_of a.from) in
    let f : ℕ → ℕ = adjusted_start a.t a.starts a.from.dims a.to.dims in
    let g : ℕ → ℕ = adjusted_start a.t a.starts (dims_of a.from) (dims_of a.to) in
    let e : c.loop-d.d ≡ n = omega (arith, ranked_) in
    c.loop-d.invariant.1
    ∙ ap (λ (m : ℕ). tab m f ++ drop m (replicate 6 0)) e
    ∙ ap (λ (l : List ℕ). l ++ drop n (replicate 6 0))
    (tab-cong n f g
    (λ j b.
    let h : j < a.from.rank = omega (arith, ranked_) in
    ap (clamp_start (start_at a.t a.starts j)) (let q : at a.from.dims j - at a.to.dims j ≡ at (dims_of a.from) j - at (dims_of a.to) j = omega (arith, large-at_ j h, small_at_ j h) in q)))
    ∙ ap (λ (m : ℕ). tab n g ++ drop m (replicate 6 0)) (sym (length-tab n g))
