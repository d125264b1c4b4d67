use Prim.Native.Nat.{ℕ}
use mathlib.Core.Path.{◌≡◌, ◌∙◌, sym, ap, refl, subst}
use mathlib.Core.List.{List, ◌++◌}
use native.Mathlib.Omega.{arith}
use lib.ListN.{length, take, drop, get_or, set, replicate}
use Rattle.lists.specs.Lists.{tab}
use Rattle.lists.proofs.TabLaw.{fill_step, length-tab}
use Rattle.shape.specs.Index.{at}
use Rattle.maps.specs.Kinds.{coord_of, operand_index, Computes}
use Rattle.maps.proofs.KindLaw.{operand-index-dims}
use lib.Seq.{get_or-take, length-take-le}
use borrow.Author.Rules.{rules}
use Rattle.maps.proofs.operand_index.Goals as goal

pub loop-d-init : goal.loop-d-init
loop-d-init c = (omega arith, refl)

pub coordinate-requires : goal.coordinate-requires
coordinate-requires c =
    let p = c.requires in
    let a = c.args in
    let d : ℕ = c.loop-d.d in
    let six : length a.from.dims ≡ 6 = search rules in
    let e : length (take a.from.rank a.from.dims) ≡ a.from.rank = length-take-le a.from.rank a.from.dims (omega arith) in
    (p.0, omega arith, subst (λ (n : ℕ). Computes a.m n (at a.index) d) (get_or-take a.from.rank a.from.dims d 0 (omega arith)) (p.2 d (omega arith)))

pub loop-d-preserved : goal.loop-d-preserved
loop-d-preserved c =
    let a = c.args in
    let d : ℕ = c.loop-d.d in (
      omega arith,
      ap (λ (l : List ℕ). set l d c.coordinate.result) c.loop-d.invariant.1
          ∙ fill_step d (λ j. coord_of a.m (get_or a.from.dims j 0) (at a.index) j) (replicate 6 0) c.coordinate.result (omega arith) c.coordinate.ensures,
    )

pub returns : goal.returns
returns c =
    let a = c.args in
    let six : length a.from.dims ≡ 6 = search rules in
    let e : c.loop-d.d ≡ a.from.rank = omega arith in
    let i = at a.index in
    let u : List ℕ = operand_index a.m (take a.from.rank a.from.dims) i in
    let lu : length u ≡ a.from.rank = length-tab (length (take a.from.rank a.from.dims)) _ ∙ length-take-le a.from.rank a.from.dims (omega arith) in
    c.loop-d.invariant.1
    ∙ ap (λ (n : ℕ). tab n (λ j. coord_of a.m (get_or a.from.dims j 0) i j) ++ drop n (replicate 6 0)) e
    ∙ ap (λ (l : List ℕ). l ++ drop a.from.rank (replicate 6 0)) (operand-index-dims a.m a.from.dims a.from.rank i (omega arith))
    ∙ ap (λ (n : ℕ). u ++ drop n (replicate 6 0)) (sym lu)
