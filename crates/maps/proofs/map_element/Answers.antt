use Prim.Native.Nat.{ℕ}
use mathlib.Core.Path.{◌≡◌, ◌∙◌, sym, ap, subst}
use mathlib.Core.List.{List}
use lib.ListN.{length, get_or}
use Rattle.lists.proofs.TabLaw.{length-tab}
use Rattle.shape.specs.Index.{at, unravel, element_at}
use Rattle.shape.specs.Dims.{dims_of}
use Rattle.shape.proofs.IndexLaw.{at-six, within-unravel}
use Rattle.shape.proofs.ElementLaw.{element_at-front}
use Rattle.maps.specs.Kinds.{operand_index, coord_of, MapReady}
use Rattle.maps.proofs.map_element.Goals as goal

pub operand_index-j-requires : goal.operand_index-j-requires
operand_index-j-requires c =
    let seen_ : at c.index_at-i.result ≡ at (unravel (dims_of c.args.to) c.args.k) = (ap at c.index_at-i.ensures ∙ at-six (unravel (dims_of c.args.to) c.args.k)) in
    let p = c.requires in
    let a = c.args in
    (p.0.count, p.0.from-sized.rank, subst (λ (i : ℕ → ℕ). MapReady a.m (dims_of a.from) i) (sym (seen_)) (p.0.ready (unravel (dims_of a.to) a.k) (within-unravel (dims_of a.to) a.k p.1)))

pub returns : goal.returns
returns c =
    let seen_ : at c.index_at-i.result ≡ at (unravel (dims_of c.args.to) c.args.k) = (ap at c.index_at-i.ensures ∙ at-six (unravel (dims_of c.args.to) c.args.k)) in
    let a = c.args in
    let u : List ℕ = operand_index a.m (dims_of a.from) (at c.index_at-i.result) in
    c.element_at.ensures
    ∙ ap (λ (j : List ℕ). element_at a.x.now (dims_of a.from) j a.z) c.operand_index-j.ensures
    ∙ element_at-front a.x.now (dims_of a.from) u _ a.z (length-tab (length (dims_of a.from)) (λ d. coord_of a.m (get_or (dims_of a.from) d 0) (at c.index_at-i.result) d))
    ∙ ap (λ (i : ℕ → ℕ). element_at a.x.now (dims_of a.from) (operand_index a.m (dims_of a.from) i) a.z) (seen_)
