use Prim.Native.Nat.{ℕ}
use mathlib.Core.Path.{◌∙◌, ap}
use lib.IntN.{pos}
use Rattle.element.specs.Types.{wrap_to}
use Rattle.shape.specs.Index.{at, unravel}
use Rattle.shape.specs.Dims.{dims_of}
use Rattle.shape.proofs.IndexLaw.{at-six}
use Rattle.maps.proofs.iota_element.Goals as goal

pub returns : goal.returns
returns c =
    let a = c.args in
    c.fit.ensures
    ∙ ap (λ (i : ℕ → ℕ). wrap_to a.t (pos (i a.dimension))) (ap at c.index_at-i.ensures ∙ at-six (unravel (dims_of a.to) a.k))
