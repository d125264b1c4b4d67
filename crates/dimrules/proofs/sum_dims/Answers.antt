use Rattle.std.proofs.Common.{rules, tests, arith, take, length}
use Rattle.std.proofs.lemmas.Iterator.{YieldsList-from_slice, YieldsList-from_map}
use Rattle.std.proofs.lemmas.Iterator.Consumers.{YieldsList-at, sum_by_from_yields_List, fits_by_from_yields_list}
use mathlib.Core.Path.{◌≡◌, ◌∙◌}
use Rattle.dimrules.specs.Dims.{dim}
use Rattle.dimrules.specs.Types.{type_at, no_type, sum_of_dims}
use Rattle.dimrules.proofs.ReadLaw.{dim-small}
use Rattle.dimrules.proofs.CountLaw.{sum-taken, sum-small}
use Rattle.dimrules.proofs.sum_dims.Goals as goal

pub sum-requires-clause-fits : goal.sum-requires-clause-fits
sum-requires-clause-fits c =
    let a = c.args in
    let s = c.requires.1 in
    let eight : length a.types ≡ 8 = search rules in
    let e = sum-taken (λ t. dim t.shape a.k) a.types no_type a.n (omega arith) in
    let b = sum-small a.n (λ j. dim (type_at a.types j).shape a.k) (λ j l. dim-small (type_at a.types j).shape (s j (omega arith)) a.k) in
    fits_by_from_yields_list (λ t. dim t.shape a.k) (take a.n a.types) c.map.result _ (YieldsList-from_map _ (λ t. dim t.shape a.k) (YieldsList-at c.map.ensures.source (YieldsList-from_slice (take a.n a.types) cc)) c.map.ensures.closure (λ x r q k. search (rules, tests))) (omega (arith, e, b))

pub returns : goal.returns
unfolding sum_of_dims
returns c =
    let a = c.args in
    let eight : length a.types ≡ 8 = search rules in
    sum_by_from_yields_List (λ t. dim t.shape a.k) (take a.n a.types) c.map.result _ c.sum.ensures.ran (YieldsList-from_map _ (λ t. dim t.shape a.k) (YieldsList-at c.map.ensures.source (YieldsList-from_slice (take a.n a.types) cc)) c.map.ensures.closure (λ x r q k. search (rules, tests)))
    ∙ sum-taken (λ t. dim t.shape a.k) a.types no_type a.n (omega (arith, c.requires.0))
