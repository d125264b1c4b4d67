use Rattle.optable.proofs.TableLaw.{attributes-count}
use Rattle.attributes.specs.Attributes.{needed_at}
use mathlib.Core.Path.{sym}
use mathlib.Core.List.{[], ◌∷◌}
use lib.ListN.{get_or-eq_default}
use native.Mathlib.Omega.{arith}
use Rattle.attributes.proofs.needed_at.Goals as goal

pub returns-in_default : goal.returns-in_default
unfolding needed_at
returns-in_default c =
    let a = c.args in
    let m = c.in_default in
    rw attributes-count (sym (get_or-eq_default (a.row.a ∷ a.row.b ∷ a.row.c ∷ []) 15 {n = a.s} (omega arith)))
