use mathlib.Core.Path.{◌≡◌, refl, ap, ◌∙◌}
use mathlib.Core.List.{List, ◌++◌}
use Prim.Native.Nat.{ℕ, ◌-◌}
use native.Mathlib.Omega.{arith}
use lib.ListN.{drop, set, replicate}
use Rattle.lists.specs.Lists.{tab}
use Rattle.lists.proofs.TabLaw.{fill_step, fill-whole}
use Rattle.spans.specs.Spans.{place_at, places_of}
use Rattle.spans.proofs.places_of.Goals as goal

pub loop-j-init : goal.loop-j-init
loop-j-init c = (omega arith, refl)

pub place_at-requires : goal.place_at-requires
place_at-requires c = c.requires

pub loop-j-preserved : goal.loop-j-preserved
loop-j-preserved c =
    let a = c.args in
    let h = c.loop-j in (
      omega arith,
      ap (λ (l : List ℕ). set l h.j c.place_at.result) h.invariant.1
          ∙ fill_step h.j (place_at a.text.now a.op a.vs a.n) (replicate 8 0) c.place_at.result (omega arith) c.place_at.ensures,
    )

pub returns : goal.returns
unfolding places_of
returns c =
    let a = c.args in
    let f = place_at a.text.now a.op a.vs a.n in
    let e : c.loop-j.j ≡ 8 = omega arith in
    c.loop-j.invariant.1 ∙ ap (λ (k : ℕ). tab k f ++ drop k (replicate 8 0)) e ∙ fill-whole 8 f (replicate 8 0) (omega arith)
