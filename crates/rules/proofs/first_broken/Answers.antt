use Rattle.std.proofs.Common.{rules, tests}
use Rattle.std.proofs.lemmas.Iterator.{YieldsList-from_slice}
use Rattle.std.proofs.lemmas.Iterator.Search.{position_from_yields_List}
use Rattle.std.specs.declared.option.Option.TheVariants.{None}
use Rattle.std.specs.Option.{option_map}
use native.Mathlib.Omega.{arith}
use Prim.Native.Nat.{ℕ, ◌+◌}
use mathlib.Core.Bool.{not}
use mathlib.Core.Path.{◌≡◌, sym, ap, ◌∙◌}
use Rattle.rules.proofs.BrokenLaw.{broken-place}
use Rattle.rules.proofs.first_broken.Goals as goal

pub returns-in_err-k : goal.returns-in_err-k
returns-in_err-k c =
    let gone : c.from_residual.result ≡ None = grind arith in
    let place = position_from_yields_List not _ _ c.position.result c.position.ensures.ran (YieldsList-from_slice c.args.holds.now cc) (λ x b q k. search (rules, tests)) in
    gone ∙ ap (option_map (λ (k : ℕ). k + 1)) (sym c.in_err-k.was ∙ place) ∙ broken-place c.args.holds.now

pub returns : goal.returns
returns c =
    let place = position_from_yields_List not _ _ c.position.result c.position.ensures.ran (YieldsList-from_slice c.args.holds.now cc) (λ x b q k. search (rules, tests)) in
    ap (option_map (λ (k : ℕ). k + 1)) (sym c.in_ok-k.was ∙ place) ∙ broken-place c.args.holds.now
