use Prim.Native.Nat.{ℕ, ◌<◌}
use mathlib.Core.Path.{◌≡◌, ◌∙◌, sym, ap}
use native.Mathlib.Omega.{arith}
use lib.ListN.{length}
use lib.Seq.{length-take-le}
use lib.Dec.{ltb}
use borrow.Author.Tests.{lt-ltb, le-ltb}
use borrow.Author.Rules.{rules}
use Rattle.std.specs.declared.option.Option.{Option}
use Rattle.std.specs.declared.option.Option.TheVariants.{None, Some}
use Rattle.std.specs.Option.{is_some, unwrap_or, IfSome}
use Rattle.shape.specs.Place.{place_in}
use Rattle.dimrules.specs.Dims.{list_of}
use Rattle.dimrules.proofs.is_in.Goals as goal

found : (r : Option ℕ) (n p : ℕ) → unwrap_or r n ≡ p → IfSome r (λ k. k < n) → is_some r ≡ ltb p n
found None n p e h = sym (le-ltb p n (omega arith))
found (Some k) n p e h = sym (lt-ltb p n (omega arith))

pub returns : goal.returns
returns c =
    let a = c.args in
    let six : length a.a.list ≡ 6 = search rules in
    c.is_some.ensures
    ∙ found c.place_in.result a.a.count (place_in (list_of a.a) a.d) c.place_in.ensures.place c.place_in.ensures.within
    ∙ ap (ltb (place_in (list_of a.a) a.d)) (sym (length-take-le a.a.count a.a.list (omega arith)))
