use mathlib.Core.Path.{◌≡◌}
use Prim.Native.Nat.{ℕ, ◌^◌, ◌≤◌, ◌<◌}
use native.Mathlib.Omega.{arith}
use lib.ListN.{length, get_or}
use lib.Seq.{get_or-take}
use mir.Syntax.{w64}
use mir.Val.{Fits}
use Rattle.dimrules.specs.Dims.{num}
use Rattle.rule_laws.proofs.Tests.{reverse_tests}
use Rattle.rule_laws.proofs.ReverseLaw.{same-reverse}
use borrow.Author.Rules.{rules}
use Rattle.rules.proofs.reverse_broken.Goals as goal

pub returns : goal.returns
unfolding reverse_tests
returns c =
    let a = c.args in
    let g = c.well_formed.1.0 in
    let six : length a.dimensions.list ≡ 6 = search rules in
    let few : a.dimensions.count ≤ length a.dimensions.list = omega (arith, six, c.requires.1) in
    let words : (d : ℕ) → d < a.dimensions.count → num a.dimensions d < 2 ^ 64 =
    λ d k. let h : Fits w64 (get_or a.dimensions.list d 0) = search rules in rw (get_or-take a.dimensions.count a.dimensions.list d 0 k) h.fits in
    rw (same-reverse a.x a.dimensions a.r few words) (simp (c.first_broken.ensures, c.all_dims-c3.ensures, c.all_dims-c2.ensures, c.same_type-c1.ensures, c.sides_of-s.ensures))
