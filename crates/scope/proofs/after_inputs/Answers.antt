use mathlib.Core.Path.{◌≡◌, refl}
use native.Mathlib.Omega.{arith}
use borrow.Author.Rules.{rules}
use Rattle.std.specs.Prelude.{Err}
use Rattle.scope.proofs.ScopeLaw.{inputs-done, inputs-fault, inputs-more}
use Rattle.scope.proofs.after_inputs.Goals as goal

pub loop-place-init : goal.loop-place-init
loop-place-init c = record { same = refl; size = refl; used = omega arith; within = c.requires.1; inside = omega arith }

pub define_name-requires : goal.define_name-requires
define_name-requires c =
    let v = c.loop-place.invariant in
    let u = v.used in
    let p = c.requires.0 in
    (omega arith, v.within)

pub returns-in_err-first : goal.returns-in_err-first
returns-in_err-first c =
    let e = c.in_err-first in
    let same : c.from_residual.result ≡ Err e.field-0.0 = search rules in
    rw same (inputs-fault c.loop-place.invariant (omega arith) _ e.ensures)

pub loop-place-preserved : goal.loop-place-preserved
loop-place-preserved c = inputs-more c.loop-place.invariant (omega arith) c.in_ok-first.ensures

pub returns : goal.returns
returns c = inputs-done c.loop-place.invariant (omega arith)
