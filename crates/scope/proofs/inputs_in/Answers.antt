use mathlib.Core.Path.{◌≡◌, ap, ◌∙◌}
use native.Mathlib.Omega.{arith}
use borrow.Author.Rules.{rules}
use lib.ListN.{length, drop_of_length-le}
use Rattle.std.specs.Prelude.{Err}
use Rattle.scope.specs.Scope.{inputs_from, fault_of}
use Rattle.scope.proofs.ScopeLaw.{said, said_bad}
use Rattle.scope.proofs.inputs_in.Goals as goal

pub returns-in_err-after_inputs : goal.returns-in_err-after_inputs
returns-in_err-after_inputs c =
    let a = c.args in
    let x = a.entries.now in
    let e = c.in_err-after_inputs in
    let same : c.from_residual.result ≡ Err e.field-0.0 = search rules in
    rw same (said_bad _ e.ensures ∙ ap (λ es. fault_of (inputs_from a.text.now es a.places.now)) (drop_of_length-le x {i = length x} (omega arith)))

pub returns : goal.returns
returns c =
    let a = c.args in
    let x = a.entries.now in
    said c.in_ok-after_inputs.ensures ∙ ap (λ es. fault_of (inputs_from a.text.now es a.places.now)) (drop_of_length-le x {i = length x} (omega arith))
