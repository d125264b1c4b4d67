use mathlib.Core.Path.{◌≡◌, refl, sym, ap}
use native.Mathlib.Omega.{arith}
use lib.ListN.{drop}
use borrow.Author.Rules.{rules}
use Rattle.std.specs.Prelude.{Err}
use Rattle.scope.specs.Scope.{and_then, settle, names_of}
use Rattle.scope.proofs.ScopeLaw.{rescope, goes_on, stops, past_end}
use Rattle.scope.proofs.after_op.Goals as goal

pub returns-then-at-text : goal.returns-then-at-text
unfolding names_of
returns-then-at-text c =
    let a = c.args in
    rescope (ap (λ x. and_then x (settle a.text.now)) (sym (past_end a.text.now (drop a.top a.entries.now) a.at c.if-at-text.true))) (omega arith) c.settle_names.ensures

pub returns-in_err-read : goal.returns-in_err-read
unfolding names_of
returns-in_err-read c =
    let e = c.in_err-read in
    let same : c.from_residual.result ≡ Err e.field-0.0 = search rules in
    rw same (stops (settle c.args.text.now) _ e.ensures)

pub returns : goal.returns
unfolding names_of
returns c = rescope refl (omega arith) (goes_on (settle c.args.text.now) c.settle_names-2.result c.in_ok-read.ensures c.settle_names-2.ensures)
