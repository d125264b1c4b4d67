-- What `?` hands on of a refusal, and which of two answers is given.
-- Assumes nothing.
use mathlib.Core.Path.{◌≡◌, refl, sym, ap, ◌∙◌}
use lib.Dec.{eqb}
use borrow.Author.Tests.{eq-eqb, ne_eqb}
use Rattle.std.specs.Prelude.{Result, Ok, Err, IsErrAnd}
use Rattle.lists.specs.Lists.{pick}
use Rattle.judge.specs.declared.Refused.{Refused}
use Rattle.judge.specs.Refusals.{Refusal, numbers_of}
use Rattle.judge.proofs.RefusedLaw.{refused-number}

pub handed-on : {T E : Type 0} (r : Result T E) (e : E) → IsErrAnd r (λ y. y ≡ e) → r ≡ Err e
handed-on (Ok x) e h = absurd h
handed-on (Err y) e h = ap Err h

-- the first answer where it refuses, else the later one
pub refused-first : (e : Refused) (first later : Refusal) → numbers_of (Err e) ≡ first → pick (eqb first.number 0) later first ≡ first
refused-first e first later h = rw (ne_eqb first.number 0 (λ q. refused-number e (ap (λ (x : Refusal). x.number) h ∙ q))) refl

pub fine-first : (first later : Refusal) → numbers_of (Ok tt) ≡ first → pick (eqb first.number 0) later first ≡ later
fine-first first later h = rw (eq-eqb first.number 0 (ap (λ (x : Refusal). x.number) (sym h))) refl
