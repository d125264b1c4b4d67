use mathlib.Core.Path.{sym, ap, ◌∙◌}
use Prim.Native.Nat.{ℕ}
use borrow.Author.Tests.{eq-eqb, ne_eqb}
use Rattle.division.specs.Division.{division_of}
use Rattle.division.proofs.Dispatch.{unsigned-quotient, unsigned-remainder}
use Rattle.division.proofs.apply_division.Goals as goal

pub returns-then-b-eq0 : goal.returns-then-b-eq0
unfolding division_of
returns-then-b-eq0 c = simp (eq-eqb _ 0 c.if-b-eq0.true)

pub divide_signed-requires : goal.divide_signed-requires
divide_signed-requires c =
    let s = c in
    (sym c.is_signed.ensures ∙ c.if-is_signed.true, (s.requires.0, (s.requires.1, c.if-b-eq0.false)))

pub returns-then-is_signed : goal.returns-then-is_signed
unfolding division_of
returns-then-is_signed c = simp (ne_eqb _ 0 c.if-b-eq0.false) (ap (λ (v : ℕ). (0, v)) c.divide_signed.ensures)

pub returns-in-Divide : goal.returns-in-Divide
unfolding division_of
returns-in-Divide c =
    let s = c in
    rw (c.in-Divide.is, ne_eqb s.args.b 0 c.if-b-eq0.false)
    (ap (λ (v : ℕ). (0, v)) (unsigned-quotient s.args.t (sym c.is_signed.ensures ∙ c.if-is_signed.false) s.args.a s.args.b s.requires.0))

pub returns-in-Remainder : goal.returns-in-Remainder
unfolding division_of
returns-in-Remainder c =
    let s = c in
    rw (c.in-Remainder.is, ne_eqb s.args.b 0 c.if-b-eq0.false)
    (ap (λ (v : ℕ). (0, v)) (unsigned-remainder s.args.t (sym c.is_signed.ensures ∙ c.if-is_signed.false) s.args.a s.args.b s.requires.0))
