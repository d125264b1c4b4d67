use mathlib.Core.Path.{◌≡◌, sym, ap, ◌∙◌}
use Prim.Native.Nat.{ℕ, suc, ◌-◌}
use native.Mathlib.Omega.{arith}
use native.Mathlib.Numerals.{add-one}
use borrow.Author.Rules.{rules}
use Rattle.judge.specs.Refusals.{Refusal}
use Rattle.judge.proofs.RefusedLaw.{refused-number}
use Rattle.opwise.specs.Opwise.{ops_from}
use Rattle.opwise.proofs.HandedLaw.{handed-on}
use Rattle.opwise.proofs.OpwiseLaw.{refused, goes_on, none_left}
use Rattle.opwise.proofs.first_refused.Goals as goal

pub returns-in_err-op_refusal : goal.returns-in_err-op_refusal
returns-in_err-op_refusal c =
    let l = c.loop-k in
    let a = c.args in
    let e = c.in_err-op_refusal.field-0.0 in
    let s = c.in_err-op_refusal.ensures in
    let h = c.loop-k-test.true in
    rw (handed-on c.from_residual.result e c.from_residual.ensures.1)
    (s ∙ sym (refused a.text.now a.p a.vs (a.p.count - l.k) l.k (a.p.count - l.k - 1) (omega arith) (λ q. refused-number e (ap (λ (x : Refusal). x.number) s ∙ q))) ∙ l.invariant.2)

pub loop-k-preserved : goal.loop-k-preserved
loop-k-preserved c =
    let l = c.loop-k in
    let a = c.args in
    let s = c.in_ok-op_refusal.ensures in
    let h = c.loop-k-test.true in
    (search rules, search rules, rw add-one (sym (goes_on a.text.now a.p a.vs (a.p.count - l.k) l.k (a.p.count - suc l.k) (omega arith) (ap (λ (x : Refusal). x.number) (sym s))) ∙ l.invariant.2))

pub returns : goal.returns
returns c =
    let l = c.loop-k in
    let a = c.args in
    let h = c.loop-k-test.false in
    let e : a.p.count - l.k ≡ 0 = omega arith in
    sym (none_left a.text.now a.p a.vs l.k) ∙ sym (ap (λ (n : ℕ). ops_from a.text.now a.p a.vs n l.k) e) ∙ l.invariant.2
