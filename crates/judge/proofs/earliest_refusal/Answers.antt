use mathlib.Core.Path.{◌≡◌, refl, sym, ap, ◌∙◌}
use Prim.Native.Nat.{◌+◌, ◌-◌}
use native.Mathlib.Omega.{arith}
use lib.ListN.{length}
use borrow.Author.Rules.{rules}
use Rattle.syntax.specs.Readings.{readings_from, readings_of}
use Rattle.syntax.proofs.ReadingLaw.{all_read, none_left, room-first, room_next}
use Rattle.judge.specs.Tally.{at_start, after_token}
use Rattle.judge.specs.Judge.{earliest}
use Rattle.std.specs.Prelude.{Err}
use Rattle.judge.specs.Refusals.{Refusal}
use Rattle.judge.proofs.RefusedLaw.{refused-number}
use Rattle.judge.proofs.TallyLaw.{within-start, within_more, within-next}
use Rattle.judge.proofs.TurnLaw.{turn-failed, turn-refused, turn-taken}
use Rattle.judge.proofs.earliest_refusal.Goals as goal

pub loop-init : goal.loop-init
unfolding readings_of
loop-init c =
    let a = c.args in
    let p = c.requires in
    let s = c.start-top.ensures in
    let n : length a.text.now + 1 - 0 ≡ length a.text.now + 1 = omega arith in (
      rw n (ap (λ x. earliest a.text.now at_start (readings_from (length a.text.now + 1) x a.text.now a.from)) s.expects),
      rw n (room-first a.text.now p.0 p.1 s),
      s.size ∙ p.1,
      within-start _,
    )

pub returns-then-top-stack : goal.returns-then-top-stack
unfolding earliest
returns-then-top-stack c =
    let l = c.loop in
    sym (ap (λ x. earliest c.args.text.now l.s x) (all_read _ l.top l.stack _ l.at (omega arith))) ∙ l.invariant.0

pub read_token-turn-requires : goal.read_token-turn-requires
read_token-turn-requires c =
    let f = c.loop.invariant.1.free in
    let w = c.loop.invariant.1.within in
    let h = c.loop-test.true in
    (omega arith, omega arith)

pub refusal_at-requires : goal.refusal_at-requires
refusal_at-requires c =
    let h = c.loop-test.true in
    let p = c.requires.0 in
    within_more _ _ c.loop.invariant.3 65536 (omega arith)

pub returns-in_default : goal.returns-in_default
returns-in_default c =
    let l = c.loop in
    let h = c.loop-test.true in
    let m = c.if-top-stack.false in
    let x = c.read_token-turn in
    let w = l.invariant.1.within in
    sym (turn-failed l.s _ l.top l.stack _ l.at x.result _ (omega arith) (omega arith) x.ensures c.in_default.is) ∙ l.invariant.0

pub returns-in_err-refusal_at : goal.returns-in_err-refusal_at
returns-in_err-refusal_at c =
    let l = c.loop in
    let h = c.loop-test.true in
    let m = c.if-top-stack.false in
    let x = c.read_token-turn in
    let e = c.in_err-refusal_at in
    let w = l.invariant.1.within in
    let same : c.from_residual.result ≡ Err e.field-0.0 = search rules in
    rw same (
    e.ensures
    ∙ sym (turn-refused l.s _ l.top l.stack _ l.at x.result _ (omega arith) (omega arith) x.ensures _ c.in-Some.is (λ z. refused-number _ (ap (λ (r : Refusal). r.number) e.ensures ∙ z)))
    ∙ l.invariant.0)

pub after_token-s-requires : goal.after_token-s-requires
after_token-s-requires c =
    let h = c.loop-test.true in
    let p = c.requires.0 in
    within_more _ _ c.loop.invariant.3 65536 (omega arith)

pub loop-preserved : goal.loop-preserved
loop-preserved c =
    let l = c.loop in
    let h = c.loop-test.true in
    let m = c.if-top-stack.false in
    let x = c.read_token-turn in
    let w = l.invariant.1.within in
    let n = l.invariant.2 in
    let s = x.ensures.step.size in (
      rw c.after_token-s.ensures (
          sym (turn-taken l.s _ l.top l.stack _ l.at x.result _ (omega arith) (omega arith) x.ensures _ c.in-Some.is _ (omega arith) (ap (λ (r : Refusal). r.number) (sym c.in_ok-refusal_at.ensures)))
          ∙ l.invariant.0),
      room_next _ _ c.in-Some.is (omega arith) (omega arith) l.invariant.1 x.ensures,
      omega arith,
      rw c.after_token-s.ensures (within-next _ l.s l.invariant.3 _ _ _),
    )

pub returns-in_ok-refusal_at : goal.returns-in_ok-refusal_at
unfolding earliest
returns-in_ok-refusal_at c =
    let l = c.loop in
    let h = c.loop-test.true in
    let m = c.if-top-stack.false in
    let x = c.read_token-turn in
    let w = l.invariant.1.within in
    sym (
    turn-taken l.s _ l.top l.stack _ l.at x.result _ (omega arith) (omega arith) x.ensures _ c.in-Some.is _ refl (ap (λ (r : Refusal). r.number) (sym c.in_ok-refusal_at.ensures))
    ∙ ap (earliest c.args.text.now (after_token c.args.text.now l.s c.in-Some.taken.role x.result.token)) (none_left _ _ _ _ (omega arith)))
    ∙ l.invariant.0
