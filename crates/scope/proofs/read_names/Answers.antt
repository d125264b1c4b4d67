use mathlib.Core.Path.{◌≡◌, refl, ap, ◌∙◌}
use mathlib.Core.List.{[]}
use Prim.Native.Nat.{◌+◌, ◌-◌}
use native.Mathlib.Omega.{arith}
use lib.ListN.{length, drop}
use borrow.Author.Rules.{rules}
use Rattle.std.specs.Prelude.{Err}
use Rattle.text.proofs.TokenLaw.{token-ordered, token-within}
use Rattle.syntax.specs.Readings.{readings_from, readings_of}
use Rattle.syntax.proofs.ReadingLaw.{all_read, none_left, turn-wrong, turn-right, room-first, room_next}
use Rattle.scope.specs.Scope.{names_from}
use Rattle.scope.proofs.ScopeLaw.{names-none, names-stop, naming-end, naming-fault, naming-next}
use Rattle.scope.proofs.read_names.Goals as goal

pub loop-init : goal.loop-init
unfolding readings_of
loop-init c =
    let a = c.args in
    let p = c.requires in
    let s = c.start-next.ensures in
    let q = p.3 in
    let n : length a.text.now + 1 - 0 ≡ length a.text.now + 1 = omega arith in
    rw n (record {
      same = ap (λ x. names_from a.text.now 0 (drop a.top a.entries.now) (readings_from (length a.text.now + 1) x a.text.now a.at)) s.expects;
      machine = room-first a.text.now p.0 p.1 s;
      full = s.size ∙ p.1;
      size = refl;
      free = q;
      used = omega arith;
      within = p.4;
      inside = p.2;
    })

pub returns-then-next-stack : goal.returns-then-next-stack
returns-then-next-stack c =
    let l = c.loop in
    let n = l.invariant.full in
    naming-end l.invariant [] (all_read _ l.next l.stack _ l.place (omega arith)) (names-none _ _ _)

pub read_token-read-requires : goal.read_token-read-requires
read_token-read-requires c =
    let f = c.loop.invariant.machine.free in
    let w = c.loop.invariant.machine.within in
    let h = c.loop-test.true in
    (omega arith, omega arith)

pub returns-in_default : goal.returns-in_default
returns-in_default c =
    let l = c.loop in
    let v = l.invariant in
    let r = c.read_token-read in
    let w = v.machine.within in
    let n = v.full in
    naming-end v _ (turn-wrong _ l.next l.stack _ l.place _ _ (omega arith) (omega arith) r.ensures c.in_default.is) (names-stop _ _ _ _)

pub turn-requires : goal.turn-requires
turn-requires c =
    let l = c.loop in
    let v = l.invariant in
    let f = v.free in
    let h = c.loop-test.true in
    let e = c.read_token-read.ensures.token in
    let p = c.requires.0 in
    let x = token-within c.args.text.now l.place v.inside in
    let y = token-ordered c.args.text.now l.place in
    (omega arith, v.within, rw e (omega arith))

pub returns-in_err-first : goal.returns-in_err-first
returns-in_err-first c =
    let l = c.loop in
    let v = l.invariant in
    let r = c.read_token-read in
    let w = v.machine.within in
    let n = v.full in
    let m = c.if-next-stack.false in
    let t = c.loop-test.true in
    let e = c.in_err-first in
    let same : c.from_residual.result ≡ Err e.field-0.0 = search rules in
    rw same (naming-fault v _ _ _ (turn-right _ l.next l.stack _ l.place _ _ (omega arith) (omega arith) r.ensures c.in-Some.taken _ c.in-Some.is refl) _ e.ensures)

pub loop-preserved : goal.loop-preserved
loop-preserved c =
    let l = c.loop in
    let v = l.invariant in
    let r = c.read_token-read in
    let w = v.machine.within in
    let n = v.full in
    let m = c.if-next-stack.false in
    let t = c.loop-test.true in
    let s = r.ensures.step.size in
    let x = token-within c.args.text.now l.place v.inside in
    let k : length c.args.text.now + 1 - (l.counter + 1) ≡ length c.args.text.now + 1 - l.counter - 1 = omega arith in
    naming-next v _ _ _ (turn-right _ l.next l.stack _ l.place _ _ (omega arith) (omega arith) r.ensures c.in-Some.taken (length c.args.text.now + 1 - (l.counter + 1)) c.in-Some.is k)
    c.in_ok-first.ensures (omega arith) r.new.stack c.in-Some.taken.top _ k refl (room_next _ _ c.in-Some.is k (omega arith) v.machine r.ensures) (omega arith) (rw r.ensures.token x)

pub returns-in_ok-first : goal.returns-in_ok-first
returns-in_ok-first c =
    let l = c.loop in
    let v = l.invariant in
    let r = c.read_token-read in
    let w = v.machine.within in
    let n = v.full in
    let m = c.if-next-stack.false in
    let t = c.loop-test.true in
    let s = r.ensures.step.size in
    let x = token-within c.args.text.now l.place v.inside in
    let next = naming-next v _ _ _ (turn-right _ l.next l.stack _ l.place _ _ (omega arith) (omega arith) r.ensures c.in-Some.taken (length c.args.text.now + 1 - l.counter - 1) c.in-Some.is refl)
    c.in_ok-first.ensures (omega arith) r.new.stack c.in-Some.taken.top _ refl refl (room_next _ _ c.in-Some.is refl (omega arith) v.machine r.ensures) (omega arith) (rw r.ensures.token x) in
    naming-end next [] (none_left (length c.args.text.now + 1 - l.counter - 1) (drop c.in-Some.taken.top r.new.stack) _ _ (omega arith)) (names-none _ _ _)
