use mathlib.Core.Path.{◌≡◌, refl, sym, ap, ◌∙◌}
use Prim.Native.Nat.{◌+◌, ◌-◌}
use native.Mathlib.Omega.{arith}
use borrow.Author.Tests.{eq-eqb, ne_eqb}
use mathlib.Core.Bool.{true, false}
use mathlib.Core.List.{[], ◌∷◌}
use lib.Dec.{eqb}
use lib.ListN.{length, drop}
use Rattle.lists.specs.Lists.{pick}
use Rattle.syntax.specs.Readings.{reading, readings_from, readings_of, readings}
use Rattle.syntax.proofs.ReadingLaw.{all_read, none_left, turn-wrong, turn-right, room-first, room_next}
use Rattle.program.specs.Program.{no_program, outlined, naming_after, program_from}
use Rattle.program.proofs.FoldLaw.{depth-next, program-next, program-stop}
use Rattle.program.proofs.program_in.Goals as goal
use Rattle.program.proofs.program_in.Goals.{then-depth-eq0, else-depth-eq0}

pub loop-init : goal.loop-init
unfolding readings readings_of
loop-init c =
    let s = c.start-top.ensures in
    let e = c.empty_program-program.ensures in
    let a = c.args in
    let p = c.requires in
    let n : length a.text.now + 1 - 0 ≡ length a.text.now + 1 = omega arith in (
      rw (e, n) (ap (λ x. program_from no_program false 0 (readings_from (length a.text.now + 1) x a.text.now 0)) s.expects),
      rw n (room-first a.text.now p.0 p.1 s),
      s.size ∙ p.1,
      omega arith,
    )

pub returns-then-top-stack : goal.returns-then-top-stack
unfolding program_from
returns-then-top-stack c =
    let l = c.loop in
    sym (ap (program_from l.program l.naming l.depth) (all_read _ l.top l.stack _ l.place (omega arith))) ∙ l.invariant.0

pub read_token-turn-requires : goal.read_token-turn-requires
read_token-turn-requires c =
    let f = c.loop.invariant.1.free in
    let w = c.loop.invariant.1.within in
    let h = c.loop-test.true in
    (omega arith, omega arith)

pub returns-in_default : goal.returns-in_default
returns-in_default c =
    let l = c.loop in
    let a = c.args in
    let r = c.read_token-turn in
    let w = l.invariant.1.within in
    let wrong = turn-wrong _ l.top l.stack _ l.place _ _ (omega arith) (omega arith) r.ensures c.in_default.is in
    sym (ap (program_from l.program l.naming l.depth) wrong ∙ program-stop l.program l.naming l.depth r.result.token) ∙ l.invariant.0

pub depth_after-depth-requires : goal.depth_after-depth-requires
depth_after-depth-requires c =
    let d = c.loop.invariant.3 in
    let p = c.requires.0 in
    omega arith

pub loop-preserved : goal.loop-preserved
loop-preserved c =
    let l = c.loop in
    let a = c.args in
    let r = c.read_token-turn in
    let x = c.in-Some.taken in
    let w = l.invariant.1.within in
    let s = r.ensures.step.size in
    let d = l.invariant.3 in
    let b = depth-next l.depth x.role in
    let e = c.depth_after-depth.ensures in
    let m = c.if-top-stack.false in
    let own : c.if-depth-eq0.program ≡ pick (eqb l.depth 0) (outlined l.program l.naming x.role r.result.token.start) l.program =
    elim c.if-depth-eq0.branch [
      | then-depth-eq0 w ↦ rw (w.program-is, w.outline-program.ensures, eq-eqb _ _ w.if-depth-eq0.true)
      | else-depth-eq0 w ↦ rw (w.program-is, ne_eqb _ _ w.if-depth-eq0.false)
    ] in
    let name : c.if-depth-eq0.naming ≡ pick (eqb l.depth 0) (naming_after l.naming x.role) l.naming =
    elim c.if-depth-eq0.branch [
      | then-depth-eq0 w ↦ rw (w.naming-is, w.naming_after-naming.ensures, eq-eqb _ _ w.if-depth-eq0.true)
      | else-depth-eq0 w ↦ rw (w.naming-is, ne_eqb _ _ w.if-depth-eq0.false)
    ] in
    let right = turn-right _ l.top l.stack _ l.place _ _ (omega arith) (omega arith) r.ensures x (length a.text.now + 1 - l.counter - 1) c.in-Some.is refl in
    let next : length a.text.now + 1 - (l.counter + 1) ≡ length a.text.now + 1 - l.counter - 1 = omega arith in (
      rw (e, own, name, next) (sym (ap (program_from l.program l.naming l.depth) right ∙ program-next l.program l.naming l.depth x.role r.result.token _) ∙ l.invariant.0),
      room_next _ _ c.in-Some.is next (omega arith) l.invariant.1 r.ensures,
      omega arith,
      omega arith,
    )

pub returns-after-depth-eq0 : goal.returns-after-depth-eq0
unfolding program_from
returns-after-depth-eq0 c =
    let l = c.loop in
    let a = c.args in
    let r = c.read_token-turn in
    let x = c.in-Some.taken in
    let w = l.invariant.1.within in
    let m = c.if-top-stack.false in
    let own : c.if-depth-eq0.program ≡ pick (eqb l.depth 0) (outlined l.program l.naming x.role r.result.token.start) l.program =
    elim c.if-depth-eq0.branch [
      | then-depth-eq0 w ↦ rw (w.program-is, w.outline-program.ensures, eq-eqb _ _ w.if-depth-eq0.true)
      | else-depth-eq0 w ↦ rw (w.program-is, ne_eqb _ _ w.if-depth-eq0.false)
    ] in
    let right = turn-right _ l.top l.stack _ l.place _ _ (omega arith) (omega arith) r.ensures x (length a.text.now + 1 - l.counter - 1) c.in-Some.is refl in
    let last = none_left (length a.text.now + 1 - l.counter - 1) (drop x.top r.new.stack) a.text.now r.result.token.end (omega arith) in
    rw own (
    sym (ap (program_from l.program l.naming l.depth) (right ∙ ap (λ y. reading true x.role r.result.token ∷ y) last) ∙ program-next l.program l.naming l.depth x.role r.result.token [])
    ∙ l.invariant.0)
