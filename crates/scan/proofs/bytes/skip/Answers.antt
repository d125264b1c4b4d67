use Rattle.std.proofs.Common.{sym, ◌∙◌}
use Rattle.scan.specs.Bytes.{in_comment, skip_end}
use Rattle.scan.proofs.ByteLaw.{tail-drop, tail-end, space-no-comment, skip-past, skip_step}
use Rattle.scan.proofs.bytes.skip.Goals as goal
use Rattle.scan.proofs.bytes.skip.Goals.{then-comment, else-comment+then-not-is_space+else-not-starts, else-comment+else-not-is_space}

pub returns-then-not-starts : goal.returns-then-not-starts
unfolding skip_end in_comment
returns-then-not-starts c = rw (← c.tail-b-items.ensures, ← c.loop-i.invariant, skip_step _ _ _ _ c.loop-i-test.true)
    (simp (c.if-comment.false, tail-drop c.loop-i.i c.args.at c.args.text.now c.tail-b-items.ensures, ← c.starts.ensures, c.if-not-starts.true, ← c.is_space.ensures, c.if-not-is_space.true))

pub loop-i-preserved : goal.loop-i-preserved
unfolding in_comment
loop-i-preserved c = rw (← c.loop-i.invariant, skip_step _ _ _ _ c.loop-i-test.true) (elim c.if-comment.branch [
  | then-comment w ↦ simp (w.comment-is, w.if-comment.true)
  | else-comment+then-not-is_space+else-not-starts w ↦ simp (w.comment-is, w.if-comment.false, tail-drop c.loop-i.i c.args.at c.args.text.now c.tail-b-items.ensures, ← w.starts.ensures, w.if-not-starts.false)
  | else-comment+else-not-is_space w ↦ simp (w.comment-is, w.if-comment.false, space-no-comment _ _ c.loop-i-test.true (sym w.is_space.ensures ∙ w.if-not-is_space.false), ← w.is_space.ensures, w.if-not-is_space.false)
])

pub returns : goal.returns
unfolding skip_end
returns c = rw (← c.tail-b-items.ensures, ← c.loop-i.invariant, skip-past _ _ _ _ c.loop-i-test.false) (c.max.ensures ∙ sym (tail-end _ _ _ _ c.tail-b-items.ensures c.loop-i.auto.i-end c.loop-i-test.false))
