use Rattle.std.proofs.Common.{arith, sym, ◌∙◌, ◌-◌, ◌≤◌, length}
use Rattle.scan.proofs.ByteLaw.{starts-inside}
use Rattle.scan.specs.Ascii.{ascii}
use Rattle.types.proofs.tensors.element_named.Goals as goal

pub overflow_add-start : goal.overflow_add-start
overflow_add-start c = let h : 1 ≤ length c.args.text.now - c.args.start = starts-inside (ascii "i") c.args.text.now c.args.start (sym c.starts.ensures ∙ c.if-starts.true) in omega arith

pub overflow_add-start-then-starts-2 : goal.overflow_add-start-then-starts-2
overflow_add-start-then-starts-2 c = let h : 2 ≤ length c.args.text.now - c.args.start = starts-inside (ascii "si") c.args.text.now c.args.start (sym c.starts-else-starts.ensures ∙ c.if-starts-2.true) in omega arith

pub overflow_add-start-then-starts-3 : goal.overflow_add-start-then-starts-3
overflow_add-start-then-starts-3 c = let h : 2 ≤ length c.args.text.now - c.args.start = starts-inside (ascii "ui") c.args.text.now c.args.start (sym c.starts-else-starts-2.ensures ∙ c.if-starts-3.true) in omega arith
