use Rattle.std.proofs.Common.{arith, sym, ◌∙◌, ◌-◌, ◌≤◌, length}
use Rattle.scan.proofs.ByteLaw.{starts-inside}
use Rattle.scan.specs.Ascii.{ascii}
use Rattle.types.specs.Tensors.{foreign, type_of}
use Rattle.types.proofs.tensors.type_at.Goals as goal

pub overflow_add-start : goal.overflow_add-start
overflow_add-start c = let h : 7 ≤ length c.args.text.now - c.args.start = starts-inside (ascii "tensor<") c.args.text.now c.args.start (sym c.starts.ensures ∙ c.if-starts.true) in omega arith

pub type_after-requires : goal.type_after-requires
type_after-requires c = let h : 7 ≤ length c.args.text.now - c.args.start = starts-inside (ascii "tensor<") c.args.text.now c.args.start (sym c.starts.ensures ∙ c.if-starts.true) in omega arith

pub returns-else-starts : goal.returns-else-starts
unfolding type_of foreign
returns-else-starts c = simp (← c.starts.ensures, c.if-starts.false)
