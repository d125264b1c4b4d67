use Rattle.std.proofs.Common.{arith, sym, ◌∙◌, ◌-◌, ◌≤◌, length}
use Rattle.scan.proofs.ByteLaw.{starts-inside}
use Rattle.scan.specs.Ascii.{ascii}
use Rattle.text.proofs.word_token.Goals as goal

pub overflow_add-at : goal.overflow_add-at
overflow_add-at c = let h : 9 ≤ length c.args.text.now - c.args.at = starts-inside (ascii "func.func") c.args.text.now c.args.at (sym c.starts.ensures ∙ c.if-starts.true) in omega arith
