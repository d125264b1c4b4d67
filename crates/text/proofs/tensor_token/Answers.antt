use Rattle.std.proofs.Common.{arith, ◌-◌, ◌≤◌, length}
use Rattle.scan.proofs.ByteLaw.{starts-inside}
use Rattle.scan.specs.Ascii.{ascii}
use Rattle.text.proofs.tensor_token.Goals as goal

pub overflow_add-at : goal.overflow_add-at
overflow_add-at c = let h : 7 ≤ length c.args.text.now - c.args.at = starts-inside (ascii "tensor<") c.args.text.now c.args.at c.requires in omega arith
