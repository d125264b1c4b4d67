use Rattle.scan.proofs.ByteLaw.{starts-inside}
use Rattle.scan.specs.Ascii.{ascii}
use native.Mathlib.Omega.{arith}
use lib.ListN.{length}
use Prim.Native.Nat.{◌-◌, ◌≤◌}
use mathlib.Core.Path.{sym, ◌∙◌}
use Rattle.scan.specs.TensorText.{element_end}
use Rattle.scan.proofs.typetext.element_end.Goals as goal

pub overflow_add-at : goal.overflow_add-at
overflow_add-at c = let h : 8 ≤ length c.args.text.now - c.args.at = starts-inside (ascii "complex<") c.args.text.now c.args.at (sym c.starts.ensures ∙ c.if-starts.true) in omega arith

pub returns-then-starts : goal.returns-then-starts
unfolding element_end
returns-then-starts c = simp (← c.starts.ensures, c.if-starts.true, ← c.complex_end.ensures)

pub overflow_add-at-then-starts-2 : goal.overflow_add-at-then-starts-2
overflow_add-at-then-starts-2 c = let h : 15 ≤ length c.args.text.now - c.args.at = starts-inside (ascii "!quant.uniform<") c.args.text.now c.args.at (sym c.starts-else-starts.ensures ∙ c.if-starts-2.true) in omega arith

pub returns-then-starts-2 : goal.returns-then-starts-2
unfolding element_end
returns-then-starts-2 c = simp (← c.starts.ensures, c.if-starts.false, ← c.starts-else-starts.ensures, c.if-starts-2.true, ← c.quantized_end.ensures)

pub returns-else-starts-2 : goal.returns-else-starts-2
unfolding element_end
returns-else-starts-2 c = simp (← c.starts.ensures, c.if-starts.false, ← c.starts-else-starts.ensures, c.if-starts-2.false, ← c.word_end.ensures)
