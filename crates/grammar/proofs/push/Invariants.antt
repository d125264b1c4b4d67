use mathlib.Core.Path.{◌≡◌}
use lib.Seq.{paste}
use Rattle.grammar.specs.Tables.{right_of, tail_of}
use Rattle.grammar.proofs.push.Given as goal

abbrev pub invariant-loop-k : goal.invariant-loop-k
invariant-loop-k l = l.stack ≡ paste l.fn.stack l.next (tail_of (right_of l.p)) l.k
