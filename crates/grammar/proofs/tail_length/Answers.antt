use mathlib.Core.Path.{refl}
use native.Mathlib.Omega.{arith}
use Rattle.grammar.specs.Grammar.{grammar}
use Rattle.grammar.specs.Tables.{right_of}
use Rattle.grammar.proofs.TableRight.{length_test, length-right}
use Rattle.grammar.proofs.tail_length.Goals as goal

pub overflow_sub-result-2 : goal.overflow_sub-result-2
unfolding length_test right_of grammar
overflow_sub-result-2 c = rw (length-right _ refl tt c.args.p (omega arith) (omega arith)) (omega arith)

pub returns : goal.returns
unfolding length_test right_of grammar
returns c = rw (length-right _ refl tt c.args.p (omega arith) (omega arith)) (omega arith)
