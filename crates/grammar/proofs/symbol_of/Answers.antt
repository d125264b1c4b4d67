use mathlib.Core.Path.{refl}
use native.Mathlib.Omega.{arith}
use Rattle.grammar.specs.Tables.{right_of}
use Rattle.grammar.specs.Grammar.{grammar}
use Rattle.grammar.proofs.TableRight.{symbol_test, symbol-right}
use Rattle.grammar.proofs.symbol_of.Goals as goal

pub overflow_sub-result-2 : goal.overflow_sub-result-2
unfolding symbol_test right_of grammar
overflow_sub-result-2 c = rw (symbol-right _ refl tt c.args.p c.args.k (omega arith) (omega arith) (omega arith)) (omega arith)

pub returns : goal.returns
unfolding symbol_test right_of grammar
returns c = rw (symbol-right _ refl tt c.args.p c.args.k (omega arith) (omega arith) (omega arith)) (omega arith)
