use mathlib.Core.Path.{◌≡◌, refl}
use mathlib.Core.Bool.{Bool}
use mathlib.Core.List.{List}
use Prim.Native.Nat.{ℕ, ◌+◌, ◌<◌}
use native.Mathlib.Omega.{arith}
use lib.Dec.{T, eqb, eqb→eq}
use lib.ListN.{length, get_or}
use borrow.Author.Rules.{rules}
use Rattle.grammar.proofs.TableTest.{every, at}
use Rattle.syntax.specs.Kinds.{mark_kind}
use Rattle.syntax.proofs.mark_kind.Goals as goal

unfoldable mark_test : ℕ → ℕ → Bool
mark_test b x = eqb x (48 + mark_kind b)

mark-right : (l : List ℕ) → length l ≡ 256 → T (every mark_test 0 l) → (b : ℕ) → b < 256 → get_or l b 0 ≡ 48 + mark_kind b
unfolding mark_test
mark-right l n t b h = eqb→eq _ _ (at 0 mark_test l t b (omega arith))

pub overflow_sub-result : goal.overflow_sub-result
unfolding mark_test mark_kind
overflow_sub-result c = rw (mark-right _ refl tt c.args.kind (search rules)) (omega arith)

pub returns : goal.returns
unfolding mark_test mark_kind
returns c = rw (mark-right _ refl tt c.args.kind (search rules)) (omega arith)
