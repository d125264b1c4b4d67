use mathlib.Core.Path.{◌≡◌, refl}
use mathlib.Core.Bool.{Bool}
use mathlib.Core.List.{List}
use Prim.Native.Nat.{ℕ, ◌+◌, ◌<◌}
use native.Mathlib.Omega.{arith}
use lib.Dec.{T, eqb, eqb→eq}
use lib.ListN.{length, get_or}
use borrow.Author.Rules.{rules}
use Rattle.grammar.proofs.TableTest.{every, at}
use Rattle.program.specs.Parts.{part_of}
use Rattle.program.proofs.part_of.Goals as goal

unfoldable part_test : ℕ → ℕ → Bool
part_test b x = eqb x (48 + part_of b)

part_right : (l : List ℕ) → length l ≡ 256 → T (every part_test 0 l) → (b : ℕ) → b < 256 → get_or l b 0 ≡ 48 + part_of b
unfolding part_test
part_right l n t b h = eqb→eq _ _ (at 0 part_test l t b (omega arith))

pub overflow_sub-result : goal.overflow_sub-result
unfolding part_test part_of
overflow_sub-result c = rw (part_right _ refl tt c.args.role (search rules)) (omega arith)

pub returns : goal.returns
unfolding part_test part_of
returns c = rw (part_right _ refl tt c.args.role (search rules)) (omega arith)
