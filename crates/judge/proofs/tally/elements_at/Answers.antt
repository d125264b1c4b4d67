use mathlib.Core.Path.{◌≡◌, refl}
use mathlib.Core.Bool.{true, false}
use native.Mathlib.Omega.{arith}
use Rattle.std.specs.Prelude.{Option, Some, None, is_some}
use Rattle.types.specs.Tensors.{passed_number}
use Rattle.types.specs.declared.tensors.Passed.{Passed}
use Rattle.judge.proofs.TallyLaw.{read_sized}
use Rattle.judge.proofs.tally.elements_at.Goals as goal

none_passed : (o : Option Passed) → is_some o ≡ false → passed_number o ≡ 0
none_passed None e = refl
none_passed (Some x) e = absurd (grind arith)

pub size_of-requires : goal.size_of-requires
size_of-requires c = read_sized _ _ _ c.in-Some.ensures refl (none_passed _ c.if-is_none.ensures)
