use Rattle.elementwise.proofs.FillLaw.{Done}
use Rattle.elementwise.specs.Elementwise.{is_zero, operand_at, division_at}
use Rattle.lists.proofs.SearchLaw.{Passed}
use Rattle.std.proofs.Common.{◌≡◌, false, Ok, get_or, ◌<◌}
use Rattle.elementwise.proofs.division_into.Given as goal

abbrev pub invariant-loop-j : goal.invariant-loop-j
invariant-loop-j l = (l.answer ≡ Ok tt) × (Done (operand_at l.x l.y l.k) l.initial.pair l.j l.pair × (1 < l.j → is_zero (get_or l.y l.k 0) ≡ false))

abbrev pub invariant-walk : goal.invariant-walk
invariant-walk l = (l.answer ≡ Ok tt) × (Done (division_at l.op l.t l.x l.y) l.initial.out l.k l.out × Passed is_zero l.y l.k)
