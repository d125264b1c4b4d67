use Rattle.std.proofs.Common.{◌≡◌, ◌+◌, drop, Some}
use Rattle.scan.specs.TypeText.{size_number, shape_end_from}
use Rattle.scan.proofs.typetext.shape_end.Given as goal

abbrev pub invariant-loop-i : goal.invariant-loop-i
invariant-loop-i l = shape_end_from l.end (size_number (Some l.size)) (l.at + l.i) (drop l.i l.b-items) ≡ shape_end_from l.at 0 l.at l.b-items
