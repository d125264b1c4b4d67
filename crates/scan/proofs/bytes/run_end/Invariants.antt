use Rattle.std.proofs.Common.{◌≡◌, ◌+◌, drop}
use Rattle.scan.specs.Bytes.{run_from}
use Rattle.scan.proofs.bytes.run_end.Given as goal

abbrev pub invariant-loop-i : goal.invariant-loop-i
invariant-loop-i l = run_from l.letters (l.at + l.i) (drop l.i l.b-items) ≡ run_from l.letters l.at l.b-items
