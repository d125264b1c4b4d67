use Rattle.std.proofs.Common.{◌≡◌, ◌+◌, drop, false}
use Rattle.scan.specs.Bytes.{skip_from}
use Rattle.scan.proofs.bytes.skip.Given as goal

abbrev pub invariant-loop-i : goal.invariant-loop-i
invariant-loop-i l = skip_from l.comment (l.at + l.i) (drop l.i l.b-items) ≡ skip_from false l.at l.b-items
