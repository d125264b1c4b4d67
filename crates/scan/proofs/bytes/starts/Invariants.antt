use Rattle.std.proofs.Common.{◌≡◌, drop}
use Rattle.scan.specs.Bytes.{starts_with}
use Rattle.scan.proofs.bytes.starts.Given as goal

abbrev pub invariant-loop-k : goal.invariant-loop-k
invariant-loop-k l = starts_with (drop l.k l.word) (drop l.k l.rest) ≡ starts_with l.word l.rest
