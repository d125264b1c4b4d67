use Rattle.std.proofs.Common.{◌≡◌, ◌-◌, length}
use Rattle.scan.specs.Quantized.{more_end}
use Rattle.scan.proofs.quantized.more_end.Given as goal

abbrev pub invariant-loop : goal.invariant-loop
invariant-loop l = more_end (length l.text - l.counter) l.text l.i ≡ more_end (length l.text) l.text l.at
