-- At most 65,536 bytes for each turn so far, and fewer only where the input ended.
use Rattle.std.proofs.Common.{◌≤◌, ◌<◌, ◌+◌, ◌*◌, ◌-◌}
use Rattle.streams.specs.Known.{TookCount}
use Rattle.streams.proofs.further_bytes.Given as goal

abbrev pub invariant-loop : goal.invariant-loop
invariant-loop g l = record {
  within : l.total + 65536 * (65536 - l.counter) ≤ 4294967296;
  bytes : TookCount (g.R.Read.remaining l.fn.input) (g.R.Read.remaining l.input) l.total (l.total + 65536 * (65536 - l.counter) < 4294967296);
}
