-- As many bytes as were read lie within `buf`, and are the first of the input; the measure is what is left of `buf`.
use Rattle.std.proofs.Common.{◌≤◌, ◌-◌, length, take}
use Rattle.streams.specs.Known.{Took}
use Rattle.streams.proofs.read_front.Given as goal

abbrev pub invariant-loop-done : goal.invariant-loop-done
invariant-loop-done g l = record {
  within : l.done ≤ length l.buf;
  bytes : Took (g.R.Read.remaining l.fn.input) (g.R.Read.remaining l.input) (take l.done l.buf) ⊥;
}

abbrev pub decreases-loop-done : goal.decreases-loop-done
decreases-loop-done g l = length l.buf - l.done
