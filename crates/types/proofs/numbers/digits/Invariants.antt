use Rattle.std.proofs.Common.{◌≡◌, ◌^◌, ◌<◌, drop}
use Rattle.types.specs.Numbers.{digits_from}
use Rattle.types.proofs.numbers.digits.Given as goal

abbrev pub invariant-loop-b : goal.invariant-loop-b
invariant-loop-b l = (l.v < 2 ^ 64) × (digits_from l.v (drop l.b-index l.b-items) ≡ digits_from 0 l.b-items)
