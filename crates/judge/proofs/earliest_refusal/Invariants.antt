use mathlib.Core.Path.{◌≡◌}
use Prim.Native.Nat.{◌+◌, ◌-◌}
use lib.ListN.{length, drop}
use Rattle.grammar.specs.Symbols.{Program}
use Rattle.syntax.specs.Readings.{readings_from, readings_of}
use Rattle.syntax.proofs.ReadingLaw.{Room}
use Rattle.judge.specs.Tally.{at_start, TallyWithin}
use Rattle.judge.specs.Judge.{earliest}
use Rattle.judge.proofs.earliest_refusal.Given as goal

abbrev pub invariant-loop : goal.invariant-loop
invariant-loop l =
    let left = length l.text + 1 - l.counter in
    (earliest l.text l.s (readings_from left (drop l.top l.stack) l.text l.at) ≡ earliest l.text at_start (readings_of Program l.text l.fn.from))
    × Room left l.top l.stack × (length l.stack ≡ 655380) × TallyWithin l.counter l.s
