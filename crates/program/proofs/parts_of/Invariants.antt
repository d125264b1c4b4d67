use mathlib.Core.Path.{◌≡◌}
use Prim.Native.Nat.{◌+◌, ◌-◌, ◌≤◌}
use lib.ListN.{length, drop}
use Rattle.syntax.specs.Readings.{readings_from}
use Rattle.syntax.proofs.ReadingLaw.{Room}
use Rattle.program.specs.Parts.{parts_from, parts_of}
use Rattle.program.proofs.parts_of.Given as goal

abbrev pub invariant-loop : goal.invariant-loop
invariant-loop l =
    let left = length l.text + 1 - l.counter in
    (parts_from l.level l.parts l.depth (readings_from left (drop l.top l.stack) l.text l.place) ≡ parts_of l.symbol l.level l.text l.fn.at)
    × Room left l.top l.stack × (length l.stack ≡ 655380) × (l.depth ≤ l.counter)
