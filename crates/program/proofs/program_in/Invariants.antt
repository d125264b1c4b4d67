use mathlib.Core.Path.{◌≡◌}
use mathlib.Core.Bool.{false}
use Prim.Native.Nat.{◌+◌, ◌-◌, ◌≤◌}
use lib.ListN.{length, drop}
use Rattle.syntax.specs.Readings.{readings_from, readings}
use Rattle.syntax.proofs.ReadingLaw.{Room}
use Rattle.program.specs.Program.{no_program, program_from}
use Rattle.program.proofs.program_in.Given as goal

abbrev pub invariant-loop : goal.invariant-loop
invariant-loop l =
    let left = length l.text + 1 - l.counter in
    (program_from l.program l.naming l.depth (readings_from left (drop l.top l.stack) l.text l.place) ≡ program_from no_program false 0 (readings l.text))
    × Room left l.top l.stack × (length l.stack ≡ 655380) × (l.depth ≤ l.counter)
