use Prim.Native.Nat.{◌+◌, ◌-◌}
use lib.ListN.{length, drop}
use Rattle.grammar.specs.Symbols.{Op}
use Rattle.syntax.specs.Readings.{readings_of}
use Rattle.scope.specs.Scope.{names_from}
use Rattle.scope.proofs.ScopeLaw.{Naming}
use Rattle.scope.proofs.read_names.Given as goal

abbrev pub invariant-loop : goal.invariant-loop
invariant-loop l =
    Naming (names_from l.text 0 (drop l.top l.fn.entries) (readings_of Op l.text l.at)) l.text l.fn.entries l.top l.stack l.next l.place (length l.text + 1 - l.counter) l.previous l.first l.entries
