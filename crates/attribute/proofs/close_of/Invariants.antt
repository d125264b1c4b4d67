use mathlib.Core.Path.{◌≡◌}
use Prim.Native.Nat.{◌-◌, ◌≤◌}
use lib.ListN.{length}
use Rattle.attribute.specs.Attribute.{close_from}
use Rattle.attribute.proofs.close_of.Given as goal

abbrev pub invariant-loop : goal.invariant-loop
invariant-loop l = (l.counter ≤ length l.text) × (close_from (length l.text - l.counter) l.text l.c.at ≡ close_from (length l.text) l.text l.fn.from.at)
