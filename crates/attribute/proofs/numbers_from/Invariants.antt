use mathlib.Core.Path.{◌≡◌}
use Prim.Native.Nat.{◌-◌, ◌≤◌}
use Rattle.attribute.specs.Attribute.{none_read, numbers_from}
use Rattle.attribute.proofs.numbers_from.Given as goal

abbrev pub invariant-loop : goal.invariant-loop
invariant-loop l = (l.counter ≤ 6) × (numbers_from (6 - l.counter) l.ns l.text l.c.at ≡ numbers_from 6 none_read l.text l.fn.from.at)
