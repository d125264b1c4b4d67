use mathlib.Core.Path.{◌≡◌}
use Prim.Native.Nat.{◌-◌, ◌≤◌}
use Rattle.attribute.specs.Attribute.{token_after}
use Rattle.attribute.proofs.token_after.Given as goal

abbrev pub invariant-loop : goal.invariant-loop
invariant-loop l = (l.counter ≤ l.n) × (token_after (l.n - l.counter) l.text l.c.at ≡ token_after l.n l.text l.fn.from.at)
