use Prim.Native.Nat.{◌≤◌}
use mathlib.Core.Path.{◌≡◌}
use Rattle.attributes.specs.Attributes.{attributes_of}
use Rattle.attributes.proofs.AttributesLaw.{Sought}
use Rattle.attributes.proofs.stands_at.Given as goal

abbrev pub invariant-loop-j : goal.invariant-loop-j
invariant-loop-j l = (l.j-end ≡ attributes_of l.op) × (l.j ≤ l.j-end) × Sought l.text l.op l.k l.j
