use Prim.Native.Nat.{◌≤◌}
use mathlib.Core.Path.{◌≡◌}
use Rattle.dimrules.proofs.CountLaw.{Reached}
use Rattle.attributes.specs.Attributes.{attributes_of, attribute_fits}
use Rattle.attributes.proofs.each_fits.Given as goal

abbrev pub invariant-loop-j : goal.invariant-loop-j
invariant-loop-j l = (l.j-end ≡ attributes_of l.op) × (l.j ≤ l.j-end) × Reached l.j-end (attribute_fits l.text l.op l.row) l.j
