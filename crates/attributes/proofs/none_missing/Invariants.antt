use Prim.Native.Nat.{◌≤◌}
use Rattle.dimrules.proofs.CountLaw.{Reached}
use Rattle.attributes.specs.Attributes.{stands, needed_at}
use Rattle.attributes.proofs.none_missing.Given as goal

abbrev pub invariant-loop-s : goal.invariant-loop-s
invariant-loop-s l = (l.s ≤ l.row.needed) × Reached l.row.needed (λ s. stands l.text l.op (needed_at l.row s)) l.s
