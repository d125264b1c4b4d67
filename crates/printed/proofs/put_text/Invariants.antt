use mathlib.Core.Path.{◌≡◌}
use lib.ListN.{length, drop}
use Rattle.laid.specs.Laid.{laid, lay}
use Rattle.printed.proofs.put_text.Given as goal

abbrev pub invariant-loop-b : goal.invariant-loop-b
invariant-loop-b l = (length l.out ≡ length l.initial.out) × (lay (drop l.b-index l.word) (laid l.place l.out) ≡ lay l.word (laid l.from l.initial.out))
