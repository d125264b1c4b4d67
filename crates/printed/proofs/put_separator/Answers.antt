use borrow.Author.Tests.{eq-eqb, ne_eqb}
use mathlib.Core.Path.{sym}
use Rattle.laid.proofs.LaidLaw.{lay-none}
use Rattle.printed.proofs.put_separator.Goals as goal

pub returns-then-j-eq0 : goal.returns-then-j-eq0
returns-then-j-eq0 c = rw (eq-eqb _ _ c.if-j-eq0.true) (sym (lay-none _))

pub returns-else-j-eq0 : goal.returns-else-j-eq0
returns-else-j-eq0 c = rw (ne_eqb _ _ c.if-j-eq0.false) c.put_text.ensures
