use borrow.Author.Tests.{eq-eqb, ne_eqb}
use Rattle.printed.proofs.put_boolean.Goals as goal

pub returns-then-s-eq0 : goal.returns-then-s-eq0
returns-then-s-eq0 c = rw (eq-eqb _ _ c.if-s-eq0.true) c.put_text.ensures

pub returns-else-s-eq0 : goal.returns-else-s-eq0
returns-else-s-eq0 c = rw (ne_eqb _ _ c.if-s-eq0.false) c.put_text-else-s-eq0.ensures
