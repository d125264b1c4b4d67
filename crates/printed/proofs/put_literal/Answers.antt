use Rattle.printed.specs.Printed.{literal_text}
use Rattle.printed.proofs.put_literal.Goals as goal

pub returns-then-is_bool : goal.returns-then-is_bool
unfolding literal_text
returns-then-is_bool c = rw (← c.is_bool.ensures, c.if-is_bool.true) c.put_boolean.ensures

pub returns-else-is_bool : goal.returns-else-is_bool
unfolding literal_text
returns-else-is_bool c = rw (← c.is_bool.ensures, c.if-is_bool.false) c.put_number.ensures
