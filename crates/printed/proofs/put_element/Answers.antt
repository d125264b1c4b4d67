use Rattle.printed.specs.Printed.{element_text}
use Rattle.printed.proofs.PrintLaw.{then-lay, then-put}
use Rattle.printed.proofs.put_element.Goals as goal

pub returns : goal.returns
unfolding element_text
returns c = rw (← c.width.ensures) (then-lay _ _ _ _ _ c.put_sign-p.ensures (then-put 105 _ _ _ _ c.put-q.ensures c.put_digits.ensures))
