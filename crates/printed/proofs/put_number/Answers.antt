use mathlib.Core.Path.{sym, ◌∙◌}
use Rattle.printed.proofs.PrintLaw.{then-put, text-plain, text-negative}
use Rattle.printed.proofs.put_number.Goals as goal

pub returns-then-is_negative : goal.returns-then-is_negative
returns-then-is_negative c =
    let b = c in
    let n = b in
    rw (text-negative _ (sym n.is_negative.ensures ∙ b.if-is_negative.true), ← n.magnitude-m.ensures)
    (then-put 45 _ _ _ _ b.put-p.ensures c.put_digits.ensures)

pub returns-else-is_negative : goal.returns-else-is_negative
returns-else-is_negative c =
    let n = c in
    rw (text-plain _ (sym n.is_negative.ensures ∙ c.if-is_negative.false), ← n.magnitude-m.ensures) c.put_digits-else-is_negative.ensures
