use borrow.Author.Tests.{eq-eqb, ne_eqb}
use Rattle.judge.specs.Judge.{unknown}
use Rattle.judge.proofs.NameLaw.{ops_alike, attributes_alike, choice_kinds_alike, choices_alike, lacks}
use Rattle.judge.proofs.is_unknown.Goals as goal

pub returns-then-is_op : goal.returns-then-is_op
unfolding unknown
returns-then-is_op c =
    let f = c.find_op in
    simp (← c.is_op.ensures, c.if-is_op.true) (lacks f.result _ _ _ _ c.is_none.ensures ops_alike f.ensures.found f.ensures.within)

pub returns-in-19 : goal.returns-in-19
unfolding unknown
returns-in-19 c =
    let f = c.find_attribute in
    simp (← c.is_op.ensures, c.if-is_op.false, ← c.is_type.ensures, c.if-is_type.false)
    (rw c.in-19.is (lacks f.result _ _ _ _ c.is_none-in-19.ensures attributes_alike f.ensures.found f.ensures.within))

pub returns-in-22 : goal.returns-in-22
unfolding unknown
returns-in-22 c =
    let f = c.find_choice_kind in
    simp (← c.is_op.ensures, c.if-is_op.false, ← c.is_type.ensures, c.if-is_type.false)
    (rw c.in-22.is (lacks f.result _ _ _ _ c.is_none-in-22.ensures choice_kinds_alike f.ensures.found f.ensures.within))

pub returns-in-23 : goal.returns-in-23
unfolding unknown
returns-in-23 c =
    let f = c.find_choice in
    simp (← c.is_op.ensures, c.if-is_op.false, ← c.is_type.ensures, c.if-is_type.false)
    (rw c.in-23.is (lacks f.result _ _ _ _ c.is_none-in-23.ensures choices_alike f.ensures.found f.ensures.within))
