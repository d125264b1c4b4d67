use mathlib.Core.Path.{◌≡◌, sym, ap, ◌∙◌}
use Prim.Native.Nat.{◌+◌, ◌-◌, ◌<◌}
use native.Mathlib.Omega.{arith}
use lib.ListN.{length}
use Rattle.optable.specs.Table.{ops, names, op_names, attribute_names, choice_kind_names, choice_names, attributes, choice_kinds, choices, word_at}
use Rattle.optable.proofs.TableLaw.{ops-count, names-length, row-place, others-places}
use Rattle.optable.proofs.word_at.Goals as goal

pub returns-then-i-lt-COUNT : goal.returns-then-i-lt-COUNT
returns-then-i-lt-COUNT c = rw c.op_row-row.ensures (sym (row-place _ (rw ops-count c.if-i-lt-COUNT.true)))

pub offset_bounds-i : goal.offset_bounds-i
offset_bounds-i c = let h : c.args.i < 59 = rw names-length at c.requires in omega arith

pub bounds-i : goal.bounds-i
bounds-i c = let h : c.args.i < 59 = rw names-length at c.requires in omega arith

pub returns : goal.returns
unfolding names op_names attribute_names choice_kind_names choice_names ops attributes choice_kinds choices
returns c =
    sym (others-places _)
    ∙ ap word_at (let n = ops-count in let e : length ops + (c.args.i - 34) ≡ c.args.i = omega arith in e)
