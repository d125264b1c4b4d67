use mathlib.Core.Path.{◌≡◌, subst}
use Rattle.ops.specs.declared.Kind.{Kind}
use Rattle.ops.specs.declared.Kind.TheVariants.{Constant, Concatenate}
use Rattle.facts.specs.Facts.{AcceptedAs}
use Rattle.doing.specs.Doing.{args_in, arguments_at}
use Rattle.doing.proofs.DoingLaw.{by-task, given, gives-done, constant-gives}
use Rattle.doing.proofs.do_op.Goals as goal

pub constant_op-requires : goal.constant_op-requires
constant_op-requires c =
    let k : c.args.kind ≡ Constant = c.in-Constant.is in
    (subst (λ (i : Kind). AcceptedAs i c.args.o) k c.requires.0, λ q. c.requires.2 k, c.requires.3)

pub quotient_op-requires : goal.quotient_op-requires
quotient_op-requires c = (subst (λ (i : Kind). AcceptedAs i c.args.o) c.in-Quotient.is c.requires.0, c.requires.1, c.requires.3)

pub concatenate_op-requires : goal.concatenate_op-requires
concatenate_op-requires c = (subst (λ (i : Kind). AcceptedAs i c.args.o) c.in-Concatenate.is c.requires.0, c.requires.1, c.requires.3)

pub task_op-requires : goal.task_op-requires
task_op-requires c =
    (c.requires.0, by-task c.args.kind c.in_default.not-Constant c.in_default.not-Quotient c.in_default.not-Concatenate, c.requires.1, c.requires.3)

pub returns-in-Constant : goal.returns-in-Constant
returns-in-Constant c =
    let a = c.args in
    given (rw c.in-Constant.is (constant-gives a.o (args_in a.o a.places a.slots.now) c.constant_op.ensures))

pub returns-in-Quotient : goal.returns-in-Quotient
returns-in-Quotient c =
    let a = c.args in
    rw c.in-Quotient.is (c.quotient_op.ensures (arguments_at a.o a.text.now a.literal))

pub returns-in-Concatenate : goal.returns-in-Concatenate
returns-in-Concatenate c =
    let a = c.args in
    rw c.in-Concatenate.is (gives-done Concatenate a.o (args_in a.o a.places a.slots.now) c.concatenate_op.ensures (arguments_at a.o a.text.now a.literal))

pub returns-in_default : goal.returns-in_default
returns-in_default c =
    let a = c.args in
    gives-done a.kind a.o (args_in a.o a.places a.slots.now) c.task_op.ensures (arguments_at a.o a.text.now a.literal)
