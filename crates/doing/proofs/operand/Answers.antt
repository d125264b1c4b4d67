use Prim.Native.Nat.{◌+◌, ◌≤◌}
use lib.ListN.{length}
use Rattle.shape.specs.Index.{at}
use Rattle.doing.proofs.DoingLaw.{part-lent, part-inside, none_lent}
use borrow.Author.Rules.{rules}
use Rattle.doing.proofs.operand.Goals as goal

pub size_of-requires : goal.size_of-requires
size_of-requires c =
    let e = c in
    (e.requires.0.types e.args.j e.requires.2).sized

pub overflow_add-result : goal.overflow_add-result
overflow_add-result c =
    let within_ : at c.args.places c.args.j + c.size_of.result ≤ length c.args.slots.now = (let a = c.args in
    part-inside a.o a.places a.slots.now c.requires.1 a.j c.if-j-o.true c.size_of.ensures) in
    let h = within_ in search rules

pub offset_bounds-slots-from : goal.offset_bounds-slots-from
offset_bounds-slots-from c =
    let within_ : at c.args.places c.args.j + c.size_of.result ≤ length c.args.slots.now = (let a = c.args in
    part-inside a.o a.places a.slots.now c.requires.1 a.j c.if-j-o.true c.size_of.ensures) in
    let h = within_ in search rules

pub slice_bounds-result-end : goal.slice_bounds-result-end
slice_bounds-result-end c =
    let within_ : at c.args.places c.args.j + c.size_of.result ≤ length c.args.slots.now = (let a = c.args in
    part-inside a.o a.places a.slots.now c.requires.1 a.j c.if-j-o.true c.size_of.ensures) in
    within_

pub returns-then-j-o : goal.returns-then-j-o
returns-then-j-o c =
    let e = c in
    part-lent e.args.o e.args.places e.args.slots.now e.args.j c.if-j-o.true c.size_of.ensures

pub returns : goal.returns
returns c =
    let e = c in
    none_lent e.args.o e.args.places e.args.slots.now e.args.j c.if-j-o.false
