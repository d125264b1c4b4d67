use mathlib.Core.Logic.{inl, inr}
use Rattle.apply.proofs.ApplyLaw.{kind-ready, kind-is, iota-small, iota-is, unary-is, binary-is, compare-is, convert-is, select-is, clamp-is, moved-is, pad-is, dynamic-is, reduce-is}
use Rattle.apply.proofs.fill.Goals as goal

pub iota-requires : goal.iota-requires
iota-requires c =
    let args = c.args in
    let h = kind-ready args.k args.x.now args.y.now args.z.now args.out.now c.in-Iota.is c.requires in
    (h.0, h.1, h.2)

pub unary_into-requires : goal.unary_into-requires
unary_into-requires c =
    let args = c.args in
    let h = kind-ready args.k args.x.now args.y.now args.z.now args.out.now c.in-Elementwise.is c.requires in
    h.1

pub binary_into-requires : goal.binary_into-requires
binary_into-requires c =
    let args = c.args in
    let h = kind-ready args.k args.x.now args.y.now args.z.now args.out.now c.in-Pairwise.is c.requires in
    h.1

pub compare_into-requires : goal.compare_into-requires
compare_into-requires c =
    let args = c.args in
    let h = kind-ready args.k args.x.now args.y.now args.z.now args.out.now c.in-Compare.is c.requires in
    h.1

pub convert_into-requires : goal.convert_into-requires
convert_into-requires c =
    let args = c.args in
    let h = kind-ready args.k args.x.now args.y.now args.z.now args.out.now c.in-Convert.is c.requires in
    h.1

pub select_into-requires : goal.select_into-requires
select_into-requires c =
    let args = c.args in
    let h = kind-ready args.k args.x.now args.y.now args.z.now args.out.now c.in-Select.is c.requires in
    rw c.is_single-one.ensures h.1

pub clamp_into-requires : goal.clamp_into-requires
clamp_into-requires c =
    let args = c.args in
    let h = kind-ready args.k args.x.now args.y.now args.z.now args.out.now c.in-Clamp.is c.requires in
    rw (c.is_single-one.ensures, c.is_single-other.ensures) h.1

pub move_op-requires : goal.move_op-requires
move_op-requires c =
    let args = c.args in
    let h = kind-ready args.k args.x.now args.y.now args.z.now args.out.now c.in-Moved.is c.requires in
    h

pub pad-requires : goal.pad-requires
pad-requires c =
    let args = c.args in
    let h = kind-ready args.k args.x.now args.y.now args.z.now args.out.now c.in-Pad.is c.requires in
    (h.0, h.1)

pub dynamic_slice-requires : goal.dynamic_slice-requires
dynamic_slice-requires c =
    let args = c.args in
    let h = kind-ready args.k args.x.now args.y.now args.z.now args.out.now c.in-DynamicSlice.is c.requires in
    h

pub reduce-requires : goal.reduce-requires
reduce-requires c =
    let args = c.args in
    let h = kind-ready args.k args.x.now args.y.now args.z.now args.out.now c.in-Reduce.is c.requires in
    h.0

pub returns-in-Constant : goal.returns-in-Constant
returns-in-Constant c =
    let args = c.args in
    elim c.in-Constant.is [
      | inl e ↦ absurd (kind-ready args.k args.x.now args.y.now args.z.now args.out.now e c.requires)
      | inr s ↦ elim s [
        | inl p ↦ absurd (kind-ready args.k args.x.now args.y.now args.z.now args.out.now p.1 c.requires)
        | inr e ↦ absurd (kind-ready args.k args.x.now args.y.now args.z.now args.out.now e c.requires)
      ]
    ]

pub returns-in-Iota : goal.returns-in-Iota
returns-in-Iota c =
    let args = c.args in
    let h = kind-ready args.k args.x.now args.y.now args.z.now args.out.now c.in-Iota.is c.requires in
    kind-is args.k args.x.now args.y.now args.z.now args.starts c.in-Iota.is
    (iota-is args.k args.starts args.x.now args.y.now args.z.now h.3 (iota-small args.k h.0 h.2) c.iota.ensures)

pub returns-in-Elementwise : goal.returns-in-Elementwise
returns-in-Elementwise c =
    let args = c.args in
    let h = kind-ready args.k args.x.now args.y.now args.z.now args.out.now c.in-Elementwise.is c.requires in
    kind-is args.k args.x.now args.y.now args.z.now args.starts c.in-Elementwise.is
    (unary-is args.k args.starts args.x.now args.y.now args.z.now h.0 c.in-Elementwise.op c.unary_into.ensures)

pub returns-in-Pairwise : goal.returns-in-Pairwise
returns-in-Pairwise c =
    let args = c.args in
    let h = kind-ready args.k args.x.now args.y.now args.z.now args.out.now c.in-Pairwise.is c.requires in
    kind-is args.k args.x.now args.y.now args.z.now args.starts c.in-Pairwise.is
    (binary-is args.k args.starts args.x.now args.y.now args.z.now h.0 c.in-Pairwise.op c.binary_into.ensures)

pub returns-in-Compare : goal.returns-in-Compare
returns-in-Compare c =
    let args = c.args in
    let h = kind-ready args.k args.x.now args.y.now args.z.now args.out.now c.in-Compare.is c.requires in
    kind-is args.k args.x.now args.y.now args.z.now args.starts c.in-Compare.is
    (compare-is args.k args.starts args.x.now args.y.now args.z.now h.0 c.in-Compare.direction c.compare_into.ensures)

pub returns-in-Convert : goal.returns-in-Convert
returns-in-Convert c =
    let args = c.args in
    let h = kind-ready args.k args.x.now args.y.now args.z.now args.out.now c.in-Convert.is c.requires in
    kind-is args.k args.x.now args.y.now args.z.now args.starts c.in-Convert.is
    (convert-is args.k args.starts args.x.now args.y.now args.z.now h.0 c.convert_into.ensures)

pub returns-in-Select : goal.returns-in-Select
returns-in-Select c =
    let args = c.args in
    let h = kind-ready args.k args.x.now args.y.now args.z.now args.out.now c.in-Select.is c.requires in
    kind-is args.k args.x.now args.y.now args.z.now args.starts c.in-Select.is
    (select-is args.k args.starts args.x.now args.y.now args.z.now h.0 _ c.is_single-one.ensures c.select_into.ensures)

pub returns-in-Clamp : goal.returns-in-Clamp
returns-in-Clamp c =
    let args = c.args in
    let h = kind-ready args.k args.x.now args.y.now args.z.now args.out.now c.in-Clamp.is c.requires in
    kind-is args.k args.x.now args.y.now args.z.now args.starts c.in-Clamp.is
    (clamp-is args.k args.starts args.x.now args.y.now args.z.now h.0 _ _ c.is_single-one.ensures c.is_single-other.ensures c.clamp_into.ensures)

pub returns-in-Moved : goal.returns-in-Moved
returns-in-Moved c =
    let args = c.args in
    let h = kind-ready args.k args.x.now args.y.now args.z.now args.out.now c.in-Moved.is c.requires in
    kind-is args.k args.x.now args.y.now args.z.now args.starts c.in-Moved.is
    (moved-is args.k args.starts args.x.now args.y.now args.z.now c.in-Moved.m c.move_op.ensures)

pub returns-in-Pad : goal.returns-in-Pad
returns-in-Pad c =
    let args = c.args in
    let h = kind-ready args.k args.x.now args.y.now args.z.now args.out.now c.in-Pad.is c.requires in
    kind-is args.k args.x.now args.y.now args.z.now args.starts c.in-Pad.is
    (pad-is args.k args.starts args.x.now args.y.now args.z.now _ c.first_of-v.ensures h.2 h.3 c.pad.ensures)

pub returns-in-DynamicSlice : goal.returns-in-DynamicSlice
returns-in-DynamicSlice c =
    let args = c.args in
    let h = kind-ready args.k args.x.now args.y.now args.z.now args.out.now c.in-DynamicSlice.is c.requires in
    kind-is args.k args.x.now args.y.now args.z.now args.starts c.in-DynamicSlice.is
    (dynamic-is args.k args.starts args.x.now args.y.now args.z.now c.dynamic_slice.ensures)

pub returns-in-Reduce : goal.returns-in-Reduce
returns-in-Reduce c =
    let args = c.args in
    let h = kind-ready args.k args.x.now args.y.now args.z.now args.out.now c.in-Reduce.is c.requires in
    kind-is args.k args.x.now args.y.now args.z.now args.starts c.in-Reduce.is
    (reduce-is args.k args.starts args.x.now args.y.now args.z.now c.in-Reduce.body _ c.first_of-v.ensures h.1 c.reduce.ensures)
