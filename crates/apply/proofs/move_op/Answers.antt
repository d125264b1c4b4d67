use Rattle.apply.proofs.ApplyLaw.{move-ready, move-is, broadcast-is, transpose-is, slice_is, reverse-is}
use Rattle.apply.proofs.move_op.Goals as goal

pub reshape-requires : goal.reshape-requires
reshape-requires c =
    let args = c.args in
    let h = move-ready args.k args.x.now args.out.now c.in-Reshape.is c.requires in
    h

pub broadcast_in_dim-requires : goal.broadcast_in_dim-requires
broadcast_in_dim-requires c =
    let args = c.args in
    let h = move-ready args.k args.x.now args.out.now c.in-BroadcastInDim.is c.requires in
    h.0

pub transpose-requires : goal.transpose-requires
transpose-requires c =
    let args = c.args in
    let h = move-ready args.k args.x.now args.out.now c.in-Transpose.is c.requires in
    (h.0, h.2)

pub slice-requires : goal.slice-requires
slice-requires c =
    let args = c.args in
    let h = move-ready args.k args.x.now args.out.now c.in-Slice.is c.requires in
    (h.0, h.2)

pub reverse-requires : goal.reverse-requires
reverse-requires c =
    let args = c.args in
    let h = move-ready args.k args.x.now args.out.now c.in-Reverse.is c.requires in
    (h.0, h.1)

pub returns-in-Reshape : goal.returns-in-Reshape
returns-in-Reshape c =
    let args = c.args in
    let k = args.k in
    move-is k args.x.now c.in-Reshape.is c.reshape.ensures

pub returns-in-BroadcastInDim : goal.returns-in-BroadcastInDim
returns-in-BroadcastInDim c =
    let args = c.args in
    let k = args.k in
    let h = move-ready k args.x.now args.out.now c.in-BroadcastInDim.is c.requires in
    move-is k args.x.now c.in-BroadcastInDim.is (broadcast-is k args.x.now _ h.1 h.2 c.broadcast_in_dim.ensures)

pub returns-in-Transpose : goal.returns-in-Transpose
returns-in-Transpose c =
    let args = c.args in
    let k = args.k in
    let h = move-ready k args.x.now args.out.now c.in-Transpose.is c.requires in
    move-is k args.x.now c.in-Transpose.is (transpose-is k args.x.now _ h.1 h.3 c.transpose.ensures)

pub returns-in-Slice : goal.returns-in-Slice
returns-in-Slice c =
    let args = c.args in
    let k = args.k in
    let h = move-ready k args.x.now args.out.now c.in-Slice.is c.requires in
    move-is k args.x.now c.in-Slice.is (slice_is k args.x.now _ h.1 h.3 h.4 c.slice.ensures)

pub returns-in-Reverse : goal.returns-in-Reverse
returns-in-Reverse c =
    let args = c.args in
    let k = args.k in
    let h = move-ready k args.x.now args.out.now c.in-Reverse.is c.requires in
    move-is k args.x.now c.in-Reverse.is (reverse-is k args.x.now _ h.2 c.reverse.ensures)
