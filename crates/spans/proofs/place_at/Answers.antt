use Prim.Native.Nat.{◌<◌}
use mathlib.Core.Path.{refl}
use native.Mathlib.Omega.{arith}
use borrow.Author.Tests.{lt-ltb, le-ltb}
use Rattle.operands.proofs.OperandsLaw.{arity-few}
use Rattle.spans.proofs.SpansLaw.{named-le}
use Rattle.offsets.proofs.OffsetsLaw.{offset_read}
use Rattle.spans.proofs.place_at.Goals as goal

pub place_of-requires : goal.place_of-requires
place_of-requires c = let m = arity-few c.args.op in let q = c.arity_of.ensures in (omega arith, omega arith)

pub offset_bounds-offsets-i : goal.offset_bounds-offsets-i
offset_bounds-offsets-i c =
    let small_ : c.unwrap_or-i.result < 264 = (let s = c in
    omega (arith, c.unwrap_or-i.ensures, c.value_named.ensures.place, s.requires.0, named-le s.args.text.now s.args.vs.list s.args.n c.place_of.result)) in
    omega (arith, small_)

pub bounds-offsets-i : goal.bounds-offsets-i
bounds-offsets-i c =
    let small_ : c.unwrap_or-i.result < 264 = (let s = c in
    omega (arith, c.unwrap_or-i.ensures, c.value_named.ensures.place, s.requires.0, named-le s.args.text.now s.args.vs.list s.args.n c.place_of.result)) in
    omega (arith, small_)

pub returns-then-j-arity_of : goal.returns-then-j-arity_of
returns-then-j-arity_of c =
    let small_ : c.unwrap_or-i.result < 264 = (let s = c in
    omega (arith, c.unwrap_or-i.ensures, c.value_named.ensures.place, s.requires.0, named-le s.args.text.now s.args.vs.list s.args.n c.place_of.result)) in
    let b = c in
    rw (← b.arity_of.ensures, lt-ltb _ _ b.if-j-arity_of.true, ← c.place_of.ensures, ← c.value_named.ensures.place, ← c.unwrap_or-i.ensures, b.requires.1)
    (offset_read _ _ refl _ (small_))

pub returns : goal.returns
returns c = rw (← c.arity_of.ensures, le-ltb _ _ c.if-j-arity_of.false)
