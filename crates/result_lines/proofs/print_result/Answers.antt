use Prim.Native.Nat.{◌<◌}
use native.Mathlib.Omega.{arith}
use borrow.Author.Rules.{rules}
use Rattle.offsets.proofs.OffsetsLaw.{offset_read, within}
use Rattle.result_lines.proofs.print_result.Goals as goal

pub bounds-starts-i : goal.bounds-starts-i
bounds-starts-i c =
    let few_ : c.args.i < 264 = (omega (arith, c.requires.0, c.requires.1.few)) in
    search (rules, few_)

pub print_value-requires : goal.print_value-requires
print_value-requires c =
    let few_ : c.args.i < 264 = (omega (arith, c.requires.0, c.requires.1.few)) in
    let s = c in
    let at = offset_read s.args.vs s.args.starts s.requires.2 s.args.i (few_) in
    (few_, s.requires.1, at, omega (arith, at, within s.args.vs s.args.i s.requires.0, s.requires.3), s.requires.4)
