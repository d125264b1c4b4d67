use mathlib.Core.Path.{◌≡◌, ap, ◌∙◌}
use Prim.Native.Nat.{◌-◌}
use native.Mathlib.Omega.{arith}
use lib.Seq.{paste, paste-zero}
use Rattle.std.proofs.lemmas.List.Edits.{paste_more}
use borrow.Author.Rules.{rules}
use Rattle.grammar.specs.Tables.{right_of, tail_of}
use Rattle.grammar.proofs.TableRight.{tail-short}
use Rattle.grammar.proofs.StackLaw.{pasted, tail-get}
use Rattle.grammar.proofs.push.Goals as goal

pub overflow_sub-next : goal.overflow_sub-next
overflow_sub-next c = omega (arith, tail-short c.args.p (search rules) (search rules))

pub loop-k-init : goal.loop-k-init
loop-k-init c = paste-zero c.args.stack.now (c.args.top - c.tail_length-n.result) (tail_of (right_of c.args.p))

pub symbol_of-requires : goal.symbol_of-requires
symbol_of-requires c =
    let t = tail-short c.args.p (search rules) (search rules) in
    search rules

pub bounds-stack-next : goal.bounds-stack-next
bounds-stack-next c = omega (arith, tail-short c.args.p (search rules) (search rules))

pub loop-k-preserved : goal.loop-k-preserved
loop-k-preserved c =
    let l = c.loop-k in
    let t = tail_of (right_of c.args.p) in
    let s = tail-short c.args.p (search rules) (search rules) in
    let e = c.symbol_of.ensures ∙ tail-get (right_of c.args.p) l.k in
    rw (l.invariant, e) (paste_more c.args.stack.now (c.args.top - c.tail_length-n.result) t l.k 0 (omega arith) (omega arith))

pub returns : goal.returns
returns c =
    let l = c.loop-k in
    let n = c.tail_length-n in
    let s = tail-short c.args.p (search rules) (search rules) in
    let e : l.k ≡ n.result = omega arith in
    pasted c.args.stack.now c.args.top (tail_of (right_of c.args.p)) (c.args.top - n.result) l.stack (omega arith) (omega arith)
    (l.invariant ∙ ap (paste c.args.stack.now (c.args.top - n.result) (tail_of (right_of c.args.p))) (e ∙ n.ensures))
