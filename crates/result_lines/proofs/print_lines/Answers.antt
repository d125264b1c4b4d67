use Prim.Native.Nat.{ℕ, ◌<◌, ◌≤◌}
use mathlib.Core.Path.{◌≡◌, refl, ap, ◌∙◌}
use native.Mathlib.Omega.{arith}
use lib.ListN.{get_or}
use borrow.Author.Rules.{rules}
use Rattle.program.specs.Parts.{op_at}
use Rattle.values.specs.Values.{ops_of}
use Rattle.values.proofs.ValuesLaw.{ops-small, count-few}
use Rattle.operands.specs.Operands.{arity_of}
use Rattle.operands.proofs.OperandsLaw.{arity-few}
use Rattle.result_lines.proofs.ResultLaw.{read, few-slots, result-before, none-printed, room-left, one-printed, all-printed}
use Rattle.result_lines.proofs.print_lines.Goals as goal

pub offset_bounds-p-ops_of : goal.offset_bounds-p-ops_of
offset_bounds-p-ops_of c =
    let last_ : c.ops_of.result ≤ 256 = (omega (arith, c.ops_of.ensures, ops-small c.args.p)) in
    search (rules, last_)

pub bounds-p-ops_of : goal.bounds-p-ops_of
bounds-p-ops_of c =
    let last_ : c.ops_of.result ≤ 256 = (omega (arith, c.ops_of.ensures, ops-small c.args.p)) in
    search (rules, last_)

pub offsets_of-starts-requires : goal.offsets_of-starts-requires
offsets_of-starts-requires c = let s = c in read _ _ _ s.requires.text_value.1 s.requires.text_value.2

pub loop-j-init : goal.loop-j-init
loop-j-init c = (omega arith, refl, none-printed _ _ _ _ _)

pub result_number-requires : goal.result_number-requires
result_number-requires c =
    let few_ : c.loop-j.j < 8 = (let op = c.op_at-op.result in
    omega (arith, c.loop-j-test.true, c.arity_of-j-end.ensures, arity-few op)) in
    let s = c in
    (rw s.requires.text_value.2 (count-few _ _), omega (arith, few_))

pub print_result-place-requires : goal.print_result-place-requires
print_result-place-requires c =
    let the-return_ : let a = c.args in c.op_at-op.result ≡ op_at a.text.now (get_or a.p.ops (ops_of a.p) 0) = (let a = c.args in
    c.op_at-op.ensures ∙ ap (λ (k : ℕ). op_at a.text.now (get_or a.p.ops k 0)) c.ops_of.ensures) in
    let few_ : c.loop-j.j < 8 = (let op = c.op_at-op.result in
    omega (arith, c.loop-j-test.true, c.arity_of-j-end.ensures, arity-few op)) in
    let is-value_ : c.result_number.result < c.args.vs.count = (let l = c in
    let o = l in
    let h = o.requires.text_value in
    rw c.result_number.ensures (result-before _ _ _ h.1 h.2 h.0 _ (the-return_) _ (omega (arith, l.arity_of-j-end.ensures, c.loop-j-test.true)))) in
    let l = c in
    let o = l in
    let s = o in
    let h = s.requires.text_value in (
      is-value_,
      read _ _ _ h.1 h.2,
      l.offsets_of-starts.ensures,
      omega (arith, few-slots _ _ _ h.1 h.2 h.0, s.requires.store_len.0),
      room-left _ _ _ _ _ _ _ _ l.loop-j.invariant.2 (few_) s.requires.store_len.1,
    )

pub loop-j-preserved : goal.loop-j-preserved
loop-j-preserved c =
    let the-return_ : let a = c.args in c.op_at-op.result ≡ op_at a.text.now (get_or a.p.ops (ops_of a.p) 0) = (let a = c.args in
    c.op_at-op.ensures ∙ ap (λ (k : ℕ). op_at a.text.now (get_or a.p.ops k 0)) c.ops_of.ensures) in
    let few_ : c.loop-j.j < 8 = (let op = c.op_at-op.result in
    omega (arith, c.loop-j-test.true, c.arity_of-j-end.ensures, arity-few op)) in
    let is-value_ : c.result_number.result < c.args.vs.count = (let l = c in
    let o = l in
    let h = o.requires.text_value in
    rw c.result_number.ensures (result-before _ _ _ h.1 h.2 h.0 _ (the-return_) _ (omega (arith, l.arity_of-j-end.ensures, c.loop-j-test.true)))) in
    let n = c in
    let l = n in
    let s = l in
    let h = s.requires.text_value in
    let r = read _ _ _ h.1 h.2 in (
      omega (arith, n.loop-j-test.true),
      c.print_result-place.auto.out ∙ l.loop-j.invariant.1,
      one-printed _ _ _ _ _ _ _ _ l.loop-j.invariant.2 (few_) s.requires.store_len.1 _ _ _ r (omega (arith, is-value_, r.few)) n.result_number.ensures c.print_result-place.ensures,
    )

pub shape_of-out : goal.shape_of-out
shape_of-out c = c.loop-j.invariant.1

pub returns : goal.returns
returns c =
    let the-return_ : let a = c.args in c.op_at-op.result ≡ op_at a.text.now (get_or a.p.ops (ops_of a.p) 0) = (let a = c.args in
    c.op_at-op.ensures ∙ ap (λ (k : ℕ). op_at a.text.now (get_or a.p.ops k 0)) c.ops_of.ensures) in
    let l = c in
    let o = l in
    let s = o in
    let h = s.requires.text_value in
    let all : l.loop-j.j ≡ arity_of o.op_at-op.result = omega (arith, l.loop-j.invariant.0, c.loop-j-test.false, l.arity_of-j-end.ensures) in
    all-printed _ _ _ _ _ _ _ _ _ h.1 h.2 (the-return_) all l.loop-j.invariant.2
