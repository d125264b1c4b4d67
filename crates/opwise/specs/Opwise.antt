-- Refusals 5 to 8 of one op, and of the first op that is refused (01, "The twelve refusals": "op by op names (5, 6), 7, 8, the lowest C number first. .. Ops count
-- from 0, the return last").
-- Assumes nothing.
use Rattle.std.specs.Prelude.{ℕ, zero, suc, ◌+◌, ◌≤◌, ◌≡◌, List, length, get_or, eqb}
use Rattle.lists.specs.Lists.{pick}
use Rattle.judge.specs.Refusals.{Refusal}
use Rattle.judge.specs.Judge.{refuse, accepted}
use Rattle.program.specs.declared.Program.{Program}
use Rattle.program.specs.Parts.{op_at}
use Rattle.values.specs.declared.Values.{Values}
use Rattle.scope.specs.Faults.{NameFault}
use Rattle.known.specs.Known.{names_fault}
use Rattle.typing.specs.Typing.{Judged}
use Rattle.outputs.specs.Outputs.{return_judged}
use Rattle.typing.specs.Typing.{op_judged}

-- 5 or 6: A is the byte of the name
unfoldable pub by_name : NameFault → Refusal
by_name f = refuse f.refusal f.a 0

-- 7 or 8: A is the op, B of 8 "its C number in 000"
unfoldable pub by_op : ℕ → Judged → Refusal
by_op k j = refuse j.refusal (pick (eqb j.refusal 0) 0 k) j.b

-- 7 and 8 of op k; "the return last"
unfoldable pub typing_of : List ℕ → Program → Values → ℕ → Judged
typing_of text p vs k =
    let op = op_at text (get_or p.ops k 0) in
    let n = vs.inputs + k in
    pick (eqb (k + 1) p.count) (return_judged text op p.header vs.list n) (op_judged text op vs.list n)

-- op k: "names (5, 6), 7, 8", the inputs and the results of the ops before it being defined
unfoldable pub op_refusal : List ℕ → Program → Values → ℕ → Refusal
op_refusal text p vs k =
    let f = names_fault text vs.list (vs.inputs + k) (get_or p.ops k 0) in
    pick (eqb f.refusal 0) (by_op k (typing_of text p vs k)) (by_name f)

-- "op by op": of so many ops from op k on, the first that is refused
unfoldable pub ops_from : List ℕ → Program → Values → ℕ → ℕ → Refusal
ops_from text p vs zero k = accepted
ops_from text p vs (suc left) k =
    let r = op_refusal text p vs k in
    let later = ops_from text p vs left (suc k) in
    pick (eqb r.number 0) later r

-- the memory that verifying is lent: the stack of reading, and one place for each token of a text and for each value
pub record Lent (text stack entries : List ℕ) : Type 0 where
  pub few : length text ≤ 65536
  pub stacked : length stack ≡ 655380
  pub named : length entries ≡ 65801
