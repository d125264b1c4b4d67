-- Refusals 0 to 8 of a text (01, "The twelve refusals"): "Refusals 1 to 4 come first .. Then duplicate input names, then op by op names (5, 6), 7, 8, the lowest C
-- number first. .. Ops count from 0, the return last".
-- Assumes nothing.
use Rattle.std.specs.Prelude.{ℕ, List, eqb}
use Rattle.lists.specs.Lists.{pick}
use Rattle.judge.specs.Refusals.{Refusal}
use Rattle.judge.specs.Judge.{text_refusal}
use Rattle.program.specs.declared.Program.{Program}
use Rattle.program.specs.Program.{program_of}
use Rattle.values.specs.declared.Values.{Values}
use Rattle.values.specs.Values.{values_in}
use Rattle.known.specs.Known.{inputs_fault}
use Rattle.opwise.specs.Opwise.{by_name, ops_from}

-- "Then duplicate input names, then op by op": all ops of the program, the return last
unfoldable pub program_refusal : List ℕ → Program → Values → Refusal
program_refusal text p vs =
    let f = inputs_fault text p.header vs.inputs in
    pick (eqb f.refusal 0) (ops_from text p vs p.count 0) (by_name f)

-- the refusal of a text, 0 where it is accepted
unfoldable pub verdict : List ℕ → Refusal
verdict text =
    let r = text_refusal text in
    pick (eqb r.number 0) (program_refusal text (program_of text) (values_in text (program_of text))) r
