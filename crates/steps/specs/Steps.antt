-- Op k of a text's program on the values before it, which stand in the store.
-- Assumes nothing.
use Rattle.std.specs.Prelude.{◌≡◌, List, ℕ, ◌+◌, ◌≤◌, ◌<◌, length, get_or}
use Rattle.run.specs.Run.{Out, values_at}
use Rattle.run.specs.Ways.{language_of}
use Rattle.elementwise.specs.Elementwise.{Tensor, Holds}
use Rattle.ops.specs.Ops.{hlo}
use Rattle.program.specs.declared.Program.{Program}
use Rattle.program.specs.Program.{program_of}
use Rattle.values.specs.declared.Values.{Values}
use Rattle.values.specs.Values.{no_value, values_of}
use Rattle.offsets.specs.Offsets.{size_at, offset_at, offsets_of}
use Rattle.verify.specs.Verify.{verdict}
use Rattle.nodes.specs.Nodes.{node_at}
use Rattle.layout.specs.Layout.{value_in, tensors_in}

-- what op k gives, its operands read among the values before it
unfoldable pub op_meaning : List ℕ → ℕ → List ℕ → Out Tensor ℕ
op_meaning text k slots =
    let vs = values_of text in
    let o = node_at text (program_of text) vs k in
    (language_of hlo).meaning o (values_at (language_of hlo) (tensors_in vs slots (vs.inputs + k)) o.operands) 0

-- the first n values stand in the slots, each with values of its type
pub record ValuesHeld (vs : Values) (n : ℕ) (slots : List ℕ) : Type 0 where
  pub room : offset_at vs n ≤ length slots
  pub holds : (i : ℕ) → i < n → Holds (get_or vs.list i no_value).ty.element (size_at vs i) (value_in vs slots i)

-- the places, the values and the offsets of an accepted text
pub record Accepts (text : List ℕ) (p : Program) (vs : Values) (starts : List ℕ) : Type 0 where
  pub verdict : (verdict text).number ≡ 0
  pub program : p ≡ program_of text
  pub values : vs ≡ values_of text
  pub offsets : starts ≡ offsets_of vs
