-- Of an accepted text: each value that its return names stands in the store; and the lines of the results so far, laid one after the other.
-- Assumes nothing.
use mathlib.Core.Path.{◌≡◌, refl, sym, ap, ◌∙◌}
use mathlib.Core.List.{List, ◌++◌}
use Prim.Native.Nat.{ℕ, ◌+◌, ◌*◌, ◌<◌, ◌≤◌}
use native.Mathlib.Omega.{arith}
use lib.ListN.{length, get_or}
use Rattle.program.specs.declared.Parts.{Parts}
use Rattle.program.specs.declared.Program.{Program}
use Rattle.program.specs.Parts.{op_at}
use Rattle.program.specs.Program.{program_of}
use Rattle.values.specs.declared.Values.{Values}
use Rattle.values.specs.Values.{ops_of, values_in}
use Rattle.offsets.specs.Offsets.{ValuesRead, needed_of}
use Rattle.offsets.proofs.OffsetsLaw.{values-read}
use Rattle.operands.specs.Operands.{arity_of}
use Rattle.verify.specs.Verify.{verdict}
use Rattle.nodes.proofs.AcceptedLaw.{accepted-elements, returns-defined}
use Rattle.laid.specs.Laid.{Laid, laid, written}
use Rattle.results.specs.Results.{line_at, line_of, first_lines}
use Rattle.results.proofs.ResultsLaw.{lines_none, lines_next, lines-all, line_small, front_length, front-end, written_next}
use Rattle.result_lines.specs.ResultLines.{result_lines}

values-counted : (text : List ℕ) (p : Program) → (values_in text p).inputs + ops_of p ≡ (values_in text p).count
unfolding values_in
values-counted text p = refl

module _ (text : List ℕ) (p : Program) (vs : Values) (e : p ≡ program_of text) (f : vs ≡ values_in text p) where
  pub read : ValuesRead vs
  read = rw f (values-read text p)

  module _ (h : (verdict text).number ≡ 0) where
    pub few-slots : needed_of vs ≤ 8192
    few-slots = rw (f, e) (accepted-elements text h)

    -- each result is one of the values
    pub result-before : (op : Parts) → op ≡ op_at text (get_or p.ops (ops_of p) 0) → (j : ℕ) → j < arity_of op → line_at text op vs vs.count j < vs.count
    unfolding line_at
    result-before op o j l =
        rw (o, f, ← values-counted text p, e) (returns-defined text h j (rw (o, e) at l)).0

-- the lines of the first j results, at the front of the bytes lent for all
pub record Printed (text : List ℕ) (op : Parts) (vs : Values) (slots : List ℕ) (j place : ℕ) (out old : List ℕ) : Type 0 where
  pub short : place ≤ j * 200001
  pub lines : laid place out ≡ written (first_lines text op vs vs.count slots j) 0 old

module _ (text : List ℕ) (op : Parts) (vs : Values) (slots : List ℕ) (old : List ℕ) where
  pub none-printed : Printed text op vs slots 0 0 old old
  none-printed = record { short = omega arith; lines = rw (lines_none text op vs vs.count slots) }

  -- one line more
  module _ (j place : ℕ) (out : List ℕ) (p : Printed text op vs slots j place out old) (few : j < 8) (room : 1600008 ≤ length old) where
    before : length (first_lines text op vs vs.count slots j) ≤ j * 200001
    before = omega (arith, p.short, front-end (first_lines text op vs vs.count slots j) place out old p.lines)

    pub room-left : place + 200001 ≤ length out
    room-left = omega (arith, p.short, before, front_length (first_lines text op vs vs.count slots j) place out old p.lines (omega (arith, before)))

    pub one-printed : (i r : ℕ) (new : List ℕ) → ValuesRead vs → i < 264 → i ≡ line_at text op vs vs.count j → laid r new ≡ written (line_of vs slots i) place out → Printed text op vs slots (j + 1) r new old
    one-printed i r new read h e l =
        let small = line_small vs slots i read h in
        let xs = first_lines text op vs vs.count slots j in
        let end : r ≡ place + length (line_of vs slots i) = ap (λ (x : Laid). x.place) l in
        record {
          short = omega (arith, p.short, small, end);
          lines = written_next xs place out old p.lines (line_of vs slots i) (laid r new) (omega (arith, before, small)) l
              ∙ ap (λ (x : List ℕ). written x 0 old) (ap (λ (k : ℕ). xs ++ line_of vs slots k) e ∙ sym (lines_next text op vs vs.count slots j));
        }

-- all of them
pub all-printed : (text : List ℕ) (p : Program) (vs : Values) (op : Parts) (slots : List ℕ) (j place : ℕ) (out old : List ℕ) → p ≡ program_of text → vs ≡ values_in text p →
    op ≡ op_at text (get_or p.ops (ops_of p) 0) → j ≡ arity_of op → Printed text op vs slots j place out old → laid place out ≡ written (result_lines text slots) 0 old
unfolding result_lines
all-printed text p vs op slots j place out old e f o h d =
    d.lines ∙ rw (h, lines-all text op vs vs.count slots, o, f, e)
