-- A text without refusals 1 to 4 has one to 257 ops, the return last.
-- Assumes nothing.
use mathlib.Core.Path.{◌≡◌, refl, sym, ap, subst, ◌∙◌}
use mathlib.Core.List.{List, [], ◌∷◌, ◌++◌, map}
use mathlib.Core.Bool.{true}
use Prim.Native.Nat.{ℕ, ◌+◌, ◌-◌, ◌<◌, ◌≤◌}
use native.Mathlib.Omega.{arith}
use native.Mathlib.Decide.{dec_lt}
use lib.ListN.{length, get_or, take, get_or-append}
use lib.Seq.{get_or-take, get_or-append_seam}
use Rattle.lists.specs.Lists.{All, concat}
use Rattle.lists.proofs.AllLaw.{all-get}
use Rattle.text.specs.declared.Token.{Token}
use Rattle.grammar.specs.Symbols.{OpName, FuncReturn, Op}
use Rattle.syntax.specs.Readings.{Reading, reading, readings_of, readings, no_fault, grammar_fault}
use Rattle.syntax.specs.OpsAlone.{OpAlone, Outline}
use Rattle.syntax.proofs.Theorems.{no-fault}
use Rattle.syntax.proofs.OutlineLaw.{outline}
use Rattle.judge.specs.declared.tally.Tally.{Tally}
use Rattle.judge.specs.Tally.{at_start, ops_after, after_token}
use Rattle.judge.specs.Judge.{text_refusal}
use Rattle.judge.proofs.Theorems.{Each, too_long, accepted-sentence, accepted-each}
use Rattle.program.specs.Program.{program_of}
use Rattle.program.specs.OpPlaces.{Placed}
use Rattle.program.proofs.PlacedLaw.{placed}
use Rattle.reading_laws.specs.ReadProgram.{ReadProgram}
use Rattle.reading_laws.proofs.TallyLaw.{tally_after, tally-append, ops-grow, Few, few-after}

module _ (text : List ℕ) where
  -- ---- size 4 counts each op

  name-counts : (s : Tally) (t : Token) → (after_token text s OpName t).ops ≡ s.ops + 1
  unfolding after_token ops_after
  name-counts s t = refl

  one-op : (at : ℕ) (s : Tally) → OpAlone text OpName at → s.ops + 1 ≤ (tally_after text s (readings_of Op text at)).ops
  one-op at s o =
      let q = o.parts in
      let t = tally_after text s q.names in
      let u = after_token text t OpName q.name in
      let e : tally_after text s (readings_of Op text at) ≡ tally_after text u q.rest =
      ap (λ (l : List Reading). tally_after text s l) q.whole ∙ tally-append text q.names (reading true OpName q.name ∷ q.rest) s in
      rw e (omega (arith, ops-grow text q.names s, name-counts t q.name, ops-grow text q.rest u))

  each-op : (ops : List ℕ) (s : Tally) → All (OpAlone text OpName) ops → s.ops + length ops ≤ (tally_after text s (concat (map (readings_of Op text) ops))).ops
  unfolding concat
  each-op [] s a = omega arith
  each-op (at ∷ ops) s a =
      rw (tally-append text (readings_of Op text at) (concat (map (readings_of Op text) ops)) s)
      (omega (arith, one-op at s a.0, each-op ops (tally_after text s (readings_of Op text at)) a.1))

  -- ---- what a text without refusals 1 to 4 has

  -- "Text up to 65,536 bytes"
  pub few_bytes : (text_refusal text).number ≡ 0 → length text ≤ 65536
  few_bytes e = by_length (dec_lt 65536 (length text))
    where
      by_length : Dec (65536 < length text) → length text ≤ 65536
      by_length (yes h) = let z : ◌≡◌ {A = ℕ} 1 0 = rw (too_long text h) at e in absurd (omega arith)
      by_length (no h) = omega arith

  few-start : Few text at_start
  few-start = record { ops = omega arith; elements = omega arith }

  module _ (e : (text_refusal text).number ≡ 0) where
    pub outlined : Outline text
    outlined = outline text (no-fault text (accepted-sentence text e))

    pub all-few : Few text (tally_after text at_start (readings text))
    all-few = few-after text (readings text) at_start few-start (accepted-each text e)

    module _ (o : Outline text) where
      -- size 4
      pub few-ops : length o.ops ≤ 256
      few-ops =
          let ys = concat (map (readings_of Op text) o.ops) in
          let zs = readings_of Op text o.last ++ o.closing in
          let t = tally_after text at_start o.header in
          let u = tally_after text t ys in
          let q : tally_after text at_start (readings text) ≡ tally_after text u zs =
          ap (λ (l : List Reading). tally_after text at_start l) o.whole ∙ (tally-append text o.header (ys ++ zs) at_start ∙ tally-append text ys zs t) in
          let f : (tally_after text u zs).ops ≤ 256 = rw q at all-few.ops in
          omega (arith, each-op o.ops t o.each, ops-grow text zs u, f)

      pub at_places : Placed text o
      at_places = placed text (few_bytes e) o

      -- all ops and the return are read
      pub op-count : (program_of text).count ≡ length o.ops + 1
      op-count = at_places.count few-ops

      place : (k : ℕ) → k < length o.ops + 1 → get_or (program_of text).ops k 0 ≡ get_or (o.ops ++ (o.last ∷ [])) k 0
      place k h = sym (get_or-take (length o.ops + 1) (program_of text).ops k 0 h) ∙ ap (λ (l : List ℕ). get_or l k 0) (at_places.places few-ops)

      pub op-place : (k : ℕ) → k < length o.ops → get_or (program_of text).ops k 0 ≡ get_or o.ops k 0
      op-place k h = place k (omega arith) ∙ get_or-append o.ops (o.last ∷ []) 0 k h

      pub last-place : get_or (program_of text).ops (length o.ops) 0 ≡ o.last
      last-place = place (length o.ops) (omega arith) ∙ get_or-append_seam o.ops o.last [] 0

      by-outline : ReadProgram text
      by-outline =
          let c = op-count in
          let f = few-ops in
          let z : length o.ops ≡ (program_of text).count - 1 = omega arith in
          record {
            least = omega arith;
            most = omega arith;
            each = λ k h.
                let g : k < length o.ops = omega arith in
                subst (λ (a : ℕ). OpAlone text OpName a) (sym (op-place k g)) (all-get (OpAlone text OpName) o.ops 0 o.each k g);
            last = subst (λ (n : ℕ). OpAlone text FuncReturn (get_or (program_of text).ops n 0)) z (subst (λ (a : ℕ). OpAlone text FuncReturn a) (sym last-place) o.return);
          }

    -- one to 257 ops, the return last
    pub read-program : ReadProgram text
    read-program = by-outline outlined
