-- Every place that a program or an op's parts note is at most 65,536: no token starts later in a text that is read.
-- Assumes nothing.
use mathlib.Core.Path.{◌≡◌, refl, sym, subst}
use mathlib.Core.List.{List, [], ◌∷◌}
use mathlib.Core.Bool.{Bool, true, false}
use Prim.Native.Nat.{ℕ, zero, suc, ◌+◌, ◌-◌, ◌*◌, ◌<◌, ◌≤◌}
use native.Mathlib.Omega.{arith}
use native.Mathlib.Decide.{dec_lt}
use native.Mathlib.Numerals.{add-one}
use lib.Dec.{eqb, ltb}
use lib.ListN.{length, get_or, set, replicate, get_or-eq_default}
use borrow.Author.Tests.{eqb-true, eqb-false, ltb-false}
use Rattle.lists.specs.Lists.{pick, tab, All}
use Rattle.lists.proofs.TabLaw.{get_or-tab, length-tab}
use Rattle.text.specs.Lex.{token_at}
use Rattle.text.proofs.TokenLaw.{token-within, token-ordered, token-inside, token-after}
use Rattle.grammar.specs.Symbols.{END, Op, leaf_kinds, matches}
use Rattle.grammar.specs.Grammar.{grammar}
use Rattle.grammar.specs.Machine.{Cell, fails, skips, takes, cell, step}
use Rattle.syntax.specs.Kinds.{kind_of}
use Rattle.syntax.specs.Readings.{Reading, reading, labelled, readings_from, readings_of, readings}
use Rattle.syntax.proofs.KindLaw.{is-end}
use Rattle.program.specs.declared.Parts.{Parts}
use Rattle.program.specs.declared.Program.{Program}
use Rattle.program.specs.Parts.{part_of, no_parts, added_to, noted, depth_after, parts_from, parts_of, parts_at, op_at}
use Rattle.program.specs.Program.{no_program, begun, in_header, begins_op, outlined, program_from, program_of}
use Rattle.program.proofs.FoldLaw.{parts-stop}
use Rattle.places.specs.Places.{input_name, place_of}
use Rattle.values.specs.Values.{no_value, input_value, result_value, inputs_of, ops_of, value_at, values_in}

-- the tokens of what is read start inside the text
abbrev pub Started : List Reading → Type 0
Started xs = All (λ x. x.token.start ≤ 65536) xs

module _ (text : List ℕ) (few : length text ≤ 65536) where
  start-within : (at : ℕ) → at ≤ length text → (token_at text at).start ≤ 65536
  start-within at h =
      let a = token-ordered text at in
      let b = token-within text at h in
      omega arith

  cell-started : (at : ℕ) → at ≤ length text → (c : Cell) (more : List ℕ → List Reading) → ((rest : List ℕ) → Started (more rest)) → Started (labelled (token_at text at) c more)
  cell-started at h fails more f = (start-within at h, tt)
  cell-started at h skips more f = (start-within at h, tt)
  cell-started at h (takes role rest) more f = (start-within at h, f rest)

  pub started : (n : ℕ) (expected : List ℕ) (at : ℕ) → at ≤ length text → Started (readings_from n expected text at)
  unfolding readings_from
  started zero expected at h = tt
  started (suc n) [] at h = tt
  started (suc n) (s ∷ ss) at h =
      cell-started at h (step (s ∷ ss) (kind_of text (token_at text at))) (λ rest. readings_from n rest text (token_at text at).end)
      (λ rest. started n rest (token_at text at).end (token-within text at h))

-- past the end of the text no op is read
end-fails : step (Op ∷ []) END ≡ fails
unfolding step cell grammar leaf_kinds matches
end-fails = refl

past-reading : (text : List ℕ) (at : ℕ) → length text < at → readings_of Op text at ≡ reading false 0 (token_at text at) ∷ []
unfolding readings_of readings_from
past-reading text at h =
    let e = is-end text (token_at text at) (ended (eqb (token_at text at).kind 0) refl) in
    let f = end-fails in
    rw (add-one, e, f)
  where
    ended : (b : Bool) → eqb (token_at text at).kind 0 ≡ b → (token_at text at).kind ≡ 0
    ended true q = eqb-true (token_at text at).kind 0 q
    ended false q =
        let s = token-inside text at (eqb-false (token_at text at).kind 0 q) in
        let a = token-after text at in
        absurd (omega arith)

pub past-parts : (text : List ℕ) (at : ℕ) → length text < at → parts_of Op 0 text at ≡ no_parts
unfolding parts_of
past-parts text at h = rw (past-reading text at h) (parts-stop 0 no_parts 0 (token_at text at))

-- the op at a place is that of a text that is not too long, or no op
pub op-cases : (text : List ℕ) (at : ℕ) (P : Parts → Type 0) → P no_parts → (length text ≤ 65536 → at ≤ length text → P (parts_from 0 no_parts 0 (readings_of Op text at))) → P (op_at text at)
unfolding op_at parts_at parts_of
op-cases text at P z f = go (ltb 65536 (length text)) refl
  where
    inside : length text ≤ 65536 → Dec (length text < at) → P (parts_of Op 0 text at)
    inside h (yes g) = subst P (sym (past-parts text at g)) z
    inside h (no g) = f h (omega arith)

    go : (b : Bool) → ltb 65536 (length text) ≡ b → P (pick b no_parts (parts_of Op 0 text at))
    go true q = z
    go false q = inside (ltb-false 65536 (length text) q) (dec_lt (length text) at)

-- places
abbrev Within : List ℕ → Type 0
Within l = All (λ x. x ≤ 65536) l

within-set : (l : List ℕ) (i x : ℕ) → Within l → x ≤ 65536 → Within (set l i x)
within-set [] i x l h = tt
within-set (y ∷ ys) zero x l h = (h, l.1)
within-set (y ∷ ys) (suc i) x l h = (l.0, within-set ys i x l.1 h)

within-get : (l : List ℕ) (i : ℕ) → Within l → get_or l i 0 ≤ 65536
within-get [] i l = omega arith
within-get (y ∷ ys) zero l = l.0
within-get (y ∷ ys) (suc i) l = within-get ys i l.1

within-zeros : (n : ℕ) → Within (replicate n 0)
within-zeros zero = tt
within-zeros (suc n) = (omega arith, within-zeros n)

within-added : (p : Parts) (k a : ℕ) → Within p.at → a ≤ 65536 → Within (added_to p k a).at
unfolding added_to
within-added p k a f h = go (ltb (get_or p.count k 0) 8)
  where
    go : (b : Bool) → Within (pick {A = Parts} b (record { count = set p.count k (get_or p.count k 0 + 1); at = set p.at (8 * k + get_or p.count k 0) a }) (record { count = set p.count k 9; at = p.at })).at
    go true = within-set p.at (8 * k + get_or p.count k 0) a f h
    go false = f

within-noted : (p : Parts) (role a : ℕ) → Within p.at → a ≤ 65536 → Within (noted p role a).at
unfolding noted
within-noted p role a f h = go (ltb (part_of role) 11)
  where
    go : (b : Bool) → Within (pick b (added_to p (part_of role) a) p).at
    go true = within-added p (part_of role) a f h
    go false = f

within-parts : (level depth : ℕ) (p : Parts) (xs : List Reading) → Started xs → Within p.at → Within (parts_from level p depth xs).at
unfolding parts_from
within-parts level depth p [] s f = f
within-parts level depth p (x ∷ xs) s f = within-parts level (depth_after depth x.role) _ xs s.1 (go (eqb depth level))
  where
    go : (b : Bool) → Within (pick b (noted p x.role x.token.start) p).at
    go true = within-noted p x.role x.token.start f s.0
    go false = f

within_none : Within no_parts.at
unfolding no_parts
within_none = within-zeros 88

within-op : (text : List ℕ) (at : ℕ) → Within (op_at text at).at
unfolding readings_of
within-op text at = op-cases text at (λ p. Within p.at) within_none (λ h g. within-parts 0 0 no_parts (readings_of Op text at) (started text h (length text + 1) (Op ∷ []) at g) within_none)

within-outlined : (p : Program) (naming : Bool) (role a : ℕ) → Within p.header.at → a ≤ 65536 → Within (outlined p naming role a).header.at
unfolding outlined begun
within-outlined p naming role a f h = go (in_header role) (begins_op naming role) (ltb p.count 257)
  where
    go : (b c d : Bool) → Within (pick {A = Program} b (record { header = noted p.header role a; count = p.count; ops = p.ops })
        (pick c (pick d (record { header = p.header; count = p.count + 1; ops = set p.ops p.count a }) (record { header = p.header; count = 258; ops = p.ops })) p)).header.at
    go true c d = within-noted p.header role a f h
    go false true true = f
    go false true false = f
    go false false d = f

within-program : (p : Program) (naming : Bool) (depth : ℕ) (xs : List Reading) → Started xs → Within p.header.at → Within (program_from p naming depth xs).header.at
unfolding program_from
within-program p naming depth [] s f = f
within-program p naming depth (x ∷ xs) s f =
    within-program (pick (eqb depth 0) (outlined p naming x.role x.token.start) p) _ (depth_after depth x.role) xs s.1 (go (eqb depth 0))
  where
    go : (b : Bool) → Within (pick b (outlined p naming x.role x.token.start) p).header.at
    go true = within-outlined p naming x.role x.token.start f s.0
    go false = f

within-header : (text : List ℕ) → Within (program_of text).header.at
unfolding program_of no_program readings readings_of
within-header text = go (ltb 65536 (length text)) refl
  where
    go : (b : Bool) → ltb 65536 (length text) ≡ b → Within (pick b no_program (program_from no_program false 0 (readings text))).header.at
    go true q = within_none
    go false q = within-program no_program false 0 (readings text) (started text (ltb-false 65536 (length text) q) (length text + 1) _ 0 (omega arith)) within_none

-- the names of a text's inputs
pub places-within : (text : List ℕ) (i : ℕ) → place_of (program_of text).header input_name i ≤ 65536
unfolding place_of
places-within text i = within-get (program_of text).header.at _ (within-header text)

-- the names of the values of a text's program
pub names-within : (text : List ℕ) (i : ℕ) → (get_or (values_in text (program_of text)).list i no_value).name ≤ 65536
unfolding values_in value_at input_value result_value place_of
names-within text i = by (dec_lt i 264)
  where
    p : Program
    p = program_of text

    one : (b c : Bool) → (pick b (pick c (input_value text p.header i) (result_value text (op_at text (get_or p.ops (i - inputs_of p) 0)))) no_value).name ≤ 65536
    one true true = within-get p.header.at _ (within-header text)
    one true false = within-get (op_at text (get_or p.ops (i - inputs_of p) 0)).at _ (within-op text (get_or p.ops (i - inputs_of p) 0))
    one false c = omega arith

    by : Dec (i < 264) → (get_or (values_in text (program_of text)).list i no_value).name ≤ 65536
    by (yes h) = rw (get_or-tab 264 (λ i. pick (ltb i (inputs_of p + ops_of p)) (value_at text p i) no_value) i no_value h) (one (ltb i (inputs_of p + ops_of p)) (ltb i (inputs_of p)))
    by (no h) = rw (get_or-eq_default (tab 264 (λ i. pick (ltb i (inputs_of p + ops_of p)) (value_at text p i) no_value)) no_value {n = i} (omega (arith, length-tab 264 (λ i. pick (ltb i (inputs_of p + ops_of p)) (value_at text p i) no_value)))) (omega arith)
