-- The parts of each op of a text that reading passes are the lists of the same op in the function.
-- Assumes nothing.
use mathlib.Core.Path.{◌≡◌, refl, sym, ap, subst, ◌∙◌}
use mathlib.Core.List.{List, [], ◌∷◌, ◌++◌, map}
use mathlib.Core.Bool.{Bool, true, false}
use Prim.Native.Nat.{ℕ, zero, suc, ◌+◌, ◌-◌, ◌≤◌, ◌<◌}
use native.Mathlib.Omega.{arith}
use native.Mathlib.Nat.{not-suc-le-zero, le_of_suc-le-suc}
use native.Mathlib.Decide.{ℕ_discrete}
use lib.Dec.{eqb}
use lib.ListN.{length, get_or}
use borrow.Author.Tests.{le-ltb}
use Rattle.lists.specs.Lists.{pick, All}
use Rattle.grammar.specs.Symbols.{BodyOpen, rbrace, End, Op}
use Rattle.syntax.specs.Readings.{Reading, readings_of}
use Rattle.syntax.specs.Roles.{roles_of}
use Rattle.judge.specs.Judge.{text_refusal}
use Rattle.program.specs.declared.Parts.{Parts}
use Rattle.program.specs.Parts.{part_of, no_parts, noted, depth_after, parts_from, parts_of, parts_at, op_at}
use Rattle.program.specs.Program.{program_of}
use Rattle.places.specs.Places.{op_name, result_name, operand_name, operand_type, result_type, attribute_name, body_open, count_of}
use Rattle.source.specs.Source.{OpText, op_from, function_of}
use Rattle.reading_laws.proofs.DepthLaw.{depth_through}
use Rattle.reading_laws.proofs.OpsLaw.{few_bytes}
use Rattle.part_laws.proofs.GrantedLaw.{op-granted}
use Rattle.source_laws.specs.Listed.{PartListed, SameParts}
use Rattle.source_laws.specs.Pieces.{op_pieces, op_place}
use Rattle.source_laws.proofs.ListedLaw.{part-listed, listed-whole}
use Rattle.source_laws.proofs.CutLaw.{cut-places, attribute-names}
use Rattle.source_laws.proofs.PiecesLaw.{pieces-are-ops}

-- ---- the closing brace and the end belong to no part

parts_none : (level d : ℕ) (p : Parts) (xs : List Reading) → All (λ r. part_of r ≡ 11) (roles_of xs) → parts_from level p d xs ≡ p
unfolding parts_from noted
parts_none level d p [] h = refl
parts_none level d p (x ∷ xs) h = go (eqb d level) ∙ parts_none level (depth_after d x.role) p xs h.1
  where
    go : (b : Bool) → parts_from level (pick b (noted p x.role x.token.start) p) (depth_after d x.role) xs ≡ parts_from level p (depth_after d x.role) xs
    go true = rw h.0
    go false = refl

pub parts-append : (level d : ℕ) (p : Parts) (xs ys : List Reading) → parts_from level p d (xs ++ ys) ≡ parts_from level (parts_from level p d xs) (depth_through d (roles_of xs)) ys
unfolding parts_from
parts-append level d p [] ys = refl
parts-append level d p (x ∷ xs) ys = parts-append level (depth_after d x.role) (pick (eqb d level) (noted p x.role x.token.start) p) xs ys

closing-none : (level d : ℕ) (p : Parts) (xs ys : List Reading) → roles_of ys ≡ rbrace ∷ End ∷ [] → parts_from level p d (xs ++ ys) ≡ parts_from level p d xs
unfolding part_of
closing-none level d p xs ys e =
    let h : All (λ r. part_of r ≡ 11) (roles_of ys) = rw e (refl, (refl, tt)) in
    parts-append level d p xs ys ∙ parts_none level (depth_through d (roles_of xs)) (parts_from level p d xs) ys h

-- ---- readings of which reading grants that some parts are whole

-- at most eight results, operands and types of them
abbrev Few : Parts → Type 0
Few p = (count_of p result_name ≤ 8) × (count_of p operand_name ≤ 8) × (count_of p operand_type ≤ 8) × (count_of p result_type ≤ 8)

pub parts_same : (xs : List Reading) → Few (parts_from 0 no_parts 0 xs) → SameParts (parts_from 0 no_parts 0 xs) (op_from xs)
parts_same xs f =
    record {
      names = part-listed op_name 0 xs (omega arith);
      results = listed-whole f.0 (part-listed result_name 0 xs (omega arith));
      operands = listed-whole f.1 (part-listed operand_name 0 xs (omega arith));
      operand_types = listed-whole f.2 (part-listed operand_type 0 xs (omega arith));
      result_types = listed-whole f.3 (part-listed result_type 0 xs (omega arith));
      attributes = subst (PartListed (parts_from 0 no_parts 0 xs) attribute_name) (sym (attribute-names 0 0 xs)) (part-listed attribute_name 0 xs (omega arith));
      bodies = subst (PartListed (parts_from 0 no_parts 0 xs) body_open) (sym (cut-places BodyOpen 0 0 0 xs)) (part-listed body_open 0 xs (omega arith));
    }

-- ---- the ops of a text

ops-get : (ps : List (List Reading)) (k : ℕ) (d : OpText) → k < length ps → get_or (map op_from ps) k d ≡ op_from (get_or ps k [])
ops-get [] k d h = absurd (not-suc-le-zero h)
ops-get (p ∷ ps) zero d h = refl
ops-get (p ∷ ps) (suc k) d h = ops-get ps k d (le_of_suc-le-suc h)

ops-length : (ps : List (List Reading)) → length (map op_from ps) ≡ length ps
ops-length [] = refl
ops-length (p ∷ ps) = ap (λ (n : ℕ). suc n) (ops-length ps)

module _ (text : List ℕ) (e : (text_refusal text).number ≡ 0) where
  -- an op for each of the program's, the return among them
  pub ops-count : length (function_of text).ops ≡ (program_of text).count
  unfolding function_of
  ops-count = ops-length (op_pieces text) ∙ (pieces-are-ops text e).count

  -- op k is that of piece k, whatever stands for one that is not there
  pub op-text : (k : ℕ) → k < (program_of text).count → (d : OpText) → get_or (function_of text).ops k d ≡ op_from (get_or (op_pieces text) k [])
  unfolding function_of
  op-text k h d = let c = (pieces-are-ops text e).count in ops-get (op_pieces text) k d (omega arith)

  -- an op that is not the return is what is read from its place on
  pub op-read : (k : ℕ) → k + 1 < (program_of text).count → (d : OpText) → get_or (function_of text).ops k d ≡ op_from (readings_of Op text (op_place text k))
  op-read k h d = op-text k (omega arith) d ∙ ap op_from ((pieces-are-ops text e).each k h)

  pub op-parts : (at : ℕ) → op_at text at ≡ parts_from 0 no_parts 0 (readings_of Op text at)
  unfolding op_at parts_at parts_of
  op-parts at = rw (le-ltb 65536 (length text) (few_bytes text e))

  -- the parts of op k are those of its piece
  pub piece-parts : (k : ℕ) → k < (program_of text).count → op_at text (op_place text k) ≡ parts_from 0 no_parts 0 (get_or (op_pieces text) k [])
  piece-parts k h = go (ℕ_discrete (k + 1) (program_of text).count)
    where
      go : Dec (k + 1 ≡ (program_of text).count) → op_at text (op_place text k) ≡ parts_from 0 no_parts 0 (get_or (op_pieces text) k [])
      go (yes c) =
          let p = pieces-are-ops text e in
          let z : (program_of text).count - 1 ≡ k = omega arith in
          let l : get_or (op_pieces text) k [] ≡ readings_of Op text (op_place text k) ++ p.closing =
          subst (λ (n : ℕ). get_or (op_pieces text) n [] ≡ readings_of Op text (op_place text n) ++ p.closing) z p.last in
          op-parts (op_place text k) ∙ sym (ap (parts_from 0 no_parts 0) l ∙ closing-none 0 0 no_parts (readings_of Op text (op_place text k)) p.closing p.close)
      go (no c) = op-parts (op_place text k) ∙ sym (ap (parts_from 0 no_parts 0) ((pieces-are-ops text e).each k (omega arith)))

  -- op k by its parts and by its lists, whatever stands for one that is not there
  pub same_parts : (k : ℕ) → k < (program_of text).count → (d : OpText) → SameParts (op_at text (op_place text k)) (get_or (function_of text).ops k d)
  same_parts k h d =
      let g = (op-granted text e k h).few in
      let z = piece-parts k h in
      let f : Few (op_at text (op_place text k)) = (g result_name tt, g operand_name tt, g operand_type tt, g result_type tt) in
      let s = parts_same (get_or (op_pieces text) k []) (subst Few z f) in
      subst (λ (p : Parts). SameParts p (get_or (function_of text).ops k d)) (sym z) (subst (SameParts (parts_from 0 no_parts 0 (get_or (op_pieces text) k []))) (sym (op-text k h d)) s)
