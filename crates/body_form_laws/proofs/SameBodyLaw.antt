-- The one body of an op of a text that reading passes: as the code reads it from its brace on, it is the body by its lists of tokens.
-- Assumes nothing.
use mathlib.Core.Path.{◌≡◌, sym, ap, subst, ◌∙◌}
use mathlib.Core.List.{List, [], ◌∷◌, ◌++◌, map, append-nil}
use mathlib.Core.Bool.{true, false}
use Prim.Native.Nat.{ℕ, ◌+◌, ◌<◌}
use native.Mathlib.Omega.{arith}
use lib.ListN.{length, get_or}
use Rattle.text.specs.Lex.{token_at}
use Rattle.optable.specs.Find.{find_op}
use Rattle.grammar.specs.Symbols.{ArgumentName, ArgumentType, BodyOpName, Body, Op}
use Rattle.syntax.specs.Readings.{Reading, reading, readings_of}
use Rattle.judge.specs.Judge.{text_refusal}
use Rattle.program.specs.declared.Parts.{Parts}
use Rattle.program.specs.Parts.{no_parts, parts_from, op_at, body_at}
use Rattle.program.specs.Program.{program_of}
use Rattle.places.specs.Places.{op_name, body_open, input_name, input_type, place_of, type_in, type_of_part}
use Rattle.scope.specs.Scope.{begins}
use Rattle.bodies.specs.Bodies.{row_named, argument_type, body_row}
use Rattle.source.specs.Source.{with_role, cut_from, OpText, op_from, body_from, function_of}
use Rattle.source_laws.specs.Listed.{part_roles, PartListed, first_place}
use Rattle.source_laws.specs.Pieces.{op_place}
use Rattle.source_laws.proofs.SameLaw.{op-read}
use Rattle.verifier.specs.AttributeRules.{first_token}
use Rattle.verifier.specs.BodyForm.{op_number, formed_ops}
use Rattle.body_form_laws.specs.SameBody.{OpStands, SameBody}
use Rattle.body_form_laws.proofs.PiecesLaw.{body-op, BodyPieces, last, next, gathered, shaped, body-ops, body-cut}
use Rattle.body_form_laws.proofs.OneBodyLaw.{BodyRead, op-stands, parts-there, one-body, place}
use Rattle.body_form_laws.proofs.ArgumentsLaw.{arguments-listed, argument-types-listed}
use Rattle.body_form_laws.proofs.OpPieceLaw.{one_name}
use Rattle.body_form_laws.proofs.TestLaw.{get_left}
use Rattle.body_form_laws.proofs.FormLaw.{ops-listed, form_of}

-- the first quoted name is the first op's
first-name : {text : List ℕ} {close : Reading} {ps : List (List Reading)} → BodyPieces text close ps → get_or (gathered (part_roles op_name) ps) 0 0 ≡ first_token (get_or (map op_from ps) 0 (op_from [])).names
first-name {close = close} (last {xs} o) = ap (λ (l : List ℕ). get_or l 0 0) (append-nil (with_role (part_roles op_name) 0 0 (xs ++ (close ∷ []))))
first-name (next names name rest {ps} a v) =
    let p = names ++ (reading true BodyOpName name ∷ rest) in
    let e = ap length (one_name false p (body-op names name rest a)) in
    get_left (with_role (part_roles op_name) 0 0 p) (gathered (part_roles op_name) ps) 0 (omega arith)

module _ (text : List ℕ) (e : (text_refusal text).number ≡ 0) where
  -- a body as it is read alone from its brace
  module _ (piece : List Reading) (b : BodyRead text piece) where
    abbrev at : ℕ
    at = first_place piece

    abbrev ys : List Reading
    ys = readings_of Body text (first_place piece)

    listed-arguments : PartListed (body_at text at) input_name (body_from piece).arguments
    unfolding body_at
    listed-arguments =
        subst (λ (p : Parts). PartListed p input_name (body_from piece).arguments) (sym (parts-there text e Body 1 at))
        (subst (λ (l : List Reading). PartListed (parts_from 1 no_parts 0 ys) input_name (with_role (ArgumentName ∷ []) 1 0 l)) (sym b.readings) (arguments-listed ys b.leaves.leaves))

    listed-types : PartListed (body_at text at) input_type (body_from piece).argument_types
    unfolding body_at
    listed-types =
        subst (λ (p : Parts). PartListed p input_type (body_from piece).argument_types) (sym (parts-there text e Body 1 at))
        (subst (λ (l : List Reading). PartListed (parts_from 1 no_parts 0 ys) input_type (with_role (ArgumentType ∷ []) 1 0 l)) (sym b.readings) (argument-types-listed ys b.leaves.leaves))

    first-op : body_row text at ≡ op_number text (get_or (body_from piece).ops 0 (op_from []))
    unfolding body_row row_named body_at
    first-op =
        let s = shaped b.outline in
        let c = body-cut s in
        let w : place_of (body_at text at) op_name 0 ≡ first_token (get_or (map op_from (cut_from begins 1 0 0 ys).pieces) 0 (op_from [])).names =
        ap (λ (p : Parts). place_of p op_name 0) (parts-there text e Body 1 at)
        ∙ ((ops-listed s op_name (omega arith)).place 0 (omega arith) ∙ (first-name (body-ops s).view ∙ ap (λ (l : List (List Reading)). first_token (get_or (map op_from l) 0 (op_from [])).names) (sym c))) in
        ap (λ (n : ℕ). find_op text n (token_at text n).end) w
        ∙ ap (λ (l : List Reading). op_number text (get_or (map op_from (cut_from begins 1 0 0 l).pieces) 0 (op_from []))) (sym b.readings)

    read_same : SameBody text at piece
    unfolding argument_type type_of_part
    read_same =
        record {
          readings = b.readings;
          arguments = listed-arguments;
          argument_types = listed-types;
          types = λ j h. ap (type_in text) (listed-types.place j h);
          form = form_of text e at b.outline b.leaves
              ∙ ap (λ (l : List Reading). formed_ops text (with_role (ArgumentName ∷ []) 1 0 l) (with_role (ArgumentType ∷ []) 1 0 l) (map op_from (cut_from begins 1 0 0 l).pieces)) (sym b.readings);
          row = first-op;
        }

  -- an op with one body
  pub same_body : (at : ℕ) → OpStands text at → length (op_from (readings_of Op text at)).bodies ≡ 1 →
      SameBody text (place_of (op_at text at) body_open 0) (get_or (op_from (readings_of Op text at)).bodies 0 [])
  same_body at s one =
      let piece = get_or (op_from (readings_of Op text at)).bodies 0 [] in
      subst (λ (n : ℕ). SameBody text n piece) (sym (place text e at s one)) (read_same piece (one-body text e at s one))

  -- op k of the text's function, the return left out
  pub op-body : (k : ℕ) → k + 1 < (program_of text).count → (d : OpText) → length (get_or (function_of text).ops k d).bodies ≡ 1 →
      SameBody text (place_of (op_at text (op_place text k)) body_open 0) (get_or (get_or (function_of text).ops k d).bodies 0 [])
  op-body k h d =
      subst (λ (o : OpText). length o.bodies ≡ 1 → SameBody text (place_of (op_at text (op_place text k)) body_open 0) (get_or o.bodies 0 [])) (sym (op-read text e k h d))
      (λ one. same_body (op_place text k) (op-stands text e k h) one)
