-- 01's sentence on a reduction's body, by the counts of the body's parts and by its ops as pieces, says the same of every body of a text that reading passes.
-- Assumes nothing.
use mathlib.Core.Path.{◌≡◌, refl, sym, ap, subst, ◌∙◌}
use mathlib.Core.List.{List, [], ◌∷◌, ◌++◌, map, append-nil, append_assoc}
use mathlib.Core.Bool.{Bool, true, false, not}
use Prim.Native.Nat.{ℕ, ◌+◌, ◌<◌, ◌≤◌}
use native.Mathlib.Omega.{arith}
use native.Mathlib.Decide.{ℕ_discrete}
use lib.Dec.{T, eqb}
use lib.ListN.{length, get_or, length-append}
use borrow.Author.Tests.{eqb-true}
use Rattle.lists.specs.Lists.{All, concat}
use Rattle.lists.proofs.AllLaw.{all-get}
use Rattle.scan.specs.Bytes.{among as one_of}
use Rattle.text.specs.declared.Token.{Token}
use Rattle.grammar.specs.Symbols.{ArgumentName, ArgumentType, BodyOpName, BodyClose, Body, Op}
use Rattle.grammar.specs.Leaves.{Parsed}
use Rattle.grammar.proofs.TableTest.{both, both_left, both_right, up-to}
use Rattle.syntax.specs.Readings.{Reading, reading, readings_of}
use Rattle.syntax.specs.Roles.{roles_of, tokens_of}
use Rattle.syntax.specs.Tokens.{kinds_of}
use Rattle.syntax.specs.BodiesAlone.{BodyOpAlone, BodyOutline}
use Rattle.judge.specs.Judge.{text_refusal}
use Rattle.program.specs.declared.Parts.{Parts}
use Rattle.program.specs.Parts.{no_parts, parts_from, op_at, body_at}
use Rattle.places.specs.Places.{op_name, result_name, operand_name, operand_type, result_type, attribute_name, body_open, input_name, input_type, count_of, place_of}
use Rattle.scope.specs.Scope.{begins}
use Rattle.bodies.specs.Bodies.{inner_op, has_count, body_counted, op_counted, row_named, is_reducer, on_both, returns_it, one_type, formed, body_fits}
use Rattle.source.specs.Source.{with_role, cut_from, op_from}
use Rattle.source_laws.specs.Listed.{part_roles, PartListed}
use Rattle.source_laws.proofs.ListedLaw.{part-listed}
use Rattle.source_laws.proofs.CutLaw.{cut-whole}
use Rattle.source_laws.proofs.OpCutLaw.{not_T}
use Rattle.source_laws.proofs.HeaderLaw.{apart_from}
use Rattle.verifier.specs.BodyForm.{formed_of, formed_ops}
use Rattle.body_form_laws.proofs.CutLaw.{argument_set}
use Rattle.body_form_laws.proofs.PiecesLaw.{body-op, BodyPieces, last, next, gathered, BodyShape, shaped, body-ops, body-cut, body-gathers}
use Rattle.body_form_laws.proofs.OneBodyLaw.{parts-there}
use Rattle.body_form_laws.proofs.ArgumentsLaw.{arguments-listed, argument-types-listed}
use Rattle.body_form_laws.proofs.OrderLaw.{Later, read-from, after-name, roles-all}
use Rattle.body_form_laws.proofs.OpPieceLaw.{one_name, names-count, alone-parts, first-result}
use Rattle.body_form_laws.proofs.TestLaw.{six, nine, same_tests, get_left, get-right}
use Rattle.body_form_laws.proofs.TwoOpsLaw.{length_of, Lengths, list-lengths, summed, counted-lengths, same-form}

-- ---- what the form says at once

-- two quoted names and one result
record Counts (body op : Parts) : Type 0 where
  counted : body_counted body ≡ true
  own : op_counted body op ≡ true
  names : count_of body op_name ≡ 2
  results : has_count body result_name 1 ≡ true

form-counts : (text : List ℕ) (body op : Parts) → formed text body op ≡ true → Counts body op
unfolding formed body_counted has_count
form-counts text body op e =
    let f = six (body_counted body) (op_counted body op) (is_reducer (row_named text (place_of body op_name 0))) (on_both text body) (returns_it text body) (one_type text body) e in
    let h = nine (has_count body input_name 2) (has_count body input_type 2) (has_count body op_name 2) (has_count body result_name 1) (has_count body operand_name 3) (has_count body operand_type 3) (has_count body result_type 1)
    (has_count body attribute_name 0) (has_count body body_open 0) f.0 in
    record { counted = f.0; own = f.1; names = eqb-true (count_of body op_name) 2 h.2; results = h.3 }

not-formed : (text : List ℕ) (body op : Parts) → (count_of body op_name ≡ 2 → ⊥) → formed text body op ≡ false
not-formed text body op n = go (formed text body op) refl
  where
    go : (b : Bool) → formed text body op ≡ b → b ≡ false
    go true q = absurd (n (form-counts text body op q).names)
    go false q = refl

-- the op that is read for the body has its name, once, where the body has its first
own_name : (body op : Parts) → op_counted body op ≡ true → (count_of op op_name ≡ 1) × (place_of op op_name 0 ≡ place_of body op_name 0)
unfolding op_counted has_count
own_name body op o =
    let g = six (has_count op op_name 1) (eqb (place_of op op_name 0) (place_of body op_name 0)) (has_count op result_name 1) (has_count op operand_name 2) (has_count op operand_type 2) (has_count op result_type 1) o in
    (eqb-true (count_of op op_name) 1 g.0, eqb-true (place_of op op_name 0) (place_of body op_name 0) g.1)

-- ---- the parts of a body's ops

-- the roles of an op's parts: none closes a body, none stands in a header
abbrev part_test : ℕ → Bool
part_test k = both (not (one_of (part_roles k) BodyClose)) (apart_from (part_roles k) argument_set)

part-roles : (k : ℕ) → k < 7 → T (part_test k)
part-roles k h = up-to 7 part_test k tt h

pub ops-listed : {text : List ℕ} {ys : List Reading} (s : BodyShape text ys) (k : ℕ) → k < 7 → PartListed (parts_from 1 no_parts 0 ys) k (gathered (part_roles k) (body-ops s).pieces)
ops-listed {text} {ys} s k h =
    let a = not (one_of (part_roles k) BodyClose) in
    let b = apart_from (part_roles k) argument_set in
    subst (PartListed (parts_from 1 no_parts 0 ys) k)
    (body-gathers s (part_roles k) (not_T (one_of (part_roles k) BodyClose) (both_left a b (part-roles k h))) (both_right a b (part-roles k h)))
    (part-listed k 1 ys (omega arith))

all-append-right : {A : Type 0} (P : A → Type 0) (xs ys : List A) → All P (xs ++ ys) → All P ys
all-append-right P [] ys a = a
all-append-right P (x ∷ xs) ys a = all-append-right P xs ys a.1

-- ---- by the number of pieces

module _ (text : List ℕ) (e : (text_refusal text).number ≡ 0) (body : Parts) (arguments types : List ℕ) (named : PartListed body input_name arguments) (typed : PartListed body input_type types) where
  abbrev inside : Parts
  inside = inner_op text body

  module _ (names : List Reading) (name : Token) (rest q : List Reading) (a : BodyOpAlone text names name rest) where
    abbrev p : List Reading
    p = names ++ (reading true BodyOpName name ∷ rest)

    module _ (listed : (k : ℕ) → k < 7 → PartListed body k (with_role (part_roles k) 0 0 (names ++ (reading true BodyOpName name ∷ rest)) ++ with_role (part_roles k) 0 0 q))
        (later : Later name.start q) (final : length_of op_name q ≡ 1) where
      -- where the op has a result, it is the op that is read for the body
      op-inner : 0 < length_of result_name p → (k : ℕ) → k < 7 → PartListed inside k (with_role (part_roles k) 0 0 p)
      unfolding inner_op op_at
      op-inner h k g =
          let r = with_role (part_roles result_name) 0 0 p in
          let w : place_of body result_name 0 ≡ a.at = (listed result_name (omega arith)).place 0 (omega arith) ∙ (get_left r (with_role (part_roles result_name) 0 0 q) 0 h ∙ first-result names name rest a h) in
          let z : op_at text (place_of body result_name 0) ≡ parts_from 0 no_parts 0 p =
          ap (op_at text) w ∙ (parts-there text e Op 0 a.at ∙ (ap (parts_from 0 no_parts 0) a.alone ∙ alone-parts names name rest no_parts 0)) in
          subst (λ (o : Parts). PartListed o k (with_role (part_roles k) 0 0 p)) (sym z) (part-listed k 0 p (omega arith))

      one : with_role (part_roles op_name) 0 0 p ≡ name.start ∷ []
      one = one_name false p (body-op names name rest a)

      -- where it has none, what is read from the return's result on is no op with the body's first name
      no_result : length_of result_name p ≡ 0 → length_of result_name q ≡ 1 → op_counted body inside ≡ true → ⊥
      unfolding inner_op op_at
      no_result h g o =
          let r = place_of body result_name 0 in
          let rp = with_role (part_roles result_name) 0 0 p in
          let rq = with_role (part_roles result_name) 0 0 q in
          let w : r ≡ get_or rq 0 0 = (listed result_name (omega arith)).place 0 (omega arith) ∙ get-right rp rq 0 h in
          let l : name.start < get_or rq 0 0 = all-get (λ x. name.start < x) rq 0 (roles-all (λ x. name.start < x) (part_roles result_name) 0 0 q later) 0 (omega arith) in
          let z = parts-there text e Op 0 r in
          let ns = with_role (part_roles op_name) 0 0 (readings_of Op text r) in
          let n = part-listed op_name 0 (readings_of Op text r) (omega arith) in
          let c = own_name body (op_at text r) o in
          let d : count_of (parts_from 0 no_parts 0 (readings_of Op text r)) op_name ≡ 1 = ap (λ (x : Parts). count_of x op_name) (sym z) ∙ c.0 in
          let m = n.count in
          let f : r ≤ get_or ns 0 0 = all-get (λ x. r ≤ x) ns 0 (roles-all (λ x. r ≤ x) (part_roles op_name) 0 0 (readings_of Op text r) (read-from text Op r)) 0 (omega arith) in
          let i : place_of (op_at text r) op_name 0 ≡ get_or ns 0 0 = ap (λ (x : Parts). place_of x op_name 0) z ∙ n.place 0 (omega arith) in
          let j : place_of body op_name 0 ≡ name.start = (listed op_name (omega arith)).place 0 (omega arith) ∙ ap (λ (y : List ℕ). get_or (y ++ with_role (part_roles op_name) 0 0 q) 0 0) one in
          let k = c.1 in
          omega arith

      by_lengths : 0 < length_of result_name p → Lengths arguments types p q → formed text body inside ≡ formed_of text arguments types (op_from p) (op_from q)
      by_lengths h l = same-form text body inside arguments types p q named typed listed (op-inner h) l (ap length one) final

      two-pieces : formed text body inside ≡ formed_of text arguments types (op_from p) (op_from q)
      two-pieces =
          same_tests (formed text body inside) (formed_of text arguments types (op_from p) (op_from q))
          (λ f. let c = form-counts text body inside f in by-results c (summed text body inside arguments types p q named typed listed result_name 1 (omega arith) (omega arith) c.results) (ℕ_discrete (length_of result_name p) 0))
          (λ f. let l = list-lengths text arguments types p q f in let r = l.op.results in by_lengths (omega arith) l)
        where
          by-results : Counts body inside → length_of result_name p + length_of result_name q ≡ 1 → Dec (length_of result_name p ≡ 0) → formed text body inside ≡ formed_of text arguments types (op_from p) (op_from q)
          by-results c r (yes h) = absurd (no_result h (omega arith) c.own)
          by-results c r (no h) =
              let g : 0 < length_of result_name p = omega arith in
              by_lengths g (counted-lengths text body inside arguments types p q named typed listed (op-inner g) c.counted c.own)

  module _ (close : Reading) (shut : close.role ≡ BodyClose) where
    other-number : {ps : List (List Reading)} → BodyPieces text close ps → PartListed body op_name (gathered (part_roles op_name) ps) → (length ps ≡ 2 → ⊥) → formed text body inside ≡ false
    other-number v n h = let c = names-count close shut v in let m = n.count in not-formed text body inside (λ z. h (omega arith))

    -- where what is read after the name of the first op starts after it
    by-pieces : {ps : List (List Reading)} → BodyPieces text close ps → ((k : ℕ) → k < 7 → PartListed body k (gathered (part_roles k) ps)) →
        ((names : List Reading) (name : Token) (rest : List Reading) (qs : List (List Reading)) → ps ≡ (names ++ (reading true BodyOpName name ∷ rest)) ∷ qs → Later name.start (concat qs)) →
        formed text body inside ≡ formed_ops text arguments types (map op_from ps)
    unfolding concat
    by-pieces (last o) f later = other-number (last o) (f op_name (omega arith)) (λ z. omega arith)
    by-pieces (next names name rest a (next ms m r b (last o))) f later = other-number (next names name rest a (next ms m r b (last o))) (f op_name (omega arith)) (λ z. omega arith)
    by-pieces (next names name rest a (next ms m r b (next ls l t c v))) f later = other-number (next names name rest a (next ms m r b (next ls l t c v))) (f op_name (omega arith)) (λ z. omega arith)
    by-pieces (next names name rest a (last {xs} o)) f later =
        let q = xs ++ (close ∷ []) in
        let p = names ++ (reading true BodyOpName name ∷ rest) in
        let n = names-count close shut {text = text} (last o) in
        let g = length-append (with_role (part_roles op_name) 0 0 q) [] in
        two-pieces names name rest q a
        (λ k h. subst (λ (l : List ℕ). PartListed body k (with_role (part_roles k) 0 0 p ++ l)) (append-nil (with_role (part_roles k) 0 0 q)) (f k h))
        (subst (Later name.start) (append-nil q) (later names name rest (q ∷ []) refl)) (omega arith)

-- ---- the body from its brace on

pub form_of : (text : List ℕ) → (text_refusal text).number ≡ 0 → (at : ℕ) → BodyOutline text at →
    Parsed Body (kinds_of text (tokens_of (readings_of Body text at))) (roles_of (readings_of Body text at)) →
    body_fits text at ≡ formed_ops text (with_role (ArgumentName ∷ []) 1 0 (readings_of Body text at)) (with_role (ArgumentType ∷ []) 1 0 (readings_of Body text at)) (map op_from (cut_from begins 1 0 0 (readings_of Body text at)).pieces)
unfolding body_fits body_at concat
form_of text e at o parsed =
    let ys = readings_of Body text at in
    let s = shaped o in
    let body = parts_from 1 no_parts 0 ys in
    let before = (cut_from begins 1 0 0 ys).before in
    let ps = (body-ops s).pieces in
    let whole : ys ≡ before ++ concat ps = sym (cut-whole begins 1 0 0 ys) ∙ ap (λ (l : List (List Reading)). before ++ concat l) (body-cut s) in
    ap (λ (b : Parts). formed text b (inner_op text b)) (parts-there text e Body 1 at)
    ∙ (by-pieces text e body (with_role (ArgumentName ∷ []) 1 0 ys) (with_role (ArgumentType ∷ []) 1 0 ys) (arguments-listed ys parsed.leaves) (argument-types-listed ys parsed.leaves) s.close s.shut (body-ops s).view
    (ops-listed s)
    (λ names name rest qs q.
    let x = reading true BodyOpName name in
    let w : ys ≡ (before ++ names) ++ (x ∷ (rest ++ concat qs)) =
    whole ∙ (ap (λ (l : List (List Reading)). before ++ concat l) q ∙ (ap (λ (l : List Reading). before ++ l) (append_assoc names (x ∷ rest) (concat qs)) ∙ sym (append_assoc before names (x ∷ (rest ++ concat qs))))) in
    all-append-right (λ (y : Reading). name.start < y.token.start) rest (concat qs) (after-name text Body at (before ++ names) name (rest ++ concat qs) w parsed.tokens))
    ∙ ap (λ (l : List (List Reading)). formed_ops text (with_role (ArgumentName ∷ []) 1 0 ys) (with_role (ArgumentType ∷ []) 1 0 ys) (map op_from l)) (sym (body-cut s)))
