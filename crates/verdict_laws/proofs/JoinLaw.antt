-- Refusals 5 to 8: op by op, the verdict in the words of 01 is the one that the code works out, where attributes, bodies and constraints agree.
-- Assumes nothing.
use mathlib.Core.Path.{◌≡◌, refl, sym, ap, ◌∙◌, subst}
use mathlib.Core.List.{List, [], ◌∷◌, ◌++◌, map}
use mathlib.Core.Bool.{Bool, true, false, not, ◌&&◌, false≢true}
use Prim.Native.Nat.{ℕ, zero, suc, ◌+◌, ◌-◌, ◌<◌, ◌≤◌}
use Prim.Native.Nat.{suc-le-suc}
use native.Mathlib.Nat.{not-suc-le-zero, le_of_suc-le-suc, zero-lt-suc}
use native.Mathlib.Omega.{arith}
use lib.Dec.{eqb, ltb}
use lib.ListN.{length, get_or, length-append, get_or-append}
use borrow.Author.Tests.{eqb-true, eqb-false, eq-eqb, ne_eqb, ltb-true}
use Rattle.lists.specs.Lists.{pick, tab}
use Rattle.lists.proofs.TabLaw.{tab-get_or, tab-cong}
use Rattle.dimrules.specs.declared.TensorType.{TensorType}
use Rattle.syntax.specs.Readings.{Reading, readings_of}
use Rattle.grammar.specs.Symbols.{Op}
use Rattle.optable.specs.declared.Row.{Row}
use Rattle.optable.specs.Table.{OpRow, ops, row_at, rows_from, no_row, row_of as row_for}
use Rattle.judge.specs.Refusals.{Refusal}
use Rattle.judge.specs.Judge.{refuse, accepted, text_refusal}
use Rattle.program.specs.declared.Parts.{Parts}
use Rattle.program.specs.declared.Program.{Program}
use Rattle.program.specs.Parts.{op_at}
use Rattle.program.specs.Program.{program_of}
use Rattle.places.specs.Places.{op_name, operand_name, body_open, input_name, output_type, count_of, place_of}
use Rattle.scope.specs.Faults.{NameFault}
use Rattle.values.specs.declared.Value.{Value}
use Rattle.values.specs.declared.Values.{Values}
use Rattle.values.specs.Values.{no_value, values_in}
use Rattle.known.specs.Known.{known_names, names_fault, inputs_fault}
use Rattle.names.specs.Names.{Checked, defined, then_checked, checked_fault, settled, names_read, op_names_read, op_names_fault, input_names_fault}
use Rattle.names.proofs.SameLaw.{names_same, input-names-same}
use Rattle.opcheck.specs.Judged.{broken_by}
use Rattle.attributes.specs.Attributes.{attributes_fit}
use Rattle.bodies.specs.Bodies.{body_fits, row_named}
use Rattle.operands.specs.Operands.{value_named}
use Rattle.typing.specs.Typing.{Judged}
use Rattle.typing.specs.Typing.{row_named_in, operation_of, in_table, typed_op, op_judged}
use Rattle.outputs.specs.Outputs.{typed_return, return_judged}
use Rattle.opwise.specs.Opwise.{by_name, by_op, typing_of, op_refusal, ops_from}
use Rattle.verify.specs.Verify.{program_refusal, verdict}
use Rattle.source.specs.Source.{OpText, FunctionText, op_from, function_of, body_from}
use Rattle.verifier.specs.BodyForm.{op_number, of_body_form}
use Rattle.verifier.specs.Reasons.{wrong_attribute, wrong_dense, op_typed, return_typed}
use Rattle.verifier.specs.DefinedValues.{inputs_defined, result_defined}
use Rattle.verifier.specs.ConstraintRules.{checks_written}
use Rattle.verifier.specs.Verdict.{no_op, row_written, names_last_first, names_checked, in_turn, op_verdict, return_verdict, ops_verdict, function_verdict, verdict_of}
use Rattle.checks.specs.Check.{broken_number}
use Rattle.reading_laws.proofs.OpsLaw.{few_bytes}
use Rattle.source_laws.specs.Listed.{PartWhole, SameParts, SameHeader}
use Rattle.source_laws.specs.Pieces.{op_place, op_pieces, PiecesAreOps}
use Rattle.source_laws.specs.ListedValues.{SameValues}
use Rattle.source_laws.proofs.PiecesLaw.{pieces-are-ops}
use Rattle.source_laws.proofs.SameLaw.{ops-count, op-text, same_parts}
use Rattle.source_laws.proofs.HeaderLaw.{same-header}
use Rattle.source_laws.proofs.ValuesLaw.{same-values, with-length}
use Rattle.default_laws.proofs.WrittenLaw.{known-op}
use Rattle.default_laws.proofs.OperandLaw.{operand-before}
use Rattle.verdict_laws.proofs.TypedSameLaw.{KnownBefore, typed-same}
use Rattle.verdict_laws.proofs.ReturnSameLaw.{return-same}
use Rattle.verdict_laws.proofs.NamesSameLaw.{last-first, closing-names}

-- ---- answers

judged-turn : (typed : Bool) (c k : ℕ) →
    by_op k (pick typed (record { refusal = pick (eqb c 0) 0 8; b = c }) (record { refusal = 7; b = 0 })) ≡ pick typed (pick (eqb c 0) accepted (refuse 8 k c)) (refuse 7 k 0)
unfolding by_op
judged-turn true c k = go (eqb c 0) refl
  where
    go : (b : Bool) → eqb c 0 ≡ b → refuse (pick b 0 8) (pick (eqb (pick b 0 8) 0) 0 k) c ≡ pick b accepted (refuse 8 k c)
    go true e = let z = eqb-true c 0 e in rw z refl
    go false e = refl
judged-turn false c k = refl

-- an answer of number 0 is the one that accepts
turn-zero : (names : NameFault) (typed : Bool) (c k : ℕ) → pick (eqb (in_turn names typed c k).number 0) accepted (in_turn names typed c k) ≡ in_turn names typed c k
turn-zero names typed c k = by (eqb names.refusal 0) refl typed (eqb c 0)
  where
    turn : Bool → Bool → Bool → Refusal
    turn a b d = pick a (pick b (pick d accepted (refuse 8 k c)) (refuse 7 k 0)) (refuse names.refusal names.a 0)

    by : (a : Bool) → eqb names.refusal 0 ≡ a → (b d : Bool) → pick (eqb (turn a b d).number 0) accepted (turn a b d) ≡ turn a b d
    by true e true true = refl
    by true e true false = refl
    by true e false d = refl
    by false e b d = rw e refl

not_last : (a b : ℕ) → (a ≡ b → ⊥) → a ≤ b → a < b
not_last a b n l = omega (arith, n)

get_d_past : {A : Type 0} (l : List A) (x z : A) → get_or (l ++ (x ∷ [])) (length l) z ≡ x
get_d_past [] x z = refl
get_d_past (y ∷ l) x z = get_d_past l x z

-- an answer, or a later one where it accepts
abbrev or_later : Refusal → Refusal → Refusal
or_later r later = pick (eqb r.number 0) later r

or_same : {r s a b : Refusal} → r ≡ s → a ≡ b → or_later r a ≡ or_later s b
or_same {r} {s} {a} {b} p q = ap (λ (t : Refusal). or_later t a) p ∙ ap (λ (t : Refusal). or_later s t) q

-- ---- rows

row-among : (at : ℕ) (os : List OpRow) (i : ℕ) → i < length os → (place : ℕ) × (get_or (rows_from at os) i no_row ≡ row_for place (get_or os i no_op))
row-among at [] i h = absurd (not-suc-le-zero h)
row-among at (o ∷ os) zero h = (at, refl)
row-among at (o ∷ os) (suc i) h = row-among (at + length o.name) os i (le_of_suc-le-suc h)

module _ (text : List ℕ) (read : (text_refusal text).number ≡ 0) where
  abbrev pub p : Program
  p = program_of text

  abbrev pub vs : Values
  vs = values_in text (program_of text)

  abbrev f : FunctionText
  f = function_of text

  -- op k by its parts and by its lists
  abbrev pub op : ℕ → Parts
  op k = op_at text (op_place text k)

  abbrev pub o : ℕ → OpText
  o k = get_or f.ops k (op_from [])

  short : length text ≤ 65536
  short = few_bytes text read

  pub same : (k : ℕ) → k < p.count → SameParts (op k) (o k)
  same k h = same_parts text read k h (op_from [])

  -- ---- the row of an op

  pub number_same : (k : ℕ) → k < p.count → row_named text (place_of (op k) op_name 0) ≡ op_number text (o k)
  unfolding row_named
  number_same k h = rw ((same k h).names.place 0 (omega arith)) refl

  pub row_same : (k : ℕ) → k + 1 < p.count → (place : ℕ) × (row_named_in text (op k) ≡ row_for place (row_written text (o k)))
  unfolding row_named_in row_at in_table
  row_same k h =
      let n = number_same k (omega arith) in
      let i = row-among 0 ops (row_named text (place_of (op k) op_name 0)) (ltb-true (row_named text (place_of (op k) op_name 0)) (length ops) (known-op text read k h)) in
      (i.0, i.1 ∙ ap (λ (m : ℕ). row_for i.0 (get_or ops m no_op)) n)

  -- ---- names

  module _ (k : ℕ) (h : k < p.count) (known : List Value) (before : KnownBefore vs.list (vs.inputs + k) known) where
    abbrev fault : NameFault
    fault = names_fault text vs.list (vs.inputs + k) (op_place text k)

    tokens-read : names_read text 0 (map defined (names_last_first known)) (o k).tokens ≡ names_read text 0 (map defined (names_last_first known)) (readings_of Op text (op_place text k))
    tokens-read = go (eqb (k + 1) p.count) refl
      where
        whole : (o k).tokens ≡ get_or (op_pieces text) k []
        whole = ap (λ (t : OpText). t.tokens) (op-text text read k h (op_from []))

        go : (b : Bool) → eqb (k + 1) p.count ≡ b → names_read text 0 (map defined (names_last_first known)) (o k).tokens ≡ names_read text 0 (map defined (names_last_first known)) (readings_of Op text (op_place text k))
        go true e =
            let pieces = pieces-are-ops text read in
            let z = eqb-true (k + 1) p.count e in
            let last : p.count - 1 ≡ k = omega arith in
            let piece : get_or (op_pieces text) k [] ≡ readings_of Op text (op_place text k) ++ pieces.closing = subst (λ (m : ℕ). get_or (op_pieces text) m [] ≡ readings_of Op text (op_place text m) ++ pieces.closing) last pieces.last in
            rw (whole, piece) (closing-names text (map defined (names_last_first known)) (readings_of Op text (op_place text k)) pieces.closing pieces.close)
        go false e =
            let pieces = pieces-are-ops text read in
            let z : k + 1 < p.count = not_last (k + 1) p.count (eqb-false (k + 1) p.count e) (omega arith) in
            rw (whole, pieces.each k z) refl

    pub names_at : fault ≡ names_checked text known (o k)
    unfolding names_checked op_names_fault op_names_read
    names_at =
        names_same text short (vs.inputs + k) (op_place text k) ∙ ap (λ (l : List ℕ). op_names_fault text (op_place text k) l) (last-first vs.list known (vs.inputs + k) before)
        ∙ ap (λ (c : Checked). checked_fault (then_checked c (settled text))) (sym tokens-read)

    -- ---- 7 and 8, where no name is refused

    module _ (passed : fault.refusal ≡ 0) where
      defined-before : (j : ℕ) → j < length (o k).operands → value_named text vs.list (vs.inputs + k) (get_or (o k).operands j 0) < vs.inputs + k
      defined-before j l =
          let s = same k h in
          let few = s.operands.few in
          let z : place_of (op k) operand_name j ≡ get_or (o k).operands j 0 = s.operands.place j (omega arith) in
          let d = operand-before text read k h passed j (rw s.operands.count l) in
          rw z at d

      pub return-typed : typed_return text (op k) p.header vs.list (vs.inputs + k) ≡ return_typed text f.output_types known (o k)
      return-typed =
          return-same text (op k) (o k) (same k h) p.header f.output_types (same-header text read).output_types vs.list known (vs.inputs + k) before defined-before

      module _ (inside : k + 1 < p.count)
          (fit : attributes_fit text (op k) (row_named_in text (op k)) ≡ not (wrong_attribute text (row_written text (o k)).required (row_written text (o k)).optional (o k)) && not (wrong_dense text (o k)))
          (formed : (row_written text (o k)).body ≡ true → length (o k).bodies ≡ 1 → body_fits text (place_of (op k) body_open 0) ≡ of_body_form text (body_from (get_or (o k).bodies 0 []))) where
        pub op-typed : typed_op text (op k) (row_named_in text (op k)) vs.list (vs.inputs + k) ≡ op_typed text (row_written text (o k)) known (o k)
        op-typed =
            let r = row_same k inside in
            rw r.1
            (typed-same text (op k) (o k) (same k h) (row_written text (o k)) r.0 formed vs.list known (vs.inputs + k) before defined-before (known-op text read k inside) (rw r.1 at fit))

  -- what the code reads of op k's attributes, of its body and of its constraints is what is written
  pub record OpAgrees (k : ℕ) : Type 0 where
    pub fit : attributes_fit text (op k) (row_named_in text (op k)) ≡ not (wrong_attribute text (row_written text (o k)).required (row_written text (o k)).optional (o k)) && not (wrong_dense text (o k))
    pub formed : (row_written text (o k)).body ≡ true → length (o k).bodies ≡ 1 → body_fits text (place_of (op k) body_open 0) ≡ of_body_form text (body_from (get_or (o k).bodies 0 []))
    pub broken : typed_op text (op k) (row_named_in text (op k)) vs.list (vs.inputs + k) ≡ true →
        broken_by (row_named_in text (op k)).rule (operation_of text (op k) (row_named_in text (op k))) ≡ broken_number (checks_written text (o k) (row_written text (o k)).rule)

  module _ (k : ℕ) (known : List Value) (before : KnownBefore vs.list (vs.inputs + k) known) where
    abbrev names : NameFault
    names = names_fault text vs.list (vs.inputs + k) (op_place text k)

    -- ---- an op before the return

    op-turn : k + 1 < p.count → OpAgrees k → op_refusal text p vs k ≡ op_verdict text known k (o k)
    unfolding op_refusal op_verdict by_name typing_of op_judged
    op-turn h agrees =
        let later : eqb (k + 1) p.count ≡ false = ne_eqb (k + 1) p.count (λ e. omega arith) in
        go (eqb names.refusal 0) refl ∙ ap (λ (n : NameFault). in_turn n (op_typed text (row_written text (o k)) known (o k)) (broken_number (checks_written text (o k) (row_written text (o k)).rule)) k) (names_at k (omega arith) known before)
      where
        typed : Bool
        typed = typed_op text (op k) (row_named_in text (op k)) vs.list (vs.inputs + k)

        c : ℕ
        c = broken_by (row_named_in text (op k)).rule (operation_of text (op k) (row_named_in text (op k)))

        c2 : ℕ
        c2 = broken_number (checks_written text (o k) (row_written text (o k)).rule)

        constraints : (b : Bool) → typed ≡ b → pick b (pick (eqb c 0) accepted (refuse 8 k c)) (refuse 7 k 0) ≡ pick b (pick (eqb c2 0) accepted (refuse 8 k c2)) (refuse 7 k 0)
        constraints true e = rw (agrees.broken e) refl
        constraints false e = refl

        judged : (names.refusal ≡ 0) → by_op k (typing_of text p vs k) ≡ pick (op_typed text (row_written text (o k)) known (o k)) (pick (eqb c2 0) accepted (refuse 8 k c2)) (refuse 7 k 0)
        judged passed =
            let later : eqb (k + 1) p.count ≡ false = ne_eqb (k + 1) p.count (λ e. omega arith) in
            let same = op-typed k (omega arith) known before passed h agrees.fit agrees.formed in
            rw later (judged-turn typed c k ∙ constraints typed refl ∙ ap (λ (b : Bool). pick b (pick (eqb c2 0) accepted (refuse 8 k c2)) (refuse 7 k 0)) same)

        go : (b : Bool) → eqb names.refusal 0 ≡ b → pick b (by_op k (typing_of text p vs k)) (refuse names.refusal names.a 0) ≡
            pick b (pick (op_typed text (row_written text (o k)) known (o k)) (pick (eqb c2 0) accepted (refuse 8 k c2)) (refuse 7 k 0)) (refuse names.refusal names.a 0)
        go true e = judged (eqb-true names.refusal 0 e)
        go false e = refl

    -- ---- the return

    return-turn : k + 1 ≡ p.count → op_refusal text p vs k ≡ return_verdict text f known k (o k)
    unfolding op_refusal return_verdict by_name typing_of return_judged by_op
    return-turn h = go (eqb names.refusal 0) refl ∙ ap (λ (n : NameFault). in_turn n (return_typed text f.output_types known (o k)) 0 k) (names_at k (omega arith) known before)
      where
        turned : (b : Bool) → by_op k (record { refusal = pick b 0 7; b = 0 }) ≡ pick b accepted (refuse 7 k 0)
        turned true = refl
        turned false = refl

        judged : (names.refusal ≡ 0) → by_op k (typing_of text p vs k) ≡ pick (return_typed text f.output_types known (o k)) accepted (refuse 7 k 0)
        judged passed =
            let last : eqb (k + 1) p.count ≡ true = eq-eqb (k + 1) p.count h in
            rw last (turned (typed_return text (op k) p.header vs.list (vs.inputs + k)) ∙ ap (λ (b : Bool). pick b accepted (refuse 7 k 0)) (return-typed k (omega arith) known before passed))

        go : (b : Bool) → eqb names.refusal 0 ≡ b → pick b (by_op k (typing_of text p vs k)) (refuse names.refusal names.a 0) ≡
            pick b (pick (return_typed text f.output_types known (o k)) accepted (refuse 7 k 0)) (refuse names.refusal names.a 0)
        go true e = judged (eqb-true names.refusal 0 e)
        go false e = refl

  -- ---- op by op

  values : SameValues text vs f
  values = same-values text read

  counted : length f.ops ≡ p.count
  counted = ops-count text read

  -- the values before the first op are the inputs; each op adds its result
  pub known-first : KnownBefore vs.list (vs.inputs + 0) (inputs_defined text f)
  known-first =
      let n = values.inputs in
      record { count = omega arith; held = λ i h. sym (values.input i (omega arith) no_value) }

  pub known_next : (k : ℕ) → k + 1 < p.count → (known : List Value) → KnownBefore vs.list (vs.inputs + k) known →
      KnownBefore vs.list (vs.inputs + suc k) (known ++ (result_defined text (o k) ∷ []))
  known_next k h known before =
      let c = before.count in
      let l = length-append known (result_defined text (o k) ∷ []) in
      let n = counted in
      record { count = let z : length known + 1 ≡ vs.inputs + suc k = omega arith in l ∙ z; held = λ i q. at i q (eqb i (length known)) refl }
    where
      at : (i : ℕ) → i < vs.inputs + suc k → (b : Bool) → eqb i (length known) ≡ b → get_or (known ++ (result_defined text (o k) ∷ [])) i no_value ≡ get_or vs.list i no_value
      at i q true e =
          let c = before.count in
          let n = counted in
          let i-is = eqb-true i (length known) e in
          let place : i ≡ vs.inputs + k = i-is ∙ c in
          let new : get_or (known ++ (result_defined text (o k) ∷ [])) i no_value ≡ result_defined text (o k) = rw i-is (get_d_past known (result_defined text (o k)) no_value) in
          let read-there : get_or vs.list i no_value ≡ result_defined text (o k) = rw place (values.result k (omega arith) (op_from [])) in
          new ∙ sym read-there
      at i q false e =
          let c = before.count in
          let less : i < length known = let z = eqb-false i (length known) e in omega (arith, z) in
          get_or-append known (result_defined text (o k) ∷ []) no_value i less ∙ before.held i (omega arith)

  -- the ops from op k on
  pub record From (k left : ℕ) (rest : List OpText) : Type 0 where
    pub count : length rest ≡ left
    pub item : (j : ℕ) → get_or rest j (op_from []) ≡ o (k + j)

  pub from_next : (k left : ℕ) (x : OpText) (rest : List OpText) → From k (suc left) (x ∷ rest) → From (suc k) left rest
  from_next k left x rest w =
      let c : suc (length rest) ≡ suc left = w.count in
      record { count = omega arith; item = λ j. let z : k + suc j ≡ suc k + j = omega arith in w.item (suc j) ∙ ap o z }

  pub from-here : (k left : ℕ) (x : OpText) (rest : List OpText) → From k left (x ∷ rest) → x ≡ o k
  from-here k left x rest w = let z : k + 0 ≡ k = omega arith in w.item 0 ∙ ap o z

  code-next : (left k : ℕ) → ops_from text p vs (suc left) k ≡ or_later (op_refusal text p vs k) (ops_from text p vs left (suc k))
  unfolding ops_from
  code-next left k = refl

  written_next : (known : List Value) (k : ℕ) (x y : OpText) (rest : List OpText) →
      ops_verdict text f known k (x ∷ (y ∷ rest)) ≡ or_later (op_verdict text known k x) (ops_verdict text f (known ++ (result_defined text x ∷ [])) (suc k) (y ∷ rest))
  unfolding ops_verdict
  written_next known k x y rest = refl

  code-end : (k : ℕ) → ops_from text p vs 0 k ≡ accepted
  unfolding ops_from
  code-end k = refl

  written-end : (known : List Value) (k : ℕ) → ops_verdict text f known k [] ≡ accepted
  unfolding ops_verdict
  written-end known k = refl

  written-return : (known : List Value) (k : ℕ) (x : OpText) → ops_verdict text f known k (x ∷ []) ≡ return_verdict text f known k x
  unfolding ops_verdict
  written-return known k x = refl

  return-zero : (known : List Value) (k : ℕ) (x : OpText) → or_later (return_verdict text f known k x) accepted ≡ return_verdict text f known k x
  unfolding return_verdict
  return-zero known k x = turn-zero (names_checked text known x) (return_typed text f.output_types known x) 0 k

  pub turns : ((k : ℕ) → k + 1 < p.count → OpAgrees k) → (left k : ℕ) → left + k ≡ p.count → (known : List Value) → KnownBefore vs.list (vs.inputs + k) known →
      (rest : List OpText) → From k left rest → ops_from text p vs left k ≡ ops_verdict text f known k rest
  turns agrees zero k e known before [] w = code-end k ∙ sym (written-end known k)
  turns agrees zero k e known before (x ∷ rest) w = absurd (let c : suc (length rest) ≡ 0 = w.count in omega arith)
  turns agrees (suc left) k e known before [] w = absurd (let c : 0 ≡ suc left = w.count in omega arith)
  turns agrees (suc zero) k e known before (x ∷ []) w =
      code-next 0 k ∙ or_same (return-turn k known before (omega arith)) (code-end (suc k)) ∙ return-zero known k (o k)
      ∙ ap (λ (t : OpText). return_verdict text f known k t) (sym (from-here k 1 x [] w)) ∙ sym (written-return known k x)
  turns agrees (suc zero) k e known before (x ∷ (y ∷ rest)) w = absurd (let c : suc (suc (length rest)) ≡ 1 = w.count in omega arith)
  turns agrees (suc (suc left)) k e known before (x ∷ []) w = absurd (let c : 1 ≡ suc (suc left) = w.count in omega arith)
  turns agrees (suc (suc left)) k e known before (x ∷ (y ∷ rest)) w =
      let here = sym (from-here k (suc (suc left)) x (y ∷ rest) w) in
      let later = turns agrees (suc left) (suc k) (omega arith) (known ++ (result_defined text (o k) ∷ [])) (known_next k (omega arith) known before) (y ∷ rest) (from_next k (suc left) x (y ∷ rest) w) in
      code-next (suc left) k ∙ or_same (op-turn k known before (omega arith) (agrees k (omega arith))) later
      ∙ ap (λ (t : OpText). or_later (op_verdict text known k t) (ops_verdict text f (known ++ (result_defined text t ∷ [])) (suc k) (y ∷ rest))) here
      ∙ sym (written_next known k x y rest)

  -- "Then duplicate input names, then op by op"
  pub program-same : ((k : ℕ) → k + 1 < p.count → OpAgrees k) → program_refusal text p vs ≡ function_verdict text f
  unfolding program_refusal function_verdict by_name inputs_defined
  program-same agrees =
      let names : inputs_fault text p.header vs.inputs ≡ input_names_fault text f.inputs = input-names-same text vs.inputs ∙ ap (input_names_fault text) places in
      let all = turns agrees p.count 0 (omega arith) (inputs_defined text f) known-first f.ops (record { count = counted; item = λ j. ap o (let z : j ≡ 0 + j = omega arith in z) }) in
      rw (names, all) refl
    where
      places : tab vs.inputs (λ i. place_of p.header input_name i) ≡ f.inputs
      places =
          let s = same-header text read in
          let n : vs.inputs ≡ length f.inputs = values.inputs ∙ with-length text f.inputs f.input_types s.even in
          let few = s.inputs.few in
          tab-cong vs.inputs (λ i. place_of p.header input_name i) (λ i. get_or f.inputs i 0) (λ i h. s.inputs.place i (omega arith))
          ∙ ap (λ (m : ℕ). tab m (λ i. get_or f.inputs i 0)) n ∙ tab-get_or f.inputs 0
