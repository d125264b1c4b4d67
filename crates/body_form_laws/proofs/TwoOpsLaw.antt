-- A body of two pieces, an op and the return: its form by the counts of its parts is its form by its lists.
-- Assumes nothing.
use mathlib.Core.Path.{◌≡◌, refl, sym, ap, ◌∙◌}
use mathlib.Core.List.{List, [], ◌∷◌, ◌++◌}
use mathlib.Core.Bool.{Bool, true, false, ◌&&◌}
use Prim.Native.Nat.{ℕ, ◌+◌, ◌<◌}
use native.Mathlib.Omega.{arith}
use lib.Dec.{eqb}
use lib.ListN.{length, get_or, length-append, length-map}
use borrow.Author.Tests.{eqb-true, eq-eqb}
use Rattle.grammar.specs.Symbols.{AttributeName, BodyOpen}
use Rattle.text.specs.Lex.{token_at}
use Rattle.optable.specs.Table.{may_reduce, row_at}
use Rattle.optable.specs.Find.{find_op}
use Rattle.syntax.specs.Readings.{Reading}
use Rattle.program.specs.declared.Parts.{Parts}
use Rattle.scope.specs.Scope.{same_at}
use Rattle.dimrules.specs.Types.{same_type}
use Rattle.places.specs.Places.{op_name, result_name, operand_name, operand_type, result_type, attribute_name, body_open, input_name, input_type, count_of, place_of, type_in, type_of_part}
use Rattle.bodies.specs.Bodies.{has_count, body_counted, op_counted, row_named, is_reducer, operand_is, on_both, returns_it, as_first, one_type, formed}
use Rattle.source.specs.Source.{with_role, cut_from, attribute_from, op_from}
use Rattle.source_laws.specs.Listed.{part_roles, PartListed}
use Rattle.source_laws.proofs.OpItemsLaw.{piece-count}
use Rattle.verifier.specs.AttributeRules.{first_token}
use Rattle.verifier.specs.BodyForm.{has_length, op_number, all_are, plain_op, each_once, formed_of}
use Rattle.body_form_laws.proofs.TestLaw.{six, eight, nine, get_left, get-right, one-item, two_items, type-itself}

-- how many tokens of part k stand in some readings
abbrev pub length_of : ℕ → List Reading → ℕ
length_of k xs = length (with_role (part_roles k) 0 0 xs)

-- ---- an op that has no attribute and no body

pub record Plain (r o : ℕ) (xs : List Reading) : Type 0 where
  pub results : length_of result_name xs ≡ r
  pub result_types : length_of result_type xs ≡ r
  pub operands : length_of operand_name xs ≡ o
  pub operand_types : length_of operand_type xs ≡ o
  pub attributes : length_of attribute_name xs ≡ 0
  pub bodies : length_of body_open xs ≡ 0

module _ (xs : List Reading) where
  bodies-length : length (op_from xs).bodies ≡ length_of body_open xs
  bodies-length = piece-count BodyOpen 0 0 0 xs

  attributes-length : length (op_from xs).attributes ≡ length_of attribute_name xs
  attributes-length = length-map (cut_from (λ before role. eqb role AttributeName) 0 0 0 xs).pieces attribute_from ∙ piece-count AttributeName 0 0 0 xs

  plain-so : (r o : ℕ) → plain_op r o (op_from xs) ≡ true → Plain r o xs
  plain-so r o e =
      let op = op_from xs in
      let h = six (has_length op.results r) (has_length op.result_types r) (has_length op.operands o) (has_length op.operand_types o) (has_length op.attributes 0) (has_length op.bodies 0) e in
      record {
        results = eqb-true (length op.results) r h.0;
        result_types = eqb-true (length op.result_types) r h.1;
        operands = eqb-true (length op.operands) o h.2;
        operand_types = eqb-true (length op.operand_types) o h.3;
        attributes = sym attributes-length ∙ eqb-true (length op.attributes) 0 h.4;
        bodies = sym bodies-length ∙ eqb-true (length op.bodies) 0 h.5;
      }

  plain-holds : (r o : ℕ) → Plain r o xs → plain_op r o (op_from xs) ≡ true
  plain-holds r o h =
      let op = op_from xs in
      let a = eq-eqb (length op.results) r h.results in
      let b = eq-eqb (length op.result_types) r h.result_types in
      let c = eq-eqb (length op.operands) o h.operands in
      let d = eq-eqb (length op.operand_types) o h.operand_types in
      let e = eq-eqb (length op.attributes) 0 (attributes-length ∙ h.attributes) in
      let f = eq-eqb (length op.bodies) 0 (bodies-length ∙ h.bodies) in
      all-six (has_length op.results r) (has_length op.result_types r) (has_length op.operands o) (has_length op.operand_types o) (has_length op.attributes 0) (has_length op.bodies 0) a b c d e f
    where
      all-six : (a b c d e f : Bool) → a ≡ true → b ≡ true → c ≡ true → d ≡ true → e ≡ true → f ≡ true → a && b && c && d && e && f ≡ true
      all-six a b c d e f u v w x y z = rw (u, v, w, x, y, z)

-- ---- the lengths that the form asks

pub record Lengths (arguments types : List ℕ) (p q : List Reading) : Type 0 where
  pub named : length arguments ≡ 2
  pub typed : length types ≡ 2
  pub op : Plain 1 2 p
  pub return : Plain 0 1 q

pub list-lengths : (text arguments types : List ℕ) (p q : List Reading) → formed_of text arguments types (op_from p) (op_from q) ≡ true → Lengths arguments types p q
list-lengths text arguments types p q e =
    let op = op_from p in
    let return = op_from q in
    let h = eight (has_length arguments 2) (has_length types 2) (may_reduce (row_at (op_number text op)).reducer) (plain_op 1 2 op)
    (each_once text (get_or op.operands 0 0) (get_or op.operands 1 0) (get_or arguments 0 0) (get_or arguments 1 0)) (plain_op 0 1 return)
    (same_at text (first_token return.operands) (first_token op.results))
    (all_are text (type_in text (first_token types)) (types ++ op.operand_types ++ op.result_types ++ return.operand_types)) e in
    record { named = eqb-true (length arguments) 2 h.0; typed = eqb-true (length types) 2 h.1; op = plain-so p 1 2 h.3; return = plain-so q 0 1 h.5 }

-- ---- the types

types-case : (a b c d e : Bool) → a && b && c && e && d ≡ true && (a && (b && (c && (d && (e && true)))))
types-case true true true true true = refl
types-case true true true true false = refl
types-case true true true false true = refl
types-case true true true false false = refl
types-case true true false d e = refl
types-case true false c d e = refl
types-case false b c d e = refl

module _ (text : List ℕ) where
  alike : ℕ → ℕ → Bool
  alike a b = same_type (type_in text a) (type_in text b)

  types_same : (t u o v r w : ℕ) → alike t u && alike t o && alike t v && alike t w && alike t r ≡ all_are text (type_in text t) (t ∷ u ∷ o ∷ v ∷ r ∷ w ∷ [])
  unfolding alike
  types_same t u o v r w =
      types-case (alike t u) (alike t o) (alike t v) (alike t r) (alike t w)
      ∙ ap (λ (b : Bool). b && (alike t u && (alike t o && (alike t v && (alike t r && (alike t w && true)))))) (sym (type-itself (type_in text t)))

-- ---- both forms

join : (m e s t : Bool) → true && true && m && e && s && t ≡ true && true && m && true && e && true && s && t
join true true true t = refl
join true true false t = refl
join true false s t = refl
join false e s t = refl

module _ (text : List ℕ) (body op : Parts) (arguments types : List ℕ) (p q : List Reading) (named : PartListed body input_name arguments) (typed : PartListed body input_type types)
    (listed : (k : ℕ) → k < 7 → PartListed body k (with_role (part_roles k) 0 0 p ++ with_role (part_roles k) 0 0 q)) where
  pub summed : (k n : ℕ) → k < 7 → n < 9 → has_count body k n ≡ true → length_of k p + length_of k q ≡ n
  unfolding has_count
  summed k n h g e =
      let c = eqb-true (count_of body k) n e in
      let s = (listed k h).count in
      let l = length-append (with_role (part_roles k) 0 0 p) (with_role (part_roles k) 0 0 q) in
      omega arith

  sum-counted : (k n : ℕ) → k < 7 → n < 9 → length_of k p + length_of k q ≡ n → has_count body k n ≡ true
  unfolding has_count
  sum-counted k n h g e =
      let s = (listed k h).count in
      let l = length-append (with_role (part_roles k) 0 0 p) (with_role (part_roles k) 0 0 q) in
      eq-eqb (count_of body k) n (omega arith)

  module _ (inner : (k : ℕ) → k < 7 → PartListed op k (with_role (part_roles k) 0 0 p)) where
    own : (k n : ℕ) → k < 7 → n < 9 → has_count op k n ≡ true → length_of k p ≡ n
    unfolding has_count
    own k n h g e = let c = eqb-true (count_of op k) n e in let s = (inner k h).count in omega arith

    own-counted : (k n : ℕ) → k < 7 → n < 9 → length_of k p ≡ n → has_count op k n ≡ true
    unfolding has_count
    own-counted k n h g e = let s = (inner k h).count in eq-eqb (count_of op k) n (omega arith)

    -- by the counts
    pub counted-lengths : body_counted body ≡ true → op_counted body op ≡ true → Lengths arguments types p q
    unfolding body_counted op_counted has_count
    counted-lengths b o =
        let h = nine (has_count body input_name 2) (has_count body input_type 2) (has_count body op_name 2) (has_count body result_name 1) (has_count body operand_name 3) (has_count body operand_type 3) (has_count body result_type 1)
        (has_count body attribute_name 0) (has_count body body_open 0) b in
        let g = six (has_count op op_name 1) (eqb (place_of op op_name 0) (place_of body op_name 0)) (has_count op result_name 1) (has_count op operand_name 2) (has_count op operand_type 2) (has_count op result_type 1) o in
        let a2 = eqb-true (count_of body input_name) 2 h.0 in
        let t2 = eqb-true (count_of body input_type) 2 h.1 in
        let an = named.count in
        let tn = typed.count in
        let r = summed result_name 1 (omega arith) (omega arith) h.3 in
        let n = summed operand_name 3 (omega arith) (omega arith) h.4 in
        let t = summed operand_type 3 (omega arith) (omega arith) h.5 in
        let y = summed result_type 1 (omega arith) (omega arith) h.6 in
        let a = summed attribute_name 0 (omega arith) (omega arith) h.7 in
        let d = summed body_open 0 (omega arith) (omega arith) h.8 in
        let r1 = own result_name 1 (omega arith) (omega arith) g.2 in
        let n1 = own operand_name 2 (omega arith) (omega arith) g.3 in
        let t1 = own operand_type 2 (omega arith) (omega arith) g.4 in
        let y1 = own result_type 1 (omega arith) (omega arith) g.5 in
        record {
          named = omega arith;
          typed = omega arith;
          op = record { results = r1; result_types = y1; operands = n1; operand_types = t1; attributes = omega arith; bodies = omega arith };
          return = record { results = omega arith; result_types = omega arith; operands = omega arith; operand_types = omega arith; attributes = omega arith; bodies = omega arith };
        }

    -- where the lengths are those, both say the same
    module _ (l : Lengths arguments types p q) (one : length_of op_name p ≡ 1) (last : length_of op_name q ≡ 1) where
      body-counts : body_counted body ≡ true
      unfolding body_counted has_count
      body-counts =
          let a = l.op in
          let b = l.return in
          let an = named.count in
          let tn = typed.count in
          let nm = l.named in
          let tm = l.typed in
          let a1 = a.results in
          let a2 = a.result_types in
          let a3 = a.operands in
          let a4 = a.operand_types in
          let a5 = a.attributes in
          let a6 = a.bodies in
          let b1 = b.results in
          let b2 = b.result_types in
          let b3 = b.operands in
          let b4 = b.operand_types in
          let b5 = b.attributes in
          let b6 = b.bodies in
          rw (
            eq-eqb (count_of body input_name) 2 (omega arith),
            eq-eqb (count_of body input_type) 2 (omega arith),
            sum-counted op_name 2 (omega arith) (omega arith) (omega arith),
            sum-counted result_name 1 (omega arith) (omega arith) (omega arith),
            sum-counted operand_name 3 (omega arith) (omega arith) (omega arith),
            sum-counted operand_type 3 (omega arith) (omega arith) (omega arith),
            sum-counted result_type 1 (omega arith) (omega arith) (omega arith),
            sum-counted attribute_name 0 (omega arith) (omega arith) (omega arith),
            sum-counted body_open 0 (omega arith) (omega arith) (omega arith),
          )

      -- token j of part k of the op; the return's operand
      op-place : (k j : ℕ) → k < 7 → j < 8 → j < length_of k p → place_of body k j ≡ get_or (with_role (part_roles k) 0 0 p) j 0
      op-place k j h g i = (listed k h).place j g ∙ get_left (with_role (part_roles k) 0 0 p) (with_role (part_roles k) 0 0 q) j i

      return-place : (k n : ℕ) → k < 7 → n < 8 → length_of k p ≡ n → place_of body k n ≡ get_or (with_role (part_roles k) 0 0 q) 0 0
      return-place k n h g e = (listed k h).place n g ∙ get-right (with_role (part_roles k) 0 0 p) (with_role (part_roles k) 0 0 q) n e

      name-place : place_of body op_name 0 ≡ first_token (op_from p).names
      name-place = op-place op_name 0 (omega arith) (omega arith) (omega arith)

      op-counts : op_counted body op ≡ true
      unfolding op_counted
      op-counts =
          let a = l.op in
          let e = eq-eqb (place_of op op_name 0) (place_of body op_name 0) ((inner op_name (omega arith)).place 0 (omega arith) ∙ sym name-place) in
          rw (
            own-counted op_name 1 (omega arith) (omega arith) one,
            e,
            own-counted result_name 1 (omega arith) (omega arith) a.results,
            own-counted operand_name 2 (omega arith) (omega arith) a.operands,
            own-counted operand_type 2 (omega arith) (omega arith) a.operand_types,
            own-counted result_type 1 (omega arith) (omega arith) a.result_types,
          )

      reducer-same : is_reducer (row_named text (place_of body op_name 0)) ≡ may_reduce (row_at (op_number text (op_from p))).reducer
      unfolding is_reducer row_named
      reducer-same = ap (λ (n : ℕ). may_reduce (row_at (find_op text n (token_at text n).end)).reducer) name-place

      both-same : on_both text body ≡ each_once text (get_or (op_from p).operands 0 0) (get_or (op_from p).operands 1 0) (get_or arguments 0 0) (get_or arguments 1 0)
      unfolding on_both operand_is
      both-same =
          let a = l.op.operands in
          rw (op-place operand_name 0 (omega arith) (omega arith) (omega arith), op-place operand_name 1 (omega arith) (omega arith) (omega arith), named.place 0 (omega arith), named.place 1 (omega arith))

      return-same : returns_it text body ≡ same_at text (first_token (op_from q).operands) (first_token (op_from p).results)
      unfolding returns_it
      return-same =
          let a = l.op.results in
          rw (return-place operand_name 2 (omega arith) (omega arith) l.op.operands, op-place result_name 0 (omega arith) (omega arith) (omega arith))

      first-as : (k j b : ℕ) → place_of body k j ≡ b → as_first text body k j ≡ alike text (get_or types 0 0) b
      unfolding as_first type_of_part alike
      first-as k j b e = rw (typed.place 0 (omega arith), e)

      types_are : one_type text body ≡ all_are text (type_in text (first_token types)) (types ++ (op_from p).operand_types ++ (op_from p).result_types ++ (op_from q).operand_types)
      unfolding one_type
      types_are =
          let o = (op_from p).operand_types in
          let r = (op_from p).result_types in
          let w = (op_from q).operand_types in
          let t = type_in text (get_or types 0 0) in
          let ol = l.op.operand_types in
          let rl = l.op.result_types in
          let e1 = first-as input_type 1 (get_or types 1 0) (typed.place 1 (omega arith)) in
          let e2 = first-as operand_type 0 (get_or o 0 0) (op-place operand_type 0 (omega arith) (omega arith) (omega arith)) in
          let e3 = first-as operand_type 1 (get_or o 1 0) (op-place operand_type 1 (omega arith) (omega arith) (omega arith)) in
          let e4 = first-as operand_type 2 (get_or w 0 0) (return-place operand_type 2 (omega arith) (omega arith) ol) in
          let e5 = first-as result_type 0 (get_or r 0 0) (op-place result_type 0 (omega arith) (omega arith) (omega arith)) in
          let f = types_same text (get_or types 0 0) (get_or types 1 0) (get_or o 0 0) (get_or o 1 0) (get_or r 0 0) (get_or w 0 0) in
          let g = ap (λ (z : List ℕ). all_are text t (z ++ o ++ r ++ w)) (two_items types l.typed) in
          let h = ap (λ (z : List ℕ). all_are text t ((get_or types 0 0 ∷ get_or types 1 0 ∷ []) ++ z ++ r ++ w)) (two_items o ol) in
          let i = ap (λ (z : List ℕ). all_are text t ((get_or types 0 0 ∷ get_or types 1 0 ∷ []) ++ (get_or o 0 0 ∷ get_or o 1 0 ∷ []) ++ z ++ w)) (one-item r rl) in
          let j = ap (λ (z : List ℕ). all_are text t ((get_or types 0 0 ∷ get_or types 1 0 ∷ []) ++ (get_or o 0 0 ∷ get_or o 1 0 ∷ []) ++ (get_or r 0 0 ∷ []) ++ z)) (one-item w l.return.operand_types) in
          rw (e1, e2, e3, e4, e5) (f ∙ sym (g ∙ (h ∙ (i ∙ j))))

      pub same-form : formed text body op ≡ formed_of text arguments types (op_from p) (op_from q)
      unfolding formed
      same-form =
          let m = may_reduce (row_at (op_number text (op_from p))).reducer in
          let e = each_once text (get_or (op_from p).operands 0 0) (get_or (op_from p).operands 1 0) (get_or arguments 0 0) (get_or arguments 1 0) in
          let s = same_at text (first_token (op_from q).operands) (first_token (op_from p).results) in
          let t = all_are text (type_in text (first_token types)) (types ++ (op_from p).operand_types ++ (op_from p).result_types ++ (op_from q).operand_types) in
          old (body_counted body) (op_counted body op) (is_reducer (row_named text (place_of body op_name 0))) (on_both text body) (returns_it text body) (one_type text body) m e s t
          body-counts op-counts reducer-same both-same return-same types_are
          ∙ (join m e s t
          ∙ new (has_length arguments 2) (has_length types 2) (plain_op 1 2 (op_from p)) (plain_op 0 1 (op_from q)) m e s t
          (eq-eqb (length arguments) 2 l.named) (eq-eqb (length types) 2 l.typed) (plain-holds p 1 2 l.op) (plain-holds q 0 1 l.return))
        where
          old : (a b c d e f m g s t : Bool) → a ≡ true → b ≡ true → c ≡ m → d ≡ g → e ≡ s → f ≡ t → a && b && c && d && e && f ≡ true && true && m && g && s && t
          old a b c d e f m g s t u v w x y z = rw (u, v, w, x, y, z)

          new : (a b c d m e s t : Bool) → a ≡ true → b ≡ true → c ≡ true → d ≡ true → true && true && m && true && e && true && s && t ≡ a && b && m && c && e && d && s && t
          new a b c d m e s t u v w x = rw (u, v, w, x)
