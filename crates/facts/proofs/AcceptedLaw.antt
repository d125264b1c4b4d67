-- From the verdicts of refusals 7 and 8 on an op to what they grant by its class.
-- Assumes nothing.
use mathlib.Core.Path.{◌≡◌, refl, ◌∙◌, subst}
use mathlib.Core.Bool.{Bool, true, false, not, ◌&&◌, ◌||◌, false≢true}
use mathlib.Core.List.{List, [], ◌∷◌, map}
use Prim.Native.Nat.{ℕ, zero, suc, ◌≤◌, ◌<◌}
use native.Mathlib.Nat.{not-suc-le-zero, le_of_suc-le-suc}
use native.Mathlib.Omega.{arith}
use lib.Dec.{eqb}
use lib.ListN.{length, get_or}
use borrow.Author.Tests.{eqb-true, ne_eqb}
use Rattle.lists.specs.Lists.{pick}
use Rattle.element.specs.Types.{bool_of}
use Rattle.element.specs.declared.ElementType.{ElementType}
use Rattle.element.specs.declared.ElementType.TheVariants.{I1, I8, I16, I32, I64, U8, U16, U32, U64}
use Rattle.scalar.specs.declared.Direction.{Direction}
use Rattle.scalar.specs.declared.Body.{Body}
use Rattle.ops.specs.declared.Kind.{Kind}
use Rattle.optable.specs.Table.{ops, rows_from, no_row, row_at}
use Rattle.optable.specs.Takes.{takes, operand_taken, result_taken}
use Rattle.optable.specs.declared.Takes.{Takes}
use Rattle.optable.specs.declared.Takes.TheVariants.{Any, Integer, Signed, Boolean}
use Rattle.optable.specs.declared.Row.{Row}
use Rattle.optable.specs.declared.Rule.{Rule}
use Rattle.dimrules.specs.Types.{type_at}
use Rattle.opcheck.specs.declared.Operation.{Operation}
use Rattle.opcheck.specs.Judged.{taken_at, taken_by_tables, broken_by}
use Rattle.opcheck.specs.Accepted.{Granted}
use Rattle.opcheck.proofs.GrantedLaw.{granted, Taken, taken}
use Rattle.facts.specs.Facts.{Shaped, rule_of_kind, operand_counts, scalars_of, has_body, boolean_kind, is_boolean, kind_by, OneNumber, RowFor, AcceptedAs}

only-i1 : (e : ElementType) → bool_of e ≡ true → e ≡ I1
only-i1 I1 q = refl
only-i1 I8 q = absurd (false≢true q)
only-i1 I16 q = absurd (false≢true q)
only-i1 I32 q = absurd (false≢true q)
only-i1 I64 q = absurd (false≢true q)
only-i1 U8 q = absurd (false≢true q)
only-i1 U16 q = absurd (false≢true q)
only-i1 U32 q = absurd (false≢true q)
only-i1 U64 q = absurd (false≢true q)

last-true : (a b : Bool) → a && b ≡ true → b ≡ true
last-true true b e = e
last-true false b e = absurd (false≢true e)

module _ (row : Row) (o : Operation) (t : Taken row o) where
  result-i1 : (k : Takes) → row.result ≡ k → is_boolean k ≡ true → o.result.element ≡ I1
  unfolding result_taken takes
  result-i1 Any e q = absurd (false≢true q)
  result-i1 Integer e q = absurd (false≢true q)
  result-i1 Signed e q = absurd (false≢true q)
  result-i1 Boolean e q = only-i1 o.result.element (subst (λ (k : Takes). takes k o.result.element ≡ true) e t.result)

  single : row.scalars ≡ true → (j : ℕ) → 0 < j → j < o.arity → (type_at o.types j).shape.rank ≡ 0
  unfolding taken_at operand_taken
  single e j p l =
      let r = (type_at o.types j).shape.rank in
      let u = takes row.rest (type_at o.types j).element in
      let q : u && (not row.scalars || eqb r 0) ≡ true =
      subst (λ (b : Bool). pick b (takes row.first (type_at o.types j).element) (u && (not row.scalars || eqb r 0)) ≡ true) (ne_eqb j 0 (λ z. omega arith)) (t.operands j l) in
      eqb-true r 0 (subst (λ (b : Bool). not b || eqb r 0 ≡ true) e (last-true u (not row.scalars || eqb r 0) q))

-- ---- the rows of the op table

-- two fields that are the same in every row of a list
same-field : {A : Type 0} (f g : Row → A) (rows : List Row) → map f rows ≡ map g rows → (i : ℕ) → i < length rows → f (get_or rows i no_row) ≡ g (get_or rows i no_row)
same-field f g [] e i l = absurd (not-suc-le-zero l)
same-field f g (r ∷ rows) e zero l = cc
same-field f g (r ∷ rows) e (suc i) l = same-field f g rows (let q : map f rows ≡ map g rows = cc in q) i (le_of_suc-le-suc l)

pub row-for : (d : Direction) (body : Body) (i : ℕ) → i < length ops → RowFor (kind_by d body (row_at i).class) (row_at i)
unfolding row_at ops
row-for d body i l =
    let rows = rows_from 0 ops in
    record {
      rule = same-field (λ r. r.rule) (λ r. rule_of_kind (kind_by d body r.class)) rows refl i l;
      least = same-field (λ r. r.least) (λ r. (operand_counts (kind_by d body r.class)).0) rows refl i l;
      most = same-field (λ r. r.most) (λ r. (operand_counts (kind_by d body r.class)).1) rows refl i l;
      body = same-field (λ r. r.body) (λ r. has_body (kind_by d body r.class)) rows refl i l;
      scalars = same-field (λ r. r.scalars) (λ r. scalars_of (kind_by d body r.class)) rows refl i l;
      boolean = same-field (λ r. is_boolean r.result) (λ r. boolean_kind (kind_by d body r.class)) rows refl i l;
    }

-- ---- the verdicts

pub accepted : (kind : Kind) (row : Row) (o : Operation) → RowFor kind row → Shaped o → OneNumber kind o
    → taken_by_tables row o ≡ true → broken_by row.rule o ≡ 0 → AcceptedAs kind o
accepted kind row o r h n e f =
    let t = taken row o e in
    let l : (operand_counts kind).0 ≤ o.arity = subst (λ (k : ℕ). k ≤ o.arity) r.least t.least in
    record {
      shaped = h;
      number = n;
      least = l;
      most = subst (λ (k : ℕ). o.arity ≤ k) r.most t.most;
      scalars = λ q. single row o t (r.scalars ∙ q);
      boolean = λ q. result-i1 row o t row.result refl (r.boolean ∙ q);
      granted = subst (λ (k : Rule). Granted k o) r.rule (granted row.rule o (rw h.a.six h.a.few) f);
    }
