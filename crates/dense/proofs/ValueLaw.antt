-- Laws of a whole dense value, as the code reads it: lists, or one literal for every element.
-- Assumes nothing.
use mathlib.Core.Path.{◌≡◌, refl, sym, ap, ◌∙◌}
use mathlib.Core.Bool.{true, false}
use mathlib.Core.List.{List, [], ◌∷◌, ◌++◌}
use Prim.Native.Nat.{ℕ, zero, suc, ◌-◌, ◌≤◌}
use native.Mathlib.Nat.{sub_self}
use native.Mathlib.Omega.{arith}
use borrow.Author.Tests.{eq-eqb, ne_eqb}
use lib.ListN.{length, drop}
use Rattle.std.specs.Prelude.{replicate, Option, Some, None, is_some, Result, Ok, Err, is_ok}
use Rattle.lists.specs.Lists.{pick, tab}
use Rattle.lists.proofs.TabLaw.{length-tab, fill-whole}
use Rattle.text.specs.Lex.{token_at}
use Rattle.text.specs.declared.Token.{Token}
use Rattle.element.specs.declared.ElementType.{ElementType}
use Rattle.shape.specs.Index.{size, rest}
use Rattle.shape.specs.Dims.{dims_of, Fills}
use Rattle.shape.specs.declared.Shape.{Shape}
use Rattle.laid.specs.Laid.{laid}
use Rattle.laid.proofs.LaidLaw.{lay-front}
use Rattle.types.specs.Numbers.{NumberRead, number_read}
use Rattle.dense.specs.declared.Position.{Position}
use Rattle.dense.specs.Dense.{Read, literal_of, dense_at, same_literal, dense_value}
use Rattle.dense.specs.Filled.{DenseReading, dense_reading, Outcome, outcome, after, filled, filled_by}
use Rattle.dense.proofs.LengthLaw.{dense-elements}

pub is-ok : (r : Result Position Position) → is_ok r ≡ (dense_reading r).ok
is-ok (Ok p) = refl
is-ok (Err p) = refl

pub is-some : (r : Option ℕ) → is_some r ≡ (number_read r).fits
is-some (Some b) = refl
is-some None = refl

replicated : (n x : ℕ) → replicate n x ≡ tab n (λ i. x)
replicated zero x = refl
replicated (suc n) x = ap (λ (l : List ℕ). x ∷ l) (replicated n x)

module _ (e : ElementType) (s : Shape) (text : List ℕ) (at : ℕ) {t : Token} (q : t ≡ token_at text at) where
  module _ (k : t.kind ≡ 91) {r : DenseReading} (m old : List ℕ) (h : outcome r m ≡ after (dense_at e (rest s.dims s.rank (s.rank - s.rank)) text at) (laid 0 old)) where
    as_lists : dense_value e (dims_of s) text at ≡ dense_at e (dims_of s) text at
    unfolding dense_value
    as_lists = rw (← q, eq-eqb t.kind 91 k)

    whole : outcome r m ≡ after (dense_at e (dims_of s) text at) (laid 0 old)
    whole = h ∙ rw (sub_self s.rank)

    pub lists-ok : r.ok ≡ (dense_value e (dims_of s) text at).ok
    unfolding after
    lists-ok = ap (λ (o : Outcome). o.ok) whole ∙ sym (ap (λ (d : Read). d.ok) as_lists)

    pub lists_filled : Fills old s → filled r.ok m ≡ filled_by (dense_value e (dims_of s) text at) old
    unfolding after
    lists_filled f =
        let d = dense_at e (dims_of s) text at in
        let a : r.ok ≡ d.ok = ap (λ (o : Outcome). o.ok) whole in
        let n : length d.elements ≤ length old = omega (arith, (dense-elements e (dims_of s) text at).most) in
        let b : m ≡ d.elements ++ drop (length d.elements) old = ap (λ (o : Outcome). o.slots.memory) whole ∙ lay-front d.elements old n in
        rw (as_lists, a, b)

  module _ (k : t.kind ≡ 91 → ⊥) {v : NumberRead} (l : v ≡ literal_of e text t) where
    as_same : dense_value e (dims_of s) text at ≡ record { ok = v.fits; elements = pick v.fits (tab (size (dims_of s)) (λ i. v.bits)) []; next = t.end }
    unfolding dense_value same_literal
    as_same = rw (← q, ne_eqb t.kind 91 k, ← l)

    pub literal-ok : v.fits ≡ (dense_value e (dims_of s) text at).ok
    literal-ok = sym (ap (λ (d : Read). d.ok) as_same)

    pub literal-filled : (m old : List ℕ) → v.fits ≡ true → m ≡ replicate (length old) v.bits → Fills old s → filled true m ≡ filled_by (dense_value e (dims_of s) text at) old
    literal-filled m old y h f =
        let n : length (tab (size (dims_of s)) (λ i. v.bits)) ≡ size (dims_of s) = length-tab (size (dims_of s)) (λ i. v.bits) in
        rw (as_same, y, n, h, replicated, f) (ap (λ (l : List ℕ). filled true l) (sym (fill-whole (size (dims_of s)) (λ i. v.bits) old (omega arith))))

    pub literal-refused : (old : List ℕ) → v.fits ≡ false → filled false old ≡ filled_by (dense_value e (dims_of s) text at) old
    literal-refused old n = rw (as_same, n)
