-- A body of the form computes its operation on its left and right value, whichever way round its op names them: the other way by the commutative law.
-- Assumes nothing.
use mathlib.Core.Path.{◌≡◌, refl, sym, ap, ◌∙◌}
use mathlib.Core.Bool.{Bool, true, false, ◌&&◌, ◌||◌, false≢true}
use mathlib.Core.List.{List, [], ◌∷◌}
use Prim.Native.Nat.{ℕ}
use lib.Dec.{eqb}
use borrow.Author.Tests.{eqb-true, eq-eqb}
use Rattle.lists.proofs.TestLaw.{both_true}
use Rattle.element.specs.Types.{SlotHolds}
use Rattle.element.specs.declared.ElementType.{ElementType}
use Rattle.scalar.specs.Ops.{binary_of}
use Rattle.scalar.specs.Body.{body_of}
use Rattle.scalar.specs.declared.Body.{Body}
use Rattle.scalar.specs.declared.Body.TheVariants.{Add, Multiply, Maximum, Minimum, And, Or, Xor}
use Rattle.scalar.proofs.Reduce.{body-commutative}
use Rattle.text.specs.Names.{name_bytes, same_bytes, same_name}
use Rattle.text.proofs.NameLaw.{same_bytes_lem, bytes_same}
use Rattle.optable.specs.declared.Class.{Class}
use Rattle.std.specs.Prelude.{Option, Some, None}
use Rattle.optable.specs.Table.{row_at, may_reduce}
use Rattle.optable.proofs.ByNamesLaw.{binary_for, reducer-class}
use Rattle.program.specs.declared.Parts.{Parts}
use Rattle.program.specs.Parts.{body_at}
use Rattle.places.specs.Places.{op_name, operand_name, input_name, place_of}
use Rattle.scope.specs.Scope.{name_at, same_at}
use Rattle.bodies.specs.Bodies.{inner_op, body_counted, op_counted, row_named, is_reducer, operand_is, on_both, returns_it, one_type, formed, body_fits, body_row}
use Rattle.bodies.proofs.BodiesLaw.{fits-reducer}
use Rattle.nodes.specs.Nodes.{operation_by, reducer_at}
use Rattle.body_meaning.specs.BodyValue.{bind, named_value, on_two, body_value}

-- ---- names

-- two names that are the same as a third are the same
same-two : (text : List ℕ) (a b c : ℕ) → same_at text a b ≡ true → same_at text a c ≡ true → same_at text b c ≡ true
unfolding same_at same_name
same-two text a b c p q =
    let x = name_at text a in
    let y = name_at text b in
    let z = name_at text c in
    let f = both_true (eqb x.len y.len) (same_bytes (name_bytes text x) (name_bytes text y)) p in
    let g = both_true (eqb x.len z.len) (same_bytes (name_bytes text x) (name_bytes text z)) q in
    let l : y.len ≡ z.len = sym (eqb-true x.len y.len f.0) ∙ eqb-true x.len z.len g.0 in
    let s : name_bytes text y ≡ name_bytes text z = sym (same_bytes_lem (name_bytes text x) (name_bytes text y) f.1) ∙ same_bytes_lem (name_bytes text x) (name_bytes text z) g.1 in
    rw (eq-eqb y.len z.len l, s) (bytes_same (name_bytes text z))

-- a name that is the same as one of two different names is not the other
not-other : (text : List ℕ) (a b c : ℕ) → same_at text b c ≡ false → same_at text a c ≡ true → same_at text a b ≡ false
not-other text a b c d e = go (same_at text a b) refl
  where
    go : (t : Bool) → same_at text a b ≡ t → same_at text a b ≡ false
    go true q = absurd (false≢true (sym d ∙ same-two text a b c q e))
    go false q = q

-- ---- the op

binary-body : (b : Body) (t : ElementType) (x y : ℕ) → binary_of (binary_for b) t x y ≡ body_of b t x y
binary-body Add t x y = refl
binary-body Multiply t x y = refl
binary-body Maximum t x y = refl
binary-body Minimum t x y = refl
binary-body And t x y = refl
binary-body Or t x y = refl
binary-body Xor t x y = refl

-- an op that may be a body's makes of two elements what the operation of the body does
pub on-two : (row : ℕ) (b : Body) → (row_at row).reducer ≡ Some b → (t : ElementType) (x y : ℕ) → on_two (row_at row).class t x y ≡ body_of b t x y
on-two row b e t x y = ap (λ (c : Class). on_two c t x y) (reducer-class row b e) ∙ binary-body b t x y

-- ---- the body

record Form (text : List ℕ) (at : ℕ) : Type 0 where
  both : on_both text (body_at text at) ≡ true
  returned : returns_it text (body_at text at) ≡ true

form : (text : List ℕ) (at : ℕ) → body_fits text at ≡ true → Form text at
unfolding body_fits formed
form text at e =
    let body = body_at text at in
    let a = body_counted body && op_counted body (inner_op text body) && is_reducer (row_named text (place_of body op_name 0)) in
    let h = both_true (a && on_both text body && returns_it text body) (one_type text body) e in
    let g = both_true (a && on_both text body) (returns_it text body) h.0 in
    record { both = (both_true a (on_both text body) g.0).1; returned = g.1 }

either : {A : Type 0} (a b : Bool) → a || b ≡ true → (a ≡ true → A) → (b ≡ true → A) → A
either true b e f g = f refl
either false b e f g = g e

-- where an op may be a body's, its operation is the one that evaluating takes
operation-of : (r : Option Body) → may_reduce r ≡ true → r ≡ Some (operation_by r)
operation-of None e = absurd (false≢true e)
operation-of (Some b) e = refl

module _ (text : List ℕ) (at : ℕ) (fits : body_fits text at ≡ true)
    -- the names of its arguments differ: in an accepted text they do (ArgumentLaw)
    (differ : same_at text (place_of (body_at text at) input_name 0) (place_of (body_at text at) input_name 1) ≡ false)
    (t : ElementType) (x y : ℕ) (u : SlotHolds t x) (v : SlotHolds t y) where
  abbrev parts : Parts
  parts = body_at text at

  abbrev operation : Body
  operation = reducer_at (body_row text at)

  is-operation : (row_at (body_row text at)).reducer ≡ Some operation
  unfolding reducer_at is_reducer
  is-operation = operation-of (row_at (body_row text at)).reducer (fits-reducer text at fits)

  -- the value of operand j
  abbrev operand : ℕ → ℕ
  operand j = named_value text (bind (place_of parts input_name 0) x ∷ bind (place_of parts input_name 1) y ∷ []) (place_of parts operand_name j)

  is-left : (j : ℕ) → operand_is text parts j 0 ≡ true → operand j ≡ x
  unfolding named_value operand_is
  is-left j e = rw e

  is_right : (j : ℕ) → operand_is text parts j 1 ≡ true → operand j ≡ y
  unfolding named_value operand_is
  is_right j e = rw (not-other text (place_of parts operand_name j) (place_of parts input_name 0) (place_of parts input_name 1) differ e, e)

  -- "on both, each once, either way round"
  on-operands : on_two (row_at (body_row text at)).class t (operand 0) (operand 1) ≡ body_of operation t x y
  unfolding on_both
  on-operands =
      let f : ℕ → ℕ → Bool = operand_is text parts in
      either (f 0 0 && f 1 1) (f 0 1 && f 1 0) (form text at fits).both
      (λ e. let h = both_true (f 0 0) (f 1 1) e in rw (is-left 0 h.0, is_right 1 h.1) (on-two (body_row text at) operation is-operation t x y))
      (λ e. let h = both_true (f 0 1) (f 1 0) e in rw (is_right 0 h.0, is-left 1 h.1) (on-two (body_row text at) operation is-operation t y x ∙ body-commutative operation t y x v u))

  -- "and returns it"
  pub body-value : body_value text at t x y ≡ body_of (reducer_at (body_row text at)) t x y
  unfolding body_value named_value returns_it
  body-value = rw (form text at fits).returned on-operands
