-- The counts grow by at most 1 for a token, the elements by at most 4,096: no sum wraps.
-- Assumes nothing.
use mathlib.Core.Path.{◌≡◌, refl}
use mathlib.Core.Bool.{Bool, true, false, ◌&&◌}
use mathlib.Core.List.{List}
use Prim.Native.Nat.{ℕ, ◌+◌, ◌≤◌}
use native.Mathlib.Omega.{arith}
use lib.Dec.{eqb}
use borrow.Author.Tests.{eqb-true}
use Rattle.lists.specs.Lists.{pick}
use Rattle.text.specs.declared.Token.{Token}
use Rattle.shape.specs.Index.{size}
use Rattle.shape.specs.Dims.{dims_of, Sized}
use Rattle.shape.proofs.IndexLaw.{size-le-volume}
use Rattle.types.specs.Tensors.{type_of}
use Rattle.types.specs.Tensors.{TypeRead}
use Rattle.types.proofs.TypeLaw.{type-sized}
use Rattle.grammar.specs.Symbols.{OpName, BodyOpen, BodyClose}
use Rattle.judge.specs.declared.tally.Tally.{Tally}
use Rattle.judge.specs.Roles.{among_roles, item_roles}
use Rattle.judge.specs.Tally.{at_start, item_number, counts, elements_at, items_after, ops_after, tally_depth, after_token, TallyWithin}

pick-le : (b : Bool) {x y n : ℕ} → x ≤ n → y ≤ n → pick b x y ≤ n
pick-le true p q = p
pick-le false p q = q

pub elements-le : (text : List ℕ) (s : Tally) (role : ℕ) (t : Token) → elements_at text s role t ≤ 4096
unfolding elements_at
elements-le text s role t = by_tests (counts s role) (type_of text t.start).known (eqb (type_of text t.start).passed 0) refl refl
  where
    sized : (type_of text t.start).known ≡ true → eqb (type_of text t.start).passed 0 ≡ true → size (dims_of (type_of text t.start).shape) ≤ 4096
    sized k p =
        let v = (type-sized text t.start k (eqb-true _ _ p)).volume in
        omega (arith, size-le-volume (dims_of (type_of text t.start).shape))

    by_tests : (a k p : Bool) → (type_of text t.start).known ≡ k → eqb (type_of text t.start).passed 0 ≡ p →
        pick (a && k && p) (size (dims_of (type_of text t.start).shape)) 0 ≤ 4096
    by_tests true true true k p = sized k p
    by_tests true true false k p = omega arith
    by_tests true false q k p = omega arith
    by_tests false r q k p = omega arith

-- a type as the code reads it
pub read_sized : (text : List ℕ) (start : ℕ) (x : TypeRead) → x ≡ type_of text start → x.known ≡ true → x.passed ≡ 0 → Sized x.shape
read_sized text start x e k p = rw e (type-sized text start (rw e at k) (rw e at p))

pub within-start : (n : ℕ) → TallyWithin n at_start
within-start n = record { items = omega arith; elements = omega arith; ops = omega arith; depth = omega arith }

module _ (n : ℕ) (s : Tally) (w : TallyWithin n s) where
  pub within_more : (m : ℕ) → n ≤ m → TallyWithin m s
  within_more m h =
      let i = w.items in
      let e = w.elements in
      let o = w.ops in
      let d = w.depth in
      record { items = omega arith; elements = omega arith; ops = omega arith; depth = omega arith }

  pub within-next : (text : List ℕ) (role : ℕ) (t : Token) → TallyWithin (n + 1) (after_token text s role t)
  unfolding after_token item_number items_after ops_after tally_depth
  within-next text role t =
      let i = w.items in
      let e = w.elements in
      let o = w.ops in
      let d = w.depth in
      let l = elements-le text s role t in
      record {
        items = pick-le (among_roles item_roles role) (pick-le s.more (omega arith) (omega arith)) (omega arith);
        elements = omega arith;
        ops = pick-le (eqb role OpName) (omega arith) (omega arith);
        depth = pick-le (eqb role BodyOpen) (omega arith) (pick-le (eqb role BodyClose) (omega arith) (omega arith));
      }
