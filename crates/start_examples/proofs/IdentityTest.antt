-- A test that decides `StartsAtIdentity` of a program.
-- Assumes nothing.
use mathlib.Core.Path.{◌≡◌, refl, sym, ap, ◌∙◌}
use mathlib.Core.Bool.{Bool, true, false, ◌&&◌, false≢true}
use mathlib.Core.List.{List, [], ◌∷◌}
use mathlib.Core.Option.{Option, none, some}
use Prim.Native.Nat.{ℕ, zero, suc, ◌+◌, ◌-◌, ◌≤◌}
use native.Mathlib.Omega.{arith}
use lib.Dec.{eqb, leb}
use lib.ListN.{get_or, get_elem?}
use borrow.Author.Tests.{eqb-true, leb-true, eq-eqb, le-leb}
use Rattle.lists.specs.Lists.{pick}
use Rattle.lists.proofs.TestLaw.{both_true}
use Rattle.run.specs.Run.{RunProgram, on_option}
use Rattle.scalar.specs.Body.{identity_of}
use Rattle.scalar.specs.declared.Body.{Body}
use Rattle.ops.specs.declared.Kind.{Kind}
use Rattle.ops.specs.declared.Kind.TheVariants.{Constant, Iota, Elementwise, Pairwise, Quotient, Compare, Convert, Select, Clamp, Moved, Pad, Concatenate, DynamicSlice, Reduce}
use Rattle.ops.specs.Ops.{Node, element_of}
use Rattle.ops.specs.Typed.{StartsAtIdentity}

-- ---- what an op is to the premise

pub data Role : Type 0 where
  constant : Role
  reduction : Body → Role
  other : Role

abbrev pub role_of : Kind → Role
role_of Constant = constant
role_of (Reduce body) = reduction body
role_of Iota = other
role_of (Elementwise op) = other
role_of (Pairwise op) = other
role_of (Quotient op) = other
role_of (Compare d) = other
role_of Convert = other
role_of Select = other
role_of Clamp = other
role_of (Moved m) = other
role_of Pad = other
role_of Concatenate = other
role_of DynamicSlice = other

-- the class that a role stands for
abbrev IsOf : Role → Kind → Type 0
IsOf constant kind = kind ≡ Constant
IsOf (reduction body) kind = kind ≡ Reduce body
IsOf other kind = Unit {0}

role-is : (kind : Kind) → IsOf (role_of kind) kind
role-is Constant = refl
role-is (Reduce body) = refl
role-is Iota = tt
role-is (Elementwise op) = tt
role-is (Pairwise op) = tt
role-is (Quotient op) = tt
role-is (Compare d) = tt
role-is Convert = tt
role-is Select = tt
role-is Clamp = tt
role-is (Moved m) = tt
role-is Pad = tt
role-is Concatenate = tt
role-is DynamicSlice = tt

-- ---- the test

-- an op is a constant whose first element is z
abbrev pub constant_is : ℕ → Node → Role → Bool
constant_is z c constant = eqb (get_or c.values 0 0) z
constant_is z c (reduction body) = false
constant_is z c other = false

-- the op that defines value i
abbrev pub defined_by : RunProgram Node → ℕ → Option Node
defined_by p i = pick (leb p.inputs i) (get_elem? p.ops (i - p.inputs)) none

abbrev pub start_is : ℕ → Option Node → Bool
start_is z o = on_option o false (λ c. constant_is z c (role_of c.kind))

abbrev pub starts_right : RunProgram Node → Node → Role → Bool
starts_right p o (reduction body) = start_is (identity_of body (element_of o)) (defined_by p (get_or o.operands 1 0))
starts_right p o constant = true
starts_right p o other = true

abbrev pub each : (Node → Bool) → List Node → Bool
each t [] = true
each t (o ∷ os) = t o && each t os

abbrev pub starts_at_identity : RunProgram Node → Bool
starts_at_identity p = each (λ o. starts_right p o (role_of o.kind)) p.ops

-- ---- it decides

each_at : (t : Node → Bool) (os : List Node) → each t os ≡ true → (k : ℕ) (o : Node) → get_elem? os k ≡ some o → t o ≡ true
each_at t [] h k o e = absurd (let z : ◌≡◌ {A = ℕ} 0 1 = cc in omega arith)
each_at t (x ∷ os) h zero o e = let q : x ≡ o = cc in rw q at (both_true (t x) (each t os) h).0
each_at t (x ∷ os) h (suc k) o e = each_at t os (both_true (t x) (each t os) h).1 k o e

each_all : (t : Node → Bool) (os : List Node) → ((k : ℕ) (o : Node) → get_elem? os k ≡ some o → t o ≡ true) → each t os ≡ true
each_all t [] h = refl
each_all t (x ∷ os) h = rw (h zero x refl) (each_all t os (λ k o e. h (suc k) o e))

module _ (p : RunProgram Node) where
  -- a constant with the element z defines value i
  abbrev StartsAt : ℕ → ℕ → Type 0
  StartsAt i z = (j : ℕ) × (c : Node) × (get_elem? p.ops j ≡ some c) × (c.kind ≡ Constant) × (i ≡ p.inputs + j) × (get_or c.values 0 0 ≡ z)

  start-at : (i z : ℕ) → start_is z (defined_by p i) ≡ true → StartsAt i z
  start-at i z h = by_place (leb p.inputs i) refl
    where
      by-role : (c : Node) → get_elem? p.ops (i - p.inputs) ≡ some c → p.inputs ≤ i
          → (r : Role) → IsOf r c.kind → constant_is z c r ≡ true → StartsAt i z
      by-role c e l constant q t = (i - p.inputs, c, e, q, omega arith, eqb-true (get_or c.values 0 0) z t)
      by-role c e l (reduction body) q t = absurd (false≢true t)
      by-role c e l other q t = absurd (false≢true t)

      by-op : (o : Option Node) → get_elem? p.ops (i - p.inputs) ≡ o → p.inputs ≤ i → start_is z o ≡ true → StartsAt i z
      by-op none e l t = absurd (false≢true t)
      by-op (some c) e l t = by-role c e l (role_of c.kind) (role-is c.kind) t

      by_place : (b : Bool) → leb p.inputs i ≡ b → StartsAt i z
      by_place true l = by-op (get_elem? p.ops (i - p.inputs)) refl (leb-true p.inputs i l) (rw l at h)
      by_place false l = absurd (false≢true (rw l at h))

  start_is_lem : (i z : ℕ) → StartsAt i z → start_is z (defined_by p i) ≡ true
  start_is_lem i z (j, c, e, q, n, v) =
      let k : i - p.inputs ≡ j = omega arith in
      rw (le-leb p.inputs i (omega arith), k, e, q, v) (eq-eqb z z refl)

  pub starts-true : starts_at_identity p ≡ true → StartsAtIdentity p
  starts-true h k o body e q =
      start-at (get_or o.operands 1 0) (identity_of body (element_of o)) (rw q at (each_at (λ x. starts_right p x (role_of x.kind)) p.ops h k o e))

  pub starts-false : starts_at_identity p ≡ false → StartsAtIdentity p → ⊥
  starts-false h st = false≢true (sym h ∙ each_all (λ x. starts_right p x (role_of x.kind)) p.ops each_right)
    where
      by-role : (k : ℕ) (o : Node) → get_elem? p.ops k ≡ some o → (r : Role) → IsOf r o.kind → starts_right p o r ≡ true
      by-role k o e (reduction body) q = start_is_lem (get_or o.operands 1 0) (identity_of body (element_of o)) (st k o body e q)
      by-role k o e constant q = refl
      by-role k o e other q = refl

      each_right : (k : ℕ) (o : Node) → get_elem? p.ops k ≡ some o → starts_right p o (role_of o.kind) ≡ true
      each_right k o e = by-role k o e (role_of o.kind) (role-is o.kind)
