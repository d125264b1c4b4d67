use mathlib.Core.Path.{◌≡◌, refl, ap}
use mathlib.Core.Logic.{inl, inr}
use mathlib.Core.List.{List}
use lib.ListN.{drop}
use Prim.Native.Nat.{ℕ}
use native.Mathlib.Omega.{arith}
use borrow.Author.Tests.{ne_eqb}
use Rattle.scope.specs.Scope.{scope, placed}
use Rattle.scope.proofs.ScopeLaw.{rescope}
use Rattle.scope.proofs.place_name.Goals as goal

placed-other : (text : List ℕ) (role a : ℕ) (es : List ℕ) → (role ≡ 3 → ⊥) → (role ≡ 14 → ⊥) → (role ≡ 6 → ⊥) → (role ≡ 9 → ⊥) → (role ≡ 12 → ⊥) → (role ≡ 18 → ⊥) →
    placed text role a es ≡ scope es
unfolding placed
placed-other text role a es i j r o b c = simp (ne_eqb _ _ i, ne_eqb _ _ j, ne_eqb _ _ r, ne_eqb _ _ o, ne_eqb _ _ b, ne_eqb _ _ c)

pub returns-in-3 : goal.returns-in-3
unfolding placed
returns-in-3 c = elim c.in-3.is [
  | inl e ↦ rw e (rescope refl (omega arith) c.define_name.ensures)
  | inr e ↦ rw e (rescope refl (omega arith) c.define_name.ensures)
]

pub returns-in-6 : goal.returns-in-6
unfolding placed
returns-in-6 c = rw c.in-6.is (rescope refl (omega arith) c.push.ensures)

pub returns-in-9 : goal.returns-in-9
unfolding placed
returns-in-9 c = rw c.in-9.is (rescope refl (omega arith) c.look_up.ensures)

pub returns-in-12 : goal.returns-in-12
unfolding placed
returns-in-12 c = rw c.in-12.is (rescope refl (omega arith) c.push-in-12.ensures)

pub returns-in-18 : goal.returns-in-18
unfolding placed
returns-in-18 c =
    let f = c.forget_body.ensures in
    let r = f.room in
    rw c.in-18.is (record { answer = ap scope f.left; size = refl; room = omega arith; within = f.within })

pub returns-in_default : goal.returns-in_default
returns-in_default c =
    let a = c.args in
    let q = placed-other a.text.now a.role a.a (drop a.top a.entries.now) (λ e. grind arith) (λ e. grind arith) (λ e. omega arith) (λ e. omega arith) (λ e. omega arith) (λ e. omega arith) in
    record { answer = rw q; size = refl; room = omega arith; within = omega arith }
