-- An op's stretch, lent out of the store and copied to `done`.
-- Assumes nothing.
use mathlib.Core.Path.{◌≡◌, refl, sym, ap, ◌∙◌, subst}
use mathlib.Core.List.{List, [], ◌∷◌, ◌++◌}
use Prim.Native.Nat.{ℕ, ◌+◌, ◌-◌, ◌≤◌, ◌<◌}
use native.Mathlib.Omega.{arith}
use lib.ListN.{length, take, drop, replicate, length-drop}
use lib.Seq.{length-take-le, take_at, drop_at}
use borrow.Rule.Slice.PartMut.{put_mid, post_of, Post-is}
use Rattle.run.specs.Run.{Out, gives, stops}
use Rattle.std.specs.Prelude.{Result, Ok, Err}
use Rattle.elementwise.specs.declared.ZeroDivisor.{ZeroDivisor}
use Rattle.elementwise.specs.Elementwise.{Tensor, step_numbers}
use Rattle.values.specs.declared.Values.{Values}
use Rattle.offsets.specs.Offsets.{size_at, offset_at, needed_of}
use Rattle.offsets.proofs.OffsetsLaw.{offset-next, offset-turn, within}
use Rattle.doing.specs.Doing.{Done}
use Rattle.evaluation.specs.State.{Stretch, Written, zeroed, copied}

pub stretch-order : (vs : Values) (n at end room space : ℕ) → Stretch vs n at end room space → (at ≤ end) × (end - at ≡ size_at vs n)
stretch-order vs n at end room space s =
    let e = s.start in
    let f = s.stop in
    let next = offset-next vs n in
    (omega arith, omega arith)

-- the stretch of value n, by its offset and its size
pub stretch-of : (vs : Values) (n at size room space : ℕ) → at ≡ offset_at vs n → size ≡ size_at vs n → n < vs.count
    → needed_of vs ≤ room → needed_of vs ≤ space → needed_of vs ≤ 8192 → Stretch vs n at (at + size) room space
stretch-of vs n at size room space e f l r s m =
    let w = within vs n l in
    record { start = e; stop = offset-turn vs n at size e f; inside = omega arith; within = omega arith; small = omega arith }

pub written_as : {number : ℕ} {m : Out Tensor ℕ} {at at2 end end2 : ℕ} {r : Result (Unit {0}) ZeroDivisor} {done done2 store store2 : List ℕ} → at ≡ at2 → end ≡ end2
    → Written number m at end r done done2 store store2 → Written number m at2 end2 r done done2 store store2
written_as {number} {m} {at} {at2} {end} {end2} {r} {done} {done2} {store} {store2} e f w =
    subst (λ (a : ℕ). Written number m a end2 r done done2 store store2) e (subst (λ (b : ℕ). Written number m at b r done done2 store store2) f w)

module _ (at end : ℕ) (store : List ℕ) (h : at ≤ end) (l : end ≤ length store) where
  -- what is lent has the length of the stretch
  pub lent_length : length (take (end - at) (drop at store)) ≡ end - at
  lent_length = length-take-le (end - at) (drop at store) (omega (arith, length-drop at store))

  module _ {number : ℕ} (done : List ℕ) where
    pub filled : (m : Out Tensor ℕ) (r : Result (Unit {0}) ZeroDivisor) (ys zs : List ℕ) → ((v : Tensor) → m ≡ gives v → length v ≡ end - at)
        → Done number m r (take (end - at) (drop at store)) ys → r ≡ Ok tt → zs ≡ take (end - at) (drop at (put_mid at (end - at) store ys))
        → Written number m at end (Ok tt) done (put_mid at (end - at) done zs) store (put_mid at (end - at) store ys)
    filled (stops k) r ys zs long d f q =
        let o : ◌≡◌ {A = ℕ} 0 12 = ap (λ n. n.0) (ap step_numbers (sym f) ∙ d.answers) in
        absurd (omega arith)
    filled (gives v) r ys zs long d f q =
        let whole : zs ≡ v =
        q ∙ ap (take (end - at)) (drop_at (take at store) (ys ++ post_of at (end - at) store) at (length-take-le at store (omega arith)))
        ∙ take_at ys (post_of at (end - at) store) (end - at) (ap length d.leaves ∙ long v refl) ∙ d.leaves in
        record {
          answers = refl;
          done-is = rw (whole, Post-is at end done h);
          store_is = rw (d.leaves, Post-is at end store h);
        }

    pub unfilled : (m : Out Tensor ℕ) (z : ZeroDivisor) (r : Result (Unit {0}) ZeroDivisor) (ys : List ℕ) → Done number m r (take (end - at) (drop at store)) ys → r ≡ Err z
        → Written number m at end (Err z) done done store (put_mid at (end - at) store ys)
    unfilled (gives v) z r ys d f =
        let o : ◌≡◌ {A = ℕ} 12 0 = ap (λ n. n.0) (ap step_numbers (sym f) ∙ d.answers) in
        absurd (omega arith)
    unfilled (stops w) z r ys d f =
        record {
          answers = ap step_numbers (sym f) ∙ d.answers;
          done-is = refl;
          store_is = rw (d.leaves, lent_length, Post-is at end store h);
        }

-- zeros put in the place of what was lent
pub zeros-put : (at end : ℕ) (store : List ℕ) → at ≤ end → end ≤ length store
    → put_mid at (end - at) store (replicate (length (take (end - at) (drop at store))) 0) ≡ zeroed at end store
zeros-put at end store h l = rw (lent_length at end store h l, Post-is at end store h)

pub front-put : (x out ys : List ℕ) → length x ≤ length out → ys ≡ x → put_mid 0 (length x - 0) out ys ≡ copied x out
front-put x out ys h e = rw (e, Post-is 0 (length x) out (omega arith))
