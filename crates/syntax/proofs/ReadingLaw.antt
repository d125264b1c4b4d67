-- Laws of a loop over the readings of a text: one turn, the end, and the room in the array.
-- Assumes nothing.
use mathlib.Core.Path.{◌≡◌, refl, subst, ◌∙◌}
use mathlib.Core.List.{List, [], ◌∷◌}
use mathlib.Core.Bool.{true, false}
use Prim.Native.Nat.{ℕ, zero, suc, ◌+◌, ◌-◌, ◌*◌, ◌<◌, ◌≤◌}
use native.Mathlib.Omega.{arith}
use native.Mathlib.Nat.{not-suc-le-zero}
use native.Mathlib.Numerals.{unary_clauses}
use lib.ListN.{length, drop, length-drop, drop_of_length-le}
use Rattle.text.specs.Lex.{token_at}
use Rattle.grammar.specs.Machine.{step}
use Rattle.std.specs.Prelude.{Some, None}
use Rattle.grammar.specs.Advance.{step_of, step_outcome, Started, Advanced}
use Rattle.grammar.specs.declared.Taken.{Taken}
use Rattle.syntax.specs.declared.Turn.{Turn}
use Rattle.syntax.specs.Kinds.{kind_of}
use Rattle.syntax.specs.Readings.{reading, labelled, readings_from}
use Rattle.syntax.specs.Turns.{Turned}

unrolled : (left : ℕ) (expected text : List ℕ) (at : ℕ) → 0 < left → 0 < length expected →
    readings_from left expected text at ≡
    labelled (token_at text at) (step expected (kind_of text (token_at text at))) (λ r. readings_from (left - 1) r text (token_at text at).end)
unfolding readings_from
unrolled zero expected text at h g = absurd (not-suc-le-zero h)
unrolled (suc n) [] text at h g = absurd (not-suc-le-zero g)
unrolled (suc n) (s ∷ expected) text at h g = simp unary_clauses

pub none-expected : (left : ℕ) (text : List ℕ) (at : ℕ) → readings_from left [] text at ≡ []
unfolding readings_from
none-expected zero text at = refl
none-expected (suc n) text at = refl

-- nothing is expected any more
pub all_read : (left top : ℕ) (stack text : List ℕ) (at : ℕ) → length stack ≤ top → readings_from left (drop top stack) text at ≡ []
all_read left top stack text at h = rw (drop_of_length-le stack h) (none-expected left text at)

-- no token may come any more
pub none_left : (left : ℕ) (expected text : List ℕ) (at : ℕ) → left ≤ 0 → readings_from left expected text at ≡ []
unfolding readings_from
none_left left expected text at h = let e : left ≡ 0 = omega arith in rw e

-- one turn
module _ (left top : ℕ) (before text : List ℕ) (at : ℕ) (r : Turn) (after : List ℕ) (some : 0 < left) (more : top < length before) (t : Turned text at before top r after) where
  one : readings_from left (drop top before) text at ≡
      labelled r.token (step_outcome (step_of (length before) r.taken).fits (step_of (length before) r.taken).role (drop (step_of (length before) r.taken).top after))
      (λ x. readings_from (left - 1) x text r.token.end)
  one =
      let n : 0 < length (drop top before) = rw length-drop (omega arith) in
      rw (t.step.steps, t.token) (unrolled left (drop top before) text at some n)

  pub turn-wrong : r.taken ≡ None → readings_from left (drop top before) text at ≡ reading false 0 r.token ∷ []
  unfolding step_outcome
  turn-wrong e = one ∙ rw e

  pub turn-right : (x : Taken) (next : ℕ) → r.taken ≡ Some x → next ≡ left - 1 →
      readings_from left (drop top before) text at ≡ reading true x.role r.token ∷ readings_from next (drop x.top after) text r.token.end
  unfolding step_outcome
  turn-right x next e q = one ∙ rw (e, q)

-- ten places of the array for each token that may still come
pub record Room (left top : ℕ) (stack : List ℕ) : Type 0 where
  pub free : 10 * left ≤ top
  pub within : top ≤ length stack

pub room-first : {before after : List ℕ} {symbol r : ℕ} (text : List ℕ) → length text ≤ 65536 → length before ≡ 655380 → Started before symbol r after →
    Room (length text + 1) r after
room-first text h n t =
    let a = t.place in
    let b = t.size in
    record { free = omega arith; within = omega arith }

pub room_next : {left top : ℕ} {before text : List ℕ} {at : ℕ} {r : Turn} {after : List ℕ} (x : Taken) (next : ℕ) → r.taken ≡ Some x → next ≡ left - 1 →
    0 < left → Room left top before → Turned text at before top r after → Room next x.top after
room_next {left} {top} {before} {text} {at} {r} {after} x next e q h w t =
    let s : Advanced before top (kind_of text (token_at text at)) (record { fits = true; role = x.role; top = x.top }) after =
    subst (λ o. Advanced before top (kind_of text (token_at text at)) (step_of (length before) o) after) e t.step in
    let a = s.room in
    let b = s.within in
    let c = s.size in
    let d = w.free in
    record { free = omega arith; within = omega arith }
