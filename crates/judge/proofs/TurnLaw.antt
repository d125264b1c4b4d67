-- Laws of the loop over the readings of a text: a turn that refuses, a turn that goes on, and the end.
-- Assumes nothing.
use mathlib.Core.Path.{◌≡◌, refl, ◌∙◌}
use mathlib.Core.Bool.{true, false}
use mathlib.Core.List.{List, [], ◌∷◌}
use Prim.Native.Nat.{ℕ, ◌-◌, ◌<◌}
use native.Mathlib.Omega.{arith}
use lib.ListN.{length, drop}
use borrow.Author.Tests.{eq-eqb, ne_eqb}
use Rattle.std.specs.Prelude.{Some, None}
use Rattle.grammar.specs.declared.Taken.{Taken}
use Rattle.text.specs.declared.Token.{Token}
use Rattle.syntax.specs.declared.Turn.{Turn}
use Rattle.syntax.specs.Readings.{Reading, reading, readings_from}
use Rattle.syntax.specs.Turns.{Turned}
use Rattle.syntax.proofs.ReadingLaw.{turn-wrong, turn-right}
use Rattle.judge.specs.Refusals.{Refusal}
use Rattle.judge.specs.declared.tally.Tally.{Tally}
use Rattle.judge.specs.Tally.{after_token}
use Rattle.judge.specs.Judge.{refuse, refusal_at, earliest}

-- the first reading is refused
first-refused : (text : List ℕ) (s : Tally) (x : Reading) (xs : List Reading) → ((refusal_at text s x).number ≡ 0 → ⊥) → earliest text s (x ∷ xs) ≡ refusal_at text s x
unfolding earliest
first-refused text s x xs n = rw (ne_eqb _ _ n)

-- the first reading is not refused
first_taken : (text : List ℕ) (s : Tally) (x : Reading) (xs : List Reading) → (refusal_at text s x).number ≡ 0 →
    earliest text s (x ∷ xs) ≡ earliest text (after_token text s x.role x.token) xs
unfolding earliest
first_taken text s x xs e = rw (eq-eqb _ _ e)

-- a token that does not fit
wrong_at : (text : List ℕ) (s : Tally) (t : Token) → refusal_at text s (reading false 0 t) ≡ refuse 2 t.start 0
unfolding refusal_at
wrong_at text s t = refl

wrong-refused : (text : List ℕ) (s : Tally) (t : Token) → (refusal_at text s (reading false 0 t)).number ≡ 0 → ⊥
unfolding refusal_at
wrong-refused text s t e = omega arith

module _ (s : Tally) (left top : ℕ) (before text : List ℕ) (at : ℕ) (r : Turn) (after : List ℕ) (some : 0 < left) (more : top < length before) (t : Turned text at before top r after) where
  pub turn-failed : r.taken ≡ None → earliest text s (readings_from left (drop top before) text at) ≡ refuse 2 r.token.start 0
  turn-failed e =
      rw (turn-wrong left top before text at r after some more t e)
      (first-refused text s (reading false 0 r.token) [] (wrong-refused text s r.token) ∙ wrong_at text s r.token)

  module _ (x : Taken) (e : r.taken ≡ Some x) where
    abbrev Here : Refusal
    Here = refusal_at text s (reading true x.role r.token)

    pub turn-refused : (Here.number ≡ 0 → ⊥) → earliest text s (readings_from left (drop top before) text at) ≡ Here
    turn-refused n = rw (turn-right left top before text at r after some more t x (left - 1) e refl) (first-refused text s (reading true x.role r.token) _ n)

    pub turn-taken : (next : ℕ) → next ≡ left - 1 → Here.number ≡ 0 →
        earliest text s (readings_from left (drop top before) text at)
        ≡ earliest text (after_token text s x.role r.token) (readings_from next (drop x.top after) text r.token.end)
    turn-taken next q z = rw (turn-right left top before text at r after some more t x next e q) (first_taken text s (reading true x.role r.token) _ z)
