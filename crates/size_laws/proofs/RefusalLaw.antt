-- Refusal 4 stands at the first token that passes a size, and names the lowest that it passes; a text without refusals 1 to 4 passes none.
-- Assumes nothing.
use mathlib.Core.Path.{◌≡◌, refl, sym, ap, subst, ◌∙◌}
use mathlib.Core.Bool.{Bool, true, false, not}
use mathlib.Core.List.{List, [], ◌∷◌, ◌++◌, append_assoc}
use Prim.Native.Nat.{ℕ, ◌<◌, ◌≤◌}
use native.Mathlib.Decide.{dec_lt}
use native.Mathlib.Omega.{arith}
use lib.Dec.{eqb, ltb}
use lib.ListN.{length}
use borrow.Author.Tests.{eqb-true, eqb-false}
use Rattle.lists.specs.Lists.{pick}
use Rattle.syntax.specs.Readings.{Reading, readings}
use Rattle.judge.specs.Refusals.{Refusal}
use Rattle.judge.specs.declared.tally.Tally.{Tally}
use Rattle.judge.specs.Tally.{at_start, after_token}
use Rattle.judge.specs.Sizes.{size_passed}
use Rattle.judge.specs.Judge.{refuse, accepted, unknown, refusal_at, earliest, text_refusal}
use Rattle.judge.proofs.Theorems.{Each, token-sound, accepted-each}
use Rattle.reading_laws.proofs.TallyLaw.{tally_after, each_append}
use Rattle.size_laws.specs.SizeSentences.{latest_first, counted_type, elements_through, PassedAt, rank, dimensions, elements, ops, items, numbers, range, characters, LowestPassed, NonePassed, RefusedBySize}
use Rattle.size_laws.proofs.CountedLaw.{passing-type}
use Rattle.size_laws.proofs.RunLaw.{turned-twice, onto-append}
use Rattle.size_laws.proofs.Theorems.{size_number}

-- the first reading that is refused
record Refused (text : List ℕ) (s : Tally) (xs : List Reading) : Type 0 where
  before : List Reading
  x : Reading
  after : List Reading
  whole : xs ≡ before ++ (x ∷ after)
  each : Each text s before
  here : refusal_at text (tally_after text s before) x ≡ earliest text s xs

refused : (text : List ℕ) (s : Tally) (xs : List Reading) → 0 < (earliest text s xs).number → Refused text s xs
unfolding earliest
refused text s [] h = absurd (omega arith)
refused text s (x ∷ xs) h = go (eqb (refusal_at text s x).number 0) refl (λ g. refused text (after_token text s x.role x.token) xs g) h
  where
    later : Refusal
    later = earliest text (after_token text s x.role x.token) xs

    go : (b : Bool) → eqb (refusal_at text s x).number 0 ≡ b → (0 < later.number → Refused text (after_token text s x.role x.token) xs) →
        0 < (pick b later (refusal_at text s x)).number → Refused text s (x ∷ xs)
    go true e ih g =
        let r = ih g in
        record { before = x ∷ r.before; x = r.x; after = r.after; whole = ap (λ (l : List Reading). x ∷ l) r.whole; each = (eqb-true _ _ e, r.each); here = rw e r.here }
    go false e ih g = record { before = []; x = x; after = xs; whole = refl; each = tt; here = rw e refl }

-- one token whose refusal is 4
record Four (fits : Bool) (n at a b : ℕ) : Type 0 where
  fit : fits ≡ true
  some : 0 < n
  byte : at ≡ a
  size : n ≡ b

abbrev judged : Bool → Bool → Bool → ℕ → ℕ → Refusal
judged fits foreign small a n = pick (not fits) (refuse 2 a 0) (pick foreign (refuse 3 a 0) (pick small accepted (refuse 4 a n)))

four : (fits foreign small : Bool) (at n : ℕ) → eqb n 0 ≡ small → (judged fits foreign small at n).number ≡ 4 →
    Four fits n at (judged fits foreign small at n).a (judged fits foreign small at n).b
four false foreign small at n e f = absurd (omega arith)
four true true small at n e f = absurd (omega arith)
four true false true at n e f = absurd (omega arith)
four true false false at n e f = let z = eqb-false n 0 e in record { fit = refl; some = omega arith; byte = refl; size = refl }

module _ (text : List ℕ) where
  -- a reading that is not refused
  none-at : (front : List Reading) (y : Reading) (back after : List Reading) → readings text ≡ (front ++ (y ∷ back)) ++ after → Each text at_start (front ++ (y ∷ back)) →
      NonePassed text (latest_first front) y
  none-at front y back after e a =
      let g = token-sound text (tally_after text at_start front) y (each_append text front (y ∷ back) at_start a).1.0 in
      let w : readings text ≡ front ++ (y ∷ (back ++ after)) = e ∙ append_assoc front (y ∷ back) after in
      (size_number text front y (back ++ after) w g.fits).none g.sized

  four-here : (s : Tally) (x : Reading) → (refusal_at text s x).number ≡ 4 →
      Four x.fits (size_passed text s x.role x.token) x.token.start (refusal_at text s x).a (refusal_at text s x).b
  unfolding refusal_at
  four-here s x e =
      let n = size_passed text s x.role x.token in
      four x.fits (unknown text x.role x.token) (eqb n 0) x.token.start n refl e

  by-readings : (earliest text at_start (readings text)).number ≡ 4 →
      RefusedBySize text (earliest text at_start (readings text)).a (earliest text at_start (readings text)).b
  by-readings e =
      let r = refused text at_start (readings text) (omega arith) in
      let s = tally_after text at_start r.before in
      let h = r.here in
      let f = four-here s r.x (ap (λ (z : Refusal). z.number) h ∙ e) in
      let n = size_number text r.before r.x r.after r.whole f.fit in
      record {
        before = r.before;
        x = r.x;
        after = r.after;
        whole = r.whole;
        byte = f.byte ∙ ap (λ (z : Refusal). z.a) h;
        size = subst (λ (m : ℕ). LowestPassed text (latest_first r.before) r.x m) (f.size ∙ ap (λ (z : Refusal). z.b) h) (n.passed f.some);
        none = λ front y back q.
            none-at front y back (r.x ∷ r.after) (r.whole ∙ ap (λ (l : List Reading). l ++ (r.x ∷ r.after)) q) (subst (λ (l : List Reading). Each text at_start l) q r.each);
      }

  -- 4: A is the first byte of the first token that passes a size, B the lowest that it passes
  pub refused-by-size : (text_refusal text).number ≡ 4 → RefusedBySize text (text_refusal text).a (text_refusal text).b
  unfolding text_refusal readings
  refused-by-size e = by_length (ltb 65536 (length text)) e
    where
      answer : Bool → Refusal
      answer b = pick b (refuse 1 (length text) 0) (earliest text at_start (readings text))

      by_length : (b : Bool) → (answer b).number ≡ 4 → RefusedBySize text (answer b).a (answer b).b
      by_length true e = absurd (omega arith)
      by_length false e = by-readings e

  -- 0: no token passes a size
  pub accepted-none : (text_refusal text).number ≡ 0 → (before : List Reading) (x : Reading) (after : List Reading) → readings text ≡ before ++ (x ∷ after) →
      NonePassed text (latest_first before) x
  accepted-none e before x after w =
      let a : Each text at_start (before ++ (x ∷ after)) = subst (λ (l : List Reading). Each text at_start l) w (accepted-each text e) in
      let g = token-sound text (tally_after text at_start before) x (each_append text before (x ∷ after) at_start a).1.0 in
      (size_number text before x after w g.fits).none g.sized

  -- size 3 is refused at the type of an input, or of a result outside every body
  few-before : (earlier before : List Reading) → before ≡ latest_first earlier →
      ((front : List Reading) (y : Reading) (back : List Reading) → before ≡ front ++ (y ∷ back) → NonePassed text (latest_first front) y) → elements_through text earlier ≤ 8192
  few-before [] before e n = omega arith
  few-before (y ∷ rest) before e n =
      let none : NonePassed text rest y =
      subst (λ (l : List Reading). NonePassed text l y) (turned-twice rest) (n (latest_first rest) y [] (e ∙ onto-append (y ∷ []) rest)) in
      go (dec_lt 8192 (elements_through text (y ∷ rest))) none
    where
      go : Dec (8192 < elements_through text (y ∷ rest)) → NonePassed text rest y → elements_through text (y ∷ rest) ≤ 8192
      go (yes h) none = absurd (none 3 (elements h))
      go (no h) none = omega arith

  through : {earlier : List Reading} {x : Reading} {n : ℕ} → n ≡ 3 → PassedAt text earlier x n → 8192 < elements_through text (x ∷ earlier)
  through e (rank t h) = absurd (omega arith)
  through e (dimensions t h) = absurd (omega arith)
  through e (elements h) = h
  through e (ops r h) = absurd (omega arith)
  through e (items r h) = absurd (omega arith)
  through e (numbers r h) = absurd (omega arith)
  through e (range r h) = absurd (omega arith)
  through e (characters r h) = absurd (omega arith)

  pub refused-at-type : (a : ℕ) (r : RefusedBySize text a 3) → counted_type (latest_first r.before) r.x ≡ true
  refused-at-type a r =
      (passing-type text (latest_first r.before) r.x (few-before (latest_first r.before) r.before (sym (turned-twice r.before)) r.none) (through refl r.size.passed)).0
