-- Refusals 1 to 4 against the sentences of the grammar (syntax, specs/Sentences.antt): no machine in the statements.
-- Assumes nothing.
use mathlib.Core.Path.{◌≡◌, refl}
use mathlib.Core.Bool.{Bool, true, false, not}
use mathlib.Core.List.{List, [], ◌∷◌}
use Prim.Native.Nat.{ℕ, ◌<◌}
use native.Mathlib.Omega.{arith}
use lib.Dec.{eqb, ltb}
use lib.ListN.{length}
use borrow.Author.Tests.{lt-ltb, eqb-true, eqb-false}
use Rattle.lists.specs.Lists.{pick}
use Rattle.syntax.specs.Readings.{Reading, readings, Fault, no_fault, fault_at, fault_in, grammar_fault, fault_numbers}
use Rattle.syntax.specs.Sentences.{InGrammar, FailsAt}
use Rattle.syntax.proofs.Theorems.{sentence, fault-exact, no-fault}
use Rattle.judge.specs.Refusals.{Refusal}
use Rattle.judge.specs.declared.tally.Tally.{Tally}
use Rattle.judge.specs.Tally.{at_start, after_token}
use Rattle.judge.specs.Sizes.{size_passed}
use Rattle.judge.specs.Judge.{refuse, accepted, unknown, refusal_at, earliest, text_refusal}

-- a refusal of the readings, by number: 2 is the grammar's fault, 0 is none
abbrev Agrees : Refusal → Fault → Type 0
Agrees r f = (r.number ≡ 0 → f ≡ no_fault) × (r.number ≡ 2 → (f ≡ fault_at r.a) × (r.b ≡ 0))

-- the refusal of one token whose first byte is a: whether it fits, whether its name is unknown, whether it passes no size, or size n
abbrev judged : Bool → Bool → Bool → ℕ → ℕ → Refusal
judged fits foreign small a n = pick (not fits) (refuse 2 a 0) (pick foreign (refuse 3 a 0) (pick small accepted (refuse 4 a n)))

one_token : (fits foreign small : Bool) (a n : ℕ) (later : Refusal) (f : Fault) → Agrees later f →
    Agrees (pick (eqb (judged fits foreign small a n).number 0) later (judged fits foreign small a n)) (pick fits f (fault_at a))
one_token false foreign small a n later f h = ((λ e. absurd (omega arith)), (λ e. (refl, refl)))
one_token true true small a n later f h = ((λ e. absurd (omega arith)), (λ e. absurd (omega arith)))
one_token true false true a n later f h = h
one_token true false false a n later f h = ((λ e. absurd (omega arith)), (λ e. absurd (omega arith)))

agrees : (text : List ℕ) (s : Tally) (xs : List Reading) → Agrees (earliest text s xs) (fault_in xs)
unfolding earliest fault_in refusal_at
agrees text s [] = ((λ e. refl), (λ e. absurd (omega arith)))
agrees text s (x ∷ xs) =
    let size = size_passed text s x.role x.token in
    one_token x.fits (unknown text x.role x.token) (eqb size 0) x.token.start size
    (earliest text (after_token text s x.role x.token) xs) (fault_in xs) (agrees text (after_token text s x.role x.token) xs)

-- what the text's refusal says of its readings, where the text is not too long
whole : (text : List ℕ) → ((text_refusal text).number ≡ 1 → ⊥) → Agrees (text_refusal text) (grammar_fault text)
unfolding text_refusal grammar_fault readings
whole text n = by_length (ltb 65536 (length text)) n (agrees text at_start (readings text))
  where
    by_length : (b : Bool) → ((pick b (refuse 1 (length text) 0) (earliest text at_start (readings text))).number ≡ 1 → ⊥) →
        Agrees (earliest text at_start (readings text)) (fault_in (readings text)) →
        Agrees (pick b (refuse 1 (length text) 0) (earliest text at_start (readings text))) (fault_in (readings text))
    by_length true n h = absurd (n refl)
    by_length false n h = h

-- a text without refusal 1 to 4 is a text of the grammar
pub accepted-sentence : (text : List ℕ) → (text_refusal text).number ≡ 0 → InGrammar text
accepted-sentence text e = sentence text ((whole text (λ q. omega arith)).0 e)

-- 2: A is the first byte of the first token at which the grammar fails
pub fault-fails : (text : List ℕ) → (text_refusal text).number ≡ 2 → FailsAt text (text_refusal text).a
fault-fails text e = fault-exact text _ ((whole text (λ q. omega arith)).1 e).0

-- 2: the answer's three numbers are those of the text's fault
pub fault-numbers : (text : List ℕ) → (text_refusal text).number ≡ 2 →
    ((text_refusal text).number, (text_refusal text).a, (text_refusal text).b) ≡ fault_numbers (grammar_fault text)
fault-numbers text e =
    let q = (whole text (λ z. omega arith)).1 e in
    rw (q.0, q.1, e)

-- a text of the grammar has no refusal 2
pub never-fault : (text : List ℕ) → InGrammar text → (text_refusal text).number ≡ 2 → ⊥
never-fault text d e =
    let p = no-fault text d in
    let q = ((whole text (λ z. omega arith)).1 e).0 in
    let z : ◌≡◌ {A = ℕ} 0 1 = cc in omega arith

-- 1: every text that is too long
pub too_long : (text : List ℕ) → 65536 < length text → text_refusal text ≡ refuse 1 (length text) 0
unfolding text_refusal
too_long text h = rw (lt-ltb 65536 (length text) h)

-- no reading is refused, each by the state before it
abbrev pub Each : List ℕ → Tally → List Reading → Type 0
Each text s [] = Unit {0}
Each text s (x ∷ xs) = ((refusal_at text s x).number ≡ 0) × Each text (after_token text s x.role x.token) xs

each-taken : (text : List ℕ) (s : Tally) (xs : List Reading) → (earliest text s xs).number ≡ 0 → Each text s xs
unfolding earliest
each-taken text s [] e = tt
each-taken text s (x ∷ xs) e = by_number (eqb (refusal_at text s x).number 0) refl e (each-taken text (after_token text s x.role x.token) xs)
  where
    by_number : (b : Bool) → eqb (refusal_at text s x).number 0 ≡ b →
        (pick b (earliest text (after_token text s x.role x.token) xs) (refusal_at text s x)).number ≡ 0 →
        ((earliest text (after_token text s x.role x.token) xs).number ≡ 0 → Each text (after_token text s x.role x.token) xs) →
        ((refusal_at text s x).number ≡ 0) × Each text (after_token text s x.role x.token) xs
    by_number true q e ih = (eqb-true _ _ q, ih e)
    by_number false q e ih = absurd (eqb-false _ _ q e)

-- in a text without refusal 1 to 4 no token is refused
pub accepted-each : (text : List ℕ) → (text_refusal text).number ≡ 0 → Each text at_start (readings text)
unfolding text_refusal readings
accepted-each text e = by_length (ltb 65536 (length text)) e
  where
    by_length : (b : Bool) → (pick b (refuse 1 (length text) 0) (earliest text at_start (readings text))).number ≡ 0 → Each text at_start (readings text)
    by_length true e = absurd (omega arith)
    by_length false e = each-taken text at_start (readings text) e

-- what a token that is not refused passes: nothing
pub record Sound (text : List ℕ) (s : Tally) (x : Reading) : Type 0 where
  pub fits : x.fits ≡ true
  pub known : unknown text x.role x.token ≡ false
  pub sized : size_passed text s x.role x.token ≡ 0

pub token-sound : (text : List ℕ) (s : Tally) (x : Reading) → (refusal_at text s x).number ≡ 0 → Sound text s x
unfolding refusal_at
token-sound text s x =
    by_tests x.fits (unknown text x.role x.token) (eqb (size_passed text s x.role x.token) 0) refl refl refl
  where
    by_tests : (f u z : Bool) → x.fits ≡ f → unknown text x.role x.token ≡ u → eqb (size_passed text s x.role x.token) 0 ≡ z →
        (judged f u z x.token.start (size_passed text s x.role x.token)).number ≡ 0 → Sound text s x
    by_tests false u z p q r e = absurd (omega arith)
    by_tests true true z p q r e = absurd (omega arith)
    by_tests true false true p q r e = record { fits = p; known = q; sized = eqb-true _ _ r }
    by_tests true false false p q r e = absurd (omega arith)
