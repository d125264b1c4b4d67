-- A token is one of 01's forms, and no form that starts where it starts is longer.
-- Assumes nothing.
use mathlib.Core.Path.{◌≡◌, refl, sym, ap, ◌∙◌, subst}
use mathlib.Core.Bool.{Bool, true, false, ◌&&◌, ◌||◌}
use mathlib.Core.List.{List, [], ◌∷◌}
use Prim.Native.Nat.{ℕ, zero, suc, ◌+◌, ◌-◌, ◌<◌, ◌≤◌}
use native.Mathlib.Decide.{dec_lt}
use native.Mathlib.Omega.{arith}
use lib.ListN.{length, get_or, drop, get_or-eq_default}
use lib.Seq.{get_or-drop}
use lib.Dec.{leb, eqb}
use borrow.Author.Tests.{eqb-true, eqb-false, ne_eqb, leb-true, lt-leb}
use Rattle.lists.specs.Lists.{pick}
use Rattle.scan.specs.Ascii.{ascii}
use Rattle.scan.specs.Bytes.{byte_at, between, is_letter, is_digit, is_sigil, is_sign, in_run, run_from, run_end, starts_with, skip_end}
use Rattle.scan.specs.TypeText.{word_end}
use Rattle.scan.specs.TensorText.{type_close}
use Rattle.scan.proofs.EndLaw.{run-ge, close-ge}
use Rattle.scan.proofs.ByteLaw.{starts-inside}
use Rattle.text.specs.Lex.{tok, mark_token, name_end, name_token, sign_token, quote_token, plain_word, tensor_token, tensor_by, word_token, lexeme, token_at}
use Rattle.text.specs.Forms.{Run, Word, Digits, Form, Formed, Longest, name, numbered, word, number, signed, func, dialect, quoted, tensor, arrow, mark, other}
use Rattle.text.specs.declared.Token.{Token}
use Rattle.text.proofs.TokenLaw.{lexeme-stands, first, second, token-start, token-inside}

never : {A : Type 0} (b : Bool) → b ≡ true → b ≡ false → A
never b p q = let z : ◌≡◌ {A = ℕ} 0 1 = cc in absurd (omega arith)

-- runs

none-in-run : (letters : Bool) → in_run letters 0 ≡ false
unfolding in_run is_digit is_letter
none-in-run true = refl
none-in-run false = refl

-- what stands k bytes after the start of a run
from-runs : (letters : Bool) (s : List ℕ) (at k : ℕ) → at + k < run_from letters at s → in_run letters (get_or s k 0) ≡ true
unfolding run_from
from-runs letters [] at k h = absurd (omega arith)
from-runs letters (b ∷ bs) at k h = by-test (in_run letters b) refl (from-runs letters bs (suc at)) k h
  where
    by-test : (t : Bool) → in_run letters b ≡ t → ((k : ℕ) → suc at + k < run_from letters (suc at) bs → in_run letters (get_or bs k 0) ≡ true) →
        (k : ℕ) → at + k < pick t (run_from letters (suc at) bs) at → in_run letters (get_or (b ∷ bs) k 0) ≡ true
    by-test true e ih zero h = e
    by-test true e ih (suc k) h = ih k (omega arith)
    by-test false e ih k h = absurd (omega arith)

from-ge : (letters : Bool) (s : List ℕ) (at : ℕ) → at ≤ run_from letters at s
unfolding run_from
from-ge letters [] at = omega arith
from-ge letters (b ∷ bs) at = by-test (in_run letters b) (from-ge letters bs (suc at))
  where
    by-test : (t : Bool) → suc at ≤ run_from letters (suc at) bs → at ≤ pick t (run_from letters (suc at) bs) at
    by-test true h = omega arith
    by-test false h = omega arith

from-stops : (letters : Bool) (s : List ℕ) (at k : ℕ) → at + k ≡ run_from letters at s → in_run letters (get_or s k 0) ≡ false
unfolding run_from
from-stops letters [] at k h = none-in-run letters
from-stops letters (b ∷ bs) at k h = by-test (in_run letters b) refl (from-stops letters bs (suc at)) k h
  where
    by-test : (t : Bool) → in_run letters b ≡ t → ((k : ℕ) → suc at + k ≡ run_from letters (suc at) bs → in_run letters (get_or bs k 0) ≡ false) →
        (k : ℕ) → at + k ≡ pick t (run_from letters (suc at) bs) at → in_run letters (get_or (b ∷ bs) k 0) ≡ false
    by-test true e ih zero h = let g = from-ge letters bs (suc at) in absurd (omega arith)
    by-test true e ih (suc k) h = ih k (omega arith)
    by-test false e ih zero h = e
    by-test false e ih (suc k) h = absurd (omega arith)

module _ (letters : Bool) (text : List ℕ) (s : ℕ) where
  byte-from : (k : ℕ) → s ≤ k → get_or (drop s text) (k - s) 0 ≡ byte_at text k
  byte-from k h = let e : s + (k - s) ≡ k = omega arith in get_or-drop s text (k - s) 0 ∙ ap (λ (n : ℕ). get_or text n 0) e

  run-runs : Run letters text s (run_end letters text s)
  unfolding run_end
  run-runs k p q = rw (← byte-from k p) (from-runs letters (drop s text) s (k - s) (omega arith))

  run-stops : in_run letters (byte_at text (run_end letters text s)) ≡ false
  unfolding run_end
  run-stops =
      let g = run-ge letters text s s (omega arith) in
      rw (← byte-from (run_end letters text s) g) (from-stops letters (drop s text) s (run_end letters text s - s) (omega arith))

  run-max : (e : ℕ) → Run letters text s e → e ≤ run_end letters text s
  run-max e r = by_place (dec_lt (run_end letters text s) e)
    where
      by_place : Dec (run_end letters text s < e) → e ≤ run_end letters text s
      by_place (yes h) = never _ (r (run_end letters text s) (run-ge letters text s s (omega arith)) h) run-stops
      by_place (no h) = omega arith

  -- a run that a byte outside it ends
  run_is : (e : ℕ) → Run letters text s e → in_run letters (byte_at text e) ≡ false → s ≤ e → run_end letters text s ≡ e
  run_is e r n h = let m = run-max e r in by_place (dec_lt e (run_end letters text s))
    where
      by_place : Dec (e < run_end letters text s) → run_end letters text s ≡ e
      by_place (yes g) = never _ (run-runs e h g) n
      by_place (no g) = let m = run-max e r in omega arith

  -- a run is not longer than up to a byte outside it
  cut : (e j : ℕ) → Run letters text s e → s ≤ j → in_run letters (byte_at text j) ≡ false → e ≤ j
  cut e j r h n = by_place (dec_lt j e)
    where
      by_place : Dec (j < e) → e ≤ j
      by_place (yes g) = never _ (r j h g) n
      by_place (no g) = omega arith

  run-some : in_run letters (byte_at text s) ≡ true → s < run_end letters text s
  run-some i = by_place (dec_lt s (run_end letters text s))
    where
      by_place : Dec (s < run_end letters text s) → s < run_end letters text s
      by_place (yes h) = h
      by_place (no h) =
          let g = run-ge letters text s s (omega arith) in
          let e : run_end letters text s ≡ s = omega arith in
          never _ i (rw e at run-stops)

-- classes of bytes

digit-not-letter : (b : ℕ) → is_digit b ≡ true → is_letter b ≡ false
unfolding is_digit is_letter
digit-not-letter b e =
    let h = leb-true b 57 (second (leb 48 b) (leb b 57) e) in
    rw (lt-leb 97 b (omega arith), lt-leb 65 b (omega arith), ne_eqb b 95 (omega arith))

letter-in-run : (b : ℕ) → is_letter b ≡ true → in_run true b ≡ true
unfolding in_run
letter-in-run b e = rw e (or-true (is_digit b))
  where
    or-true : (a : Bool) → (a || true) ≡ true
    or-true true = refl
    or-true false = refl

digit-run : (b : ℕ) → in_run false b ≡ is_digit b
unfolding in_run
digit-run b = or-none (is_digit b)
  where
    or-none : (a : Bool) → (a || false) ≡ a
    or-none true = refl
    or-none false = refl

sigil-cases : (P : ℕ → Type 0) → P 37 → P 64 → P 94 → (b : ℕ) → is_sigil b ≡ true → P b
unfolding is_sigil
sigil-cases P p q r b e = by-test (eqb b 37) (eqb-true b 37) (eqb b 64) (eqb-true b 64) (eqb b 94) (eqb-true b 94) e
  where
    by-test : (x : Bool) → (x ≡ true → b ≡ 37) → (y : Bool) → (y ≡ true → b ≡ 64) → (z : Bool) → (z ≡ true → b ≡ 94) → (x || (y || (z || false))) ≡ true → P b
    by-test true f y g z h e = rw (f refl) p
    by-test false f true g z h e = rw (g refl) q
    by-test false f false g true h e = rw (h refl) r
    by-test false f false g false h e = never false e refl

sign-cases : (P : ℕ → Type 0) → P 45 → P 43 → (b : ℕ) → is_sign b ≡ true → P b
unfolding is_sign
sign-cases P p q b e = by-test (eqb b 45) (eqb-true b 45) (eqb b 43) (eqb-true b 43) e
  where
    by-test : (x : Bool) → (x ≡ true → b ≡ 45) → (y : Bool) → (y ≡ true → b ≡ 43) → (x || (y || false)) ≡ true → P b
    by-test true f y g e = rw (f refl) p
    by-test false f true g e = rw (g refl) q
    by-test false f false g e = never false e refl

-- neither a letter nor a digit
record Plain (b : ℕ) : Type 0 where
  letter : is_letter b ≡ false
  digit : is_digit b ≡ false

plain-sigil : (b : ℕ) → is_sigil b ≡ true → Plain b
unfolding is_letter is_digit
plain-sigil = sigil-cases Plain (record { letter = refl; digit = refl }) (record { letter = refl; digit = refl }) (record { letter = refl; digit = refl })

-- nor a sigil
record Bare (b : ℕ) : Type 0 where
  plain : Plain b
  sigil : is_sigil b ≡ false

bare-sign : (b : ℕ) → is_sign b ≡ true → Bare b
unfolding is_letter is_digit is_sigil
bare-sign = sign-cases Bare (record { plain = record { letter = refl; digit = refl }; sigil = refl }) (record { plain = record { letter = refl; digit = refl }; sigil = refl })

-- a word that stands in the text has its bytes there
starts-get : (ws s : List ℕ) → starts_with ws s ≡ true → (k : ℕ) → k < length ws → get_or s k 0 ≡ get_or ws k 0
unfolding starts_with
starts-get [] s e k h = absurd (omega arith)
starts-get (w ∷ ws) [] e k h = never false e refl
starts-get (w ∷ ws) (b ∷ bs) e zero h = sym (eqb-true w b (first (eqb w b) (starts_with ws bs) e))
starts-get (w ∷ ws) (b ∷ bs) e (suc k) h = starts-get ws bs (second (eqb w b) (starts_with ws bs) e) k (omega arith)

starts-byte : (ws text : List ℕ) (at : ℕ) → starts_with ws (drop at text) ≡ true → (k : ℕ) → k < length ws → byte_at text (at + k) ≡ get_or ws k 0
starts-byte ws text at e k h = sym (get_or-drop at text k 0) ∙ starts-get ws (drop at text) e k h

-- which token a form's first byte leads to

module _ (text : List ℕ) (at : ℕ) (inside : at < length text) where
  letter-token : is_letter (byte_at text at) ≡ true → lexeme text at ≡ word_token text at
  unfolding lexeme
  letter-token l = rw (lt-leb _ _ inside, l)

  digit-token : is_digit (byte_at text at) ≡ true → lexeme text at ≡ tok 2 at (run_end false text at)
  unfolding lexeme
  digit-token d = rw (lt-leb _ _ inside, digit-not-letter (byte_at text at) d, d)

  sigil-token : is_sigil (byte_at text at) ≡ true → lexeme text at ≡ name_token text at
  unfolding lexeme
  sigil-token s = let p = plain-sigil (byte_at text at) s in rw (lt-leb _ _ inside, p.letter, p.digit, s)

  sign-token : is_sign (byte_at text at) ≡ true → lexeme text at ≡ sign_token text at
  unfolding lexeme
  sign-token s = let p = bare-sign (byte_at text at) s in rw (lt-leb _ _ inside, p.plain.letter, p.plain.digit, p.sigil, s)

  quote-token : byte_at text at ≡ 34 → lexeme text at ≡ quote_token text at
  unfolding lexeme is_letter is_digit is_sigil is_sign
  quote-token q = rw (lt-leb _ _ inside, q)

  hash-token : starts_with (ascii "#stablehlo") (drop at text) ≡ true → byte_at text at ≡ 35 → lexeme text at ≡ tok 5 at (at + 10)
  unfolding lexeme is_letter is_digit is_sigil is_sign
  hash-token h q = rw (lt-leb _ _ inside, q, h)

-- no form is longer

module _ (text : List ℕ) (at : ℕ) (inside : at < length text) where
  tensor-max : (e : ℕ) → Word text at e → starts_with (ascii "tensor<") (drop at text) ≡ true → e ≤ (tensor_token text at).end
  unfolding tensor_token plain_word in_run is_digit is_letter
  tensor-max e w t = by-test (eqb (byte_at text (type_close text (at + 7))) 62)
    where
      by-test : (b : Bool) → e ≤ (pick b (tok 7 at (type_close text (at + 7) + 1)) (tok 1 at (run_end true text at))).end
      by-test true =
          let q : byte_at text (at + 6) ≡ 60 = starts-byte (ascii "tensor<") text at t 6 (omega arith) in
          let n : in_run true (byte_at text (at + 6)) ≡ false = rw q in
          let c = cut true text at e (at + 6) w.run (omega arith) n in
          let l : 7 ≤ length text - at = starts-inside (ascii "tensor<") text at t in
          let g = close-ge (at + 7) text (omega arith) (at + 7) (omega arith) in
          omega arith
      by-test false = run-max true text at e w.run

  word-max : (e : ℕ) → Word text at e → e ≤ (word_token text at).end
  unfolding word_token plain_word in_run is_digit is_letter
  word-max e w = by-func (starts_with (ascii "func.func") (drop at text)) refl (starts_with (ascii "tensor<") (drop at text)) refl
    where
      by-func : (f : Bool) → starts_with (ascii "func.func") (drop at text) ≡ f → (t : Bool) → starts_with (ascii "tensor<") (drop at text) ≡ t →
          e ≤ (pick f (tok 4 at (at + 9)) (tensor_by t text at)).end
      by-func true f t g =
          let q : byte_at text (at + 4) ≡ 46 = starts-byte (ascii "func.func") text at f 4 (omega arith) in
          let n : in_run true (byte_at text (at + 4)) ≡ false = rw q in
          let c = cut true text at e (at + 4) w.run (omega arith) n in
          omega arith
      by-func false f true g = tensor-max e w g
      by-func false f false g = run-max true text at e w.run

  name-max : (e : ℕ) → Word text (at + 1) e → e ≤ (name_token text at).end
  unfolding name_token name_end
  name-max e w =
      let m = run-max true text (at + 1) e w.run in
      let s = w.some in
      rw (w.letter, ne_eqb (run_end true text (at + 1)) (at + 1) (λ q. omega arith)) m

  numbered-max : (e : ℕ) → (byte_at text at ≡ 64 → ⊥) → Digits text (at + 1) e → e ≤ (name_token text at).end
  unfolding name_token name_end
  numbered-max e n w =
      let m = run-max false text (at + 1) e w.run in
      let s = w.some in
      let d : is_digit (byte_at text (at + 1)) ≡ true = sym (digit-run (byte_at text (at + 1))) ∙ w.run (at + 1) (omega arith) s in
      rw (digit-not-letter (byte_at text (at + 1)) d, ne_eqb (byte_at text at) 64 n, ne_eqb (run_end false text (at + 1)) (at + 1) (λ q. omega arith)) m

  signed-max : (e : ℕ) → Digits text (at + 1) e → e ≤ (sign_token text at).end
  unfolding sign_token
  signed-max e w =
      let d : is_digit (byte_at text (at + 1)) ≡ true = sym (digit-run (byte_at text (at + 1))) ∙ w.run (at + 1) (omega arith) w.some in
      rw d (run-max false text (at + 1) e w.run)

  word-is : (s e : ℕ) → Word text s e → in_run true (byte_at text e) ≡ false → word_end text s ≡ e
  unfolding word_end
  word-is s e w n = let h = w.some in rw w.letter (run_is true text s e w.run n (omega arith))

  quoted-is : (d c : ℕ) → Word text (at + 1) d → byte_at text d ≡ 46 → Word text (d + 1) c → byte_at text c ≡ 34 → quote_token text at ≡ tok 6 at (c + 1)
  unfolding quote_token in_run is_digit is_letter
  quoted-is d c v p w q =
      let m : in_run true (byte_at text d) ≡ false = rw p in
      let n : in_run true (byte_at text c) ≡ false = rw q in
      rw (word-is (at + 1) d v m, word-is (d + 1) c w n, p, q)

  func-is : starts_with (ascii "func.func") (drop at text) ≡ true → word_token text at ≡ tok 4 at (at + 9)
  unfolding word_token
  func-is f = rw f

  tensor-is : starts_with (ascii "tensor<") (drop at text) ≡ true → byte_at text (type_close text (at + 7)) ≡ 62 →
      word_token text at ≡ tok 7 at (type_close text (at + 7) + 1)
  unfolding word_token tensor_token
  tensor-is t q = rw (no-func (starts_with (ascii "func.func") (drop at text)) refl, t, q)
    where
      no-func : (b : Bool) → starts_with (ascii "func.func") (drop at text) ≡ b → starts_with (ascii "func.func") (drop at text) ≡ false
      no-func false e = e
      no-func true e =
          let x : byte_at text (at + 0) ≡ 102 = starts-byte (ascii "func.func") text at e 0 (omega arith) in
          let y : byte_at text (at + 0) ≡ 116 = starts-byte (ascii "tensor<") text at t 0 (omega arith) in
          absurd (omega arith)

  arrow-is : starts_with (ascii "->") (drop at text) ≡ true → sign_token text at ≡ tok 8 at (at + 2)
  unfolding sign_token is_digit
  arrow-is a = let q : byte_at text (at + 1) ≡ 62 = starts-byte (ascii "->") text at a 1 (omega arith) in rw (q, a)

  first_byte : (ws : List ℕ) → starts_with ws (drop at text) ≡ true → 0 < length ws → byte_at text at ≡ get_or ws 0 0
  first_byte ws e h = let z : at + 0 ≡ at = omega arith in rw z at (starts-byte ws text at e 0 h)

  lexeme-longest : {k e : ℕ} → Form text at k e → e ≤ (lexeme text at).end
  unfolding is_letter is_sign
  lexeme-longest (name s w) = rw (sigil-token text at inside s) (name-max _ w)
  lexeme-longest (numbered s n w) = rw (sigil-token text at inside s) (numbered-max _ n w)
  lexeme-longest (word w) = rw (letter-token text at inside w.letter) (word-max _ w)
  lexeme-longest (number w) =
      let d : is_digit (byte_at text at) ≡ true = sym (digit-run (byte_at text at)) ∙ w.run at (omega arith) w.some in
      rw (digit-token text at inside d) (run-max false text at _ w.run)
  lexeme-longest (signed s w) = rw (sign-token text at inside s) (signed-max _ w)
  lexeme-longest (func f) =
      let l : is_letter (byte_at text at) ≡ true = rw (first_byte (ascii "func.func") f (omega arith)) in
      rw (letter-token text at inside l, func-is f) (omega arith)
  lexeme-longest (dialect h) = rw (hash-token text at inside h (first_byte (ascii "#stablehlo") h (omega arith))) (omega arith)
  lexeme-longest (quoted {d} {c} q v p w r) = rw (quote-token text at inside q, quoted-is d c v p w r) (omega arith)
  lexeme-longest (tensor t q) =
      let l : is_letter (byte_at text at) ≡ true = rw (first_byte (ascii "tensor<") t (omega arith)) in
      rw (letter-token text at inside l, tensor-is t q) (omega arith)
  lexeme-longest (arrow a) =
      let s : is_sign (byte_at text at) ≡ true = rw (first_byte (ascii "->") a (omega arith)) in
      rw (sign-token text at inside s, arrow-is a) (omega arith)
  lexeme-longest (mark m) = let h = (lexeme-stands text at inside).moves in omega arith
  lexeme-longest (other m) = let h = (lexeme-stands text at inside).moves in omega arith

-- a token is of a form

by-test : {text : List ℕ} {at : ℕ} {x y : Token} (b : Bool) → (b ≡ true → Formed text at x) → (b ≡ false → Formed text at y) → Formed text at (pick b x y)
by-test true f g = f refl
by-test false f g = g refl

module _ (text : List ℕ) (at : ℕ) where
  run-word : (s : ℕ) → is_letter (byte_at text s) ≡ true → Word text s (run_end true text s)
  run-word s l = record { some = run-some true text s (letter-in-run (byte_at text s) l); letter = l; run = run-runs true text s }

  end-word : (s b : ℕ) → byte_at text (word_end text s) ≡ b → 0 < b → Word text s (word_end text s)
  unfolding word_end
  end-word s b q h = by-letter (is_letter (byte_at text s)) refl q
    where
      by-letter : (l : Bool) → is_letter (byte_at text s) ≡ l → byte_at text (pick l (run_end true text s) (length text)) ≡ b →
          Word text s (pick l (run_end true text s) (length text))
      by-letter true l q = run-word s l
      by-letter false l q = let z : byte_at text (length text) ≡ 0 = get_or-eq_default text 0 (omega arith) in absurd (omega arith)

  mark-form : Formed text at (mark_token text at)
  unfolding mark_token
  mark-form = by-test (between 33 126 (byte_at text at)) (λ m. record { form = mark m }) (λ m. record { form = other m })

  name-form : is_sigil (byte_at text at) ≡ true → Formed text at (name_token text at)
  unfolding name_token name_end
  name-form s = by-letter (is_letter (byte_at text (at + 1))) refl (eqb (byte_at text at) 64) (eqb-false (byte_at text at) 64)
    where
      end : Bool → Bool → ℕ
      end l a = pick l (run_end true text (at + 1)) (pick a (at + 1) (run_end false text (at + 1)))

      by-letter : (l : Bool) → is_letter (byte_at text (at + 1)) ≡ l → (a : Bool) → (a ≡ false → byte_at text at ≡ 64 → ⊥) →
          Formed text at (pick (eqb (end l a) (at + 1)) (mark_token text at) (tok 3 at (end l a)))
      by-letter true l a n = by-test (eqb (run_end true text (at + 1)) (at + 1)) (λ e. mark-form) (λ e. record { form = name s (run-word (at + 1) l) })
      by-letter false l true n = by-test (eqb (at + 1) (at + 1)) (λ e. mark-form) (λ e. absurd (eqb-false (at + 1) (at + 1) e refl))
      by-letter false l false n = by-test (eqb (run_end false text (at + 1)) (at + 1)) (λ e. mark-form)
          (λ e. let g = run-ge false text (at + 1) (at + 1) (omega arith) in
          let m = eqb-false (run_end false text (at + 1)) (at + 1) e in
          record { form = numbered s (n refl) (record { some = omega arith; run = run-runs false text (at + 1) }) })

  digits-form : (s : ℕ) → is_digit (byte_at text s) ≡ true → Digits text s (run_end false text s)
  digits-form s d = record { some = run-some false text s (digit-run (byte_at text s) ∙ d); run = run-runs false text s }

  sign-form : is_sign (byte_at text at) ≡ true → Formed text at (sign_token text at)
  unfolding sign_token
  sign-form s =
      by-test (is_digit (byte_at text (at + 1))) (λ d. record { form = signed s (digits-form (at + 1) d) })
      (λ d. by-test (starts_with (ascii "->") (drop at text)) (λ a. record { form = arrow a }) (λ a. mark-form))

  quote-form : byte_at text at ≡ 34 → Formed text at (quote_token text at)
  unfolding quote_token
  quote-form q = by-test (eqb (byte_at text (word_end text (at + 1))) 46 && eqb (byte_at text (word_end text (word_end text (at + 1) + 1))) 34)
      (λ e. let d = word_end text (at + 1) in
      let c = word_end text (d + 1) in
      let p : byte_at text d ≡ 46 = eqb-true (byte_at text d) 46 (first (eqb (byte_at text d) 46) (eqb (byte_at text c) 34) e) in
      let r : byte_at text c ≡ 34 = eqb-true (byte_at text c) 34 (second (eqb (byte_at text d) 46) (eqb (byte_at text c) 34) e) in
      record { form = quoted q (end-word (at + 1) 46 p (omega arith)) p (end-word (d + 1) 34 r (omega arith)) r })
      (λ e. mark-form)

  plain_form : is_letter (byte_at text at) ≡ true → Formed text at (plain_word text at)
  unfolding plain_word
  plain_form l = record { form = word (run-word at l) }

  tensor-form : (b : Bool) → starts_with (ascii "tensor<") (drop at text) ≡ b → is_letter (byte_at text at) ≡ true →
      Formed text at (tensor_by b text at)
  unfolding tensor_token
  tensor-form true t l = by-test (eqb (byte_at text (type_close text (at + 7))) 62)
      (λ e. record { form = tensor t (eqb-true (byte_at text (type_close text (at + 7))) 62 e) }) (λ e. plain_form l)
  tensor-form false t l = plain_form l

  word-form : is_letter (byte_at text at) ≡ true → Formed text at (word_token text at)
  unfolding word_token
  word-form l = by-test (starts_with (ascii "func.func") (drop at text)) (λ f. record { form = func f }) (λ f. tensor-form (starts_with (ascii "tensor<") (drop at text)) refl l)

  lexeme-form : at < length text → Formed text at (lexeme text at)
  unfolding lexeme
  lexeme-form inside = rw (lt-leb _ _ inside)
      (by-test (is_letter (byte_at text at)) word-form
      (λ a. by-test (is_digit (byte_at text at)) (λ d. record { form = number (digits-form at d) })
      (λ b. by-test (is_sigil (byte_at text at)) name-form
      (λ c. by-test (is_sign (byte_at text at)) sign-form
      (λ d. by-test (eqb (byte_at text at) 34) (λ q. quote-form (eqb-true (byte_at text at) 34 q))
      (λ e. by-test (starts_with (ascii "#stablehlo") (drop at text)) (λ h. record { form = dialect h }) (λ h. mark-form)))))))

-- every token but the end
pub token-longest : (text : List ℕ) (at : ℕ) → ((token_at text at).kind ≡ 0 → ⊥) → Longest text (token_at text at)
unfolding token_at
token-longest text at n =
    let s = skip_end text at in
    let inside : s < length text = rw (token-start text at) at (token-inside text at n) in
    let e : s ≡ (lexeme text s).start = sym (lexeme-stands text s inside).starts in
    record { formed = subst (λ (b : ℕ). Formed text b (lexeme text s)) e (lexeme-form text s inside); longest = λ f. lexeme-longest text s inside (rw (← e) at f) }
