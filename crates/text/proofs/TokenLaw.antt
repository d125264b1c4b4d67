-- Laws of tokens: where a token starts and ends, and that every token but the end makes progress.
-- Assumes nothing.
use mathlib.Core.Path.{◌≡◌, refl}
use mathlib.Core.Bool.{Bool, true, false, not, ◌&&◌, ◌||◌}
use mathlib.Core.List.{List, [], ◌∷◌}
use Prim.Native.Nat.{ℕ, suc, ◌+◌, ◌<◌, ◌≤◌}
use native.Mathlib.Decide.{dec_lt}
use native.Mathlib.Omega.{arith}
use lib.ListN.{length, drop, length-drop}
use lib.Dec.{leb, eqb}
use borrow.Author.Tests.{eqb-true, leb-true, le-leb, lt-leb}
use Rattle.lists.specs.Lists.{pick}
use Rattle.scan.specs.Ascii.{ascii}
use Rattle.scan.specs.Bytes.{byte_at, between, is_letter, is_digit, is_space, is_sigil, is_sign, in_run, run_from, run_end, starts_with, in_comment, skip_from, skip_end}
use Rattle.scan.specs.TypeText.{word_end}
use Rattle.scan.specs.TensorText.{type_close}
use Rattle.text.specs.Lex.{tok, mark_token, name_end, name_token, sign_token, quote_token, plain_word, tensor_token, tensor_by, word_token, lexeme, token_at}
use Rattle.text.specs.declared.Token.{Token}
use Rattle.scan.proofs.ByteLaw.{byte_inside, starts-inside, run_more}
use Rattle.scan.proofs.EndLaw.{run-ge, word-ge, close-ge}

-- bounds of runs and of white space

pick-le : (t : Bool) (a b n : ℕ) → a ≤ n → b ≤ n → pick t a b ≤ n
pick-le true a b n p q = p
pick-le false a b n p q = q

pick-ge : (t : Bool) (a b n : ℕ) → n ≤ a → n ≤ b → n ≤ pick t a b
pick-ge true a b n p q = p
pick-ge false a b n p q = q

run-from-le : (letters : Bool) (n : ℕ) (s : List ℕ) (at : ℕ) → at + length s ≤ n → run_from letters at s ≤ n
unfolding run_from
run-from-le letters n [] at h = omega arith
run-from-le letters n (b ∷ bs) at h = pick-le (in_run letters b) _ at n (run-from-le letters n bs (suc at) (omega arith)) (omega arith)

run-le : (letters : Bool) (text : List ℕ) (at : ℕ) → at ≤ length text → run_end letters text at ≤ length text
unfolding run_end
run-le letters text at h = run-from-le letters (length text) (drop at text) at (rw length-drop (omega arith))

skip-from-le : (begun : Bool) (n : ℕ) (s : List ℕ) (at : ℕ) → at + length s ≤ n → skip_from begun at s ≤ n
unfolding skip_from
skip-from-le begun n [] at h = omega arith
skip-from-le begun n (b ∷ bs) at h =
    let comment = in_comment begun (b ∷ bs) in
    pick-le (comment || is_space b) _ at n (skip-from-le (pick begun (not (eqb b 10)) comment) n bs (suc at) (omega arith)) (omega arith)

skip-from-ge : (begun : Bool) (n : ℕ) (s : List ℕ) (at : ℕ) → n ≤ at → n ≤ skip_from begun at s
unfolding skip_from
skip-from-ge begun n [] at h = h
skip-from-ge begun n (b ∷ bs) at h =
    let comment = in_comment begun (b ∷ bs) in
    pick-ge (comment || is_space b) _ at n (skip-from-ge (pick begun (not (eqb b 10)) comment) n bs (suc at) (omega arith)) h

skip-le : (text : List ℕ) (at : ℕ) → at ≤ length text → skip_end text at ≤ length text
unfolding skip_end
skip-le text at h = skip-from-le false (length text) (drop at text) at (rw length-drop (omega arith))

-- a token inside the text

pub record Stands (text : List ℕ) (at : ℕ) (t : Token) : Type 0 where
  pub starts : t.start ≡ at
  pub moves : at < t.end
  pub within : t.end ≤ length text
  pub known : 0 < t.kind

by-test : {text : List ℕ} {at : ℕ} {x y : Token} (b : Bool) → (b ≡ true → Stands text at x) → (b ≡ false → Stands text at y) → Stands text at (pick b x y)
by-test true f g = f refl
by-test false f g = g refl

pub first : (a b : Bool) → (a && b) ≡ true → a ≡ true
first true b e = refl
first false b e = e

pub second : (a b : Bool) → (a && b) ≡ true → b ≡ true
second true b e = e
second false b e = let z : ◌≡◌ {A = ℕ} 0 1 = cc in absurd (omega arith)

-- a word that stands at a token's start is within the text
module _ (text : List ℕ) (at : ℕ) where
  literal : (k n : ℕ) (ws : List ℕ) → 0 < k → 0 < n → n ≡ length ws → starts_with ws (drop at text) ≡ true → Stands text at (tok k at (at + n))
  literal k n ws h g l e =
      let w = starts-inside ws text at e in
      record { starts = refl; moves = omega arith; within = omega arith; known = h }

module _ (text : List ℕ) (at : ℕ) (inside : at < length text) where
  run-stands : (k : ℕ) (letters : Bool) → 0 < k → Stands text at (tok k at (run_end letters text (at + 1)))
  run-stands k letters h =
      let g = run-ge letters text (at + 1) (at + 1) (omega arith) in
      record { starts = refl; moves = omega arith; within = run-le letters text (at + 1) (omega arith); known = h }

  -- a run that has its first byte
  begun : (k : ℕ) (letters : Bool) → 0 < k → in_run letters (byte_at text at) ≡ true → Stands text at (tok k at (run_end letters text at))
  begun k letters h e = rw (← run_more letters text at inside e) (run-stands k letters h)

  mark-stands : Stands text at (mark_token text at)
  unfolding mark_token
  mark-stands = by-test (between 33 126 (byte_at text at))
      (λ e. let h = leb-true 33 (byte_at text at) (first (leb 33 (byte_at text at)) (leb (byte_at text at) 126) e) in
      record { starts = refl; moves = omega arith; within = omega arith; known = omega arith })
      (λ e. record { starts = refl; moves = omega arith; within = omega arith; known = omega arith })

  name-bounds : (sigil : ℕ) → (at + 1 ≤ name_end sigil text (at + 1)) × (name_end sigil text (at + 1) ≤ length text)
  unfolding name_end
  name-bounds sigil = (
    pick-ge (is_letter (byte_at text (at + 1))) _ _ _ (run-ge true text (at + 1) (at + 1) (omega arith)) (pick-ge (eqb sigil 64) (at + 1) _ _ (omega arith) (run-ge false text (at + 1) (at + 1) (omega arith))),
    pick-le (is_letter (byte_at text (at + 1))) _ _ _ (run-le true text (at + 1) (omega arith)) (pick-le (eqb sigil 64) (at + 1) _ (length text) (omega arith) (run-le false text (at + 1) (omega arith))),
  )

  name-stands : Stands text at (name_token text at)
  unfolding name_token
  name-stands = by-test (eqb (name_end (byte_at text at) text (at + 1)) (at + 1)) (λ e. mark-stands)
      (λ e. let b = name-bounds (byte_at text at) in record { starts = refl; moves = omega arith; within = b.1; known = omega arith })

  sign-stands : Stands text at (sign_token text at)
  unfolding sign_token
  sign-stands = by-test (is_digit (byte_at text (at + 1))) (λ e. run-stands 2 false (omega arith)) (λ e. by-test (starts_with (ascii "->") (drop at text)) (literal text at 8 2 (ascii "->") (omega arith) (omega arith) refl) (λ f. mark-stands))

  quote-stands : Stands text at (quote_token text at)
  unfolding quote_token
  quote-stands = by-test (eqb (byte_at text (word_end text (at + 1))) 46 && eqb (byte_at text (word_end text (word_end text (at + 1) + 1))) 34)
      (λ e. let close = word_end text (word_end text (at + 1) + 1) in
      let d = word-ge at text (omega arith) (at + 1) (omega arith) in
      let g : at ≤ close = word-ge at text (omega arith) (word_end text (at + 1) + 1) (omega arith) in
      let i : close < length text = byte_inside text close refl (eqb-true (byte_at text close) 34 (second (eqb (byte_at text (word_end text (at + 1))) 46) (eqb (byte_at text close) 34) e)) (omega arith) in
      record { starts = refl; moves = omega arith; within = omega arith; known = omega arith })
      (λ e. mark-stands)

  plain-stands : is_letter (byte_at text at) ≡ true → Stands text at (plain_word text at)
  unfolding plain_word in_run
  plain-stands e = begun 1 true (omega arith) (rw e (or-true (is_digit (byte_at text at))))
    where
      or-true : (b : Bool) → (b || true) ≡ true
      or-true true = refl
      or-true false = refl

  tensor-stands : is_letter (byte_at text at) ≡ true → Stands text at (tensor_token text at)
  unfolding tensor_token
  tensor-stands l = by-test (eqb (byte_at text (type_close text (at + 7))) 62)
      (λ e. let close = type_close text (at + 7) in
      let g : at ≤ close = close-ge at text (omega arith) (at + 7) (omega arith) in
      let i : close < length text = byte_inside text close refl (eqb-true (byte_at text close) 62 e) (omega arith) in
      record { starts = refl; moves = omega arith; within = omega arith; known = omega arith })
      (λ e. plain-stands l)

  by-tensor : (b : Bool) → is_letter (byte_at text at) ≡ true → Stands text at (tensor_by b text at)
  by-tensor true l = tensor-stands l
  by-tensor false l = plain-stands l

  word_stands : is_letter (byte_at text at) ≡ true → Stands text at (word_token text at)
  unfolding word_token
  word_stands l = by-test (starts_with (ascii "func.func") (drop at text)) (literal text at 4 9 (ascii "func.func") (omega arith) (omega arith) refl) (λ e. by-tensor (starts_with (ascii "tensor<") (drop at text)) l)

  digit-in-run : is_digit (byte_at text at) ≡ true → in_run false (byte_at text at) ≡ true
  unfolding in_run
  digit-in-run e = rw e

  pub lexeme-stands : Stands text at (lexeme text at)
  unfolding lexeme
  lexeme-stands = rw (lt-leb _ _ inside)
      (by-test (is_letter (byte_at text at)) word_stands
      (λ e1. by-test (is_digit (byte_at text at)) (λ d. begun 2 false (omega arith) (digit-in-run d))
      (λ e2. by-test (is_sigil (byte_at text at)) (λ s. name-stands)
      (λ e3. by-test (is_sign (byte_at text at)) (λ s. sign-stands)
      (λ e4. by-test (eqb (byte_at text at) 34) (λ q. quote-stands)
      (λ e5. by-test (starts_with (ascii "#stablehlo") (drop at text)) (literal text at 5 10 (ascii "#stablehlo") (omega arith) (omega arith) refl) (λ m. mark-stands)))))))

past : (text : List ℕ) (at : ℕ) → length text ≤ at → lexeme text at ≡ tok 0 at at
unfolding lexeme
past text at h = rw (le-leb _ _ h)

ended : (text : List ℕ) (at : ℕ) → length text ≤ skip_end text at → (token_at text at).kind ≡ 0
unfolding token_at
ended text at h = rw (past text (skip_end text at) h)

moved : (text : List ℕ) (at : ℕ) → skip_end text at < length text → skip_end text at < (token_at text at).end
unfolding token_at
moved text at h = (lexeme-stands text (skip_end text at) h).moves

token-known : (text : List ℕ) (at : ℕ) → skip_end text at < length text → 0 < (token_at text at).kind
unfolding token_at
token-known text at h = (lexeme-stands text (skip_end text at) h).known

-- the laws

-- a token starts where the white space before it ends
pub token-start : (text : List ℕ) (at : ℕ) → (token_at text at).start ≡ skip_end text at
unfolding token_at
token-start text at = by_place (dec_lt (skip_end text at) (length text))
  where
    by_place : Dec (skip_end text at < length text) → (lexeme text (skip_end text at)).start ≡ skip_end text at
    by_place (yes h) = (lexeme-stands text (skip_end text at) h).starts
    by_place (no h) = rw (past text (skip_end text at) (omega arith))

pub token-after : (text : List ℕ) (at : ℕ) → at ≤ (token_at text at).start
unfolding skip_end
token-after text at = rw (token-start text at) (skip-from-ge false at (drop at text) at (omega arith))

pub token-ordered : (text : List ℕ) (at : ℕ) → (token_at text at).start ≤ (token_at text at).end
unfolding token_at
token-ordered text at = by_place (dec_lt (skip_end text at) (length text))
  where
    by_place : Dec (skip_end text at < length text) → (lexeme text (skip_end text at)).start ≤ (lexeme text (skip_end text at)).end
    by_place (yes h) = let s = lexeme-stands text (skip_end text at) h in rw s.starts (let m = s.moves in omega arith)
    by_place (no h) = rw (past text (skip_end text at) (omega arith)) (omega arith)

pub token-within : (text : List ℕ) (at : ℕ) → at ≤ length text → (token_at text at).end ≤ length text
unfolding token_at
token-within text at h = by_place (dec_lt (skip_end text at) (length text))
  where
    by_place : Dec (skip_end text at < length text) → (lexeme text (skip_end text at)).end ≤ length text
    by_place (yes g) = (lexeme-stands text (skip_end text at) g).within
    by_place (no g) = rw (past text (skip_end text at) (omega arith)) (skip-le text at h)

-- a token that is not the end starts in the text and has a byte
pub token-inside : (text : List ℕ) (at : ℕ) → ((token_at text at).kind ≡ 0 → ⊥) → (token_at text at).start < length text
token-inside text at n = by_place (dec_lt (skip_end text at) (length text))
  where
    by_place : Dec (skip_end text at < length text) → (token_at text at).start < length text
    by_place (yes h) = rw (token-start text at) h
    by_place (no h) = absurd (n (ended text at (omega arith)))

pub token-moves : (text : List ℕ) (at : ℕ) → ((token_at text at).kind ≡ 0 → ⊥) → (token_at text at).start < (token_at text at).end
token-moves text at n =
    let h : skip_end text at < length text = rw (token-start text at) at (token-inside text at n) in
    rw (token-start text at) (moved text at h)

-- the end stands at or past the text's end
pub token-last : (text : List ℕ) (at : ℕ) → (token_at text at).kind ≡ 0 → length text ≤ (token_at text at).start
token-last text at e = by_place (dec_lt (skip_end text at) (length text))
  where
    by_place : Dec (skip_end text at < length text) → length text ≤ (token_at text at).start
    by_place (yes h) = let k = token-known text at h in absurd (omega arith)
    by_place (no h) = rw (token-start text at) (omega arith)
