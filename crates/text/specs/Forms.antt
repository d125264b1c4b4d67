-- The forms of a token, as 01 lists them, and the bytes of each, with no order among them (01, The text: "Tokens, as long as they can be, are ..").
-- Assumes nothing.
use Rattle.std.specs.Prelude.{◌≡◌, Bool, true, false, List, ℕ, ◌+◌, ◌<◌, ◌≤◌, drop}
use Rattle.scan.specs.Ascii.{ascii}
use Rattle.scan.specs.Bytes.{byte_at, between, is_letter, is_sigil, is_sign, in_run, starts_with}
use Rattle.scan.specs.TensorText.{type_close}
use Rattle.text.specs.declared.Token.{Token}

-- every byte from s up to e is a digit, or also a letter
abbrev pub Run : Bool → List ℕ → ℕ → ℕ → Type 0
Run letters text s e = (k : ℕ) → s ≤ k → k < e → in_run letters (byte_at text k) ≡ true

-- letter {letter | digit}
pub record Word (text : List ℕ) (s e : ℕ) : Type 0 where
  pub some : s < e
  pub letter : is_letter (byte_at text s) ≡ true
  pub run : Run true text s e

-- digit {digit}
pub record Digits (text : List ℕ) (s e : ℕ) : Type 0 where
  pub some : s < e
  pub run : Run false text s e

-- the bytes from at up to e are a token of kind k
pub data Form (text : List ℕ) (at : ℕ) : ℕ → ℕ → Type 0 where
  -- "a name with its sigil"
  name : {e : ℕ} → is_sigil (byte_at text at) ≡ true → Word text (at + 1) e → Form text at 3 e
  numbered : {e : ℕ} → is_sigil (byte_at text at) ≡ true → (byte_at text at ≡ 64 → ⊥) → Digits text (at + 1) e → Form text at 3 e
  -- "a word"
  word : {e : ℕ} → Word text at e → Form text at 1 e
  -- "a number with its sign"
  number : {e : ℕ} → Digits text at e → Form text at 2 e
  signed : {e : ℕ} → is_sign (byte_at text at) ≡ true → Digits text (at + 1) e → Form text at 2 e
  -- `func.func`, `#stablehlo`
  func : starts_with (ascii "func.func") (drop at text) ≡ true → Form text at 4 (at + 9)
  dialect : starts_with (ascii "#stablehlo") (drop at text) ≡ true → Form text at 5 (at + 10)
  -- `"word.word"`
  quoted : {d c : ℕ} → byte_at text at ≡ 34 → Word text (at + 1) d → byte_at text d ≡ 46 → Word text (d + 1) c → byte_at text c ≡ 34 → Form text at 6 (c + 1)
  -- "a tensor type"
  tensor : starts_with (ascii "tensor<") (drop at text) ≡ true → byte_at text (type_close text (at + 7)) ≡ 62 → Form text at 7 (type_close text (at + 7) + 1)
  -- `->`
  arrow : starts_with (ascii "->") (drop at text) ≡ true → Form text at 8 (at + 2)
  -- "a single mark", and a byte that is none
  mark : between 33 126 (byte_at text at) ≡ true → Form text at (byte_at text at) (at + 1)
  other : between 33 126 (byte_at text at) ≡ false → Form text at 9 (at + 1)

pub record Formed (text : List ℕ) (at : ℕ) (t : Token) : Type 0 where
  pub form : Form text at t.kind t.end

-- "as long as they can be": a token has its form, and no form that starts where it starts ends later
pub record Longest (text : List ℕ) (t : Token) : Type 0 where
  pub formed : Formed text t.start t
  pub longest : {k e : ℕ} → Form text t.start k e → e ≤ t.end
