-- No type is written at the first byte of a text of the grammar: a text begins with `func.func`, or with white space.
-- Assumes nothing.
use mathlib.Core.Path.{◌≡◌, refl, sym, subst}
use mathlib.Core.List.{List, [], ◌∷◌}
use mathlib.Core.Bool.{Bool, true, false}
use Prim.Native.Nat.{ℕ, zero, suc, ◌+◌, ◌<◌}
use native.Mathlib.Omega.{arith}
use lib.Dec.{eqb}
use lib.ListN.{length}
use borrow.Author.Tests.{eqb-true, lt-leb}
use Rattle.lists.specs.Lists.{pick}
use Rattle.lists.proofs.TestLaw.{both_true}
use Rattle.scan.specs.Ascii.{ascii}
use Rattle.scan.specs.Bytes.{byte_at, is_letter, is_space, run_end, starts_with, in_comment, skip_from, skip_end}
use Rattle.scan.specs.TensorText.{type_close}
use Rattle.text.specs.Names.{word_is}
use Rattle.text.specs.Lex.{tok, plain_word, tensor_token, word_token, lexeme, token_at}
use Rattle.text.specs.declared.Token.{Token}
use Rattle.types.specs.Tensors.{foreign, type_of}
use Rattle.grammar.specs.Symbols.{WORD, TYPE, ARRAY, DENSE, BOOLEAN, I64, TOKEN, TUPLE, Program, matches, leaf_kinds}
use Rattle.grammar.specs.Grammar.{grammar}
use Rattle.grammar.specs.Machine.{fails, cell, step}
use Rattle.syntax.specs.Kinds.{mark_kind, word_kind, token_kind, kind_of}
use Rattle.syntax.specs.Readings.{readings_from, readings_of, readings, no_fault, fault_in, grammar_fault}
use Rattle.syntax.proofs.Theorems.{no-fault}
use Rattle.judge.specs.Judge.{text_refusal}
use Rattle.judge.proofs.Theorems.{accepted-sentence}
use Rattle.places.specs.Places.{blank_type, type_in}
use Rattle.default_laws.proofs.DenseLaw.{not-both}

-- a kind with which no text begins
record Never (k : ℕ) : Type 0 where
  never : step (Program ∷ []) k ≡ fails

fails-at : (k : ℕ) → step (Program ∷ []) k ≡ fails → Never k
fails-at k e = record { never = e }

either : (b : Bool) (x y : ℕ) → Never x → Never y → Never (pick b x y)
either true x y h g = h
either false x y h g = g

abbrev is : List ℕ → List ℕ → ℕ → ℕ → Bool
is w text start end = word_is w text start end

word-never : (text : List ℕ) (start end : ℕ) → Never (word_kind text start end)
unfolding word_kind step cell grammar matches leaf_kinds
word-never text start end =
    either (is (ascii "array") text start end) _ _ (fails-at ARRAY refl) (either (is (ascii "dense") text start end) _ _ (fails-at DENSE refl)
    (either (is (ascii "true") text start end) _ _ (fails-at BOOLEAN refl) (either (is (ascii "false") text start end) _ _ (fails-at BOOLEAN refl)
    (either (is (ascii "i64") text start end) _ _ (fails-at I64 refl) (either (is (ascii "token") text start end) _ _ (fails-at TOKEN refl)
    (either (is (ascii "tuple") text start end) _ _ (fails-at TUPLE refl) (fails-at WORD refl)))))))

type-never : Never TYPE
unfolding step cell grammar matches leaf_kinds
type-never = fails-at TYPE refl

token-never : (text : List ℕ) → Never (kind_of text (tensor_token text 0))
unfolding tensor_token plain_word kind_of token_kind mark_kind
token-never text = go (eqb (byte_at text (type_close text 7)) 62)
  where
    go : (b : Bool) → Never (kind_of text (pick b (tok 7 0 (type_close text 7 + 1)) (tok 1 0 (run_end true text 0))))
    go true = type-never
    go false = word-never text 0 (run_end true text 0)

-- the first token of a text that begins with `tensor<`
tensor-first : (bs : List ℕ) → starts_with (ascii "tensor<") (116 ∷ bs) ≡ true → token_at (116 ∷ bs) 0 ≡ tensor_token (116 ∷ bs) 0
unfolding token_at skip_end skip_from in_comment starts_with is_space lexeme is_letter word_token
tensor-first bs e = rw (lt-leb (length (116 ∷ bs)) 0 (omega arith), e)

begins-never : (text : List ℕ) → starts_with (ascii "tensor<") text ≡ true → Never (kind_of text (token_at text 0))
unfolding starts_with
begins-never [] e = absurd (not-both e refl)
begins-never (b ∷ bs) e =
    let z : 116 ≡ b = eqb-true 116 b (both_true (eqb 116 b) _ e).0 in
    subst (λ (b : ℕ). starts_with (ascii "tensor<") (b ∷ bs) ≡ true → Never (kind_of (b ∷ bs) (token_at (b ∷ bs) 0))) z
    (λ e. subst (λ (t : Token). Never (kind_of (116 ∷ bs) t)) (sym (tensor-first bs e)) (token-never (116 ∷ bs))) e

no-first : (n : ℕ) (text : List ℕ) → 0 < n → Never (kind_of text (token_at text 0)) → fault_in (readings_from n (Program ∷ []) text 0) ≡ no_fault → ⊥
unfolding readings_from fault_in
no-first zero text h s e = omega arith
no-first (suc n) text h s e = let f = rw s.never at e in let z : ◌≡◌ {A = ℕ} 0 1 = cc in omega arith

fine : (text : List ℕ) → grammar_fault text ≡ no_fault → fault_in (readings_from (length text + 1) (Program ∷ []) text 0) ≡ no_fault
unfolding grammar_fault readings readings_of
fine text e = e

pub no-type-first : (text : List ℕ) → (text_refusal text).number ≡ 0 → type_in text 0 ≡ blank_type
unfolding type_in type_of foreign
no-type-first text read = by-test (starts_with (ascii "tensor<") text) refl
  where
    by-test : (b : Bool) → starts_with (ascii "tensor<") text ≡ b → type_in text 0 ≡ blank_type
    by-test true e = absurd (no-first (length text + 1) text (omega arith) (begins-never text e) (fine text (no-fault text (accepted-sentence text read))))
    by-test false e = rw e
