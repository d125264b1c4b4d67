-- The kind END is that of the end of the text, and of no other token.
-- Assumes nothing.
use mathlib.Core.Path.{◌≡◌}
use mathlib.Core.Bool.{Bool, true, false}
use mathlib.Core.List.{List}
use Prim.Native.Nat.{ℕ, ◌<◌}
use native.Mathlib.Omega.{arith}
use borrow.Author.Rules.{rules}
use borrow.Author.Tests.{eq-eqb, ne_eqb}
use Rattle.lists.specs.Lists.{pick}
use Rattle.text.specs.declared.Token.{Token}
use Rattle.grammar.specs.Symbols.{END}
use Rattle.syntax.specs.Kinds.{mark_kind, name_kind, word_kind, quoted_kind, token_kind, kind_of}

record Some (n : ℕ) : Type 0 where
  some : 0 < n

number : (n : ℕ) → 0 < n → Some n
number n h = record { some = h }

either : (b : Bool) (x y : ℕ) → Some x → Some y → Some (pick b x y)
either true x y h g = h
either false x y h g = g

mark-some : (b : ℕ) → Some (mark_kind b)
unfolding mark_kind
mark-some b = search (either, number, rules) depth 20 fits 100000

name-some : (b : ℕ) → Some (name_kind b)
unfolding name_kind
name-some b = search (either, number, rules) depth 6

word_some : (text : List ℕ) (start end : ℕ) → Some (word_kind text start end)
unfolding word_kind
word_some text start end = search (either, number, rules) depth 12

quoted-some : (text : List ℕ) (start end : ℕ) → Some (quoted_kind text start end)
unfolding quoted_kind
quoted-some text start end = search (either, number, rules) depth 6

token-some : (text : List ℕ) (t : Token) → Some (token_kind text t)
unfolding token_kind
token-some text t = search (either, mark-some, name-some, word_some, quoted-some) depth 6

kind-some : (text : List ℕ) (t : Token) → (t.kind ≡ 0 → ⊥) → Some (kind_of text t)
unfolding kind_of
kind-some text t n = rw (ne_eqb t.kind 0 n) (token-some text t)

pub not_end : (text : List ℕ) (t : Token) → (t.kind ≡ 0 → ⊥) → kind_of text t ≡ END → ⊥
not_end text t n e = let h = (kind-some text t n).some in omega arith

pub is-end : (text : List ℕ) (t : Token) → t.kind ≡ 0 → kind_of text t ≡ END
unfolding kind_of
is-end text t e = simp (eq-eqb t.kind 0 e)
