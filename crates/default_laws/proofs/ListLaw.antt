-- The numbers of an attribute list as the text writes them: in a text without refusals 1 to 4 at most six stand one after the other, split by commas
-- (01, Sizes, 6: "An attribute list has at most 6 numbers"). That `numbers_at` walks over just these tokens is stated in NumbersLaw.
-- Assumes nothing.
use mathlib.Core.Path.{◌≡◌, ap, subst, ◌∙◌}
use mathlib.Core.List.{List, [], ◌∷◌, ◌++◌}
use mathlib.Core.Bool.{Bool, true, false}
use Prim.Native.Nat.{ℕ, ◌+◌, ◌≤◌}
use native.Mathlib.Omega.{arith}
use lib.Dec.{ltb}
use borrow.Author.Tests.{ltb-false}
use Rattle.lists.specs.Lists.{pick}
use Rattle.grammar.specs.Symbols.{ListNumber, comma}
use Rattle.syntax.specs.Readings.{Reading, readings}
use Rattle.syntax.specs.Roles.{roles_of}
use Rattle.judge.specs.declared.tally.Tally.{Tally}
use Rattle.judge.specs.Roles.{among_roles}
use Rattle.judge.specs.Tally.{at_start, item_number, items_after, after_token}
use Rattle.judge.specs.Sizes.{long_list, passes}
use Rattle.judge.specs.Judge.{text_refusal}
use Rattle.judge.proofs.Theorems.{Each, Sound, token-sound, accepted-each}
use Rattle.reading_laws.proofs.TallyLaw.{passes_none, tally_after, each_append}
use Rattle.part_laws.proofs.ItemLaw.{Chain, none, more}

module _ (text : List ℕ) where
  -- a number of a list that is not refused is one of the first six, and is counted
  number_small : (s : Tally) (x : Reading) → x.role ≡ ListNumber → Sound text s x → item_number s ≤ 6
  unfolding passes long_list
  number_small s x e g =
      let b : ltb 6 (item_number s) ≡ false = rw e at (passes_none text s x g.sized).1.1.1.1.1.0 in
      ltb-false 6 (item_number s) b

  number-counted : (s : Tally) (x : Reading) → x.role ≡ ListNumber → (after_token text s x.role x.token).items ≡ item_number s
  unfolding after_token items_after among_roles
  number-counted s x e = rw e

  comma-goes-on : (s : Tally) (x : Reading) → x.role ≡ comma → item_number (after_token text s x.role x.token) ≡ s.items + 1
  unfolding after_token items_after item_number among_roles
  comma-goes-on s x e = rw e

  at_least_one : (s : Tally) → 1 ≤ item_number s
  unfolding item_number
  at_least_one s = go s.more
    where
      go : (b : Bool) → 1 ≤ pick b (s.items + 1) 1
      go true = omega arith
      go false = omega arith

  -- n numbers before: with m more there are at most six
  chain-few : (m n : ℕ) (ls rest : List ℕ) (s : Tally) (xs : List Reading) → Chain (ListNumber ∷ []) m ls → roles_of xs ≡ ls ++ rest → s.items ≡ n → n ≤ 6 → Each text s xs → n + m ≤ 6
  chain-few m n ls rest s xs none e i h a = omega arith
  chain-few m n ls rest s [] (more c) e i h a = let z : ◌≡◌ {A = ℕ} 0 1 = cc in absurd (omega arith)
  chain-few m n ls rest s (x ∷ []) (more c) e i h a = let z : ◌≡◌ {A = ℕ} 0 1 = cc in absurd (omega arith)
  chain-few m n ls rest s (x ∷ y ∷ xs) (more {n = k} {ls = others} c) e i h a =
      let q : x.role ≡ comma = cc in
      let r : y.role ≡ ListNumber = cc in
      let w : roles_of xs ≡ others ++ rest = cc in
      let s1 = after_token text s x.role x.token in
      let b : item_number s1 ≡ n + 1 = comma-goes-on s x q ∙ ap (λ (z : ℕ). z + 1) i in
      let f = number_small s1 y r (token-sound text s1 y a.1.0) in
      let t = number-counted s1 y r in
      let j = chain-few k (n + 1) others rest (after_token text s1 y.role y.token) xs c w (t ∙ b) (omega arith) a.1.1 in
      omega arith

  -- a number and m more
  list-few : (m : ℕ) (ls rest : List ℕ) (s : Tally) (xs : List Reading) → Chain (ListNumber ∷ []) m ls → roles_of xs ≡ ListNumber ∷ (ls ++ rest) → Each text s xs → 1 + m ≤ 6
  list-few m ls rest s [] c e a = let z : ◌≡◌ {A = ℕ} 0 1 = cc in absurd (omega arith)
  list-few m ls rest s (x ∷ xs) c e a =
      let r : x.role ≡ ListNumber = cc in
      let w : roles_of xs ≡ ls ++ rest = cc in
      let f = number_small s x r (token-sound text s x a.0) in
      let t = number-counted s x r in
      let o = at_least_one s in
      let j = chain-few m (item_number s) ls rest (after_token text s x.role x.token) xs c w t f a.1 in
      omega arith

  -- wherever in the text a number and m more after commas stand, they are at most six
  pub six-numbers : (text_refusal text).number ≡ 0 → (before list : List Reading) (m : ℕ) (ls rest : List ℕ) →
      readings text ≡ before ++ list → Chain (ListNumber ∷ []) m ls → roles_of list ≡ ListNumber ∷ (ls ++ rest) → 1 + m ≤ 6
  six-numbers e before list m ls rest w c r =
      let a = (each_append text before list at_start (subst (Each text at_start) w (accepted-each text e))).1 in
      list-few m ls rest (tally_after text at_start before) list c r a
