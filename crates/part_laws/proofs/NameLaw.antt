-- The quoted name of an op outside bodies is one of the op table's.
-- Assumes nothing.
use mathlib.Core.Path.{◌≡◌, refl, sym, ap, subst, ◌∙◌}
use mathlib.Core.List.{List, [], ◌∷◌, ◌++◌}
use mathlib.Core.Bool.{Bool, true, false, not}
use Prim.Native.Nat.{ℕ, zero, suc, ◌+◌, ◌<◌, ◌≤◌}
use native.Mathlib.Omega.{arith}
use lib.Dec.{T, eqb, eqb→eq, ltb}
use lib.ListN.{length}
use borrow.Author.Tests.{eq-eqb, eqb-false}
use Rattle.lists.specs.Lists.{pick, All, first_where}
use Rattle.text.specs.Lex.{token_at}
use Rattle.text.specs.declared.Token.{Token}
use Rattle.optable.specs.Table.{op_names}
use Rattle.optable.specs.Find.{same, stretch, name_place, find_op}
use Rattle.grammar.specs.Symbols.{OpName, leaf_count, among_symbols}
use Rattle.grammar.specs.Machine.{Cell, fails, skips, takes, step}
use Rattle.grammar.proofs.TableTest.{both, both_left, both_right, both-make, or, implies, implied, up_to, up-to}
use Rattle.syntax.specs.Kinds.{kind_of}
use Rattle.syntax.specs.Readings.{Reading, reading, labelled, readings_from, readings_of}
use Rattle.syntax.specs.Roles.{roles_of}
use Rattle.syntax.proofs.AloneLaw.{token-again}
use Rattle.judge.specs.declared.tally.Tally.{Tally}
use Rattle.judge.specs.Roles.{among_roles}
use Rattle.judge.specs.Tally.{after_token}
use Rattle.judge.specs.Judge.{unknown}
use Rattle.judge.proofs.Theorems.{Each, Sound, token-sound}
use Rattle.program.specs.Parts.{part_of, depth_after}
use Rattle.part_laws.proofs.DepthLaw.{outside}
use Rattle.part_laws.proofs.CountLaw.{no_return}
use Rattle.part_laws.proofs.StandLaw.{Level}

-- the place of what is found in a list lies within it
found_within : {A : Type 0} (t : A → Bool) (xs : List A) → first_where t xs ≤ length xs
unfolding first_where
found_within t [] = omega arith
found_within t (x ∷ xs) = go (t x) (found_within t xs)
  where
    go : (b : Bool) → first_where t xs ≤ length xs → pick b 0 (suc (first_where t xs)) ≤ suc (length xs)
    go true h = omega arith
    go false h = omega arith

-- a token of a reading is the token at its first byte
abbrev Again : List ℕ → Reading → Type 0
Again text x = token_at text x.token.start ≡ x.token

module _ (text : List ℕ) where
  labelled-again : (at : ℕ) (c : Cell) (f : List ℕ → List Reading) → ((rest : List ℕ) → All (Again text) (f rest)) → All (Again text) (labelled (token_at text at) c f)
  labelled-again at fails f h = (token-again text at, tt)
  labelled-again at skips f h = (token-again text at, tt)
  labelled-again at (takes r rest) f h = (token-again text at, h rest)

  read_again : (n : ℕ) (ss : List ℕ) (at : ℕ) → All (Again text) (readings_from n ss text at)
  unfolding readings_from
  read_again zero ss at = tt
  read_again (suc n) [] at = tt
  read_again (suc n) (s ∷ ss) at =
      labelled-again at (step (s ∷ ss) (kind_of text (token_at text at))) (λ rest. readings_from n rest text (token_at text at).end) (λ rest. read_again n rest (token_at text at).end)

  pub tokens-again : (s at : ℕ) → All (Again text) (readings_of s text at)
  unfolding readings_of
  tokens-again s at = read_again (length text + 1) (s ∷ []) at

  -- the part of quoted names holds names of the op table
  abbrev pub Known : ℕ → ℕ → Type 0
  Known k a = k ≡ 0 → find_op text a (token_at text a).end < length op_names

  name-known : (t : Token) → unknown text OpName t ≡ false → find_op text t.start t.end < length op_names
  unfolding unknown find_op name_place among_roles
  name-known t e =
      let h = found_within (λ n. same n (stretch text t.start t.end)) op_names in
      let n = eqb-false (first_where (λ m. same m (stretch text t.start t.end)) op_names) (length op_names) e in
      omega arith

-- outside bodies only an op's own name is in the part of quoted names
abbrev name_test : ℕ → Bool
name_test r = implies (both (among_symbols no_return r) (eqb (part_of r) 0)) (eqb r OpName)

name-role : (r : ℕ) → r < leaf_count → T (among_symbols no_return r) → part_of r ≡ 0 → r ≡ OpName
unfolding part_of
name-role r h t e =
    eqb→eq r OpName (implied (both (among_symbols no_return r) (eqb (part_of r) 0)) (eqb r OpName) (up-to leaf_count name_test r tt h)
    (both-make (among_symbols no_return r) (eqb (part_of r) 0) t (subst T (sym (eq-eqb (part_of r) 0 e)) tt)))

pub level-known : (text : List ℕ) (s : Tally) (d : ℕ) (xs : List Reading) → Each text s xs → All (λ l. l < leaf_count) (roles_of xs) → All (Again text) xs → T (outside no_return d (roles_of xs)) →
    Level (Known text) 0 d xs
level-known text s d [] e h a t = tt
level-known text s d (x ∷ xs) e h a t =
    let m = or (ltb 0 d) (among_symbols no_return x.role) in
    let n = outside no_return (depth_after d x.role) (roles_of xs) in
    (here (both_left m n t), level-known text (after_token text s x.role x.token) (depth_after d x.role) xs e.1 h.1 a.1 (both_right m n t))
  where
    named : x.role ≡ OpName → find_op text x.token.start (token_at text x.token.start).end < length op_names
    named q =
        let g = token-sound text s x e.0 in
        let u : unknown text OpName x.token ≡ false = rw q at g.known in
        subst (λ (z : Token). find_op text x.token.start z.end < length op_names) (sym a.0) (name-known text x.token u)

    here : T (or (ltb 0 d) (among_symbols no_return x.role)) → d ≡ 0 → part_of x.role < 11 → Known text (part_of x.role) x.token.start
    here u z l k = named (name-role x.role h.0 (rw z at u) k)
