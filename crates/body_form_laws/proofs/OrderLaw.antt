-- What is read after a token starts after it.
-- Assumes nothing.
use mathlib.Core.Path.{◌≡◌, sym, ap, subst, ◌∙◌}
use mathlib.Core.List.{List, [], ◌∷◌, ◌++◌}
use mathlib.Core.Bool.{Bool, true, false, ◌&&◌}
use Prim.Native.Nat.{ℕ, zero, suc, ◌+◌, ◌<◌, ◌≤◌}
use native.Mathlib.Omega.{arith}
use lib.Dec.{eqb}
use lib.ListN.{length}
use Rattle.lists.specs.Lists.{pick, All}
use Rattle.lists.proofs.AllLaw.{all_map}
use Rattle.scan.specs.Bytes.{among as one_of}
use Rattle.text.specs.Lex.{token_at}
use Rattle.text.specs.declared.Token.{Token}
use Rattle.text.proofs.TokenLaw.{token-after, token-ordered, token-moves}
use Rattle.grammar.specs.Symbols.{BodyOpName, END, leaf_kinds, matches}
use Rattle.grammar.specs.Machine.{Cell, fails, skips, takes, step}
use Rattle.grammar.specs.Leaves.{StandFor, allowed}
use Rattle.syntax.specs.Kinds.{kind_of}
use Rattle.syntax.specs.Tokens.{kinds_of}
use Rattle.syntax.specs.Readings.{Reading, reading, labelled, readings_from, readings_of}
use Rattle.syntax.specs.Roles.{roles_of, tokens_of}
use Rattle.syntax.proofs.KindLaw.{is-end}
use Rattle.program.specs.Parts.{depth_after}
use Rattle.source.specs.Source.{with_role}

-- these readings start at a byte or later; after it
abbrev pub NotBefore : ℕ → List Reading → Type 0
NotBefore a xs = All (λ x. a ≤ x.token.start) xs

abbrev pub Later : ℕ → List Reading → Type 0
Later a xs = All (λ x. a < x.token.start) xs

module _ (text : List ℕ) where
  labelled-from : (at : ℕ) (c : Cell) (f : List ℕ → List Reading) → ((rest : List ℕ) → NotBefore (token_at text at).end (f rest)) → NotBefore at (labelled (token_at text at) c f)
  labelled-from at fails f h = (token-after text at, tt)
  labelled-from at skips f h = (token-after text at, tt)
  labelled-from at (takes r rest) f h =
      let a = token-after text at in
      let b = token-ordered text at in
      (a, all_map (λ x g. omega arith) (f rest) (h rest))

  from-here : (n : ℕ) (ss : List ℕ) (at : ℕ) → NotBefore at (readings_from n ss text at)
  unfolding readings_from
  from-here zero ss at = tt
  from-here (suc n) [] at = tt
  from-here (suc n) (s ∷ ss) at =
      labelled-from at (step (s ∷ ss) (kind_of text (token_at text at))) (λ rest. readings_from n rest text (token_at text at).end) (λ rest. from-here n rest (token_at text at).end)

  -- what is read from a byte on
  pub read-from : (symbol at : ℕ) → NotBefore at (readings_of symbol text at)
  unfolding readings_of
  read-from symbol at = from-here (length text + 1) (symbol ∷ []) at

  none-follow : (x y : Reading) (pre post : List Reading) (P : List Reading → Type 0) → x ∷ [] ≡ pre ++ (y ∷ post) → P [] → P post
  none-follow x y [] post P e p = let q : [] ≡ post = cc in subst P q p
  none-follow x y (z ∷ []) post P e p = let w : ◌≡◌ {A = ℕ} 0 1 = cc in absurd (omega arith)
  none-follow x y (z ∷ u ∷ pre) post P e p = let w : ◌≡◌ {A = ℕ} 0 1 = cc in absurd (omega arith)

  labelled-later : (at : ℕ) (c : Cell) (f : List ℕ → List Reading) → ((rest : List ℕ) → NotBefore (token_at text at).end (f rest)) → (pre : List Reading) (x : Reading) (post : List Reading) →
      ((rest : List ℕ) (pre : List Reading) → f rest ≡ pre ++ (x ∷ post) → Later x.token.start post) →
      labelled (token_at text at) c f ≡ pre ++ (x ∷ post) → (x.token.kind ≡ 0 → ⊥) → Later x.token.start post
  labelled-later at fails f h pre x post i e n = none-follow (reading false 0 (token_at text at)) x pre post (Later x.token.start) e tt
  labelled-later at skips f h pre x post i e n = none-follow (reading false 0 (token_at text at)) x pre post (Later x.token.start) e tt
  labelled-later at (takes r rest) f h [] x post i e n =
      let q : reading true r (token_at text at) ≡ x = cc in
      let w : f rest ≡ post = cc in
      let t : token_at text at ≡ x.token = ap (λ (y : Reading). y.token) q in
      let m = token-moves text at (λ z. n (ap (λ (t : Token). t.kind) (sym t) ∙ z)) in
      let s : (token_at text at).start ≡ x.token.start = ap (λ (t : Token). t.start) t in
      subst (Later x.token.start) w (all_map (λ y g. omega arith) (f rest) (h rest))
  labelled-later at (takes r rest) f h (y ∷ pre) x post i e n = let w : f rest ≡ pre ++ (x ∷ post) = cc in i rest pre w

  later-from : (n : ℕ) (ss : List ℕ) (at : ℕ) (pre : List Reading) (x : Reading) (post : List Reading) → readings_from n ss text at ≡ pre ++ (x ∷ post) → (x.token.kind ≡ 0 → ⊥) → Later x.token.start post
  unfolding readings_from
  later-from zero ss at [] x post e k = let w : ◌≡◌ {A = ℕ} 0 1 = cc in absurd (omega arith)
  later-from zero ss at (y ∷ pre) x post e k = let w : ◌≡◌ {A = ℕ} 0 1 = cc in absurd (omega arith)
  later-from (suc n) [] at [] x post e k = let w : ◌≡◌ {A = ℕ} 0 1 = cc in absurd (omega arith)
  later-from (suc n) [] at (y ∷ pre) x post e k = let w : ◌≡◌ {A = ℕ} 0 1 = cc in absurd (omega arith)
  later-from (suc n) (s ∷ ss) at pre x post e k =
      labelled-later at (step (s ∷ ss) (kind_of text (token_at text at))) (λ rest. readings_from n rest text (token_at text at).end) (λ rest. from-here n rest (token_at text at).end) pre x post
      (λ rest pre q. later-from n rest (token_at text at).end pre x post q k) e k

  -- the name of an op in a body is no end of a text
  stands_at : (pre : List Reading) (x : Reading) (post : List Reading) → StandFor (roles_of (pre ++ (x ∷ post))) (kinds_of text (tokens_of (pre ++ (x ∷ post)))) → matches x.role (kind_of text x.token) ≡ true
  stands_at [] x post (allowed m s) = m
  stands_at (y ∷ pre) x post (allowed m s) = stands_at pre x post s

  no_end : (name : Token) → matches BodyOpName (kind_of text name) ≡ true → name.kind ≡ 0 → ⊥
  unfolding matches leaf_kinds
  no_end name m z =
      let q : matches BodyOpName END ≡ true = ap (matches BodyOpName) (sym (is-end text name z)) ∙ m in
      let w : ◌≡◌ {A = ℕ} 0 1 = cc in
      absurd (omega arith)

  -- what is read after the name of an op of a body
  pub after-name : (symbol at : ℕ) (pre : List Reading) (name : Token) (post : List Reading) → readings_of symbol text at ≡ pre ++ (reading true BodyOpName name ∷ post) →
      StandFor (roles_of (readings_of symbol text at)) (kinds_of text (tokens_of (readings_of symbol text at))) → Later name.start post
  unfolding readings_of
  after-name symbol at pre name post e s =
      let x = reading true BodyOpName name in
      let m = stands_at pre x post (subst (λ (l : List Reading). StandFor (roles_of l) (kinds_of text (tokens_of l))) e s) in
      later-from (length text + 1) (symbol ∷ []) at pre x post e (no_end name m)

-- so do the tokens of some roles among them
pub roles-all : (P : ℕ → Type 0) (roles : List ℕ) (level d : ℕ) (xs : List Reading) → All (λ x. P x.token.start) xs → All P (with_role roles level d xs)
roles-all P roles level d [] a = tt
roles-all P roles level d (x ∷ xs) a = go (eqb d level && one_of roles x.role) (roles-all P roles level (depth_after d x.role) xs a.1)
  where
    go : (b : Bool) → All P (with_role roles level (depth_after d x.role) xs) →
        All P (pick b (x.token.start ∷ with_role roles level (depth_after d x.role) xs) (with_role roles level (depth_after d x.role) xs))
    go true i = (a.0, i)
    go false i = i
