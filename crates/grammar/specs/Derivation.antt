-- What the grammar derives: lists of kinds of tokens from lists of symbols. No machine.
-- Assumes nothing.
use Rattle.std.specs.Prelude.{ℕ, ◌≡◌, true, List, [], ◌∷◌, ◌++◌}
use Rattle.grammar.specs.Symbols.{Program, matches}
use Rattle.grammar.specs.Grammar.{Production, grammar}

infixl 20 ◌∈◌
pub data ◌∈◌ : Production → List Production → Type 0 where
  here : {p : Production} {ps : List Production} → p ∈ (p ∷ ps)
  there : {p q : Production} {ps : List Production} → p ∈ ps → p ∈ (q ∷ ps)

-- the symbols derive the kinds: a leaf stands for one token of a kind that it allows, any other symbol for the right side of one of its productions
pub data Derives : List ℕ → List ℕ → Type 0 where
  done : Derives [] []
  token : {leaf kind : ℕ} {ss ks : List ℕ} → matches leaf kind ≡ true → Derives ss ks → Derives (leaf ∷ ss) (kind ∷ ks)
  expand : {p : Production} {ss ks : List ℕ} → p ∈ grammar → Derives (p.right ++ ss) ks → Derives (p.left ∷ ss) ks

-- the kinds of a text of the grammar
abbrev pub Sentence : List ℕ → Type 0
Sentence ks = Derives (Program ∷ []) ks

-- the kinds begin something that the symbol derives
pub record Begins (s : ℕ) (ks : List ℕ) : Type 0 where
  pub rest : List ℕ
  pub whole : Derives (s ∷ []) (ks ++ rest)

-- nothing that the symbol derives begins so
abbrev pub NoneBegins : ℕ → List ℕ → Type 0
NoneBegins s ks = (ms : List ℕ) → Derives (s ∷ []) (ks ++ ms) → ⊥
