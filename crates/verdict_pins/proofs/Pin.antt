-- A text with its whole verdict (01, "The twelve refusals": "An answer has three numbers: refusal, A, B").
-- Assumes nothing.
use mathlib.Core.Path.{◌≡◌, ap}
use mathlib.Core.List.{List, [], ◌∷◌, map}
use Prim.Native.Nat.{ℕ}
use Prim.Native.String.{String}
use lib.ListN.{get_or, drop}
use Rattle.lists.specs.Lists.{All}
use Rattle.scan.specs.Ascii.{ascii}
use Rattle.judge.specs.Refusals.{Refusal}
use Rattle.judge.specs.Judge.{refuse, accepted}
use Rattle.verify.specs.Verify.{verdict}

pub record Pin : Type 0 where
  pub text : String
  pub refusal : Refusal

abbrev pub pin : String → ℕ → ℕ → ℕ → Pin
pin text number a b = record { text = text; refusal = refuse number a b }

-- the verdict on the text is the pin's
abbrev pub Right : Pin → Type 0
Right p = verdict (ascii p.text) ≡ p.refusal

-- of a whole table
abbrev pub Pinned : List Pin → Type 0
Pinned pins = All Right pins

pub pinned : (pins : List Pin) → map (λ p. verdict (ascii p.text)) pins ≡ map (λ p. p.refusal) pins → Pinned pins
pinned [] e = tt
pinned (p ∷ pins) e = (ap (λ (l : List Refusal). get_or l 0 accepted) e, pinned pins (ap (λ (l : List Refusal). drop 1 l) e))
