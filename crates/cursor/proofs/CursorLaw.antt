-- Laws of the cursor: it never goes back, it stays within the text, and it moves on at every token but the end.
-- Assumes nothing.
use mathlib.Core.Path.{◌≡◌}
use mathlib.Core.List.{List}
use Prim.Native.Nat.{ℕ, ◌<◌, ◌≤◌}
use native.Mathlib.Omega.{arith}
use lib.ListN.{length}
use Rattle.text.proofs.TokenLaw.{token-after, token-ordered, token-within, token-moves}
use Rattle.cursor.specs.declared.Cursor.{Cursor}
use Rattle.cursor.specs.Cursor.{token_of, cursor_after, past_token}

-- it never goes back
pub past-onward : (text : List ℕ) (c : Cursor) → c.at ≤ (past_token text c).at
unfolding past_token cursor_after token_of
past-onward text c =
    let a = token-after text c.at in
    let o = token-ordered text c.at in
    omega arith

-- it stays within the text
pub past-within : (text : List ℕ) (c : Cursor) → c.at ≤ length text → (past_token text c).at ≤ length text
unfolding past_token cursor_after token_of
past-within text c h = token-within text c.at h

-- it moves on at every token but the end
pub past-moves : (text : List ℕ) (c : Cursor) → ((token_of text c).kind ≡ 0 → ⊥) → c.at < (past_token text c).at
unfolding past_token cursor_after token_of
past-moves text c n =
    let a = token-after text c.at in
    let m = token-moves text c.at n in
    omega arith
