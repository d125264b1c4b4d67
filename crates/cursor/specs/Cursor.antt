-- A cursor by value. 01, "Code places and their forms": "reading always knows its text and its place in it"; "first a cursor by value".
-- Assumes nothing.
use Rattle.std.specs.Prelude.{List, ℕ}
use Rattle.text.specs.Lex.{token_at}
use Rattle.text.specs.declared.Token.{Token}
use Rattle.cursor.specs.declared.Cursor.{Cursor}

-- the token at or after the cursor; white space may stand between
unfoldable pub token_of : List ℕ → Cursor → Token
token_of text c = token_at text c.at

-- reading goes on at the byte after a token's last
unfoldable pub cursor_after : Token → Cursor
cursor_after t = record { at = t.end }

-- the cursor after the token at or after it
unfoldable pub past_token : List ℕ → Cursor → Cursor
past_token text c = cursor_after (token_of text c)
