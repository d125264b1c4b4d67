-- Bytes of a text: their classes, runs of them, and white space.
-- Assumes nothing.
use Rattle.std.specs.Prelude.{ℕ, suc, List, [], ◌∷◌, Bool, true, false, not, ◌&&◌, ◌||◌, get_or, drop, leb, eqb}
use Rattle.lists.specs.Lists.{pick}
use Rattle.scan.specs.Ascii.{ascii}

-- the byte at a place, 0 past the end
abbrev pub byte_at : List ℕ → ℕ → ℕ
byte_at text at = get_or text at 0

abbrev pub among : List ℕ → ℕ → Bool
among [] b = false
among (x ∷ xs) b = eqb b x || among xs b

abbrev pub between : ℕ → ℕ → ℕ → Bool
between low high b = leb low b && leb b high

-- 000, Identifiers: letter ::= 'a' | ... | 'z' | 'A' | ... | 'Z' | '_'
unfoldable pub is_letter : ℕ → Bool
is_letter b = between 97 122 b || between 65 90 b || eqb b 95

-- 000, Identifiers: digit ::= '0' | ... | '9'
unfoldable pub is_digit : ℕ → Bool
is_digit b = between 48 57 b

-- 01, The text: white space is space, tab, CR, LF
unfoldable pub is_space : ℕ → Bool
is_space b = among (ascii " \t\r\n") b

-- 000, Identifiers: the sigils of values, functions and labels
unfoldable pub is_sigil : ℕ → Bool
is_sigil b = among (ascii "%@^") b

-- 000, Constants: ['-' | '+']
unfoldable pub is_sign : ℕ → Bool
is_sign b = among (ascii "-+") b

-- {digit}, or {letter | digit}
unfoldable pub in_run : Bool → ℕ → Bool
in_run letters b = is_digit b || (letters && is_letter b)

-- the end of the longest run of such bytes; the first byte of the list has place at
unfoldable pub run_from : Bool → ℕ → List ℕ → ℕ
run_from letters at [] = at
run_from letters at (b ∷ bs) = pick (in_run letters b) (run_from letters (suc at) bs) at

unfoldable pub run_end : Bool → List ℕ → ℕ → ℕ
run_end letters text at = run_from letters at (drop at text)

-- whether a text starts with a word
unfoldable pub starts_with : List ℕ → List ℕ → Bool
starts_with [] s = true
starts_with (w ∷ ws) [] = false
starts_with (w ∷ ws) (b ∷ bs) = eqb w b && starts_with ws bs

-- 01, The text: white space is also `//` to the line's end, which is an LF. Whether the list's first byte belongs to a comment, where begun says
-- whether the byte before it does and is no LF
unfoldable pub in_comment : Bool → List ℕ → Bool
in_comment begun s = begun || starts_with (ascii "//") s

-- the end of the white space and comments that start here
unfoldable pub skip_from : Bool → ℕ → List ℕ → ℕ
skip_from begun at [] = at
skip_from begun at (b ∷ bs) =
    let comment = in_comment begun (b ∷ bs) in
    pick (comment || is_space b) (skip_from (pick begun (not (eqb b 10)) comment) (suc at) bs) at

unfoldable pub skip_end : List ℕ → ℕ → ℕ
skip_end text at = skip_from false at (drop at text)
