-- The classes of bytes, each with all its characters in ascending order (000, Identifiers and Constants; 01, "The text").
-- Assumes nothing.
use Rattle.std.specs.Prelude.{◌≡◌, Bool, true, false, List, [], ◌∷◌, map, ℕ}
use Prim.Native.String.{String}
use Rattle.lists.specs.Lists.{pick, tab}
use Rattle.scan.specs.Ascii.{ascii}
use Rattle.scan.specs.Bytes.{between, is_letter, is_digit, is_space, is_sigil, is_sign, in_run}

-- a class of bytes, and its characters
pub record ByteClass : Type 0 where
  pub test : ℕ → Bool
  pub characters : String

abbrev byte_class : (ℕ → Bool) → String → ByteClass
byte_class test characters = record { test = test; characters = characters }

-- the numbers of the list that pass the test
abbrev members_of : (ℕ → Bool) → List ℕ → List ℕ
members_of test [] = []
members_of test (b ∷ bs) = let rest = members_of test bs in pick (test b) (b ∷ rest) rest

abbrev pub byte_classes : List ByteClass
byte_classes =
    -- letter ::= 'a' | ... | 'z' | 'A' | ... | 'Z' | '_'
    byte_class is_letter "ABCDEFGHIJKLMNOPQRSTUVWXYZ_abcdefghijklmnopqrstuvwxyz"
    -- digit ::= '0' | ... | '9'
    ∷ byte_class is_digit "0123456789"
    -- "White space is space, tab, CR, LF"
    ∷ byte_class is_space "\t\n\r "
    -- the sigils of values, functions and labels
    ∷ byte_class is_sigil "%@^"
    -- ['-' | '+']
    ∷ byte_class is_sign "+-"
    -- {letter | digit}, and {digit}
    ∷ byte_class (in_run true) "0123456789ABCDEFGHIJKLMNOPQRSTUVWXYZ_abcdefghijklmnopqrstuvwxyz"
    ∷ byte_class (in_run false) "0123456789"
    -- "a single mark"
    ∷ byte_class (between 33 126) "!\"#$%&'()*+,-./0123456789:;<=>?@ABCDEFGHIJKLMNOPQRSTUVWXYZ[\\]^_`abcdefghijklmnopqrstuvwxyz{|}~"
    ∷ []

-- over all 256 bytes
abbrev pub BytePinsHold : Type 0
BytePinsHold = map (λ (c : ByteClass). members_of c.test (tab 256 (λ b. b))) byte_classes ≡ map (λ (c : ByteClass). ascii c.characters) byte_classes
