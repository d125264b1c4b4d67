-- The value of an attribute, by the place of the attribute's name in the text. 01, "The text": "Number lists are `array<i64: ..>` (empty: `array<i64>`),
-- single numbers `0 : i64`, choices `#stablehlo<comparison_direction LT>`, constants `dense<..> : type`."
-- Assumes nothing.
use Rattle.std.specs.Prelude.{ℕ, zero, suc, ◌+◌, List, [], ◌∷◌, Bool, length, set, replicate, ltb, eqb}
use Rattle.lists.specs.Lists.{pick}
use Rattle.scan.specs.Ascii.{ascii}
use Rattle.scan.specs.Bytes.{among}
use Rattle.text.specs.Lex.{token_at}
use Rattle.text.specs.Names.{word_is}
use Rattle.text.specs.declared.Token.{Token}
use Rattle.types.specs.Numbers.{decimal_number, pattern_in}
use Rattle.optable.specs.Table.{NumbersKind as NumberList, Number, DenseKind, choice_form, no_kind}
use Rattle.optable.specs.Find.{find_choice_kind, find_choice}
use Rattle.dimrules.specs.declared.Numbers.{Numbers}
use Rattle.attribute.specs.declared.Constant.{Constant}

-- the token that comes n tokens after the one at or after a byte
unfoldable pub token_after : ℕ → List ℕ → ℕ → Token
token_after zero text at = token_at text at
token_after (suc n) text at = token_after n text (token_at text at).end

-- Attribute ::= Name '=' Value: the value's first token is the second after the name
abbrev pub value_token : List ℕ → ℕ → Token
value_token text name = token_after 2 text name

-- a value that begins with a word: `array` or `dense`
unfoldable pub word_form : List ℕ → Token → ℕ
word_form text t =
    pick (word_is (ascii "array") text t.start t.end) NumberList
    (pick (word_is (ascii "dense") text t.start t.end) DenseKind no_kind)

-- the rows of a choice's two words in the table of ops
pub record ChoiceRows : Type 0 where
  pub kind : ℕ
  pub choice : ℕ

-- Choice ::= '#stablehlo' '<' ChoiceKind Choice '>': the rows of its two words in the table of ops
unfoldable pub choice_at : List ℕ → ℕ → ChoiceRows
choice_at text name =
    let kind = token_after 4 text name in
    let choice = token_after 5 text name in
    record { kind = find_choice_kind text kind.start kind.end; choice = find_choice text choice.start choice.end }

-- the kind of the value, as in the table of ops, by its first token: a number, `#stablehlo`, or a word
unfoldable pub form_at : List ℕ → ℕ → ℕ
form_at text name =
    let t = value_token text name in
    pick (eqb t.kind 2) Number
    (pick (eqb t.kind 5) (choice_form (choice_at text name).kind)
    (pick (eqb t.kind 1) (word_form text t) no_kind))

-- the number whose token starts here, as a signed 64-bit pattern; 0 where it does not fit (01, Sizes, 7)
unfoldable pub pattern_at : List ℕ → ℕ → ℕ
pattern_at text start = (pattern_in (decimal_number text start)).bits

-- SingleNumber ::= Number ':' 'i64'
unfoldable pub number_at : List ℕ → ℕ → ℕ
number_at text name = pattern_at text (value_token text name).start

unfoldable pub none_read : Numbers
none_read = record { count = 0; list = replicate 6 0 }

-- one number more; "An attribute list has at most 6 numbers" (01, Sizes, 6)
unfoldable pub with_number : Numbers → ℕ → Numbers
with_number ns v = pick (ltb ns.count 6) (record { count = ns.count + 1; list = set ns.list ns.count v }) ns

-- Numbers ::= [':' Number {',' Number}]: a number comes after each `:` and each `,`
unfoldable pub goes_on : ℕ → Bool
goes_on kind = among (58 ∷ 44 ∷ []) kind

-- at most so many numbers from a byte on
unfoldable pub numbers_from : ℕ → Numbers → List ℕ → ℕ → Numbers
numbers_from zero ns text at = ns
numbers_from (suc left) ns text at =
    let mark = token_at text at in
    let number = token_at text mark.end in
    pick (goes_on mark.kind) (numbers_from left (with_number ns (pattern_at text number.start)) text number.end) ns

-- NumberList ::= 'array' '<' 'i64' Numbers '>'
unfoldable pub numbers_at : List ℕ → ℕ → Numbers
numbers_at text name = numbers_from 6 none_read text (token_after 4 text name).end

-- `>`, or the end of the text: a literal has neither
unfoldable pub ends_literal : ℕ → Bool
ends_literal kind = among (62 ∷ 0 ∷ []) kind

-- the end of the first such token, of at most so many
unfoldable pub close_from : ℕ → List ℕ → ℕ → ℕ
close_from zero text at = at
close_from (suc left) text at =
    let t = token_at text at in
    pick (ends_literal t.kind) t.end (close_from left text t.end)

-- Constant ::= 'dense' '<' Literal '>' ':' Type: where the literal and the type start; a text has at most one token for each byte
unfoldable pub dense_tokens : List ℕ → ℕ → Constant
dense_tokens text name =
    let literal = (token_after 4 text name).start in
    record { literal = literal; ty = (token_after 1 text (close_from (length text) text literal)).start }
