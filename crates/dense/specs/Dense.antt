-- Dense values (01, "The text": "A dense value is one literal for every element, or lists nested one level per dimension with exactly the sizes of the shape").
-- Assumes nothing.
use Rattle.std.specs.Prelude.{ℕ, zero, suc, List, [], ◌∷◌, ◌++◌, Bool, true, false, ◌||◌, eqb}
use Rattle.lists.specs.Lists.{pick, tab}
use Rattle.scan.specs.Ascii.{ascii}
use Rattle.text.specs.Lex.{token_at}
use Rattle.text.specs.Names.{word_is}
use Rattle.text.specs.declared.Token.{Token}
use Rattle.element.specs.Types.{bool_of}
use Rattle.element.specs.declared.ElementType.{ElementType}
use Rattle.shape.specs.Index.{size}
use Rattle.types.specs.Numbers.{decimal_number, number_in}
use Rattle.types.specs.Numbers.{NumberRead}

-- "Booleans are `true` and `false`"; no number is one
unfoldable pub boolean_of : List ℕ → Token → NumberRead
boolean_of text t =
    pick (word_is (ascii "true") text t.start t.end) (record { fits = true; bits = 1 })
    (record { fits = word_is (ascii "false") text t.start t.end; bits = 0 })

-- a literal of the type: whether the token is one, and its slot. "numbers are decimal", in the type's range; `true` and `false` are no numbers
unfoldable pub literal_of : ElementType → List ℕ → Token → NumberRead
literal_of e text t =
    pick (bool_of e) (boolean_of text t)
    (pick (eqb t.kind 2) (number_in e (decimal_number text t.start)) (record { fits = false; bits = 0 }))

-- what is read from a place on: whether it is as it should be, its elements (those before the fault where it is not), and the place after it
pub record Read : Type 0 where
  pub ok : Bool
  pub elements : List ℕ
  pub next : ℕ

-- what is read first and, where that is as it should be, what is read after it
unfoldable pub read_then : Read → (ℕ → Read) → Read
read_then r f =
    let s = f r.next in
    pick r.ok (record { ok = s.ok; elements = r.elements ++ s.elements; next = s.next }) r

-- a mark
unfoldable pub mark_at : ℕ → List ℕ → ℕ → Read
mark_at b text at = let t = token_at text at in record { ok = eqb t.kind b; elements = []; next = t.end }

-- what stands before an item: a comma, and nothing before the first
unfoldable pub comma_before : Bool → List ℕ → ℕ → Read
comma_before first text at = let t = token_at text at in record { ok = first || eqb t.kind 44; elements = []; next = pick first at t.end }

-- one literal
unfoldable pub one_at : ElementType → List ℕ → ℕ → Read
one_at e text at =
    let t = token_at text at in
    let v = literal_of e text t in
    record { ok = v.fits; elements = pick v.fits (v.bits ∷ []) []; next = t.end }

-- n items, and the closing bracket
unfoldable pub items_at : (ℕ → Read) → ℕ → Bool → List ℕ → ℕ → Read
items_at item zero first text at = mark_at 93 text at
items_at item (suc n) first text at = read_then (comma_before first text at) (λ a. read_then (item a) (λ b. items_at item n false text b))

-- "lists nested one level per dimension with exactly the sizes of the shape (`[[], []]` for 2x0, `[]` for 0x2)"
unfoldable pub dense_at : ElementType → List ℕ → List ℕ → ℕ → Read
dense_at e [] text at = one_at e text at
dense_at e (d ∷ ds) text at = read_then (mark_at 91 text at) (λ a. items_at (λ b. dense_at e ds text b) d true text a)

-- "one literal for every element", also where there is none: its kind and range are still judged (refusal 7)
unfoldable pub same_literal : ElementType → List ℕ → List ℕ → ℕ → Read
same_literal e dims text at =
    let t = token_at text at in
    let v = literal_of e text t in
    record { ok = v.fits; elements = pick v.fits (tab (size dims) (λ k. v.bits)) []; next = t.end }

-- "one literal for every element, or lists"; "Rank 0 takes only the literal": a bracket is none
unfoldable pub dense_value : ElementType → List ℕ → List ℕ → ℕ → Read
dense_value e dims text at = pick (eqb (token_at text at).kind 91) (dense_at e dims text at) (same_literal e dims text at)
