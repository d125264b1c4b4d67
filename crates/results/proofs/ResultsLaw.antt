-- The lines one after another, and a line in the bytes lent for it.
-- Assumes nothing.
use mathlib.Core.Path.{◌≡◌, refl, sym, ap, ◌∙◌}
use mathlib.Core.List.{List, [], ◌∷◌, ◌++◌, append_assoc, append-nil}
use Prim.Native.Nat.{ℕ, zero, suc, ◌+◌, ◌-◌, ◌<◌, ◌≤◌}
use native.Mathlib.Nat.{zero-add}
use native.Mathlib.Numerals.{add-one}
use native.Mathlib.Omega.{arith}
use lib.ListN.{length, get_or, take, drop, length-append, length-drop, length-take}
use lib.Seq.{take-append_seam, length-take-le}
use Rattle.lists.specs.Lists.{tab, concat}
use Rattle.laid.specs.Laid.{Laid, laid, put, lay, written}
use Rattle.laid.proofs.LaidLaw.{lay-one, lay-append, lay-room}
use Rattle.shape.specs.Dims.{dims_of}
use Rattle.printed.specs.Printed.{printed}
use Rattle.printed.proofs.LengthLaw.{printed-length}
use Rattle.program.specs.declared.Parts.{Parts}
use Rattle.values.specs.declared.Value.{Value}
use Rattle.values.specs.declared.Values.{Values}
use Rattle.values.specs.Values.{no_value}
use Rattle.offsets.specs.Offsets.{ValuesRead, size_at, offset_at}
use Rattle.operands.specs.Operands.{arity_of}
use Rattle.results.specs.Results.{line_at, dense_of, line_of, first_lines, lines_of}

concat-next : (j : ℕ) (f : ℕ → List ℕ) → concat (tab (suc j) f) ≡ concat (tab j f) ++ f j
unfolding concat
concat-next zero f = append-nil (f zero)
concat-next (suc j) f =
    ap (λ (l : List ℕ). f zero ++ l) (concat-next j (λ k. f (suc k)))
    ∙ sym (append_assoc (f zero) (concat (tab j (λ k. f (suc k)))) (f (suc j)))

module _ (text : List ℕ) (op : Parts) (vs : Values) (n : ℕ) (slots : List ℕ) where
  pub lines_none : first_lines text op vs n slots 0 ≡ []
  unfolding concat
  lines_none = refl

  -- a turn of the loop that prints them
  pub lines_next : (j : ℕ) → first_lines text op vs n slots (j + 1) ≡ first_lines text op vs n slots j ++ line_of vs slots (line_at text op vs n j)
  lines_next j = rw add-one (concat-next j (λ k. line_of vs slots (line_at text op vs n k)))

  pub lines-all : first_lines text op vs n slots (arity_of op) ≡ lines_of text op vs n slots
  unfolding lines_of
  lines-all = refl

-- a line end behind what was written
pub line-end : (xs : List ℕ) (k : ℕ) (old : List ℕ) (l : Laid) → length xs ≤ 200000 → k + 200001 ≤ length old → l ≡ written xs k old → put 10 l ≡ written (xs ++ (10 ∷ [])) k old
line-end xs k old l h r e =
    ap (put 10) (e ∙ sym (lay-room xs k old (omega arith)))
    ∙ sym (lay-one 10 (lay xs (laid k old)))
    ∙ sym (lay-append xs (10 ∷ []) (laid k old))
    ∙ lay-room (xs ++ (10 ∷ [])) k old (omega (arith, length-append xs (10 ∷ [])))

-- a part of a list is as long as from its start to its end
pub part_length : (at n : ℕ) (l : List ℕ) → at + n ≤ length l → length (take (at + n - at) (drop at l)) ≡ n
part_length at n l h =
    length-take-le (at + n - at) (drop at l) (omega (arith, length-drop at l)) ∙ (let e : at + n - at ≡ n = omega arith in e)

-- value i in print, from its place among the slots
pub dense-read : (vs : Values) (slots : List ℕ) (i at n : ℕ) (v : Value) → v ≡ get_or vs.list i no_value → at ≡ offset_at vs i → n ≡ size_at vs i →
    printed v.ty.element (dims_of v.ty.shape) (take (at + n - at) (drop at slots)) ≡ dense_of vs slots i
dense-read vs slots i at n v e a h = let w : at + n - at ≡ size_at vs i = omega arith in rw (w, a, e)

-- it takes at most 200,000 bytes
pub dense-small : (vs : Values) (slots : List ℕ) (i : ℕ) → ValuesRead vs → i < 264 → length (dense_of vs slots i) ≤ 200000
dense-small vs slots i read h =
    let s = (get_or vs.list i no_value).ty.shape in
    printed-length _ (dims_of s) _ (omega (arith, length-take s.rank s.dims, (read.sized i h).rank)) (read.sized i h).volume

-- and its line one more
pub line_small : (vs : Values) (slots : List ℕ) (i : ℕ) → ValuesRead vs → i < 264 → length (line_of vs slots i) ≤ 200001
unfolding line_of
line_small vs slots i read h = omega (arith, length-append (dense_of vs slots i) (10 ∷ []), dense-small vs slots i read h)

-- what was written from the front: where it ends, how long the memory is, and what its first bytes are
module _ (xs : List ℕ) (r : ℕ) (new old : List ℕ) (e : laid r new ≡ written xs 0 old) where
  abbrev rest : List ℕ
  rest = drop (0 + length xs) old

  pub front-end : r ≡ length xs
  front-end = ap (λ (l : Laid). l.place) e ∙ zero-add (length xs)

  is-memory : new ≡ xs ++ rest
  is-memory = ap (λ (l : Laid). l.memory) e

  pub front_bytes : (r ≤ length new) × (take r new ≡ xs)
  front_bytes = rw (front-end, is-memory) (omega (arith, length-append xs rest), take-append_seam xs rest)

  pub front_length : length xs ≤ length old → length new ≡ length old
  front_length h = rw is-memory (omega (arith, length-append xs rest, length-drop (0 + length xs) old))

  -- more behind it
  pub written_next : (ys : List ℕ) (l : Laid) → length xs + length ys ≤ length old → l ≡ written ys r new → l ≡ written (xs ++ ys) 0 old
  written_next ys l h f =
      f
      ∙ sym (lay-room ys r new (omega (arith, front-end, front_length (omega arith))))
      ∙ ap (lay ys) (e ∙ sym (lay-room xs 0 old (omega arith)))
      ∙ sym (lay-append xs ys (laid 0 old))
      ∙ lay-room (xs ++ ys) 0 old (omega (arith, length-append xs ys))
