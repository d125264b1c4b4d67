-- A value of a shape within the sizes of 01 is printed in at most 200,000 bytes.
-- Assumes nothing.
use mathlib.Core.Path.{◌≡◌}
use mathlib.Core.Bool.{Bool, true, false, ◌||◌}
use mathlib.Core.List.{List, [], ◌∷◌, ◌++◌}
use Prim.Native.Nat.{ℕ, zero, suc, ◌+◌, ◌*◌, ◌/◌, ◌%◌, ◌≤◌, max}
use native.Mathlib.Nat.{mul-add, mul_assoc, mul-le-mul, mul-le-mul_left, suc-mul}
use native.Mathlib.Omega.{arith}
use lib.IntN.{ℤ, pos, negsuc}
use lib.Dec.{ltb, eqb}
use lib.ListN.{length, get_or, drop, length-append}
use Rattle.lists.specs.Lists.{pick}
use Rattle.scan.specs.Ascii.{ascii}
use Rattle.element.specs.Types.{width_of, signed_of, bool_of, value_of}
use Rattle.element.specs.declared.ElementType.{ElementType}
use Rattle.shape.specs.Index.{size, volume}
use Rattle.shape.proofs.IndexLaw.{volume-pos}
use Rattle.printed.specs.Printed.{digits_of, decimal, number_text, literal_text, items_text, value_text, shape_text, element_text, printed}

-- the longer of two texts
pick-length : (n : ℕ) (b : Bool) (xs ys : List ℕ) → length xs ≤ n → length ys ≤ n → length (pick b xs ys) ≤ n
pick-length n true xs ys p q = p
pick-length n false xs ys p q = q

digits-length : (most n : ℕ) → length (digits_of most n) ≤ most
unfolding digits_of
digits-length zero n = omega arith
digits-length (suc most) n =
    let l = length-append (digits_of most (n / 10)) ((48 + n % 10) ∷ []) in
    pick-length (suc most) (ltb n 10) _ _ (omega arith) (omega (arith, l, digits-length most (n / 10)))

number-length : (z : ℤ) → length (number_text z) ≤ 21
unfolding number_text
number-length (pos n) = omega (arith, digits-length 20 n)
number-length (negsuc n) = omega (arith, digits-length 20 (suc n))

literal-length : (e : ElementType) (s : ℕ) → length (literal_text e s) ≤ 21
unfolding literal_text
literal-length e s = pick-length 21 (bool_of e) _ _ (pick-length 21 (eqb s 0) _ _ (omega arith) (omega arith)) (number-length (value_of e s))

items-length : (b : ℕ) (item : List ℕ → List ℕ) → ((s : List ℕ) → length (item s) ≤ b) → (size n : ℕ) (first : Bool) (slots : List ℕ) → length (items_text item size n first slots) ≤ n * (b + 2)
unfolding items_text
items-length b item h size zero first slots = omega arith
items-length b item h size (suc n) first slots =
    let rest = items_text item size n false (drop size slots) in
    let c = pick first [] (ascii ", ") in
    let p = pick-length 2 first [] (ascii ", ") (omega arith) (omega arith) in
    omega (
      arith,
      p,
      length-append c (item slots ++ rest),
      length-append (item slots) rest,
      h slots,
      items-length b item h size n false (drop size slots),
      suc-mul n (b + 2),
    )

value-length : (e : ElementType) (dims slots : List ℕ) → length (value_text e dims slots) ≤ volume dims * (21 + 4 * length dims)
unfolding value_text
value-length e [] slots = omega (arith, literal-length e (get_or slots 0 0))
value-length e (d ∷ ds) slots =
    let v = volume ds in
    let r = length ds in
    let w = v * (21 + 4 * r) in
    let m = max 1 d in
    let items = items_text (λ s. value_text e ds s) (size ds) d true slots in
    let i : length items ≤ d * (w + 2) = items-length w (λ s. value_text e ds s) (λ s. value-length e ds s) (size ds) d true slots in
    let a : d * (w + 2) ≤ m * (w + 2) = mul-le-mul (omega arith) (omega arith) in
    let b : m * (w + 2 + 2) ≡ m * (w + 2) + m * 2 = mul-add m (w + 2) 2 in
    let f : v * (21 + 4 * r + 4) ≡ w + v * 4 = mul-add v (21 + 4 * r) 4 in
    let g : m * (w + 2 + 2) ≤ m * (v * (21 + 4 * r + 4)) = mul-le-mul_left m (omega (arith, volume-pos ds)) in
    let k : m * v * (21 + 4 * r + 4) ≡ m * (v * (21 + 4 * r + 4)) = mul_assoc m v (21 + 4 * r + 4) in
    let q : 21 + 4 * suc r ≡ 21 + 4 * r + 4 = omega arith in
    rw q (omega (arith, length-append items (93 ∷ [])))

shape-length : (ds : List ℕ) → length (shape_text ds) ≤ 21 * length ds
unfolding shape_text
shape-length [] = omega arith
shape-length (d ∷ ds) = omega (arith, length-append (decimal d) (120 ∷ shape_text ds), digits-length 20 d, shape-length ds)

element-length : (e : ElementType) → length (element_text e) ≤ 22
unfolding element_text
element-length e =
    let u = pick (signed_of e || bool_of e) [] (ascii "u") in
    let p = pick-length 1 (signed_of e || bool_of e) [] (ascii "u") (omega arith) (omega arith) in
    omega (arith, p, length-append u (105 ∷ decimal (width_of e)), digits-length 20 (width_of e))

pub printed-length : (e : ElementType) (dims slots : List ℕ) → length dims ≤ 6 → volume dims ≤ 4096 → length (printed e dims slots) ≤ 200000
unfolding printed
printed-length e dims slots h v =
    let t = element_text e ++ ascii ">" in
    let s = shape_text dims ++ t in
    let c = ascii "> : tensor<" ++ s in
    let k : 21 + 4 * length dims ≤ 45 = omega arith in
    let m : volume dims * (21 + 4 * length dims) ≤ 4096 * 45 = mul-le-mul v k in
    omega (
      arith,
      length-append (ascii "dense<") (value_text e dims slots ++ c),
      length-append (value_text e dims slots) c,
      length-append (ascii "> : tensor<") s,
      length-append (shape_text dims) t,
      length-append (element_text e) (ascii ">"),
      value-length e dims slots,
      shape-length dims,
      element-length e,
    )
