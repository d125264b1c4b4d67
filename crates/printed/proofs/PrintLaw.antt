-- Laws of printing in sequence.
-- Assumes nothing.
use mathlib.Core.Path.{◌≡◌, refl, sym, ap, ◌∙◌}
use mathlib.Core.Bool.{true, false, false≢true}
use mathlib.Core.List.{List, [], ◌∷◌, ◌++◌, append_assoc}
use Prim.Native.Nat.{ℕ, zero, suc, ◌+◌, ◌-◌, ◌*◌, ◌/◌, ◌%◌, ◌≤◌, ◌<◌}
use native.Mathlib.Nat.{sub-zero, sub_self, suc-mul, zero-mul, add-zero}
use native.Mathlib.Omega.{arith}
use native.Mathlib.Numerals.{add-one}
use borrow.Author.Tests.{lt-ltb, le-ltb, ltb-true, ne_eqb}
use lib.Dec.{eqb}
use lib.IntN.{ℤ, pos, negsuc, nat_abs}
use lib.Signed.{lt_z}
use lib.ListN.{length, get_or, take, drop, drop_of_length-le}
use lib.Seq.{drop-cons, drop-drop, get_or-drop}
use Rattle.lists.specs.Lists.{pick}
use Rattle.scan.specs.Ascii.{ascii}
use Rattle.element.specs.declared.ElementType.{ElementType}
use Rattle.shape.specs.Index.{size, rest}
use Rattle.shape.proofs.DimensionLaw.{rest-cons, rest_all}
use Rattle.laid.specs.Laid.{Laid, put, lay}
use Rattle.laid.proofs.LaidLaw.{lay-one, lay-append}
use Rattle.printed.specs.Printed.{digits_of, decimal, number_text, literal_text, items_text, value_text, shape_text}

-- one text after another
pub then-lay : (xs ys : List ℕ) (l a b : Laid) → a ≡ lay xs l → b ≡ lay ys a → b ≡ lay (xs ++ ys) l
then-lay xs ys l a b p q = q ∙ ap (λ (x : Laid). lay ys x) p ∙ sym (lay-append xs ys l)

-- one byte, and what comes after it
pub then-put : (x : ℕ) (ys : List ℕ) (l a b : Laid) → a ≡ put x l → b ≡ lay ys a → b ≡ lay (x ∷ ys) l
then-put x ys l a b p q = then-lay (x ∷ []) ys l a b (p ∙ sym (lay-one x l)) q

-- and what comes last
pub last-put : (xs : List ℕ) (y : ℕ) (l a b : Laid) → a ≡ lay xs l → b ≡ put y a → b ≡ lay (xs ++ (y ∷ [])) l
last-put xs y l a b p q = then-lay xs (y ∷ []) l a b p (q ∙ sym (lay-one y a))

-- the digits of a number
module _ (most n : ℕ) where
  pub print-none : (l : Laid) → most ≡ 0 → l ≡ lay (digits_of most n) l
  unfolding digits_of lay
  print-none l h = rw h

  module _ (h : most ≡ 0 → ⊥) where
    one_more : most ≡ suc (most - 1)
    one_more = go most h
      where
        go : (m : ℕ) → (m ≡ 0 → ⊥) → m ≡ suc (m - 1)
        go zero h = absurd (h refl)
        go (suc m) h = omega arith

    more : 10 ≤ n → digits_of most n ≡ digits_of (most - 1) (n / 10) ++ ((48 + n % 10) ∷ [])
    unfolding digits_of
    more h = ap (λ (m : ℕ). digits_of m n) one_more ∙ rw (le-ltb n 10 h)

    pub print-last : (l a : Laid) (x : ℕ) → n < 10 → x ≡ 48 + n → a ≡ put x l → a ≡ lay (digits_of most n) l
    unfolding digits_of
    print-last l a x h e p = rw (one_more, lt-ltb n 10 h, ← e) (p ∙ sym (lay-one x l))

    pub print-more : (l a b : Laid) (x : ℕ) → 10 ≤ n → x ≡ 48 + n % 10 → a ≡ lay (digits_of (most - 1) (n / 10)) l → b ≡ put x a → b ≡ lay (digits_of most n) l
    print-more l a b x h e p q = rw (more h, ← e) (last-put _ x l a b p q)

-- the bytes of a text, from byte i on
module _ (word : List ℕ) (i : ℕ) where
  pub text-step : (l a : Laid) → i < length word → a ≡ put (get_or word i 0) l → lay (drop (i + 1) word) a ≡ lay (drop i word) l
  unfolding lay
  text-step l a h e = rw (add-one, drop-cons word i 0 h, e)

  pub text-end : (l : Laid) → length word ≤ i → l ≡ lay (drop i word) l
  unfolding lay
  text-end l h = rw (drop_of_length-le word h)

-- the slots of the items from item j on
module _ (n d j : ℕ) where
  pub left_step : j < d → (d - j) * n ≡ n + (d - (j + 1)) * n
  left_step h =
      let e : d - j ≡ suc (d - (j + 1)) = omega arith in
      ap (λ (x : ℕ). x * n) e ∙ suc-mul (d - (j + 1)) n ∙ omega arith

  pub left_end : d ≤ j → (d - j) * n ≡ 0
  left_end h = let e : d - j ≡ 0 = omega arith in ap (λ (x : ℕ). x * n) e ∙ zero-mul n

-- the items of a list from item j on: a loop's turn and its end
module _ (item : List ℕ → List ℕ) (n d j : ℕ) (slots : List ℕ) (here : ℕ) where
  items-end : d ≤ j → items_text item n (d - j) (eqb j 0) (drop here slots) ≡ []
  unfolding items_text
  items-end h = let e : d - j ≡ 0 = omega arith in rw e

  items_more : j < d → items_text item n (d - j) (eqb j 0) (drop here slots)
      ≡ pick (eqb j 0) [] (ascii ", ") ++ (item (drop here slots) ++ items_text item n (d - (j + 1)) (eqb (j + 1) 0) (drop (here + n) slots))
  unfolding items_text
  items_more h =
      let e : d - j ≡ suc (d - (j + 1)) = omega arith in
      rw (e, ne_eqb (j + 1) 0 (λ z. omega arith), drop-drop n here slots)

  pub next-item : (l a b : Laid) (next : ℕ) → j < d → next ≡ here + n → a ≡ lay (pick (eqb j 0) [] (ascii ", ")) l → b ≡ lay (item (drop here slots)) a →
      lay (items_text item n (d - (j + 1)) (eqb (j + 1) 0) (drop next slots) ++ (93 ∷ [])) b ≡ lay (items_text item n (d - j) (eqb j 0) (drop here slots) ++ (93 ∷ [])) l
  next-item l a b next h e p q =
      rw (items_more h, e)
      (simp append_assoc
      (then-lay (pick (eqb j 0) [] (ascii ", ")) _ l a _ p (then-lay (item (drop here slots)) _ a b _ q refl)))

  pub close-items : (l b : Laid) → d ≤ j → b ≡ put 93 l → b ≡ lay (items_text item n (d - j) (eqb j 0) (drop here slots) ++ (93 ∷ [])) l
  close-items l b h p = rw (items-end h) (p ∙ sym (lay-one 93 l))

-- the last k of the dimensions
module _ (e : ElementType) (dims : List ℕ) (rank k : ℕ) where
  none_left : k ≡ 0 → rest dims rank (rank - k) ≡ []
  none_left h = rest_all dims rank (rank - k) (omega arith)

  pub size_none : k ≡ 0 → size (rest dims rank (rank - k)) ≡ 1
  size_none h = rw (none_left h)

  pub value-one : (slots : List ℕ) (slot : ℕ) (l : Laid) → k ≡ 0 → lay (literal_text e (get_or slots slot 0)) l ≡ lay (value_text e (rest dims rank (rank - k)) (drop slot slots)) l
  unfolding value_text
  value-one slots slot l h = rw (none_left h, get_or-drop slot slots 0 0, add-zero)

  module _ (p : (k ≡ 0 → ⊥)) (h : k ≤ rank) (l : rank ≤ length dims) where
    some_left : rest dims rank (rank - k) ≡ get_or dims (rank - k) 0 ∷ rest dims rank (rank - (k - 1))
    some_left =
        let q : 0 < k = omega arith in
        let n : rank - k + 1 ≡ rank - (k - 1) = omega arith in
        rest-cons dims rank (rank - k) (omega arith) l ∙ rw n

    pub first-left : (slot : ℕ) → slot + (get_or dims (rank - k) 0 - 0) * size (rest dims rank (rank - (k - 1))) ≡ slot + size (rest dims rank (rank - k))
    first-left slot = rw (sub-zero, ap size some_left)

    pub first-item : (slots : List ℕ) (m a : Laid) → a ≡ put 91 m →
        lay (items_text (λ s. value_text e (rest dims rank (rank - (k - 1))) s) (size (rest dims rank (rank - (k - 1)))) (get_or dims (rank - k) 0 - 0) (eqb 0 0) slots ++ (93 ∷ [])) a
        ≡ lay (value_text e (rest dims rank (rank - k)) slots) m
    unfolding value_text
    first-item slots m a q = rw (some_left, sub-zero) (then-put 91 _ m a _ q refl)

-- the sizes from dimension d on
module _ (dims : List ℕ) (d : ℕ) where
  pub shape-step : (l a b : Laid) → d < length dims → a ≡ lay (decimal (get_or dims d 0)) l → b ≡ put 120 a →
      lay (shape_text (drop (d + 1) dims)) b ≡ lay (shape_text (drop d dims)) l
  unfolding shape_text
  shape-step l a b h p q = rw (drop-cons dims d 0 h, add-one d) (then-lay (decimal (get_or dims d 0)) _ l a _ p (then-put 120 _ a b _ q refl))

  pub shape-end : (l : Laid) → length dims ≤ d → l ≡ lay (shape_text (drop d dims)) l
  unfolding shape_text lay
  shape-end l h = rw drop_of_length-le

-- all of the dimensions
module _ (e : ElementType) (dims : List ℕ) (rank : ℕ) where
  pub whole-size : size (rest dims rank (rank - rank)) ≡ size (take rank dims)
  whole-size = rw (sub_self rank)

  pub whole-value : (slots : List ℕ) (l : Laid) → lay (value_text e (rest dims rank (rank - rank)) (drop 0 slots)) l ≡ lay (value_text e (take rank dims) slots) l
  whole-value slots l = rw (sub_self rank)

-- a number by its sign
pub text-plain : (z : ℤ) → lt_z z (pos 0) ≡ false → number_text z ≡ decimal (nat_abs z)
unfolding number_text
text-plain (pos n) e = refl
text-plain (negsuc n) e = absurd (false≢true (sym e))

pub text-negative : (z : ℤ) → lt_z z (pos 0) ≡ true → number_text z ≡ 45 ∷ decimal (nat_abs z)
unfolding number_text
text-negative (pos n) e = absurd (let z : ⊥ = omega (arith, ltb-true n 0 e) in z)
text-negative (negsuc n) e = refl
