-- Turns of the loop that searches bytes among the names; the part of a text that is searched.
-- Assumes nothing.
use mathlib.Core.Path.{◌≡◌, refl, sym, ap, ◌∙◌}
use mathlib.Core.Bool.{Bool, true, false}
use mathlib.Core.List.{List, []}
use Prim.Native.Nat.{ℕ, suc, ◌+◌, ◌-◌, ◌≤◌, ◌<◌, min}
use native.Mathlib.Nat.{min-eq_left, min-eq_right}
use native.Mathlib.Decide.{dec_le}
use native.Mathlib.Omega.{arith}
use lib.Dec.{eqb}
use lib.ListN.{length, get_or, take, drop, length-take, length-drop}
use lib.Pointwise.{pointwise}
use lib.Seq.{get_or-take, get_or-drop, take_all}
use Rattle.lists.specs.Lists.{pick}
use Rattle.optable.specs.Table.{names}
use Rattle.optable.specs.Find.{same, name_place, stretch}
use Rattle.optable.proofs.SameLaw.{pointwise-same, place-step, place_end}

module _ (bytes : List ℕ) (first count : ℕ) (fits : first + count ≤ length names) where
  part_length : length (take count (drop first names)) ≡ count
  part_length = simp (length-take, length-drop) (omega arith)

  part-name : (k : ℕ) → k < count → get_or (take count (drop first names)) k [] ≡ get_or names (first + k) []
  part-name k h = get_or-take count (drop first names) k [] h ∙ get_or-drop first names k []

  module _ (k : ℕ) (passed : k + name_place (drop k (take count (drop first names))) bytes ≡ name_place (take count (drop first names)) bytes) where
    module _ (h : k < count) (n : List ℕ) (e : n ≡ get_or names (first + k) []) (b : Bool) (q : b ≡ pointwise eqb n bytes) where
      here : name_place (drop k (take count (drop first names))) bytes ≡ pick b 0 (suc (name_place (drop (k + 1) (take count (drop first names))) bytes))
      here =
          place-step (take count (drop first names)) bytes k (rw part_length h)
          ∙ ap (λ (t : Bool). pick t 0 (suc (name_place (drop (k + 1) (take count (drop first names))) bytes)))
          (ap (λ (n : List ℕ). same n bytes) (part-name k h ∙ sym e) ∙ sym (q ∙ pointwise-same n bytes))

      pub name-here : b ≡ true → k ≡ name_place (take count (drop first names)) bytes
      name-here t = let z : name_place (drop k (take count (drop first names))) bytes ≡ 0 = here ∙ rw t refl in omega arith

      pub name-next : b ≡ false → k + 1 + name_place (drop (k + 1) (take count (drop first names))) bytes ≡ name_place (take count (drop first names)) bytes
      name-next t =
          let z : name_place (drop k (take count (drop first names))) bytes ≡ suc (name_place (drop (k + 1) (take count (drop first names))) bytes) = here ∙ rw t refl in
          omega arith

    pub name-none : count ≤ k → k ≤ count → count ≡ name_place (take count (drop first names)) bytes
    name-none h g =
        let z : name_place (drop k (take count (drop first names))) bytes ≡ 0 = place_end _ bytes k (rw part_length h) in
        omega arith

-- a stretch goes no further than the text
stretch-end : (text : List ℕ) (start end : ℕ) → take (min end (length text) - start) (drop start text) ≡ stretch text start end
stretch-end text start end = by_order (dec_le end (length text))
  where
    long : length (drop start text) ≤ length text - start
    long = rw (length-drop start text) (omega arith)

    by_order : Dec (end ≤ length text) → take (min end (length text) - start) (drop start text) ≡ stretch text start end
    by_order (yes h) = rw (min-eq_left h)
    by_order (no h) =
        let g : length text ≤ end = omega arith in
        let l = long in
        rw (min-eq_right g) (take_all (length text - start) (drop start text) l ∙ sym (take_all (end - start) (drop start text) (omega arith)))

module _ (text : List ℕ) (start end stop : ℕ) (e : stop ≡ min end (length text)) where
  -- and is empty where it starts behind its end
  pub stretch-stop : take (stop - min start stop) (drop (min start stop) text) ≡ stretch text start end
  stretch-stop = by_order (dec_le start stop)
    where
      by_order : Dec (start ≤ stop) → take (stop - min start stop) (drop (min start stop) text) ≡ stretch text start end
      by_order (yes h) = rw (min-eq_left h, e) (stretch-end text start end)
      by_order (no h) =
          let g : stop ≤ start = omega arith in
          let a : stop - min start stop ≡ 0 = rw (min-eq_right g) (omega arith) in
          let b : 0 ≡ min end (length text) - start = omega arith in
          ap (λ (n : ℕ). take n (drop (min start stop) text)) a ∙ ap (λ (n : ℕ). take n (drop start text)) b ∙ stretch-end text start end
