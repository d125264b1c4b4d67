-- Laws of runs, of starting words and of white space, as the loops use them.
-- Assumes nothing.
use mathlib.Core.Path.{◌≡◌, refl, sym, ap, ◌∙◌}
use mathlib.Core.Bool.{Bool, true, false, not, ◌&&◌, ◌||◌}
use mathlib.Core.List.{List, [], ◌∷◌}
use Prim.Native.Nat.{ℕ, suc, max, ◌+◌, ◌-◌, ◌<◌, ◌≤◌}
use native.Mathlib.Omega.{arith}
use native.Mathlib.Numerals.{add-one}
use native.Mathlib.Decide.{dec_lt}
use lib.Pointwise.{pointwise}
use lib.ListN.{length, get_or, take, drop, drop_of_length-le, length-drop, get_or-eq_default}
use lib.Dec.{eqb}
use lib.Seq.{drop-cons, drop-drop}
use borrow.Author.Tests.{eq-eqb, ne_eqb}
use Rattle.lists.specs.Lists.{pick}
use Rattle.scan.specs.Ascii.{ascii}
use Rattle.scan.specs.Bytes.{byte_at, is_space, in_run, run_from, run_end, starts_with, in_comment, skip_from}

pub or-false : (b : Bool) → (b || false) ≡ b
or-false true = refl
or-false false = refl

-- a place whose byte passes a test that 0 fails is in the text
pub test-inside : (t : ℕ → Bool) (text : List ℕ) (at : ℕ) → t 0 ≡ false → t (byte_at text at) ≡ true → at < length text
test-inside t text at n e = by_place (dec_lt at (length text))
  where
    by_place : Dec (at < length text) → at < length text
    by_place (yes p) = p
    by_place (no p) =
        let z : byte_at text at ≡ 0 = get_or-eq_default text 0 (omega arith) in
        let f : t (byte_at text at) ≡ false = rw z n in
        let one : ◌≡◌ {A = ℕ} 0 1 = cc in
        absurd (omega arith)

-- so is the place of a byte r that is b, which is not 0
pub byte_inside : {r b : ℕ} (text : List ℕ) (at : ℕ) → r ≡ byte_at text at → r ≡ b → 0 < b → at < length text
byte_inside {r} {b} text at e q h =
    test-inside (λ x. eqb x b) text at (ne_eqb 0 b (omega arith)) (eq-eqb (byte_at text at) b (sym e ∙ q))

-- the rest of the text from a place on, from its byte k on
pub tail-drop : (k at : ℕ) (text : List ℕ) {items : List ℕ} → items ≡ drop at text → drop k items ≡ drop (at + k) text
tail-drop k at text e = rw e (drop-drop k at text)

-- its end
pub tail-end : (k at : ℕ) (text items : List ℕ) → items ≡ drop at text → k ≤ length items → length items ≤ k → at + k ≡ max at (length text)
tail-end k at text items e h g = let n : length items ≡ length text - at = ap length e ∙ length-drop at text in omega arith

-- after k bytes of the list, whose first has place at
module _ (letters : Bool) (xs : List ℕ) (at k : ℕ) where
  pub run-step : k < length xs → run_from letters (at + k) (drop k xs) ≡
      pick (in_run letters (get_or xs k 0)) (run_from letters (at + (k + 1)) (drop (k + 1) xs)) (at + k)
  unfolding run_from
  run-step h = let e : at + (k + 1) ≡ suc (at + k) = omega arith in rw (e, add-one k, drop-cons xs k 0)

  pub run_past : length xs ≤ k → run_from letters (at + k) (drop k xs) ≡ at + k
  unfolding run_from
  run_past h = rw drop_of_length-le

pub run_more : (letters : Bool) (text : List ℕ) (at : ℕ) → at < length text → in_run letters (get_or text at 0) ≡ true → run_end letters text (at + 1) ≡ run_end letters text at
unfolding run_end run_from
run_more letters text at h p = rw (add-one, drop-cons text at 0, p)

pub starts_none : (ws s : List ℕ) (k : ℕ) → length ws ≤ k → starts_with (drop k ws) s ≡ true
unfolding starts_with
starts_none ws s k h = rw drop_of_length-le

module _ (ws s : List ℕ) (k i : ℕ) where
  pub starts-end : k < length ws → length s ≤ i → starts_with (drop k ws) (drop i s) ≡ false
  unfolding starts_with
  starts-end h g = rw (drop-cons ws k 0, drop_of_length-le s g)

  pub starts_more : k < length ws → i < length s → get_or ws k 0 ≡ get_or s i 0
      → starts_with (drop (k + 1) ws) (drop (i + 1) s) ≡ starts_with (drop k ws) (drop i s)
  unfolding starts_with
  starts_more h g e = rw (add-one, add-one, drop-cons ws k 0, drop-cons s i 0, eq-eqb _ _ e)

  pub starts-not : k < length ws → i < length s → (get_or ws k 0 ≡ get_or s i 0 → ⊥) → starts_with (drop k ws) (drop i s) ≡ false
  unfolding starts_with
  starts-not h g e = rw (drop-cons ws k 0, drop-cons s i 0, ne_eqb _ _ e)

-- `starts_with` of slices
pub starts-same : (ws s : List ℕ) → pointwise eqb ws (take (length ws) s) ≡ starts_with ws s
unfolding starts_with
starts-same [] s = refl
starts-same (w ∷ ws) [] = refl
starts-same (w ∷ ws) (b ∷ bs) = ap (λ (t : Bool). eqb w b && t) (starts-same ws bs)

-- a word that stands somewhere stands in the text
starts-fits : (ws s : List ℕ) → starts_with ws s ≡ true → length ws ≤ length s
unfolding starts_with
starts-fits [] s e = omega arith
starts-fits (w ∷ ws) [] e = let z : ◌≡◌ {A = ℕ} 0 1 = cc in absurd (omega arith)
starts-fits (w ∷ ws) (b ∷ bs) e = let h = starts-fits ws bs (second (eqb w b) e) in omega arith
  where
    second : (t : Bool) {u : Bool} → (t && u) ≡ true → u ≡ true
    second true q = q
    second false q = let z : ◌≡◌ {A = ℕ} 0 1 = cc in absurd (omega arith)

pub starts-inside : (ws text : List ℕ) (at : ℕ) → starts_with ws (drop at text) ≡ true → length ws ≤ length text - at
starts-inside ws text at e = let h = starts-fits ws (drop at text) e in rw length-drop at h

-- a space begins no comment
pub space-no-comment : (xs : List ℕ) (k : ℕ) → k < length xs → is_space (get_or xs k 0) ≡ true → starts_with (ascii "//") (drop k xs) ≡ false
unfolding starts_with is_space
space-no-comment xs k h e = rw (drop-cons xs k 0, ne_eqb 47 (get_or xs k 0) no_slash)
  where
    no_slash : 47 ≡ get_or xs k 0 → ⊥
    no_slash q =
        let f : is_space (get_or xs k 0) ≡ false = rw (← q) refl in
        let one : ◌≡◌ {A = ℕ} 0 1 = cc in
        absurd (omega arith)

-- after k bytes of the list, whose first has place at
module _ (xs : List ℕ) (at k : ℕ) (begun : Bool) where
  pub skip_step : k < length xs → skip_from begun (at + k) (drop k xs) ≡
      (let comment = in_comment begun (drop k xs) in
      pick (comment || is_space (get_or xs k 0)) (skip_from (pick begun (not (eqb (get_or xs k 0) 10)) comment) (at + (k + 1)) (drop (k + 1) xs)) (at + k))
  unfolding skip_from
  skip_step h = let e : at + (k + 1) ≡ suc (at + k) = omega arith in rw (e, add-one k, drop-cons xs k 0)

  pub skip-past : length xs ≤ k → skip_from begun (at + k) (drop k xs) ≡ at + k
  unfolding skip_from
  skip-past h = rw drop_of_length-le
