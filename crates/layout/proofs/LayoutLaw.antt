-- Values in a list of slots: what each reads, and how one more is written behind those before it.
-- Assumes nothing.
use mathlib.Core.Path.{◌≡◌, refl, sym, ap, ◌∙◌}
use mathlib.Core.List.{List, [], ◌∷◌, ◌++◌, append-nil, append_assoc}
use Prim.Native.Nat.{ℕ, zero, suc, ◌+◌, ◌≤◌, ◌<◌}
use native.Mathlib.Numerals.{add-one}
use native.Mathlib.Omega.{arith}
use lib.ListN.{length, take, drop, length-drop}
use lib.Seq.{length-take-le, take_at, drop_at, take-take, take-add}
use Rattle.lists.specs.Lists.{tab, concat}
use Rattle.lists.proofs.TabLaw.{tab-cong}
use Rattle.values.specs.declared.Values.{Values}
use Rattle.offsets.specs.Offsets.{size_at, offset_at}
use Rattle.offsets.proofs.OffsetsLaw.{offset-next, offset-le}
use Rattle.layout.specs.Layout.{value_in, tensors_in}

-- Lists -----------------------------------------------------------------------------------------------------------------

module _ {A : Type 0} where
  tab-last : (n : ℕ) (f : ℕ → A) → tab (suc n) f ≡ tab n f ++ f n ∷ []
  tab-last zero f = refl
  tab-last (suc n) f = ap (λ (l : List A). f zero ∷ l) (tab-last n (λ k. f (suc k)))

  concat-last : (xs : List (List A)) (x : List A) → concat (xs ++ x ∷ []) ≡ concat xs ++ x
  unfolding concat
  concat-last [] x = append-nil x
  concat-last (y ∷ xs) x = ap (λ (l : List A). y ++ l) (concat-last xs x) ∙ sym (append_assoc y (concat xs) x)

  -- what lies within the first n elements reads only them
  part-kept : (at m n : ℕ) (l : List A) → at + m ≤ n → take m (drop at (take n l)) ≡ take m (drop at l)
  part-kept zero m n l h = take-take m n l (omega arith)
  part-kept (suc at) m zero l h = absurd (omega arith)
  part-kept (suc at) m (suc n) [] h = refl
  part-kept (suc at) m (suc n) (x ∷ l) h = part-kept at m n l (omega arith)

-- Values ----------------------------------------------------------------------------------------------------------------

module _ (vs : Values) where
  -- the tensors of the first n values, one after the other, are the slots before value n
  pub tensors-concat : (slots : List ℕ) (n : ℕ) → offset_at vs n ≤ length slots → concat (tensors_in vs slots n) ≡ take (offset_at vs n) slots
  unfolding concat offset_at
  tensors-concat slots zero h = refl
  tensors-concat slots (suc n) h =
      ap concat (tab-last n (value_in vs slots)) ∙ concat-last (tensors_in vs slots n) (value_in vs slots n)
      ∙ ap (λ (l : List ℕ). l ++ value_in vs slots n) (tensors-concat slots n (omega arith)) ∙ sym (take-add (offset_at vs n) (size_at vs n) slots)

  -- values before n read only the slots before value n
  pub value-kept : (a b : List ℕ) (n i : ℕ) → i < n → take (offset_at vs n) a ≡ take (offset_at vs n) b → value_in vs a i ≡ value_in vs b i
  value-kept a b n i h e =
      let within : offset_at vs i + size_at vs i ≤ offset_at vs n = omega (arith, offset-next vs i, offset-le vs (i + 1) n (omega arith)) in
      sym (part-kept (offset_at vs i) (size_at vs i) (offset_at vs n) a within) ∙ ap (λ (l : List ℕ). value_in vs l i) e
      ∙ part-kept (offset_at vs i) (size_at vs i) (offset_at vs n) b within

  pub tensors-kept : (a b : List ℕ) (n : ℕ) → take (offset_at vs n) a ≡ take (offset_at vs n) b → tensors_in vs a n ≡ tensors_in vs b n
  tensors-kept a b n e = tab-cong n (value_in vs a) (value_in vs b) (λ i h. value-kept a b n i h e)

  -- value n, written behind the values before it
  pub value_written : (front v rest : List ℕ) (n : ℕ) → length front ≡ offset_at vs n → length v ≡ size_at vs n → value_in vs (front ++ (v ++ rest)) n ≡ v
  value_written front v rest n e s =
      ap (λ (l : List ℕ). take (size_at vs n) l) (drop_at front (v ++ rest) (offset_at vs n) e) ∙ take_at v rest (size_at vs n) s

  -- with it there is one tensor more
  pub tensors-next : (front v rest other : List ℕ) (n : ℕ) → length front ≡ offset_at vs n → length v ≡ size_at vs n → take (offset_at vs n) other ≡ front →
      tensors_in vs (front ++ (v ++ rest)) (n + 1) ≡ tensors_in vs other n ++ v ∷ []
  tensors-next front v rest other n e s o =
      let slots = front ++ (v ++ rest) in
      ap (λ (k : ℕ). tensors_in vs slots k) (add-one n) ∙ tab-last n (value_in vs slots)
      ∙ ap (λ (l : List (List ℕ)). l ++ value_in vs slots n ∷ []) (tensors-kept slots other n (take_at front (v ++ rest) (offset_at vs n) e ∙ sym o))
      ∙ ap (λ (l : List ℕ). tensors_in vs other n ++ l ∷ []) (value_written front v rest n e s)

  pub length-value : (slots : List ℕ) (i : ℕ) → offset_at vs i + size_at vs i ≤ length slots → length (value_in vs slots i) ≡ size_at vs i
  length-value slots i h = length-take-le (size_at vs i) (drop (offset_at vs i) slots) (omega (arith, length-drop (offset_at vs i) slots))
