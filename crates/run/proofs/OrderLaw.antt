-- Runs of one program in any two orders end alike, over any set of ops.
-- Assumes nothing.
use mathlib.Core.Path.{◌≡◌, refl, ◌∙◌, subst}
use mathlib.Core.List.{List, [], map, append-nil}
use mathlib.Core.Option.{Option, none, some}
use mathlib.Core.Logic.{inl, inr}
use Prim.Native.Nat.{ℕ, ◌+◌, ◌-◌, ◌≤◌, ◌<◌}
use native.Mathlib.Omega.{arith}
use native.Mathlib.Decide.{dec_lt}
use lib.ListN.{length, get_or}
use Rattle.lists.specs.Lists.{All}
use Rattle.run.specs.Tree.{count_from}
use Rattle.run.specs.Run.{Language, Step, Answer, results, stopped, values_at, evaluate, ended}
use Rattle.run.specs.Run.{read_all, first_table, run, Order, Scoped, Claim}
use Rattle.run.proofs.TableLaw.{There, TableFits, spend}
use Rattle.run.proofs.RunLaw.{Under, Lawful, Agrees, Moving, Found, found, follows, moves}
use Rattle.run.proofs.TextLaw.{length₀, under₀, text-order, EndsAs, by_meaning, in-text, read-values, results-length}

-- The theorem over any set of ops ----------------------------------------------------------------------------------------

module _
    (L : Language) (ops : List L.Op) (inputs : List L.Value) (Fits : ℕ → L.Value → Type 0) (law : Lawful L (length inputs) ops Fits)
    (inputs-fit : TableFits Fits (first_table inputs (length ops)))
  where
    -- a run that ended: every value is there and fits its place, and the budget paid for them
    pub record Ending (e : List (Option L.Value)) (b : ℕ) : Type 0 where
      pub fit : TableFits Fits e
      pub paid : spend L.turns e ≤ spend L.turns (first_table inputs (length ops)) + b
      pub full : (i : ℕ) → i < length e → There e i
      pub sized : length e ≡ length inputs + length ops

    pub ending : (step : ℕ → Step L) → Agrees L ops Fits step → (order : List ℕ) → Order L (length inputs) ops order
        → (b : ℕ) (e : List (Option L.Value)) → run L (length inputs) ops step order (first_table inputs (length ops)) b ≡ ended e → Ending e b
    ending step ag order or b e r =
        let u = under₀ L ops inputs order or in
        let f = found L (length inputs) ops Fits law step ag order (count_from 0 (length inputs)) [] (first_table inputs (length ops)) e b u inputs-fit r in
        record { fit = f.fit; paid = f.paid; full = λ i h. at u f i h (dec_lt i (length inputs)); sized = f.same_size ∙ length₀ L ops inputs }
      where
        at : Under L (length inputs) ops order (count_from 0 (length inputs)) [] (first_table inputs (length ops))
            → Found L (length inputs) ops Fits law order (first_table inputs (length ops)) e b → (i : ℕ) → i < length e → Dec (i < length inputs) → There e i
        at u f i h (yes p) = let t = u.input-there i p in (t.0, f.within i t.0 t.1)
        at u f i h (no p) =
            let k : ℕ = i - length inputs in
            let m = f.made_all k (omega (arith, or.each-once k (omega (arith, f.same_size, length₀ L ops inputs)))) in
            let q : length inputs + k ≡ i = omega arith in
            (m.value, subst (λ (j : ℕ). get_or e j none ≡ some m.value) q m.held)

    -- two runs of one program, whatever the orders and the ways to run its ops: if one ends, so does the other, with the same table, if it has
    -- the budget that the values take
    pub alike : (step step' : ℕ → Step L) → Agrees L ops Fits step → Agrees L ops Fits step'
        → (order order' : List ℕ) → Order L (length inputs) ops order → Order L (length inputs) ops order'
        → (b c : ℕ) (e : List (Option L.Value))
        → run L (length inputs) ops step order (first_table inputs (length ops)) b ≡ ended e
        → spend L.turns e ≤ spend L.turns (first_table inputs (length ops)) + c
        → run L (length inputs) ops step' order' (first_table inputs (length ops)) c ≡ ended e
    alike step step' ag ag' order order' or or' b c e r paid =
        let u = under₀ L ops inputs order or in
        let u' = under₀ L ops inputs order' or' in
        let f = found L (length inputs) ops Fits law step ag order (count_from 0 (length inputs)) [] (first_table inputs (length ops)) e b u inputs-fit r in
        follows L (length inputs) ops Fits law step' ag' order' (count_from 0 (length inputs)) [] (first_table inputs (length ops)) e c u'
        f.within f.fit (λ k h. f.made_all k (omega (arith, or.each-once k h))) paid f.same_size

    pub order-independent : Scoped L (length inputs) ops → (returns : List ℕ) → All (λ i. i < length inputs + length ops) returns
        → (step : ℕ → Step L) → Agrees L ops Fits step
        → (order : List ℕ) → Order L (length inputs) ops order
        → (b : ℕ) → Claim L returns (evaluate L ops inputs b) (run L (length inputs) ops step order (first_table inputs (length ops)) b)
    order-independent sc returns returned step ag order or b = go (evaluate L ops inputs b) refl (in-text L (length inputs) [] ops inputs b (omega arith) sc)
      where
        text : Order L (length inputs) ops (count_from 0 (length ops))
        text = text-order L (length inputs) ops sc

        own : Agrees L ops Fits (by_meaning L)
        own k o p args f b v = (λ h. h, λ h. h)

        t₀ : List (Option L.Value)
        t₀ = first_table inputs (length ops)

        named : (vs : List L.Value) → length vs ≡ length inputs + length ops → read_all (map some vs) returns ≡ some (values_at L vs returns)
        named vs n = rw append-nil at (read-values L vs [] returns (rw (← n) at returned))

        go : (a : Answer L.Value L.Stop) → evaluate L ops inputs b ≡ a
            → EndsAs a (run L (length inputs) ops (by_meaning L) (count_from 0 (length ops)) t₀ b)
            → Claim L returns a (run L (length inputs) ops step order t₀ b)
        go (results vs) e r =
            let same = alike (by_meaning L) step own ag (count_from 0 (length ops)) order text or b b (map some vs) r
            (ending (by_meaning L) own (count_from 0 (length ops)) text b (map some vs) r).paid in
            (same, rw same (named vs (results-length L 0 ops inputs vs b e)))
        go (stopped vs k w) e (n, r) =
            stops-too (moves L (length inputs) ops Fits law step ag order (count_from 0 (length inputs)) [] t₀ b (under₀ L ops inputs order or))
          where
            stops-too : Moving (run L (length inputs) ops step order t₀ b) → Claim L returns (stopped vs k w) (run L (length inputs) ops step order t₀ b)
            stops-too (inl (x, q)) =
                let back = alike step (by_meaning L) ag own order (count_from 0 (length ops)) or text b b x q (ending step ag order or b x q).paid in
                absurd (let y : ◌≡◌ {A = ℕ} 0 1 = cc in omega arith)
            stops-too (inr h) = h

-- the same, where the inputs are m
pub order-independent-at : (L : Language) (ops : List L.Op) (inputs : List L.Value) (Fits : ℕ → L.Value → Type 0)
    → TableFits Fits (first_table inputs (length ops)) → (m : ℕ) → length inputs ≡ m → Lawful L m ops Fits → Scoped L m ops
    → (returns : List ℕ) → All (λ i. i < m + length ops) returns
    → (step : ℕ → Step L) → Agrees L ops Fits step
    → (order : List ℕ) → Order L m ops order
    → (b : ℕ) → Claim L returns (evaluate L ops inputs b) (run L m ops step order (first_table inputs (length ops)) b)
order-independent-at L ops inputs Fits inf m e =
    subst (λ (m : ℕ). Lawful L m ops Fits → Scoped L m ops → (returns : List ℕ) → All (λ i. i < m + length ops) returns
    → (step : ℕ → Step L) → Agrees L ops Fits step → (order : List ℕ) → Order L m ops order
    → (b : ℕ) → Claim L returns (evaluate L ops inputs b) (run L m ops step order (first_table inputs (length ops)) b))
    e (λ law. order-independent L ops inputs Fits law inf)
