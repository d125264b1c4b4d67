-- The operands that an op's parts note are defined: the parts and the names are read from the same tokens, and an operand is noted outside the op's bodies.
-- Assumes nothing.
use mathlib.Core.Path.{◌≡◌, refl, sym, ap, subst, ◌∙◌}
use mathlib.Core.List.{List, [], ◌∷◌}
use mathlib.Core.Bool.{Bool, true, false}
use Prim.Native.Nat.{ℕ, ◌+◌, ◌*◌, ◌<◌, ◌≤◌}
use native.Mathlib.Omega.{arith}
use native.Mathlib.Decide.{dec_lt}
use lib.Dec.{eqb, ltb}
use lib.ListN.{length, get_or, set, length-set, length-replicate}
use lib.Seq.{get_or-set_other, get_or-set_same}
use borrow.Author.Tests.{eqb-true, eqb-false, ltb-true, ltb-false}
use Rattle.lists.specs.Lists.{pick, All}
use Rattle.scan.specs.Bytes.{among}
use Rattle.grammar.specs.Symbols.{FunctionName, InputName, InputType, OutputType, ResultName, OpName, FuncReturn, OperandName, OperandType, ResultType, BodyOpen, BodyLabel, ArgumentName, ArgumentType, BodyOpName, BodyReturn, AttributeName}
use Rattle.syntax.specs.Readings.{Reading}
use Rattle.program.specs.declared.Parts.{Parts}
use Rattle.program.specs.Parts.{part_of, no_parts, added_to, noted, depth_after, parts_from}
use Rattle.places.specs.Places.{operand_name}
use Rattle.scope.specs.Scope.{scope, turned, names_from}
use Rattle.values.specs.declared.Value.{Value}
use Rattle.scope_laws.proofs.OuterScopeLaw.{Unchanged}
use Rattle.scope_laws.proofs.DefinedLaw.{Bounded, Defined, Outside, turned-kept, between}

-- only an operand's name belongs to the part of operands
next : (b : Bool) (x r : ℕ) → (x ≡ operand_name → ⊥) → pick b x r ≡ operand_name → r ≡ operand_name
next true x r f e = absurd (f e)
next false x r f e = e

operand-part : (role : ℕ) → part_of role ≡ operand_name → role ≡ OperandName
unfolding part_of
operand-part role e =
    go (eqb role OperandName) refl
    (next (eqb role ResultName) 1 _ (λ q. omega arith) (next (among (OpName ∷ FuncReturn ∷ BodyOpName ∷ BodyReturn ∷ []) role) 0 _ (λ q. omega arith) e))
  where
    last : (a b c d f g h i : Bool) → pick a 3 (pick b 4 (pick c 5 (pick d 6 (pick f 7 (pick g 8 (pick h 9 (pick i 10 11))))))) ≡ operand_name → ⊥
    last a b c d f g h i e =
        let r = next h 9 (pick i 10 11) (λ q. omega arith) (next g 8 _ (λ q. omega arith) (next f 7 _ (λ q. omega arith) (next d 6 _ (λ q. omega arith)
        (next c 5 _ (λ q. omega arith) (next b 4 _ (λ q. omega arith) (next a 3 _ (λ q. omega arith) e)))))) in
        let z = next i 10 11 (λ q. omega arith) r in
        omega arith

    go : (b : Bool) → eqb role OperandName ≡ b → pick b 2 (pick (eqb role OperandType) 3 (pick (eqb role ResultType) 4 (pick (eqb role AttributeName) 5 (pick (eqb role BodyOpen) 6
        (pick (among (InputName ∷ ArgumentName ∷ []) role) 7 (pick (among (InputType ∷ ArgumentType ∷ []) role) 8 (pick (eqb role OutputType) 9 (pick (among (FunctionName ∷ BodyLabel ∷ []) role) 10 11))))))))
        ≡ operand_name → role ≡ OperandName
    go true q e = eqb-true role OperandName q
    go false q e = absurd (last (eqb role OperandType) (eqb role ResultType) (eqb role AttributeName) (eqb role BodyOpen) (among (InputName ∷ ArgumentName ∷ []) role) (among (InputType ∷ ArgumentType ∷ []) role) (eqb role OutputType) (among (FunctionName ∷ BodyLabel ∷ []) role) e)

module _ (text : List ℕ) (values : List Value) (n : ℕ) where
  -- of the operands noted so far each is defined
  pub record Noted (p : Parts) : Type 0 where
    pub parts : length p.count ≡ 11
    pub places : length p.at ≡ 88
    pub named : (j : ℕ) → j < 8 → j < get_or p.count operand_name 0 → Defined text values n (get_or p.at (8 * operand_name + j) 0)

  pub noted-none : Noted no_parts
  unfolding no_parts
  noted-none = record { parts = length-replicate {A = ℕ} 11 0; places = length-replicate {A = ℕ} 88 0; named = λ j h g. absurd (omega arith) }

  module _ (p : Parts) (f : Noted p) (k a : ℕ) (few : k < 11) (d : k ≡ operand_name → Defined text values n a) where
    other-count : (v : ℕ) → eqb k operand_name ≡ false → get_or (set p.count k v) operand_name 0 ≡ get_or p.count operand_name 0
    other-count v e = get_or-set_other p.count k operand_name v 0 (λ q. eqb-false k operand_name e (sym q))

    own-count : (v : ℕ) → k ≡ operand_name → get_or (set p.count k v) operand_name 0 ≡ v
    own-count v e =
        let z = f.parts in
        subst (λ (x : ℕ). get_or (set p.count x v) operand_name 0 ≡ v) (sym e) (get_or-set_same p.count operand_name v 0 (omega arith))

    apart : (m j : ℕ) → m < 8 → j < 8 → eqb k operand_name ≡ false → 8 * operand_name + j ≡ 8 * k + m → ⊥
    apart m j h g e q = go (dec_lt k operand_name) (eqb-false k operand_name e)
      where
        go : Dec (k < operand_name) → (k ≡ operand_name → ⊥) → ⊥
        go (yes w) u = omega arith
        go (no w) u = omega arith

    -- one token more, in a part that has room
    room : (m : ℕ) → get_or p.count k 0 ≡ m → m < 8 → Noted (record { count = set p.count k (m + 1); at = set p.at (8 * k + m) a })
    room m e h =
        record {
          parts = length-set p.count k (m + 1) ∙ f.parts;
          places = length-set p.at (8 * k + m) a ∙ f.places;
          named = λ j g i. by (eqb k operand_name) refl j g i;
        }
      where
        here : (j : ℕ) → k ≡ operand_name → j < 8 → j < m + 1 → Dec (j < m) → Defined text values n (get_or (set p.at (8 * k + m) a) (8 * operand_name + j) 0)
        here j q g i (yes w) =
            let o : get_or p.count operand_name 0 ≡ m = ap (λ (x : ℕ). get_or p.count x 0) (sym q) ∙ e in
            subst (λ (x : ℕ). Defined text values n x) (sym (get_or-set_other p.at (8 * k + m) (8 * operand_name + j) a 0 (λ u. omega arith))) (f.named j g (omega arith))
        here j q g i (no w) =
            let z = f.places in
            let u : 8 * operand_name + j ≡ 8 * k + m = omega arith in
            subst (λ (x : ℕ). Defined text values n (get_or (set p.at (8 * k + m) a) x 0)) (sym u)
            (subst (λ (x : ℕ). Defined text values n x) (sym (get_or-set_same p.at (8 * k + m) a 0 (omega arith))) (d q))

        by : (b : Bool) → eqb k operand_name ≡ b → (j : ℕ) → j < 8 → j < get_or (set p.count k (m + 1)) operand_name 0 →
            Defined text values n (get_or (set p.at (8 * k + m) a) (8 * operand_name + j) 0)
        by true q j g i = here j (eqb-true k operand_name q) g (rw (own-count (m + 1) (eqb-true k operand_name q)) at i) (dec_lt j m)
        by false q j g i =
            subst (λ (x : ℕ). Defined text values n x) (sym (get_or-set_other p.at (8 * k + m) (8 * operand_name + j) a 0 (apart m j h g q)))
            (f.named j g (rw (other-count (m + 1) q) at i))

    -- one token more, in a part that has eight
    full : 8 ≤ get_or p.count k 0 → Noted (record { count = set p.count k 9; at = p.at })
    full h = record { parts = length-set p.count k 9 ∙ f.parts; places = f.places; named = λ j g i. by (eqb k operand_name) refl j g i }
      where
        by : (b : Bool) → eqb k operand_name ≡ b → (j : ℕ) → j < 8 → j < get_or (set p.count k 9) operand_name 0 → Defined text values n (get_or p.at (8 * operand_name + j) 0)
        by true q j g i =
            let o : get_or p.count k 0 ≡ get_or p.count operand_name 0 = ap (λ (x : ℕ). get_or p.count x 0) (eqb-true k operand_name q) in
            f.named j g (omega arith)
        by false q j g i = f.named j g (rw (other-count 9 q) at i)

    added-noted : Noted (added_to p k a)
    unfolding added_to
    added-noted = go (ltb (get_or p.count k 0) 8) refl
      where
        go : (b : Bool) → ltb (get_or p.count k 0) 8 ≡ b →
            Noted (pick b (record { count = set p.count k (get_or p.count k 0 + 1); at = set p.at (8 * k + get_or p.count k 0) a }) (record { count = set p.count k 9; at = p.at }))
        go true q = room (get_or p.count k 0) refl (ltb-true (get_or p.count k 0) 8 q)
        go false q = full (ltb-false (get_or p.count k 0) 8 q)

  noted-next : (p : Parts) (role a : ℕ) → Noted p → (role ≡ OperandName → Defined text values n a) → Noted (noted p role a)
  unfolding noted
  noted-next p role a f d = go (ltb (part_of role) 11) refl
    where
      go : (b : Bool) → ltb (part_of role) 11 ≡ b → Noted (pick b (added_to p (part_of role) a) p)
      go true q = added-noted p f (part_of role) a (ltb-true (part_of role) 11 q) (λ e. d (operand-part role e))
      go false q = f

  -- both are read from the same tokens
  pub names-noted : (xs : List Reading) (before depth : ℕ) (es out : List ℕ) (p : Parts) → Unchanged before depth xs → All (λ x. x.token.start ≤ 65536) xs → Bounded es →
      Outside text values n depth es → Noted p → names_from text before es xs ≡ scope out → Noted (parts_from 0 p depth xs)
  unfolding names_from parts_from
  names-noted [] before depth es out p q s l o f e = f
  names-noted (x ∷ xs) before depth es out p q s l o f e =
      let b = between (turned text before x.role x.token.start es) (λ rest. names_from text x.role rest xs) out e in
      let k = turned-kept text values n depth before x.role x.token.start es b.mid s.0 l o q.0 b.first in
      names-noted xs x.role (depth_after depth x.role) b.mid out _ q.1 s.1 k.bounded k.outside (one (eqb depth 0) refl k.seen) b.then
    where
      one : (b : Bool) → eqb depth 0 ≡ b → (depth ≡ 0 → x.role ≡ OperandName → Defined text values n x.token.start) → Noted (pick b (noted p x.role x.token.start) p)
      one true w seen = noted-next p x.role x.token.start f (seen (eqb-true depth 0 w))
      one false w seen = f
