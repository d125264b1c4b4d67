-- Where the names of an op are not refused, the names of its results are new: none is the name of a value defined before it (01, refusal 6: "value name defined
-- twice"). A fault is refusal 5 or 6.
-- Assumes nothing.
use mathlib.Core.Path.{◌≡◌, refl, sym, ap, subst, ◌∙◌}
use mathlib.Core.List.{List, [], ◌∷◌, ◌++◌, map}
use mathlib.Core.Bool.{Bool, true, false, ◌&&◌, ◌||◌}
use Prim.Native.Nat.{ℕ, zero, suc, ◌<◌, ◌≤◌}
use native.Mathlib.Omega.{arith}
use native.Mathlib.Decide.{ℕ_discrete}
use lib.Dec.{eqb}
use lib.ListN.{length, get_or}
use borrow.Author.Tests.{eqb-true, eq-eqb, le-ltb}
use Rattle.lists.specs.Lists.{pick, All}
use Rattle.scan.specs.Bytes.{among}
use Rattle.grammar.specs.Symbols.{FunctionName, InputName, InputType, OutputType, ResultName, OpName, FuncReturn, OperandName, OperandType, ResultType, BodyOpen, BodyLabel, ArgumentName, ArgumentType, BodyOpName, BodyReturn, BodyClose, AttributeName, Op}
use Rattle.syntax.specs.Readings.{Reading, readings_of}
use Rattle.syntax.specs.OpsAlone.{OpAlone}
use Rattle.program.specs.Parts.{part_of, no_parts, depth_after, parts_of, parts_at, op_at}
use Rattle.program.specs.Program.{names_op}
use Rattle.places.specs.Places.{result_name, count_of, place_of}
use Rattle.values.specs.declared.Value.{Value}
use Rattle.values.specs.Values.{no_value}
use Rattle.scope.specs.Scope.{same_at, ends}
use Rattle.known.specs.Known.{known_names}
use Rattle.reading_laws.proofs.CountLaw.{wide-none, none-counted}
use Rattle.part_laws.proofs.StandLaw.{Level, parts-every}
use Rattle.names.specs.Names.{Entry, defined, opened, pending, Checked, entries, refused, then_checked, checked_fault, defines_name, is_visible, use_name, define_name, settled, on_token, token_checked, names_read, op_names_read, op_names_fault, names_defined}
use Rattle.names.specs.InOrder.{own_places, body_readings, names_used, first_fault, operands_body_result}
use Rattle.names.proofs.OrderLaw.{op-read-in-order}

-- ---- a fault is refusal 5 or 6

abbrev Numbered : Checked → Type 0
Numbered (entries es) = Unit {0}
Numbered (refused n a) = among (5 ∷ 6 ∷ []) n ≡ true

then-numbered : (c : Checked) (f : List Entry → Checked) → Numbered c → ((es : List Entry) → Numbered (f es)) → Numbered (then_checked c f)
then-numbered (entries es) f n g = g es
then-numbered (refused m a) f n g = n

pick-numbered : (b : Bool) (c d : Checked) → Numbered c → Numbered d → Numbered (pick b c d)
pick-numbered true c d n m = n
pick-numbered false c d n m = m

module _ (text : List ℕ) where
  define-numbered : (a : ℕ) (es : List Entry) → Numbered (define_name text a es)
  unfolding define_name
  define-numbered a es = pick-numbered (is_visible text a es) (refused 6 a) (entries (defined a ∷ es)) refl tt

  use-numbered : (a : ℕ) (es : List Entry) → Numbered (use_name text a es)
  unfolding use_name
  use-numbered a es = pick-numbered (is_visible text a es) (entries es) (refused 5 a) tt refl

  settled-numbered : (es : List Entry) → Numbered (settled text es)
  unfolding settled
  settled-numbered [] = tt
  settled-numbered (defined a ∷ es) = tt
  settled-numbered (opened ∷ es) = tt
  settled-numbered (pending a ∷ es) = then-numbered (settled text es) (define_name text a) (settled-numbered es) (define-numbered a)

  on-numbered : (role a : ℕ) (es : List Entry) → Numbered (on_token text role a es)
  unfolding on_token
  on-numbered role a es =
      pick-numbered (among (InputName ∷ ArgumentName ∷ []) role) (define_name text a es) _ (define-numbered a es)
      (pick-numbered (eqb role ResultName) _ _ tt
      (pick-numbered (eqb role OperandName) (use_name text a es) _ (use-numbered a es)
      (pick-numbered (eqb role BodyOpen) _ _ tt (pick-numbered (eqb role BodyClose) _ _ tt tt))))

  token-numbered : (before role a : ℕ) (es : List Entry) → Numbered (token_checked text before role a es)
  unfolding token_checked
  token-numbered before role a es =
      pick-numbered (ends before role) (then_checked (settled text es) (on_token text role a)) (on_token text role a es)
      (then-numbered (settled text es) (on_token text role a) (settled-numbered es) (on-numbered role a)) (on-numbered role a es)

  read-numbered : (before : ℕ) (es : List Entry) (xs : List Reading) → Numbered (names_read text before es xs)
  unfolding names_read
  read-numbered before es [] = tt
  read-numbered before es (x ∷ xs) =
      then-numbered (token_checked text before x.role x.token.start es) (λ rest. names_read text x.role rest xs) (token-numbered before x.role x.token.start es)
      (λ rest. read-numbered x.role rest xs)

  op-numbered : (at : ℕ) (known : List ℕ) → Numbered (op_names_read text at known)
  unfolding op_names_read
  op-numbered at known =
      then-numbered (names_read text 0 (map defined known) (readings_of Op text at)) (settled text) (read-numbered 0 (map defined known) (readings_of Op text at)) settled-numbered

-- no fault: the entries
pub record Unrefused (c : Checked) : Type 0 where
  pub out : List Entry
  pub is : c ≡ entries out

unrefused : (c : Checked) → Numbered c → (checked_fault c).refusal ≡ 0 → Unrefused c
unfolding checked_fault
unrefused (entries es) n e = record { out = es; is = refl }
unrefused (refused m a) n e =
    let z : true ≡ false = sym n ∙ ap (among (5 ∷ 6 ∷ [])) e in
    let w : ◌≡◌ {A = ℕ} 0 1 = cc in absurd (omega arith)

pub op-unrefused : (text : List ℕ) (at : ℕ) (known : List ℕ) → (op_names_fault text at known).refusal ≡ 0 → Unrefused (op_names_read text at known)
unfolding op_names_fault
op-unrefused text at known e = unrefused (op_names_read text at known) (op-numbered text at known) e

-- ---- what passes after the other

record Between (c : Checked) (f : List Entry → Checked) (out : List Entry) : Type 0 where
  mid : List Entry
  first : c ≡ entries mid
  then : f mid ≡ entries out

between : (c : Checked) (f : List Entry → Checked) (out : List Entry) → then_checked c f ≡ entries out → Between c f out
between (entries es) f out e = record { mid = es; first = refl; then = e }
between (refused m a) f out e = let z : ◌≡◌ {A = ℕ} 0 1 = cc in absurd (omega arith)

-- a name that is defined is new
new-name : (text : List ℕ) (a : ℕ) (es out : List Entry) → define_name text a es ≡ entries out → (is_visible text a es ≡ false) × (out ≡ defined a ∷ es)
unfolding define_name
new-name text a es out e = go (is_visible text a es) refl e
  where
    go : (b : Bool) → is_visible text a es ≡ b → pick b (refused 6 a) (entries (defined a ∷ es)) ≡ entries out → (is_visible text a es ≡ false) × (out ≡ defined a ∷ es)
    go true v q = let z : ◌≡◌ {A = ℕ} 0 1 = cc in absurd (omega arith)
    go false v q = let z : defined a ∷ es ≡ out = cc in (v, sym z)

or_right : (a b : Bool) → a || b ≡ false → b ≡ false
or_right true b e = let z : ◌≡◌ {A = ℕ} 0 1 = cc in absurd (omega arith)
or_right false b e = e

or_left : (a b : Bool) → a || b ≡ false → a ≡ false
or_left true b e = e
or_left false b e = refl

module _ (text : List ℕ) where
  fewer : (x : Entry) (es : List Entry) (places : List ℕ) → All (λ a. is_visible text a (x ∷ es) ≡ false) places → All (λ a. is_visible text a es ≡ false) places
  unfolding is_visible
  fewer x es [] l = tt
  fewer x es (a ∷ places) l = (or_right (defines_name text a x) (is_visible text a es) l.0, fewer x es places l.1)

  all_new : (places : List ℕ) (es out : List Entry) → names_defined text es places ≡ entries out → All (λ a. is_visible text a es ≡ false) places
  unfolding names_defined
  all_new [] es out e = tt
  all_new (a ∷ places) es out e =
      let b = between (define_name text a es) (λ rest. names_defined text rest places) out e in
      let n = new-name text a es b.mid b.first in
      let m = subst (λ (l : List Entry). names_defined text l places ≡ entries out) n.1 b.then in
      (n.0, fewer (defined a) es places (all_new places (defined a ∷ es) out m))

  results-new : (xs : List Reading) (known : List ℕ) (out : List Entry) → operands_body_result text xs known ≡ entries out →
      All (λ a. is_visible text a (map defined known) ≡ false) (own_places ResultName 0 xs)
  unfolding operands_body_result
  results-new xs known out e =
      let base = map defined known in
      let last = names_defined text (map defined known) (own_places ResultName 0 xs) in
      let bodies = names_read text 0 (map defined known) (body_readings 0 xs) in
      let b = between (names_used text (map defined known) (own_places OperandName 0 xs)) (λ _. first_fault bodies last) out e in
      let c = between bodies (λ _. last) out b.then in
      all_new (own_places ResultName 0 xs) (map defined known) out c.then

  -- a name that is not visible among those of the first n values is none of them
  pub hidden-known : (values : List Value) (a n i : ℕ) → i < n → is_visible text a (map defined (known_names values n)) ≡ false → same_at text (get_or values i no_value).name a ≡ false
  unfolding is_visible defines_name known_names
  hidden-known values a zero i h e = absurd (omega arith)
  hidden-known values a (suc n) i h e = go (ℕ_discrete i n) (λ l f. hidden-known values a n i l f)
    where
      named : Bool
      named = same_at text (get_or values n no_value).name a

      go : Dec (i ≡ n) → (i < n → is_visible text a (map defined (known_names values n)) ≡ false → same_at text (get_or values i no_value).name a ≡ false) →
          same_at text (get_or values i no_value).name a ≡ false
      go (yes q) ih = ap (λ (m : ℕ). same_at text (get_or values m no_value).name a) q ∙ or_left named _ e
      go (no q) ih = ih (omega arith) (or_right named _ e)

-- ---- the results that an op's parts note

-- only a result's name belongs to the part of results
skip : (b : Bool) (x r : ℕ) → (x ≡ result_name → ⊥) → pick b x r ≡ result_name → r ≡ result_name
skip true x r f e = absurd (f e)
skip false x r f e = e

result-part : (role : ℕ) → part_of role ≡ result_name → role ≡ ResultName
unfolding part_of
result-part role e = go (eqb role ResultName) refl (skip (among (OpName ∷ FuncReturn ∷ BodyOpName ∷ BodyReturn ∷ []) role) 0 _ (λ q. omega arith) e)
  where
    last : (z a b c d f g h i : Bool) → pick z 2 (pick a 3 (pick b 4 (pick c 5 (pick d 6 (pick f 7 (pick g 8 (pick h 9 (pick i 10 11)))))))) ≡ result_name → ⊥
    last z a b c d f g h i e =
        let r = skip h 9 (pick i 10 11) (λ q. omega arith) (skip g 8 _ (λ q. omega arith) (skip f 7 _ (λ q. omega arith) (skip d 6 _ (λ q. omega arith)
        (skip c 5 _ (λ q. omega arith) (skip b 4 _ (λ q. omega arith) (skip a 3 _ (λ q. omega arith) (skip z 2 _ (λ q. omega arith) e))))))) in
        let w = skip i 10 11 (λ q. omega arith) r in
        omega arith

    go : (b : Bool) → eqb role ResultName ≡ b → pick b 1 (pick (eqb role OperandName) 2 (pick (eqb role OperandType) 3 (pick (eqb role ResultType) 4 (pick (eqb role AttributeName) 5 (pick (eqb role BodyOpen) 6
        (pick (among (InputName ∷ ArgumentName ∷ []) role) 7 (pick (among (InputType ∷ ArgumentType ∷ []) role) 8 (pick (eqb role OutputType) 9 (pick (among (FunctionName ∷ BodyLabel ∷ []) role) 10 11)))))))))
        ≡ result_name → role ≡ ResultName
    go true q e = eqb-true role ResultName q
    go false q e = absurd (last (eqb role OperandName) (eqb role OperandType) (eqb role ResultType) (eqb role AttributeName) (eqb role BodyOpen) (among (InputName ∷ ArgumentName ∷ []) role) (among (InputType ∷ ArgumentType ∷ []) role) (eqb role OutputType) (among (FunctionName ∷ BodyLabel ∷ []) role) e)

module _ (P : ℕ → Type 0) where
  head-all : (b : Bool) (a : ℕ) (more : List ℕ) → All P (pick b (a ∷ []) [] ++ more) → b ≡ true → P a
  head-all true a more l e = l.0
  head-all false a more l e = let z : ◌≡◌ {A = ℕ} 0 1 = cc in absurd (omega arith)

  tail_all : (b : Bool) (a : ℕ) (more : List ℕ) → All P (pick b (a ∷ []) [] ++ more) → All P more
  tail_all true a more l = l.1
  tail_all false a more l = l

  own-level : (d : ℕ) (xs : List Reading) → All P (own_places ResultName d xs) → Level (λ k a. k ≡ result_name → P a) 0 d xs
  unfolding own_places
  own-level d [] l = tt
  own-level d (x ∷ xs) l =
      let more = own_places ResultName (depth_after d x.role) xs in
      let b = eqb d 0 && eqb x.role ResultName in (
        λ z h k. let r = result-part x.role k in head-all b x.token.start more l (rw (eq-eqb d 0 z) (eq-eqb x.role ResultName r)),
        own-level (depth_after d x.role) xs (tail_all b x.token.start more l),
      )

  -- what holds of each result outside bodies holds of each that is noted
  results-every : (text : List ℕ) (at : ℕ) → length text ≤ 65536 → All P (own_places ResultName 0 (readings_of Op text at)) → (j : ℕ) → j < count_of (op_at text at) result_name → j < 8 →
      P (place_of (op_at text at) result_name j)
  unfolding op_at parts_at parts_of
  results-every text at few l = rw (le-ltb 65536 (length text) few)
      (λ j h m. parts-every (λ k a. k ≡ result_name → P a) 0 0 no_parts (readings_of Op text at) wide-none (λ k j h l m. absurd (let z = none-counted k in omega arith))
      (own-level 0 (readings_of Op text at) l) result_name j (omega arith) h m refl)

-- each result of an op whose names are not refused is new
pub results-fresh : (text : List ℕ) (role at : ℕ) (known : List ℕ) → length text ≤ 65536 → names_op role ≡ true → OpAlone text role at → (op_names_fault text at known).refusal ≡ 0 →
    (j : ℕ) → j < count_of (op_at text at) result_name → j < 8 → is_visible text (place_of (op_at text at) result_name j) (map defined known) ≡ false
results-fresh text role at known few o p e =
    let u = op-unrefused text at known e in
    results-every (λ a. is_visible text a (map defined known) ≡ false) text at few
    (results-new text (readings_of Op text at) known u.out (sym (op-read-in-order text role at known o p) ∙ u.is))
