-- 01: "op by op names (5, 6), 7, 8". A fault of names is refusal 5 or 6, and where an op has none each of its operands is the name of a value before it: the
-- definition of refusal 7 asks it too, and no op that comes to 7 is answered by that.
-- Assumes nothing.
use mathlib.Core.Path.{◌≡◌, refl, sym, ap, subst, ◌∙◌}
use mathlib.Core.List.{List, [], ◌∷◌}
use mathlib.Core.Bool.{Bool, true, false, ◌||◌}
use Prim.Native.Nat.{ℕ, zero, suc, ◌+◌, ◌<◌, ◌≤◌}
use native.Mathlib.Omega.{arith}
use lib.Dec.{ltb, eqb}
use lib.ListN.{length, get_or}
use borrow.Author.Tests.{le-ltb, lt-ltb}
use Rattle.lists.specs.Lists.{pick, tab}
use Rattle.lists.proofs.TabLaw.{length-tab, get_or-tab}
use Rattle.scan.specs.Bytes.{among}
use Rattle.grammar.specs.Symbols.{Op, InputName, ArgumentName, ResultName, OperandName, BodyOpen, BodyClose}
use Rattle.syntax.specs.Readings.{Reading, readings_of}
use Rattle.program.specs.declared.Parts.{Parts}
use Rattle.program.specs.Parts.{no_parts, op_at}
use Rattle.program.specs.Program.{program_of}
use Rattle.places.specs.Places.{input_name, operand_name, operand_type, count_of, place_of, type_of_part}
use Rattle.dimrules.specs.Types.{same_type}
use Rattle.values.specs.declared.Value.{Value}
use Rattle.values.specs.Values.{no_value, values_in}
use Rattle.scope.specs.Scope.{Scope, scope, fault, fault_of, and_then, body, waiting_name, same_at, defines, visible, define, look, settle, ends, placed, turned, names_from, names_of, inputs_from}
use Rattle.known.specs.Known.{known_names, names_fault, inputs_fault}
use Rattle.operands.specs.Operands.{value_named, arity_of, operand_typed}
use Rattle.scope_laws.proofs.OuterScopeLaw.{not-both, op-unchanged}
use Rattle.scope_laws.proofs.DefinedLaw.{between, added, Bounded, defined-known}
use Rattle.scope_laws.proofs.OperandLaw.{Noted, noted-none, names-noted}
use Rattle.scope_laws.proofs.PlaceBoundLaw.{started, op-cases, names-within, places-within}

-- a fault is refusal 5 or 6
abbrev pub Numbered : Scope → Type 0
Numbered (scope es) = Unit {0}
Numbered (fault n a) = among (5 ∷ 6 ∷ []) n ≡ true

then-numbered : (s : Scope) (f : List ℕ → Scope) → Numbered s → ((es : List ℕ) → Numbered (f es)) → Numbered (and_then s f)
then-numbered (scope es) f n g = g es
then-numbered (fault m a) f n g = n

pick-numbered : (b : Bool) (s z : Scope) → Numbered s → Numbered z → Numbered (pick b s z)
pick-numbered true s z n m = n
pick-numbered false s z n m = m

module _ (text : List ℕ) where
  define-numbered : (a : ℕ) (es : List ℕ) → Numbered (define text a es)
  unfolding define
  define-numbered a es = pick-numbered (visible text a es) (fault 6 a) (scope (a ∷ es)) refl tt

  look-numbered : (a : ℕ) (es : List ℕ) → Numbered (look text a es)
  unfolding look
  look-numbered a es = pick-numbered (visible text a es) (scope es) (fault 5 a) tt refl

  settle-numbered : (es : List ℕ) → Numbered (settle text es)
  unfolding settle
  settle-numbered [] = tt
  settle-numbered (e ∷ es) =
      pick-numbered (ltb body e) (and_then (settle text es) (define text (waiting_name e))) (scope (e ∷ es))
      (then-numbered (settle text es) (define text (waiting_name e)) (settle-numbered es) (define-numbered (waiting_name e))) tt

  placed-numbered : (role a : ℕ) (es : List ℕ) → Numbered (placed text role a es)
  unfolding placed
  placed-numbered role a es =
      pick-numbered (among (InputName ∷ ArgumentName ∷ []) role) (define text a es) _ (define-numbered a es)
      (pick-numbered (eqb role ResultName) _ _ tt
      (pick-numbered (eqb role OperandName) (look text a es) _ (look-numbered a es)
      (pick-numbered (eqb role BodyOpen) _ _ tt
      (pick-numbered (eqb role BodyClose) _ _ tt tt))))

  turned-numbered : (before role a : ℕ) (es : List ℕ) → Numbered (turned text before role a es)
  unfolding turned
  turned-numbered before role a es =
      pick-numbered (ends before role) (and_then (settle text es) (placed text role a)) (placed text role a es)
      (then-numbered (settle text es) (placed text role a) (settle-numbered es) (placed-numbered role a)) (placed-numbered role a es)

  pub from-numbered : (before : ℕ) (es : List ℕ) (xs : List Reading) → Numbered (names_from text before es xs)
  unfolding names_from
  from-numbered before es [] = tt
  from-numbered before es (x ∷ xs) =
      then-numbered (turned text before x.role x.token.start es) (λ rest. names_from text x.role rest xs) (turned-numbered before x.role x.token.start es)
      (λ rest. from-numbered x.role rest xs)

  names-numbered : (at : ℕ) (es : List ℕ) → Numbered (names_of text at es)
  unfolding names_of
  names-numbered at es = then-numbered (names_from text 0 es (readings_of Op text at)) (settle text) (from-numbered 0 es (readings_of Op text at)) settle-numbered

  inputs-numbered : (es places : List ℕ) → Numbered (inputs_from text es places)
  unfolding inputs_from
  inputs-numbered es [] = tt
  inputs-numbered es (a ∷ places) = then-numbered (define text a es) (λ rest. inputs_from text rest places) (define-numbered a es) (λ rest. inputs-numbered rest places)

fault-number : (s : Scope) → Numbered s → among (0 ∷ 5 ∷ 6 ∷ []) (fault_of s).refusal ≡ true
unfolding fault_of
fault-number (scope es) n = refl
fault-number (fault m a) n = go (eqb m 0)
  where
    go : (b : Bool) → b || among (5 ∷ 6 ∷ []) m ≡ true
    go true = refl
    go false = n

-- the names of an op and of the inputs answer 0, 5 or 6
pub names-refusal : (text : List ℕ) (values : List Value) (n at : ℕ) → among (0 ∷ 5 ∷ 6 ∷ []) (names_fault text values n at).refusal ≡ true
unfolding names_fault
names-refusal text values n at = fault-number (names_of text at (known_names values n)) (names-numbered text at (known_names values n))

pub inputs-refusal : (text : List ℕ) (header : Parts) (n : ℕ) → among (0 ∷ 5 ∷ 6 ∷ []) (inputs_fault text header n).refusal ≡ true
unfolding inputs_fault
inputs-refusal text header n = fault-number _ (inputs-numbered text [] _)

-- no fault: the entries
pub record Without (s : Scope) : Type 0 where
  pub out : List ℕ
  pub is : s ≡ scope out

pub no-fault : (s : Scope) → Numbered s → (fault_of s).refusal ≡ 0 → Without s
unfolding fault_of
no-fault (scope es) n e = record { out = es; is = refl }
no-fault (fault m a) n e =
    let z : true ≡ false = sym n ∙ ap (among (5 ∷ 6 ∷ [])) e in
    let w : ◌≡◌ {A = ℕ} 0 1 = cc in absurd (omega arith)

-- the names of the values before an op are settled: what comes before its first token does not matter
first-turn : (text : List ℕ) (before role a : ℕ) (es : List ℕ) → settle text es ≡ scope es → turned text before role a es ≡ placed text role a es
unfolding turned
first-turn text before role a es e = go (ends before role)
  where
    go : (b : Bool) → pick b (and_then (settle text es) (placed text role a)) (placed text role a es) ≡ placed text role a es
    go true = ap (λ s. and_then s (placed text role a)) e
    go false = refl

any-before : (text : List ℕ) (before later : ℕ) (es : List ℕ) (xs : List Reading) → settle text es ≡ scope es → names_from text before es xs ≡ names_from text later es xs
unfolding names_from
any-before text before later es [] e = refl
any-before text before later es (x ∷ xs) e =
    ap (λ s. and_then s (λ rest. names_from text x.role rest xs))
    (first-turn text before x.role x.token.start es e ∙ sym (first-turn text later x.role x.token.start es e))

module _ (text : List ℕ) (values : List Value) (within : (i : ℕ) → (get_or values i no_value).name ≤ 65536) where
  known-bounded : (n : ℕ) → Bounded (known_names values n)
  unfolding known_names
  known-bounded zero = tt
  known-bounded (suc n) = (omega (arith, within n), known-bounded n)

  known-settled : (n : ℕ) → settle text (known_names values n) ≡ scope (known_names values n)
  unfolding known_names settle
  known-settled zero = refl
  known-settled (suc n) = rw (le-ltb body (get_or values n no_value).name (omega (arith, within n)))

  module _ (n at : ℕ) (passed : (names_fault text values n at).refusal ≡ 0) where
    op-noted : Noted text values n (op_at text at)
    unfolding names_fault names_of readings_of
    op-noted =
        op-cases text at (λ p. Noted text values n p) (noted-none text values n)
        (λ h g. let q = op-unchanged text at in
        let w = no-fault (names_of text at (known_names values n)) (names-numbered text at (known_names values n)) passed in
        let b = between (names_from text 0 (known_names values n) (readings_of Op text at)) (settle text) w.out w.is in
        names-noted text values n (readings_of Op text at) q.before 0 (known_names values n) b.mid no_parts q.unchanged
        (started text h (length text + 1) (Op ∷ []) at g) (known-bounded n) (defined-known text values n n (omega arith)) (noted-none text values n)
        (any-before text q.before 0 (known_names values n) (readings_of Op text at) (known-settled n) ∙ b.first))

    -- each operand is the name of one of the n values
    pub operand-defined : (j : ℕ) → j < arity_of (op_at text at) → value_named text values n (place_of (op_at text at) operand_name j) < n
    unfolding arity_of count_of place_of
    operand-defined j h = op-noted.named j (omega arith) (omega arith)

    -- so an operand is refused for its type alone
    pub operand-by-type : (j : ℕ) → j < arity_of (op_at text at) →
        operand_typed text (op_at text at) values n j ≡
        same_type (type_of_part text (op_at text at) operand_type j) (get_or values (value_named text values n (place_of (op_at text at) operand_name j)) no_value).ty
    unfolding operand_typed
    operand-by-type j h = rw (lt-ltb _ _ (operand-defined j h))

-- the same of a text's own program and values
pub text-operand-defined : (text : List ℕ) (n at : ℕ) → (names_fault text (values_in text (program_of text)).list n at).refusal ≡ 0 → (j : ℕ) → j < arity_of (op_at text at) →
    value_named text (values_in text (program_of text)).list n (place_of (op_at text at) operand_name j) < n
text-operand-defined text n at e j h = operand-defined text (values_in text (program_of text)).list (names-within text) n at e j h

-- Where the inputs' names are not refused, no two inputs have one name.
-- an entry that is a name is seen under each name that is the same
abbrev Seen : List ℕ → ℕ → List ℕ → Type 0
Seen text e es = (a : ℕ) → same_at text e a ≡ true → visible text a es ≡ true

seen_first : (text : List ℕ) (e : ℕ) (es : List ℕ) → e < body → Seen text e (e ∷ es)
unfolding visible defines
seen_first text e es h a q = rw (lt-ltb e body h, q)

seen-later : (text : List ℕ) (e x : ℕ) (es : List ℕ) → Seen text e es → Seen text e (x ∷ es)
unfolding visible
seen-later text e x es s a q = go (defines text x a)
  where
    go : (b : Bool) → pick b true (visible text a es) ≡ true
    go true = refl
    go false = s a q

not_same : (text : List ℕ) (e a : ℕ) (es : List ℕ) → Seen text e es → visible text a es ≡ false → same_at text e a ≡ false
not_same text e a es s v = go (same_at text e a) refl
  where
    go : (b : Bool) → same_at text e a ≡ b → same_at text e a ≡ false
    go true q = not-both (visible text a es) v (s a q)
    go false q = q

-- a name that is defined is new
pub new-name : (text : List ℕ) (a : ℕ) (es out : List ℕ) → define text a es ≡ scope out → visible text a es ≡ false
unfolding define
new-name text a es out e = go (visible text a es) refl e
  where
    go : (b : Bool) → visible text a es ≡ b → pick b (fault 6 a) (scope (a ∷ es)) ≡ scope out → visible text a es ≡ false
    go true v q = let z : ◌≡◌ {A = ℕ} 0 1 = cc in absurd (omega arith)
    go false v q = v

one_input : (text es places out : List ℕ) (a : ℕ) → inputs_from text es (a ∷ places) ≡ scope out → (visible text a es ≡ false) × (inputs_from text (a ∷ es) places ≡ scope out)
unfolding inputs_from
one_input text es places out a q =
    let b = between (define text a es) (λ rest. inputs_from text rest places) out q in
    (new-name text a es b.mid b.first, subst (λ (m : List ℕ). inputs_from text m places ≡ scope out) (added text a es b.mid b.first) b.then)

later-apart : (text es places out : List ℕ) (e j : ℕ) → Seen text e es → inputs_from text es places ≡ scope out → j < length places → same_at text e (get_or places j 0) ≡ false
later-apart text es [] out e j s q h = absurd (omega arith)
later-apart text es (a ∷ places) out e zero s q h = not_same text e a es s (one_input text es places out a q).0
later-apart text es (a ∷ places) out e (suc j) s q h =
    later-apart text (a ∷ es) places out e j (seen-later text e a es s) (one_input text es places out a q).1 (omega arith)

pairs-apart : (text es places out : List ℕ) (i j : ℕ) → ((k : ℕ) → get_or places k 0 < body) → inputs_from text es places ≡ scope out → i < j → j < length places →
    same_at text (get_or places i 0) (get_or places j 0) ≡ false
pairs-apart text es [] out i j f q h g = absurd (omega arith)
pairs-apart text es (a ∷ places) out i zero f q h g = absurd (omega arith)
pairs-apart text es (a ∷ places) out zero (suc j) f q h g = later-apart text (a ∷ es) places out a j (seen_first text a es (f 0)) (one_input text es places out a q).1 (omega arith)
pairs-apart text es (a ∷ places) out (suc i) (suc j) f q h g =
    pairs-apart text (a ∷ es) places out i j (λ k. f (suc k)) (one_input text es places out a q).1 (omega arith) (omega arith)

tab-within : (n : ℕ) (f : ℕ → ℕ) → ((i : ℕ) → f i ≤ 65536) → (k : ℕ) → get_or (tab n f) k 0 < body
tab-within zero f h k = omega arith
tab-within (suc n) f h zero = omega (arith, h 0)
tab-within (suc n) f h (suc k) = tab-within n (λ i. f (suc i)) (λ i. h (suc i)) k

pub inputs_apart : (text : List ℕ) (n i j : ℕ) → (inputs_fault text (program_of text).header n).refusal ≡ 0 → i < j → j < n →
    same_at text (place_of (program_of text).header input_name i) (place_of (program_of text).header input_name j) ≡ false
unfolding inputs_fault
inputs_apart text n i j e h g =
    let f = place_of (program_of text).header input_name in
    let w = no-fault (inputs_from text [] (tab n f)) (inputs-numbered text [] (tab n f)) e in
    let p = pairs-apart text [] (tab n f) w.out i j (tab-within n f (places-within text)) w.is h (rw (length-tab n f) g) in
    rw (get_or-tab n f i 0 (omega arith), get_or-tab n f j 0 g) at p
