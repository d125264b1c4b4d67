-- The definition on entries as data answers what the definition on numbers answers (scope specs/Scope), in a text of at most 65,536 bytes: what the definitions of
-- refusals 5 to 8 ask of the names is the same.
-- Assumes nothing.
use mathlib.Core.Path.{◌≡◌, refl, sym, ap, subst, ◌∙◌}
use mathlib.Core.List.{List, [], ◌∷◌, map}
use mathlib.Core.Bool.{Bool, true, false, ◌||◌}
use Prim.Native.Nat.{ℕ, zero, suc, ◌+◌, ◌<◌, ◌≤◌}
use native.Mathlib.Omega.{arith}
use native.Mathlib.Decide.{dec_lt}
use native.Mathlib.Numerals.{add-one}
use lib.Dec.{eqb}
use lib.ListN.{length, get_or}
use borrow.Author.Tests.{lt-ltb, le-ltb, ne_eqb, eqb-true, eqb-false}
use Rattle.lists.specs.Lists.{pick, tab, All}
use Rattle.scan.specs.Bytes.{among}
use Rattle.text.specs.Lex.{token_at}
use Rattle.text.proofs.TokenLaw.{token-inside, token-after}
use Rattle.grammar.specs.Symbols.{END, InputName, ResultName, OperandName, BodyOpen, ArgumentName, BodyClose, Op, leaf_kinds, matches}
use Rattle.grammar.specs.Grammar.{grammar}
use Rattle.grammar.specs.Machine.{fails, cell, step}
use Rattle.syntax.specs.Readings.{Reading, reading, readings_from, readings_of}
use Rattle.syntax.proofs.KindLaw.{is-end}
use Rattle.program.specs.Program.{program_of}
use Rattle.places.specs.Places.{input_name, place_of}
use Rattle.values.specs.declared.Value.{Value}
use Rattle.values.specs.Values.{no_value, values_in}
use Rattle.scope.specs.Scope.{Scope, scope, fault, fault_of, and_then, body, waiting, waiting_name, same_at, defines, visible, define, look, settle, forget, begins, ends, placed, turned, names_from, names_of, inputs_from}
use Rattle.known.specs.Known.{known_names, names_fault, inputs_fault}
use Rattle.scope_laws.proofs.PlaceBoundLaw.{Started, started, names-within, places-within}
use Rattle.names.specs.Names.{Entry, defined, opened, pending, Checked, entries, refused, then_checked, checked_fault, defines_name, is_visible, use_name, define_name, settled, forgotten, on_token, token_checked, names_read, op_names_read, op_names_fault, names_defined, input_names_fault}

-- an entry as a number of scope's, and the entries
abbrev number_of : Entry → ℕ
number_of (defined a) = a
number_of opened = body
number_of (pending a) = waiting a

abbrev numbers : List Entry → List ℕ
numbers [] = []
numbers (e ∷ es) = number_of e ∷ numbers es

-- its place is one of a text of at most 65,536 bytes
abbrev Low : Entry → Type 0
Low (defined a) = a < body
Low opened = Unit {0}
Low (pending a) = a < body

abbrev scope_of : Checked → Scope
scope_of (entries es) = scope (numbers es)
scope_of (refused n a) = fault n a

abbrev LowAll : Checked → Type 0
LowAll (entries es) = All Low es
LowAll (refused n a) = Unit {0}

record Same (s : Scope) (c : Checked) : Type 0 where
  is : s ≡ scope_of c
  low : LowAll c

then-scope : (c : Checked) (f : List ℕ → Scope) (g : List Entry → Checked) → LowAll c → ((es : List Entry) → All Low es → Same (f (numbers es)) (g es)) → Same (and_then (scope_of c) f) (then_checked c g)
then-scope (entries es) f g l h = h es l
then-scope (refused n a) f g l h = record { is = refl; low = tt }

then_same : {s : Scope} {c : Checked} (f : List ℕ → Scope) (g : List Entry → Checked) → Same s c → ((es : List Entry) → All Low es → Same (f (numbers es)) (g es)) → Same (and_then s f) (then_checked c g)
then_same {s} {c} f g q h = subst (λ (t : Scope). Same (and_then t f) (then_checked c g)) (sym q.is) (then-scope c f g q.low h)

pick_same : (b : Bool) {s t : Scope} {c d : Checked} → Same s c → Same t d → Same (pick b s t) (pick b c d)
pick_same true x y = x
pick_same false x y = y

kept : (es : List Entry) → All Low es → Same (scope (numbers es)) (entries es)
kept es l = record { is = refl; low = l }

or-pick : (b c : Bool) → pick b true c ≡ b || c
or-pick true c = refl
or-pick false c = refl

-- an entry that is no defined name
skipped : (text : List ℕ) (a e : ℕ) (es : List ℕ) → body ≤ e → visible text a (e ∷ es) ≡ visible text a es
unfolding visible defines
skipped text a e es h = rw (le-ltb e body h)

module _ (text : List ℕ) where
  visible-same : (a : ℕ) (es : List Entry) → All Low es → visible text a (numbers es) ≡ is_visible text a es
  unfolding visible defines is_visible defines_name
  visible-same a [] l = refl
  visible-same a (defined b ∷ es) l = rw (lt-ltb b body l.0, visible-same a es l.1) (or-pick (same_at text b a) (is_visible text a es))
  visible-same a (opened ∷ es) l = skipped text a body (numbers es) (omega arith) ∙ visible-same a es l.1
  visible-same a (pending b ∷ es) l = skipped text a (waiting b) (numbers es) (omega arith) ∙ visible-same a es l.1

  define-same : (a : ℕ) (es : List Entry) → a < body → All Low es → Same (define text a (numbers es)) (define_name text a es)
  unfolding define define_name
  define-same a es h l = rw (visible-same a es l) (pick_same (is_visible text a es) (record { is = refl; low = tt }) (record { is = refl; low = (h, l) }))

  look-same : (a : ℕ) (es : List Entry) → All Low es → Same (look text a (numbers es)) (use_name text a es)
  unfolding look use_name
  look-same a es l = rw (visible-same a es l) (pick_same (is_visible text a es) (kept es l) (record { is = refl; low = tt }))

  settle-same : (es : List Entry) → All Low es → Same (settle text (numbers es)) (settled text es)
  unfolding settle settled
  settle-same [] l = kept [] l
  settle-same (defined a ∷ es) l = let h = l.0 in rw (le-ltb body a (omega arith)) (kept (defined a ∷ es) l)
  settle-same (opened ∷ es) l = kept (opened ∷ es) l
  settle-same (pending a ∷ es) l =
      let ih = settle-same es l.1 in
      let w : waiting_name (waiting a) ≡ a = omega arith in
      rw (lt-ltb body (waiting a) (omega arith), w) (then_same (define text a) (define_name text a) ih (λ fs m. define-same a fs l.0 m))

forget-same : (es : List Entry) → All Low es → (forget (numbers es) ≡ numbers (forgotten es)) × All Low (forgotten es)
unfolding forget forgotten
forget-same [] l = (refl, tt)
forget-same (defined a ∷ es) l = let h = l.0 in let ih = forget-same es l.1 in (rw (ne_eqb a body (λ e. omega arith)) ih.0, ih.1)
forget-same (opened ∷ es) l = (refl, l.1)
forget-same (pending a ∷ es) l = let ih = forget-same es l.1 in (rw (ne_eqb (waiting a) body (λ e. omega arith)) ih.0, ih.1)

module _ (text : List ℕ) where
  placed_same : (role a : ℕ) (es : List Entry) → a < body → All Low es → Same (placed text role a (numbers es)) (on_token text role a es)
  unfolding placed on_token
  placed_same role a es h l =
      let f = forget-same es l in
      pick_same (among (InputName ∷ ArgumentName ∷ []) role) (define-same text a es h l)
      (pick_same (eqb role ResultName) (kept (pending a ∷ es) (h, l))
      (pick_same (eqb role OperandName) (look-same text a es l)
      (pick_same (eqb role BodyOpen) (kept (opened ∷ es) (tt, l))
      (pick_same (eqb role BodyClose) (record { is = ap scope f.0; low = f.1 }) (kept es l)))))

  turned_same : (before role a : ℕ) (es : List Entry) → a < body → All Low es → Same (turned text before role a (numbers es)) (token_checked text before role a es)
  unfolding turned token_checked
  turned_same before role a es h l =
      pick_same (ends before role) (then_same (placed text role a) (on_token text role a) (settle-same text es l) (λ fs m. placed_same role a fs h m)) (placed_same role a es h l)

  from-same : (before : ℕ) (es : List Entry) (xs : List Reading) → Started xs → All Low es → Same (names_from text before (numbers es) xs) (names_read text before es xs)
  unfolding names_from names_read
  from-same before es [] s l = kept es l
  from-same before es (x ∷ xs) s l =
      then_same (λ rest. names_from text x.role rest xs) (λ rest. names_read text x.role rest xs)
      (let b = s.0 in turned_same before x.role x.token.start es (omega arith) l) (λ fs m. from-same x.role fs xs s.1 m)

  inputs-same : (es : List Entry) (places : List ℕ) → All (λ a. a < body) places → All Low es → Same (inputs_from text (numbers es) places) (names_defined text es places)
  unfolding inputs_from names_defined
  inputs-same es [] s l = kept es l
  inputs-same es (a ∷ places) s l =
      then_same (λ rest. inputs_from text rest places) (λ rest. names_defined text rest places) (define-same text a es s.0 l) (λ fs m. inputs-same fs places s.1 m)

fault-same : (s : Scope) (c : Checked) → Same s c → fault_of s ≡ checked_fault c
unfolding fault_of checked_fault
fault-same s (entries es) q = ap fault_of q.is
fault-same s (refused n a) q = ap fault_of q.is

known-numbers : (known : List ℕ) → numbers (map defined known) ≡ known
known-numbers [] = refl
known-numbers (a ∷ known) = ap (λ (l : List ℕ). a ∷ l) (known-numbers known)

known-low : (known : List ℕ) → All (λ a. a < body) known → All Low (map defined known)
known-low [] l = tt
known-low (a ∷ known) l = (l.0, known-low known l.1)

-- past the end of the text no op is read
end-fails : step (Op ∷ []) END ≡ fails
unfolding step cell grammar leaf_kinds matches
end-fails = refl

past-reading : (text : List ℕ) (at : ℕ) → length text < at → readings_of Op text at ≡ reading false 0 (token_at text at) ∷ []
unfolding readings_of readings_from
past-reading text at h =
    let e = is-end text (token_at text at) (ended (eqb (token_at text at).kind 0) refl) in
    let f = end-fails in
    rw (add-one, e, f)
  where
    ended : (b : Bool) → eqb (token_at text at).kind 0 ≡ b → (token_at text at).kind ≡ 0
    ended true q = eqb-true (token_at text at).kind 0 q
    ended false q =
        let s = token-inside text at (eqb-false (token_at text at).kind 0 q) in
        let a = token-after text at in
        absurd (omega arith)

-- the readings of an op start inside a text of at most 65,536 bytes; past its end there is one, with no role
module _ (text : List ℕ) (few : length text ≤ 65536) where
  inside-same : (at : ℕ) (known : List ℕ) → at ≤ length text → All (λ a. a < body) known → Same (names_of text at known) (op_names_read text at known)
  unfolding names_of op_names_read readings_of
  inside-same at known h l =
      subst (λ (es : List ℕ). Same (and_then (names_from text 0 es (readings_of Op text at)) (settle text)) (op_names_read text at known)) (known-numbers known)
      (then_same (settle text) (settled text) (from-same text 0 (map defined known) (readings_of Op text at) (started text few (length text + 1) (Op ∷ []) at h) (known-low known l))
      (λ fs m. settle-same text fs m))

  past_same : (at : ℕ) (known : List ℕ) → length text < at → All (λ a. a < body) known → Same (names_of text at known) (op_names_read text at known)
  unfolding names_of op_names_read names_from names_read turned token_checked placed on_token ends begins
  past_same at known h l =
      rw (past-reading text at h)
      (subst (λ (es : List ℕ). Same (settle text es) (settled text (map defined known))) (known-numbers known) (settle-same text (map defined known) (known-low known l)))

  pub read_same : (at : ℕ) (known : List ℕ) → All (λ a. a < body) known → fault_of (names_of text at known) ≡ op_names_fault text at known
  unfolding op_names_fault
  read_same at known l = go (dec_lt (length text) at)
    where
      go : Dec (length text < at) → fault_of (names_of text at known) ≡ checked_fault (op_names_read text at known)
      go (yes h) = fault-same _ _ (past_same at known h l)
      go (no h) = fault-same _ _ (inside-same at known (omega arith) l)

known-below : (values : List Value) → ((i : ℕ) → (get_or values i no_value).name ≤ 65536) → (n : ℕ) → All (λ a. a < body) (known_names values n)
unfolding known_names
known-below values h zero = tt
known-below values h (suc n) = (omega (arith, h n), known-below values h n)

tab-below : (n : ℕ) (f : ℕ → ℕ) → ((i : ℕ) → f i ≤ 65536) → All (λ a. a < body) (tab n f)
tab-below zero f h = tt
tab-below (suc n) f h = (omega (arith, h 0), tab-below n (λ i. f (suc i)) (λ i. h (suc i)))

-- what the refusal of an op asks of its names (opwise, op_refusal), n values being defined before it
pub names_same : (text : List ℕ) → length text ≤ 65536 → (n at : ℕ) →
    names_fault text (values_in text (program_of text)).list n at ≡ op_names_fault text at (known_names (values_in text (program_of text)).list n)
unfolding names_fault
names_same text few n at = read_same text few at (known_names (values_in text (program_of text)).list n) (known-below (values_in text (program_of text)).list (names-within text) n)

-- what the refusal of a program asks of its inputs' names (verify, program_refusal)
pub input-names-same : (text : List ℕ) (n : ℕ) → inputs_fault text (program_of text).header n ≡ input_names_fault text (tab n (λ i. place_of (program_of text).header input_name i))
unfolding inputs_fault input_names_fault
input-names-same text n =
    fault-same _ _ (inputs-same text [] (tab n (λ i. place_of (program_of text).header input_name i)) (tab-below n _ (places-within text)) tt)
