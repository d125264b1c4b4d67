-- The tokens of bodies do the same to the names of the values defined before an op, whether its results are pending or not: entries that are alike, the pending
-- results standing below the first opening.
-- Assumes nothing.
use mathlib.Core.Path.{◌≡◌, refl, sym, ap, subst, ◌∙◌}
use mathlib.Core.List.{List, [], ◌∷◌, ◌++◌}
use mathlib.Core.Bool.{Bool, true, false, not, ◌||◌}
use Prim.Native.Nat.{ℕ, zero, suc, ◌<◌}
use native.Mathlib.Omega.{arith}
use native.Mathlib.Numerals.{add-one}
use lib.Dec.{T, ltb, eqb, eqb→eq}
use borrow.Author.Tests.{eqb-true, ne_eqb}
use Rattle.lists.specs.Lists.{pick}
use Rattle.scan.specs.Bytes.{among}
use Rattle.grammar.specs.Symbols.{InputName, ResultName, OperandName, BodyOpen, ArgumentName, BodyClose, OpName, FuncReturn, BodyOpName, BodyReturn, among_symbols as member}
use Rattle.grammar.proofs.TableTest.{both_left, both_right, or}
use Rattle.grammar.proofs.Within.{all_pass, member-passes}
use Rattle.syntax.specs.Readings.{Reading}
use Rattle.syntax.specs.Roles.{roles_of}
use Rattle.program.specs.Parts.{depth_after}
use Rattle.scope.specs.Scope.{same_at, begins, ends}
use Rattle.part_laws.proofs.DepthLaw.{outside}
use Rattle.scope_laws.proofs.OuterScopeLaw.{depth-other}
use Rattle.names.specs.Names.{Entry, defined, opened, pending, Checked, entries, refused, then_checked, defines_name, is_visible, use_name, define_name, settled, forgotten, on_token, token_checked, names_read}
use Rattle.names.specs.InOrder.{body_readings}
use Rattle.names.proofs.OwnLaw.{not_T}

-- the roles that define a name, look one up, end a body or begin an op
abbrev pub acting : List ℕ
acting = InputName ∷ ArgumentName ∷ ResultName ∷ OperandName ∷ BodyClose ∷ OpName ∷ FuncReturn ∷ BodyOpName ∷ BodyReturn ∷ []

other-role : (xs : List ℕ) (r x : ℕ) (b : Bool) → eqb r x ≡ b → member xs r ≡ false → member xs x ≡ true → eqb r x ≡ false
other-role xs r x false q e m = q
other-role xs r x true q e m =
    let z : true ≡ false = sym m ∙ ap (member xs) (sym (eqb-true r x q)) ∙ e in
    let w : ◌≡◌ {A = ℕ} 0 1 = cc in absurd (omega arith)

-- tokens of other roles leave the entries as they are
module _ (r : ℕ) (t : T (not (member acting r))) where
  is-not : (x : ℕ) → member acting x ≡ true → eqb r x ≡ false
  is-not x m = other-role acting r x (eqb r x) refl (not_T (member acting r) t) m

  quiet-ends : (before : ℕ) → ends before r ≡ false
  unfolding ends begins
  quiet-ends before = simp (is-not BodyClose refl, is-not ResultName refl, is-not OpName refl, is-not FuncReturn refl, is-not BodyOpName refl, is-not BodyReturn refl)

  pub quiet-token : (text : List ℕ) (before a : ℕ) (es : List Entry) → eqb r BodyOpen ≡ false → token_checked text before r a es ≡ entries es
  unfolding token_checked on_token
  quiet-token text before a es o =
      simp (quiet-ends before, is-not InputName refl, is-not ArgumentName refl, is-not ResultName refl, is-not OperandName refl, o, is-not BodyClose refl)

  pub quiet-depth : (d : ℕ) → eqb r BodyOpen ≡ false → depth_after d r ≡ d
  quiet-depth d o = depth-other d r o (is-not BodyClose refl)

pub open-token : (text : List ℕ) (before a : ℕ) (es : List Entry) → token_checked text before BodyOpen a es ≡ entries (opened ∷ es)
unfolding token_checked on_token ends begins
open-token text before a es = refl

depth-open : (d : ℕ) → depth_after d BodyOpen ≡ suc d
unfolding depth_after
depth-open d = add-one d

depth-close : (d : ℕ) → depth_after (suc d) BodyClose ≡ d
unfolding depth_after
depth-close d = omega arith

-- inside so many bodies the entries are the same above the outermost opening, and below it base and other
pub data Like (base other : List Entry) : ℕ → List Entry → List Entry → Type 0 where
  below : Like base other 0 base other
  brace : {d : ℕ} {es fs : List Entry} → Like base other d es fs → Like base other (suc d) (opened ∷ es) (opened ∷ fs)
  name : {d : ℕ} {es fs : List Entry} (a : ℕ) → Like base other (suc d) es fs → Like base other (suc d) (defined a ∷ es) (defined a ∷ fs)
  result : {d : ℕ} {es fs : List Entry} (a : ℕ) → Like base other (suc d) es fs → Like base other (suc d) (pending a ∷ es) (pending a ∷ fs)

pub data LikeChecked (base other : List Entry) (d : ℕ) : Checked → Checked → Type 0 where
  passed : {es fs : List Entry} → Like base other d es fs → LikeChecked base other d (entries es) (entries fs)
  fault : (n a : ℕ) → LikeChecked base other d (refused n a) (refused n a)

pick-like : {base other : List Entry} {d : ℕ} (b : Bool) {c e f g : Checked} → LikeChecked base other d c f → LikeChecked base other d e g → LikeChecked base other d (pick b c e) (pick b f g)
pick-like true x y = x
pick-like false x y = y

then_like : {base other : List Entry} {d m : ℕ} {c e : Checked} (f g : List Entry → Checked) → LikeChecked base other d c e →
    ((es fs : List Entry) → Like base other d es fs → LikeChecked base other m (f es) (g fs)) → LikeChecked base other m (then_checked c f) (then_checked e g)
then_like f g (passed {es} {fs} l) h = h es fs l
then_like f g (fault n a) h = fault n a

forgotten-like : {base other : List Entry} {d : ℕ} {es fs : List Entry} → Like base other (suc d) es fs → Like base other d (forgotten es) (forgotten fs)
unfolding forgotten
forgotten-like (brace l) = l
forgotten-like (name a l) = forgotten-like l
forgotten-like (result a l) = forgotten-like l

module _ (text : List ℕ) (base other : List Entry) (seen : (a : ℕ) → is_visible text a base ≡ is_visible text a other) where
  visible-like : {d : ℕ} {es fs : List Entry} (a : ℕ) → Like base other d es fs → is_visible text a es ≡ is_visible text a fs
  unfolding is_visible defines_name
  visible-like a below = seen a
  visible-like a (brace l) = visible-like a l
  visible-like a (name b l) = ap (λ (v : Bool). same_at text b a || v) (visible-like a l)
  visible-like a (result b l) = visible-like a l

  define-like : {d : ℕ} (a : ℕ) (es fs : List Entry) → Like base other (suc d) es fs → LikeChecked base other (suc d) (define_name text a es) (define_name text a fs)
  unfolding define_name
  define-like a es fs l = rw (visible-like a l) (pick-like (is_visible text a fs) (fault 6 a) (passed (name a l)))

  use-like : {d : ℕ} (a : ℕ) (es fs : List Entry) → Like base other d es fs → LikeChecked base other d (use_name text a es) (use_name text a fs)
  unfolding use_name
  use-like a es fs l = rw (visible-like a l) (pick-like (is_visible text a fs) (passed l) (fault 5 a))

  settled-like : {d : ℕ} {es fs : List Entry} → Like base other (suc d) es fs → LikeChecked base other (suc d) (settled text es) (settled text fs)
  unfolding settled
  settled-like (brace l) = passed (brace l)
  settled-like (name a l) = passed (name a l)
  settled-like (result a l) = then_like (define_name text a) (define_name text a) (settled-like l) (define-like a)

  -- one token inside a body
  on-other : {d : ℕ} (role a : ℕ) (es fs : List Entry) → eqb role BodyOpen ≡ false → eqb role BodyClose ≡ false → Like base other (suc d) es fs →
      LikeChecked base other (suc d) (on_token text role a es) (on_token text role a fs)
  unfolding on_token
  on-other role a es fs o c l =
      rw (o, c)
      (pick-like (among (InputName ∷ ArgumentName ∷ []) role) (define-like a es fs l)
      (pick-like (eqb role ResultName) (passed (result a l)) (pick-like (eqb role OperandName) (use-like a es fs l) (passed l))))

  on-open : {d : ℕ} (a : ℕ) (es fs : List Entry) → Like base other d es fs → LikeChecked base other (suc d) (on_token text BodyOpen a es) (on_token text BodyOpen a fs)
  unfolding on_token
  on-open a es fs l = passed (brace l)

  on-close : {d : ℕ} (a : ℕ) (es fs : List Entry) → Like base other (suc d) es fs → LikeChecked base other d (on_token text BodyClose a es) (on_token text BodyClose a fs)
  unfolding on_token
  on-close a es fs l = passed (forgotten-like l)

  on-like : (d role a : ℕ) (es fs : List Entry) → Like base other (suc d) es fs → LikeChecked base other (depth_after (suc d) role) (on_token text role a es) (on_token text role a fs)
  on-like d role a es fs l = by-open (eqb role BodyOpen) refl
    where
      when : (x m : ℕ) → role ≡ x → depth_after (suc d) x ≡ m → LikeChecked base other m (on_token text x a es) (on_token text x a fs) →
          LikeChecked base other (depth_after (suc d) role) (on_token text role a es) (on_token text role a fs)
      when x m e f g =
          subst (λ (y : ℕ). LikeChecked base other (depth_after (suc d) y) (on_token text y a es) (on_token text y a fs)) (sym e)
          (subst (λ (y : ℕ). LikeChecked base other y (on_token text x a es) (on_token text x a fs)) (sym f) g)

      by-close : (b : Bool) → eqb role BodyClose ≡ b → eqb role BodyOpen ≡ false → LikeChecked base other (depth_after (suc d) role) (on_token text role a es) (on_token text role a fs)
      by-close true q p = when BodyClose d (eqb-true role BodyClose q) (depth-close d) (on-close a es fs l)
      by-close false q p = when role (suc d) refl (depth-other (suc d) role p q) (on-other role a es fs p q l)

      by-open : (b : Bool) → eqb role BodyOpen ≡ b → LikeChecked base other (depth_after (suc d) role) (on_token text role a es) (on_token text role a fs)
      by-open true q = when BodyOpen (suc (suc d)) (eqb-true role BodyOpen q) (depth-open (suc d)) (on-open a es fs l)
      by-open false q = by-close (eqb role BodyClose) refl q

  token-like : (d before role a : ℕ) (es fs : List Entry) → Like base other (suc d) es fs →
      LikeChecked base other (depth_after (suc d) role) (token_checked text before role a es) (token_checked text before role a fs)
  unfolding token_checked
  token-like d before role a es fs l =
      pick-like (ends before role) (then_like (on_token text role a) (on_token text role a) (settled-like l) (on-like d role a)) (on-like d role a es fs l)

  module _ (set : List ℕ) (calm : T (all_pass (λ r. not (member acting r)) set)) where
    -- outside bodies all roles are of the set: what is read, with base below, and the tokens of bodies alone, with other below
    abbrev Alike : List Reading → Type 0
    Alike xs = (d before later : ℕ) (es fs : List Entry) → (0 < d → before ≡ later) → T (outside set d (roles_of xs)) → Like base other d es fs →
        LikeChecked base other 0 (names_read text before es xs) (names_read text later fs (body_readings d xs))

    first-outside : (x : Reading) (xs : List Reading) (before later : ℕ) (es fs : List Entry) → Alike xs → T (member set x.role) → T (outside set (depth_after 0 x.role) (roles_of xs)) →
        Like base other 0 es fs → LikeChecked base other 0 (names_read text before es (x ∷ xs)) (names_read text later fs (body_readings 0 (x ∷ xs)))
    unfolding names_read body_readings
    first-outside x xs before later es fs ih m t l = go (eqb x.role BodyOpen) refl
      where
        go : (b : Bool) → eqb x.role BodyOpen ≡ b →
            LikeChecked base other 0 (then_checked (token_checked text before x.role x.token.start es) (λ rest. names_read text x.role rest xs))
            (names_read text later fs (pick (not b) [] (x ∷ []) ++ body_readings (depth_after 0 x.role) xs))
        go true q =
            let r = eqb-true x.role BodyOpen q in
            let d = ap (depth_after 0) r ∙ depth-open 0 in
            let v : (es : List Entry) (b : ℕ) → token_checked text b x.role x.token.start es ≡ entries (opened ∷ es) =
            λ es b. ap (λ (y : ℕ). token_checked text b y x.token.start es) r ∙ open-token text b x.token.start es in
            rw (v es before, v fs later, d) (ih 1 x.role x.role (opened ∷ es) (opened ∷ fs) (λ _. refl) (rw d at t) (brace l))
        go false q =
            let c = member-passes (λ r. not (member acting r)) set x.role calm m in
            let d = quiet-depth x.role c 0 q in
            rw (quiet-token x.role c text before x.token.start es q, d) (ih 0 x.role later es fs (λ h. absurd (omega arith)) (rw d at t) l)

    first-inside : (x : Reading) (xs : List Reading) (d before : ℕ) (es fs : List Entry) → Alike xs → T (outside set (depth_after (suc d) x.role) (roles_of xs)) →
        Like base other (suc d) es fs → LikeChecked base other 0 (names_read text before es (x ∷ xs)) (names_read text before fs (body_readings (suc d) (x ∷ xs)))
    unfolding names_read body_readings
    first-inside x xs d before es fs ih t l =
        rw (ne_eqb (suc d) 0 (λ e. omega arith))
        (then_like (λ rest. names_read text x.role rest xs) (λ rest. names_read text x.role rest (body_readings (depth_after (suc d) x.role) xs))
        (token-like d before x.role x.token.start es fs l) (λ es fs m. ih (depth_after (suc d) x.role) x.role x.role es fs (λ _. refl) t m))

    pub read_alike : (xs : List Reading) → Alike xs
    unfolding names_read body_readings
    read_alike [] d before later es fs e t l = passed (subst (λ (m : ℕ). Like base other m es fs) (eqb→eq d 0 t) l)
    read_alike (x ∷ xs) zero before later es fs e t l =
        let a = or (ltb 0 0) (member set x.role) in
        let b = outside set (depth_after 0 x.role) (roles_of xs) in
        first-outside x xs before later es fs (read_alike xs) (both_left a b t) (both_right a b t) l
    read_alike (x ∷ xs) (suc d) before later es fs e t l =
        let a = or (ltb 0 (suc d)) (member set x.role) in
        let b = outside set (depth_after (suc d) x.role) (roles_of xs) in
        subst (λ (y : ℕ). LikeChecked base other 0 (names_read text before es (x ∷ xs)) (names_read text y fs (body_readings (suc d) (x ∷ xs)))) (e (omega arith))
        (first-inside x xs d before es fs (read_alike xs) (both_right a b t) l)
