-- What is noted of a part is the list of the tokens of its roles: one law over the part, the level and the readings.
-- Assumes nothing.
use mathlib.Core.Path.{◌≡◌, refl, sym, ap, subst, ◌∙◌}
use mathlib.Core.List.{List, [], ◌∷◌, ◌++◌, append_assoc}
use mathlib.Core.Bool.{Bool, true, false, not, ◌&&◌}
use Prim.Native.Nat.{ℕ, zero, suc, ◌+◌, ◌*◌, ◌<◌, ◌≤◌}
use native.Mathlib.Omega.{arith}
use native.Mathlib.Decide.{ℕ_discrete, dec_lt}
use lib.Dec.{T, eqb, ltb, ltb→lt}
use lib.ListN.{length, get_or, set, replicate, length-append}
use lib.Seq.{get_or-set_same, get_or-set_other, get_or-append_seam}
use borrow.Author.Tests.{eq-eqb, ne_eqb}
use Rattle.lists.specs.Lists.{pick, All}
use Rattle.scan.specs.Bytes.{among}
use Rattle.grammar.specs.Symbols.{FunctionName, InputName, InputType, OutputType, ResultName, OpName, FuncReturn, OperandName, OperandType, ResultType, BodyOpen, BodyLabel, ArgumentName, ArgumentType, BodyOpName, BodyReturn, AttributeName, leaf_count}
use Rattle.grammar.proofs.TableTest.{both_left, both_right, up_to, up-to}
use Rattle.grammar.proofs.Within.{all_pass}
use Rattle.syntax.specs.Readings.{Reading}
use Rattle.program.specs.declared.Parts.{Parts}
use Rattle.program.specs.Parts.{part_of, no_parts, noted, depth_after, parts_from}
use Rattle.places.specs.Places.{count_of, place_of}
use Rattle.source.specs.Source.{with_role}
use Rattle.reading_laws.proofs.CountLaw.{Wide, wide-noted, wide-none, none-counted, Added, fits, full, Noted, apart, within, noted-view, count-other, count_same, place-stays}
use Rattle.source_laws.specs.Listed.{part_roles, PartListed, PartWhole}

-- ---- lists with one item more

append-one : (l : List ℕ) (x j : ℕ) → (j ≡ length l → ⊥) → get_or (l ++ (x ∷ [])) j 0 ≡ get_or l j 0
append-one [] x zero n = absurd (n refl)
append-one [] x (suc j) n = refl
append-one (y ∷ l) x zero n = refl
append-one (y ∷ l) x (suc j) n = append-one l x j (λ e. n (ap (λ (m : ℕ). suc m) e))

-- ---- one token more

added-place : {p q : Parts} {k place : ℕ} (l : List ℕ) (j : ℕ) → Wide p → k < 11 → PartListed p k l → Added p k place q → j < 8 → place_of q k j ≡ get_or (l ++ (place ∷ [])) j 0
unfolding place_of
added-place {p} {k = k} {place = place} l j w h s (fits g) m = go (ℕ_discrete j (length l))
  where
    go : Dec (j ≡ length l) → get_or (set p.at (8 * k + count_of p k) place) (8 * k + j) 0 ≡ get_or (l ++ (place ∷ [])) j 0
    go (yes c) =
        let n = s.count in
        let z : 8 * k + j ≡ 8 * k + count_of p k = omega arith in
        let v = w.places in
        ap (λ (i : ℕ). get_or (set p.at (8 * k + count_of p k) place) i 0) z ∙
        (get_or-set_same p.at (8 * k + count_of p k) place 0 (omega arith) ∙ (sym (get_or-append_seam l place [] 0) ∙ ap (λ (i : ℕ). get_or (l ++ (place ∷ [])) i 0) (sym c)))
    go (no c) =
        let n = s.count in
        get_or-set_other p.at (8 * k + count_of p k) (8 * k + j) place 0 (λ e. c (omega arith)) ∙ (s.place j m ∙ sym (append-one l place j c))
added-place {k = k} {place = place} l j w h s (full g) m = let n = s.count in s.place j m ∙ sym (append-one l place j (λ e. omega arith))

added-listed : {p q : Parts} {k place : ℕ} (l : List ℕ) → Wide p → k < 11 → PartListed p k l → Added p k place q → PartListed q k (l ++ (place ∷ []))
added-listed {p} {q} {k} {place} l w h s a =
    record {
      count = (let c = count_same w h a in let n = s.count in let z = length-append l (place ∷ []) in omega arith);
      place = λ j m. added-place l j w h s a m;
    }

other-listed : {p q : Parts} {i place : ℕ} (k : ℕ) (l : List ℕ) → (k ≡ i → ⊥) → PartListed p k l → Added p i place q → PartListed q k l
other-listed k l n s a = record { count = count-other k n a ∙ s.count; place = λ j m. place-stays k j m (λ e. absurd (n e)) a ∙ s.place j m }

view-listed : {p q : Parts} {r place : ℕ} (k : ℕ) (l : List ℕ) → Wide p → k < 11 → PartListed p k l → Noted p r place q → Dec (part_of r ≡ k) →
    PartListed q k (pick (eqb (part_of r) k) (l ++ (place ∷ [])) l)
view-listed {r = r} k l w h s (apart g) d = rw (ne_eqb (part_of r) k (λ e. omega arith)) s
view-listed {p} {q} {r} {place} k l w h s (within g a) (yes e) = rw (eq-eqb (part_of r) k e) (added-listed l w h s (subst (λ (i : ℕ). Added p i place q) e a))
view-listed {r = r} k l w h s (within g a) (no n) = rw (ne_eqb (part_of r) k n) (other-listed k l (λ e. n (sym e)) s a)

noted-listed : (p : Parts) (r place k : ℕ) (l : List ℕ) → Wide p → k < 11 → PartListed p k l → PartListed (noted p r place) k (pick (eqb (part_of r) k) (l ++ (place ∷ [])) l)
noted-listed p r place k l w h s = view-listed k l w h s (noted-view p r place) (ℕ_discrete (part_of r) k)

-- ---- all tokens

-- of these readings, those of the roles are those of part k
abbrev pub OfPart : List ℕ → ℕ → List Reading → Type 0
OfPart roles k xs = All (λ x. among roles x.role ≡ eqb (part_of x.role) k) xs

parts_from_lem : (roles : List ℕ) (k level d : ℕ) (p : Parts) (l : List ℕ) (xs : List Reading) → k < 11 → OfPart roles k xs → Wide p → PartListed p k l →
    PartListed (parts_from level p d xs) k (l ++ with_role roles level d xs)
unfolding parts_from
parts_from_lem roles k level d p l [] h o w s = subst (PartListed p k) (sym (append-none l)) s
  where
    append-none : (l : List ℕ) → l ++ [] ≡ l
    append-none [] = refl
    append-none (x ∷ l) = ap (λ (m : List ℕ). x ∷ m) (append-none l)
parts_from_lem roles k level d p l (x ∷ xs) h o w s =
    go (eqb d level) (among roles x.role) o.0 (λ q m. parts_from_lem roles k level (depth_after d x.role) q m xs h o.1)
  where
    go : (b c : Bool) → c ≡ eqb (part_of x.role) k →
        ((q : Parts) (m : List ℕ) → Wide q → PartListed q k m → PartListed (parts_from level q (depth_after d x.role) xs) k (m ++ with_role roles level (depth_after d x.role) xs)) →
        PartListed (parts_from level (pick b (noted p x.role x.token.start) p) (depth_after d x.role) xs) k
        (l ++ pick (b && c) (x.token.start ∷ with_role roles level (depth_after d x.role) xs) (with_role roles level (depth_after d x.role) xs))
    go true true e f =
        let n = noted-listed p x.role x.token.start k l w h s in
        let m : PartListed (noted p x.role x.token.start) k (l ++ (x.token.start ∷ [])) = rw (sym e) at n in
        let i = f (noted p x.role x.token.start) (l ++ (x.token.start ∷ [])) (wide-noted p x.role x.token.start w) m in
        subst (PartListed (parts_from level (noted p x.role x.token.start) (depth_after d x.role) xs) k)
        (append_assoc l (x.token.start ∷ []) (with_role roles level (depth_after d x.role) xs)) i
    go true false e f =
        let n = noted-listed p x.role x.token.start k l w h s in
        let m : PartListed (noted p x.role x.token.start) k l = rw (sym e) at n in
        f (noted p x.role x.token.start) l (wide-noted p x.role x.token.start w) m
    go false c e f = f p l w s

none-placed : (k j : ℕ) → place_of no_parts k j ≡ 0
unfolding place_of no_parts
none-placed k j = zeros 88 (8 * k + j)
  where
    zeros : (n i : ℕ) → ◌≡◌ {A = ℕ} (get_or (replicate n 0) i 0) 0
    zeros zero i = refl
    zeros (suc n) zero = refl
    zeros (suc n) (suc i) = zeros n i

-- part k of any readings at a level is the list of their tokens of its roles there
pub parts-listed : (roles : List ℕ) (k level : ℕ) (xs : List Reading) → k < 11 → OfPart roles k xs → PartListed (parts_from level no_parts 0 xs) k (with_role roles level 0 xs)
parts-listed roles k level xs h o =
    parts_from_lem roles k level 0 no_parts [] xs h o wide-none (record { count = (let z = none-counted k in omega arith); place = λ j m. none-placed k j })

-- ---- the roles of part k

unfoldable pub same_bool : Bool → Bool → Bool
same_bool true b = b
same_bool false b = not b

pub same-equal : (a b : Bool) → T (same_bool a b) → a ≡ b
unfolding same_bool
same-equal true true t = refl
same-equal true false t = absurd t
same-equal false true t = absurd t
same-equal false false t = refl

role_test : ℕ → ℕ → Bool
role_test k r = same_bool (among (part_roles k) r) (eqb (part_of r) k)

low-role : (k r : ℕ) → k < 11 → r < leaf_count → among (part_roles k) r ≡ eqb (part_of r) k
unfolding part_of same_bool role_test
low-role k r h g =
    let t : T (up_to leaf_count (role_test k)) = up-to 11 (λ i. up_to leaf_count (role_test i)) k tt h in
    same-equal (among (part_roles k) r) (eqb (part_of r) k) (up-to leaf_count (role_test k) r t g)

high-none : (roles : List ℕ) (r : ℕ) → T (all_pass (λ x. ltb x leaf_count) roles) → leaf_count ≤ r → among roles r ≡ false
high-none [] r t h = refl
high-none (x ∷ xs) r t h =
    let m = ltb→lt x leaf_count (both_left (ltb x leaf_count) (all_pass (λ x. ltb x leaf_count) xs) t) in
    rw (ne_eqb r x (λ e. omega arith)) (high-none xs r (both_right (ltb x leaf_count) (all_pass (λ x. ltb x leaf_count) xs) t) h)

high_part : (r : ℕ) → leaf_count ≤ r → part_of r ≡ 11
unfolding part_of
high_part r h =
    rw (
      ne_eqb r OpName (λ e. omega arith),
      ne_eqb r FuncReturn (λ e. omega arith),
      ne_eqb r BodyOpName (λ e. omega arith),
      ne_eqb r BodyReturn (λ e. omega arith),
      ne_eqb r ResultName (λ e. omega arith),
      ne_eqb r OperandName (λ e. omega arith),
      ne_eqb r OperandType (λ e. omega arith),
      ne_eqb r ResultType (λ e. omega arith),
      ne_eqb r AttributeName (λ e. omega arith),
      ne_eqb r BodyOpen (λ e. omega arith),
      ne_eqb r InputName (λ e. omega arith),
      ne_eqb r ArgumentName (λ e. omega arith),
      ne_eqb r InputType (λ e. omega arith),
      ne_eqb r ArgumentType (λ e. omega arith),
      ne_eqb r OutputType (λ e. omega arith),
      ne_eqb r FunctionName (λ e. omega arith),
      ne_eqb r BodyLabel (λ e. omega arith),
    )

pub role-of-part : (k r : ℕ) → k < 11 → among (part_roles k) r ≡ eqb (part_of r) k
role-of-part k r h = go (dec_lt r leaf_count)
  where
    go : Dec (r < leaf_count) → among (part_roles k) r ≡ eqb (part_of r) k
    go (yes g) = low-role k r h g
    go (no g) =
        let t : T (all_pass (λ x. ltb x leaf_count) (part_roles k)) = up-to 11 (λ i. all_pass (λ x. ltb x leaf_count) (part_roles i)) k tt h in
        let e = high_part r (omega arith) in
        high-none (part_roles k) r t (omega arith) ∙ sym (rw e (ne_eqb 11 k (λ z. omega arith)))

-- part k is the list of the tokens of its roles
pub part-listed : (k level : ℕ) (xs : List Reading) → k < 11 → PartListed (parts_from level no_parts 0 xs) k (with_role (part_roles k) level 0 xs)
part-listed k level xs h = parts-listed (part_roles k) k level xs h (all xs)
  where
    all : (xs : List Reading) → OfPart (part_roles k) k xs
    all [] = tt
    all (x ∷ xs) = (role-of-part k x.role h, all xs)

-- a part of at most eight tokens
pub listed-whole : {p : Parts} {k : ℕ} {l : List ℕ} → count_of p k ≤ 8 → PartListed p k l → PartWhole p k l
listed-whole h s = let c = s.count in record { few = omega arith; count = omega arith; place = s.place }
