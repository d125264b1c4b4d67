-- Whole numbers: a signed sum and its parts above and below zero; a sum compared by its two halves of 32 bits.
-- Assumes nothing.
use mathlib.Core.Path.{◌≡◌, refl, sym, ap, ◌∙◌}
use mathlib.Core.Bool.{Bool, true, false, ◌&&◌, cond}
use Prim.Native.Nat.{ℕ, suc, ◌+◌, ◌-◌, ◌*◌, ◌/◌, ◌%◌, ◌^◌, ◌≤◌, ◌<◌}
use native.Mathlib.Nat.{div-add-mod, div-add-mod', mod-lt, div-lt_iff_lt-mul, mul-le-mul, mul-add, mul_left_comm, add-mul, div-eq_of_lt-le}
use Rattle.std.specs.Int.{div_ceil}
use Rattle.std.proofs.lemmas.Grind.{div_ceil_times}
use native.Mathlib.Omega.{arith}
use lib.Dec.{ltb, eqb}
use lib.IntN.{ℤ, pos, negsuc, ◌+ℤ◌, ◌*ℤ◌, +ℤ_assoc, +ℤ_comm}
use borrow.Author.Tests.{ltb-false, le-ltb, eqb-true, eqb-false, eq-eqb, ne_eqb}
use lib.Signed.{le_z}
use Rattle.lists.specs.Lists.{pick}
use Rattle.dimrules.specs.Whole.{up_of, down_of, eq_int, ceil_div, non_negative}

-- the ceiling, with no sum that passes 64 bits
pub ceil-same : (a b : ℕ) → 0 < b → div_ceil a b ≡ ceil_div a b
ceil-same a b h =
    let e = div_ceil_times a b h in
    let m : (div_ceil a b + 1) * b ≡ div_ceil a b * b + 1 * b = add-mul (div_ceil a b) 1 b in
    sym (div-eq_of_lt-le {k = div_ceil a b} b {m = a + b - 1} (omega (arith, e.1)) (omega (arith, e.0, m)))

-- a number that is not negative stands in the lower half of the patterns
pub lower-half : (w : ℕ) → non_negative w ≡ true → ltb w (2 ^ 63) ≡ true
unfolding non_negative
lower-half w e = go (ltb w (2 ^ 63)) e
  where
    go : (b : Bool) → le_z (pos 0) (pick b (pos w) (negsuc (2 ^ 64 - 1 - w))) ≡ true → b ≡ true
    go true e = refl
    go false e = e

-- two tests of facts that follow from each other are the same
pub eqb-iff : (a b c d : ℕ) → (a ≡ b → c ≡ d) → (c ≡ d → a ≡ b) → eqb a b ≡ eqb c d
eqb-iff a b c d f g = go (eqb a b) refl
  where
    go : (t : Bool) → eqb a b ≡ t → eqb a b ≡ eqb c d
    go true e = e ∙ sym (eq-eqb c d (f (eqb-true a b e)))
    go false e = e ∙ sym (ne_eqb c d (λ q. eqb-false a b e (g q)))

abbrev is_pos : ℤ → ℕ
is_pos (pos n) = 1
is_pos (negsuc n) = 0

abbrev nat_of : ℤ → ℕ
nat_of (pos n) = n
nat_of (negsuc n) = 0

sub-pos : (a b u : ℕ) (t : Bool) → ltb a b ≡ t → cond t (negsuc (b - suc a)) (pos (a - b)) ≡ pos u → b + u ≡ a
sub-pos a b u true h e = absurd (let z : 0 ≡ 1 = ap is_pos e in let y : ⊥ = omega arith in y)
sub-pos a b u false h e = let q : a - b ≡ u = ap nat_of e in let g : b ≤ a = ltb-false a b h in omega arith

-- z is up - down
pub parts : (z : ℤ) → z +ℤ pos (down_of z) ≡ pos (up_of z)
parts (pos n) = ap pos (let e : n + 0 ≡ n = omega arith in e)
parts (negsuc n) = rw (le-ltb (n + 1) (suc n) (omega arith)) (ap pos (let e : n + 1 - suc n ≡ 0 = omega arith in e))

pub eq_int-parts : (m d u : ℕ) (z : ℤ) → z +ℤ pos d ≡ pos u → eq_int (pos m) z ≡ eqb (m + d) u
eq_int-parts m d u (pos x) e = let q : x + d ≡ u = ap nat_of e in eqb-iff m x (m + d) u (λ r. omega arith) (λ r. omega arith)
eq_int-parts m d u (negsuc x) e = let q : suc x + u ≡ d = sub-pos d (suc x) u (ltb d (suc x)) refl e in sym (ne_eqb (m + d) u (λ r. let y : ⊥ = omega arith in y))

pub swap : (a b c d : ℤ) → (a +ℤ b) +ℤ (c +ℤ d) ≡ (a +ℤ c) +ℤ (b +ℤ d)
swap a b c d =
    +ℤ_assoc a b (c +ℤ d)
    ∙ ap (λ (x : ℤ). a +ℤ x) (sym (+ℤ_assoc b c d) ∙ ap (λ (x : ℤ). x +ℤ d) (+ℤ_comm b c) ∙ +ℤ_assoc c b d)
    ∙ sym (+ℤ_assoc a c (b +ℤ d))

-- one summand more
pub more : (a : ℤ) (d u : ℕ) (z : ℤ) → a +ℤ pos d ≡ pos u → (a +ℤ z) +ℤ pos (d + down_of z) ≡ pos (u + up_of z)
more a d u z e = swap a z (pos d) (pos (down_of z)) ∙ ap (λ (x : ℤ). x +ℤ (z +ℤ pos (down_of z))) e ∙ ap (λ (x : ℤ). pos u +ℤ x) (parts z)

-- a sum from its halves
pub halves : (x y : ℕ) (h l : ℕ) → 4294967296 * h + l ≡ x → (t s : ℕ) → 4294967296 * t + s ≡ y
    → eqb (t + s / 4294967296) (h + l / 4294967296) && eqb (s % 4294967296) (l % 4294967296) ≡ eqb y x
halves x y h l e t s f = go (eqb (t + s / 4294967296) (h + l / 4294967296)) (eqb (s % 4294967296) (l % 4294967296)) refl refl
  where
    dl : l / 4294967296 * 4294967296 + l % 4294967296 ≡ l
    dl = div-add-mod' l 4294967296

    ds : s / 4294967296 * 4294967296 + s % 4294967296 ≡ s
    ds = div-add-mod' s 4294967296

    go : (a b : Bool) → eqb (t + s / 4294967296) (h + l / 4294967296) ≡ a → eqb (s % 4294967296) (l % 4294967296) ≡ b → a && b ≡ eqb y x
    go true true p q =
        let u : t + s / 4294967296 ≡ h + l / 4294967296 = eqb-true _ _ p in
        let v : s % 4294967296 ≡ l % 4294967296 = eqb-true _ _ q in
        sym (eq-eqb y x (omega arith))
    go true false p q =
        let v : s % 4294967296 ≡ l % 4294967296 → ⊥ = eqb-false _ _ q in
        sym (ne_eqb y x (λ r. v (omega arith)))
    go false b p q =
        let v : t + s / 4294967296 ≡ h + l / 4294967296 → ⊥ = eqb-false _ _ p in
        sym (ne_eqb y x (λ r. v (omega arith)))

-- half a number
pub low-bound : (x : ℕ) → x % 4294967296 < 4294967296
low-bound x = mod-lt x (omega arith)

pub high-bound : (x : ℕ) → x < 18446744073709551616 → x / 4294967296 < 4294967296
high-bound x h = let m : x < 4294967296 * 4294967296 = omega arith in let z : 0 < 4294967296 = omega arith in (div-lt_iff_lt-mul z).1 m

pub product-bound : (k x : ℕ) → k ≤ 4096 → x < 4294967296 → k * x ≤ 17592186044416
product-bound k x h l = let m : k * x ≤ 4096 * 4294967296 = (let g : x ≤ 4294967296 = omega arith in mul-le-mul h g) in omega arith

pub product-halves : (k i : ℕ) → 4294967296 * (k * (i / 4294967296)) + k * (i % 4294967296) ≡ k * i
product-halves k i =
    ap (λ (x : ℕ). x + k * (i % 4294967296)) (mul_left_comm 4294967296 k (i / 4294967296))
    ∙ sym (mul-add k (4294967296 * (i / 4294967296)) (i % 4294967296)) ∙ ap (λ (x : ℕ). k * x) (div-add-mod i 4294967296)

-- C4 of pad, as two sums of naturals
pub pad-sums : (m n k i : ℕ) (low high : ℤ)
    → eq_int (pos m) (pos n +ℤ low +ℤ pos k *ℤ pos i +ℤ high) ≡ eqb (m + down_of low + down_of high) (n + up_of low + k * i + up_of high)
pad-sums m n k i low high =
    let a : (pos n +ℤ low) +ℤ pos (0 + down_of low) ≡ pos (n + up_of low) = more (pos n) 0 n low (ap pos (let e : n + 0 ≡ n = omega arith in e)) in
    let b : (pos n +ℤ low +ℤ pos (k * i)) +ℤ pos (0 + down_of low + 0) ≡ pos (n + up_of low + k * i) = more (pos n +ℤ low) (0 + down_of low) (n + up_of low) (pos (k * i)) a in
    let d : (pos n +ℤ low +ℤ pos (k * i) +ℤ high) +ℤ pos (0 + down_of low + 0 + down_of high) ≡ pos (n + up_of low + k * i + up_of high) = more (pos n +ℤ low +ℤ pos (k * i)) (0 + down_of low + 0) (n + up_of low + k * i) high b in
    eq_int-parts m (0 + down_of low + 0 + down_of high) (n + up_of low + k * i + up_of high) (pos n +ℤ low +ℤ pos (k * i) +ℤ high) d
    ∙ ap (λ (x : ℕ). eqb x (n + up_of low + k * i + up_of high)) (let e : m + (0 + down_of low + 0 + down_of high) ≡ m + down_of low + down_of high = omega arith in e)
