-- What reads take from known input, one after another.
-- Assumes nothing.
use Rattle.std.proofs.Common.{◌≡◌, ℕ, ◌+◌, ◌-◌, ◌*◌, ◌<◌, ◌≤◌, ◌⊎◌, inl, inr, List, [], ◌∷◌, ◌++◌, length, take, Option, None, Some, IfSome, refl, sym, ◌∙◌, ap, subst, arith, append_assoc, length-append, length-take-le}
use Rattle.std.proofs.lemmas.List.{take-append-le, append-nil, take_all}
use Rattle.std.proofs.Math.Nat.{eq-or-lt_of_le}
use Rattle.std.proofs.Math.Seq.{take-append-add, take-append_seam}
use borrow.Rule.Slice.PartMut.{put_mid, post_of}
use Rattle.std.specs.Io.KnownBytes.{Consumes, IsAtEnd}
use Rattle.streams.specs.Known.{Took, TookCount, IsKept}

-- a list with another behind it is empty only where that one is
end-nil : (xs ys : List ℕ) → xs ++ ys ≡ [] → ys ≡ []
end-nil [] ys e = e
end-nil (x ∷ xs) ys e = cc e

pub took-none : (o : Option (List ℕ)) → Took o o [] ⊥
took-none None = tt
took-none (Some xs) = (refl, λ h. absurd h)

pub took-more :
    (o m n : Option (List ℕ)) (xs ys : List ℕ) (E F G : Type 0) → Took o m xs E → Took m n ys F → (G → E ⊎ F) → Took o n (xs ++ ys) G
took-more None m n xs ys E F G a b g = tt
took-more (Some o) None n xs ys E F G a b g = absurd a
took-more (Some o) (Some m) None xs ys E F G a b g = absurd b
took-more (Some o) (Some m) (Some n) xs ys E F G a b g = (
  a.0 ∙ ap (λ z. xs ++ z) b.0 ∙ sym (append_assoc xs ys n),
  λ h. elim (g h) [ inl e ↦ end-nil ys n (sym b.0 ∙ a.1 e) | inr f ↦ b.1 f ],
)

-- one read into room
pub read-took :
    (o n : Option (List ℕ)) (k : ℕ) (buf : List ℕ) → Consumes o n (take k buf) × (k ≡ 0 → 0 < length buf → IsAtEnd n) → Took o n (take k buf) ((k ≡ 0) × (0 < length buf))
read-took None n k buf h = tt
read-took (Some o) None k buf h = absurd h.0
read-took (Some o) (Some n) k buf h = (h.0, λ q. h.1 q.0 q.1)

-- a read into the room behind the first a bytes
took-put : (a k c : ℕ) (xs ys : List ℕ) → a ≤ length xs → c ≤ length ys → take (a + c) (put_mid a k xs ys) ≡ take a xs ++ take c ys
took-put a k c xs ys h w =
    subst (λ (b : ℕ). take (b + c) (take a xs ++ (ys ++ post_of a k xs)) ≡ take a xs ++ take c ys) (length-take-le a xs h)
    (take-append-add (take a xs) (ys ++ post_of a k xs) c ∙ ap (λ z. take a xs ++ z) (take-append-le c ys (post_of a k xs) w))

pub front-more :
    (o m n : Option (List ℕ)) (a k c : ℕ) (xs ys : List ℕ) (E : Type 0) → a ≤ length xs → c ≤ length ys
    → Took o m (take a xs) ⊥ → Took m n (take c ys) E → Took o n (take (a + c) (put_mid a k xs ys)) ⊥
front-more o m n a k c xs ys E h w p q = rw (took-put a k c xs ys h w) (took-more o m n _ _ ⊥ E ⊥ p q (λ h. absurd h))

-- a turn of at most 65,536 bytes
turn-short :
    (total count done : ℕ) → done < 65536 → count ≤ 65536 → total + count + 65536 * (65536 - (done + 1)) < 4294967296
    → (total + 65536 * (65536 - done) < 4294967296) ⊎ (count < 65536)
turn-short total count done t w h = elim (eq-or-lt_of_le w) [ inl e ↦ inl (omega arith) | inr l ↦ inr l ]

pub turn-more :
    (o m n : Option (List ℕ)) (total count done : ℕ) → done < 65536 → count ≤ 65536
    → TookCount o m total (total + 65536 * (65536 - done) < 4294967296) → TookCount m n count (count < 65536)
    → TookCount o n (total + count) (total + count + 65536 * (65536 - (done + 1)) < 4294967296)
turn-more o m n total count done t w (xs, k, p) (ys, l, q) =
    (xs ++ ys, omega (arith, length-append xs ys, k, l), took-more o m n xs ys _ _ _ p q (turn-short total count done t w))

-- the text's first bytes, and those that follow: none where there is room
pub kept-short :
    (o n : Option (List ℕ)) (text : List ℕ) (len : ℕ) → len < length text → Took o n (take len text) (len < length text)
    → IfSome o (λ xs. IsKept xs text len 0)
kept-short None n text len h p = tt
kept-short (Some xs) None text len h p = absurd p
kept-short (Some xs) (Some ys) text len h p =
    let e : xs ≡ take len text = p.0 ∙ ap (λ z. take len text ++ z) (p.1 h) ∙ append-nil (take len text) in
    let l : length xs ≡ len = ap length e ∙ length-take-le len text (omega (arith, h)) in
    record {
      kept = sym e ∙ sym (take_all (length text) xs (omega (arith, h, l)));
      length-kept = omega (arith, h, l);
      counted = omega (arith, h, l);
    }

pub kept-long :
    (o m n : Option (List ℕ)) (text : List ℕ) (len more : ℕ) → len ≡ length text → more ≤ 4294967296
    → Took o m (take len text) (len < length text) → TookCount m n more (more < 4294967296) → IfSome o (λ xs. IsKept xs text len more)
kept-long None m n text len more h w p q = tt
kept-long (Some xs) None n text len more h w p q = absurd p
kept-long (Some xs) (Some ys) None text len more h w p q = absurd q.2
kept-long (Some xs) (Some ys) (Some zs) text len more h w p (bs, k, q) =
    let t : length (take len text) ≡ len = length-take-le len text (omega (arith, h)) in
    let l : length xs ≡ len + length ys = ap length p.0 ∙ length-append (take len text) ys ∙ ap (λ (z : ℕ). z + length ys) t in
    let r : length ys ≡ more + length zs = ap length q.0 ∙ length-append bs zs ∙ ap (λ (z : ℕ). z + length zs) k in
    record {
      kept = sym (ap (λ z. take (length text) z) p.0 ∙ ap (λ (z : ℕ). take z (take len text ++ ys)) (sym h ∙ sym t) ∙ take-append_seam (take len text) ys);
      length-kept = omega (arith, h, l);
      counted =
          elim (eq-or-lt_of_le w) [
            | inl e ↦ omega (arith, h, l, r, e)
            | inr u ↦ let z : length zs ≡ 0 = ap length (q.1 u) in omega (arith, h, l, r, w, z)
          ];
    }
