-- Middles that lie in one square, by the digits in which they differ.
use Rattle.std.proofs.Common.{◌≡◌, ◌⊎◌, inl, inr, refl, sym, ap, ◌∙◌, subst, ℕ, ◌+◌, ◌-◌, ◌*◌, ◌/◌, ◌%◌, ◌^◌, ◌<◌, ◌≤◌, Bool, true, false, nat_eq, nat_le, List, [], ◌∷◌, bit_or, bit_xor, arith}
use Rattle.std.specs.Bool.{Decides}
use Rattle.std.specs.List.{fold}
use Rattle.std.specs.Int.Bits.{xor_add_and, xor_self, or_self}
use Rattle.std.proofs.Math.Nat.{pow-le-pow_right}
use Rattle.std.proofs.lemmas.Bool.{false≢true, le-leb, leb-true}
use Rattle.std.proofs.lemmas.Bool.Decides.{Decides-and, Decides-eqb}
use Rattle.std.proofs.lemmas.Nat.{pow_pos, pow-add, shr-shr, shr_split, mod_below, div_below, and_le_l, and_le_r, le_or_l, le_or_r, or_shr, xor_shr, or_lt}
use Rattle.plane_terms.proofs.Truths.{same_by_truth}
use Rattle.plane_terms.proofs.ListLemmas.{IsAmong, contains_among}
use Rattle.grid_index.specs.declared.placed.Placed.{Placed}
use Rattle.grid_index.specs.declared.middle.Middle.{Middle}
use Rattle.grid_index.specs.Middles.{middle_of, apart, spread}
use Rattle.grid_index.specs.Squares.{same_square, AreInSquare, AreAt, IsBetween}
use Rattle.grid_index.proofs.Members.{among}

-- ---- one square
abbrev pub AreOne : ℕ → Middle → Middle → Type 0
AreOne k a b = (a.x / 2 ^ k ≡ b.x / 2 ^ k) × (a.y / 2 ^ k ≡ b.y / 2 ^ k)

pub one_square : (k : ℕ) (a b : Middle) → Decides (same_square k a b) (AreOne k a b)
one_square k a b = Decides-and _ _ (Decides-eqb (a.x / 2 ^ k) (b.x / 2 ^ k)) (Decides-eqb (a.y / 2 ^ k) (b.y / 2 ^ k))

pub square_self : (k : ℕ) (a : Middle) → same_square k a a ≡ true
square_self k a = (one_square k a a).1 (refl, refl)

pub square_of_same : (k : ℕ) (a b : Middle) → a ≡ b → same_square k a b ≡ true
square_of_same k a b e = subst (λ m. same_square k a m ≡ true) e (square_self k a)

pub square_back : (k : ℕ) (a b : Middle) → same_square k a b ≡ true → same_square k b a ≡ true
square_back k a b t = let e = (one_square k a b).0 t in (one_square k b a).1 (sym e.0, sym e.1)

pub square_on : (k : ℕ) (a b c : Middle) → same_square k a b ≡ true → same_square k b c ≡ true → same_square k a c ≡ true
square_on k a b c t u =
    let e = (one_square k a b).0 t in
    let f = (one_square k b c).0 u in
    (one_square k a c).1 (e.0 ∙ f.0, e.1 ∙ f.1)

-- two that lie in the square of a third
pub square_both : (k : ℕ) (a b c : Middle) → same_square k a b ≡ true → same_square k a c ≡ true → same_square k b c ≡ true
square_both k a b c t u = square_on k b a c (square_back k a b t) u

pub square_other : (k : ℕ) (a b c : Middle) → same_square k a b ≡ true → same_square k a c ≡ false → same_square k b c ≡ false
square_other k a b c t u = at (same_square k b c) refl
  where
    at : (v : Bool) → same_square k b c ≡ v → v ≡ false
    at false e = refl
    at true e = absurd (false≢true (sym u ∙ square_on k a b c t e))

pub apart_back : (k : ℕ) (a b : Middle) → same_square k a b ≡ false → same_square k b a ≡ false
apart_back k a b u = at (same_square k b a) refl
  where
    at : (v : Bool) → same_square k b a ≡ v → v ≡ false
    at false e = refl
    at true e = absurd (false≢true (sym u ∙ square_back k b a e))

quotient_wider : (n m j k : ℕ) → j ≤ k → n / 2 ^ j ≡ m / 2 ^ j → n / 2 ^ k ≡ m / 2 ^ k
quotient_wider n m j k h e =
    let s : j + (k - j) ≡ k = omega (arith, h) in
    ap (λ t. n / 2 ^ t) (sym s) ∙ (sym (shr-shr n j (k - j)) ∙ (ap (λ t. t / 2 ^ (k - j)) e ∙ (shr-shr m j (k - j) ∙ ap (λ t. m / 2 ^ t) s)))

pub square_wider : (j k : ℕ) (a b : Middle) → j ≤ k → same_square j a b ≡ true → same_square k a b ≡ true
square_wider j k a b h t =
    let e = (one_square j a b).0 t in
    (one_square k a b).1 (quotient_wider a.x b.x j k h e.0, quotient_wider a.y b.y j k h e.1)

-- a square that does not hold both is smaller than one that does
pub smaller_square : (j k : ℕ) (a b : Middle) → same_square j a b ≡ false → same_square k a b ≡ true → j < k
smaller_square j k a b u t = at (leb_cases k j)
  where
    leb_cases : (n m : ℕ) → (n ≤ m) ⊎ (m < n)
    leb_cases n m = grind arith

    at : (k ≤ j) ⊎ (j < k) → j < k
    at (inl h) = absurd (false≢true (sym u ∙ square_wider k j a b h t))
    at (inr h) = h

-- ---- the digits in which two numbers differ
xor_none : (a b : ℕ) → bit_xor a b ≡ 0 → a ≡ b
xor_none a b e = omega (arith, e, xor_add_and a b, and_le_l a b, and_le_r a b)

or_none : (a b : ℕ) → bit_or a b ≡ 0 → (a ≡ 0) × (b ≡ 0)
or_none a b e = (omega (arith, e, le_or_l a b), omega (arith, e, le_or_r a b))

same_xor : (a b : ℕ) → a ≡ b → bit_xor a b ≡ 0
same_xor a b e = subst (λ n. bit_xor a n ≡ 0) e (xor_self a)

none_below : (n k : ℕ) → n / 2 ^ k ≡ 0 → n < 2 ^ k
none_below n k e =
    let s : 0 * 2 ^ k + n % 2 ^ k ≡ n = subst (λ t. t * 2 ^ k + n % 2 ^ k ≡ n) e (shr_split n k) in
    omega (arith, s, mod_below n (2 ^ k) (pow_pos k))

below_none : (n k : ℕ) → n < 2 ^ k → n / 2 ^ k ≡ 0
below_none n k h = omega (arith, div_below n (2 ^ k) 1 (pow_pos k) (omega (arith, h)))

apart_at : (k : ℕ) (a b : Middle) → apart a b / 2 ^ k ≡ bit_or (bit_xor (a.x / 2 ^ k) (b.x / 2 ^ k)) (bit_xor (a.y / 2 ^ k) (b.y / 2 ^ k))
apart_at k a b = or_shr (bit_xor a.x b.x) (bit_xor a.y b.y) k
    ∙ (ap (λ n. bit_or n (bit_xor a.y b.y / 2 ^ k)) (xor_shr a.x b.x k) ∙ ap (λ n. bit_or (bit_xor (a.x / 2 ^ k) (b.x / 2 ^ k)) n) (xor_shr a.y b.y k))

square_of_none : (k : ℕ) (a b : Middle) → apart a b / 2 ^ k ≡ 0 → same_square k a b ≡ true
square_of_none k a b e =
    let n = or_none (bit_xor (a.x / 2 ^ k) (b.x / 2 ^ k)) (bit_xor (a.y / 2 ^ k) (b.y / 2 ^ k)) (sym (apart_at k a b) ∙ e) in
    (one_square k a b).1 (xor_none (a.x / 2 ^ k) (b.x / 2 ^ k) n.0, xor_none (a.y / 2 ^ k) (b.y / 2 ^ k) n.1)

none_of_square : (k : ℕ) (a b : Middle) → same_square k a b ≡ true → apart a b / 2 ^ k ≡ 0
none_of_square k a b t =
    let e = (one_square k a b).0 t in
    apart_at k a b
    ∙ (ap (λ n. bit_or n (bit_xor (a.y / 2 ^ k) (b.y / 2 ^ k))) (same_xor (a.x / 2 ^ k) (b.x / 2 ^ k) e.0)
    ∙ (ap (λ n. bit_or 0 n) (same_xor (a.y / 2 ^ k) (b.y / 2 ^ k) e.1) ∙ or_self 0))

pub beside_is : (k : ℕ) (a b : Middle) → nat_eq (apart a b / 2 ^ k) 0 ≡ same_square k a b
beside_is k a b = same_by_truth (nat_eq (apart a b / 2 ^ k) 0) (same_square k a b)
    (λ t. square_of_none k a b ((Decides-eqb (apart a b / 2 ^ k) 0).0 t))
    (λ t. (Decides-eqb (apart a b / 2 ^ k) 0).1 (none_of_square k a b t))

halved : (n : ℕ) → n ≤ 1 → n / 2 ^ 1 ≡ 0
halved n h = below_none n 1 (omega (arith, h))

from_half : (n : ℕ) → n / 2 ^ 1 ≡ 0 → n ≤ 1
from_half n e = omega (arith, none_below n 1 e)

pub round_is : (k : ℕ) (a b : Middle) → nat_le (apart a b / 2 ^ k) 1 ≡ same_square (k + 1) a b
round_is k a b = same_by_truth (nat_le (apart a b / 2 ^ k) 1) (same_square (k + 1) a b)
    (λ t. square_of_none (k + 1) a b (sym (shr-shr (apart a b) k 1) ∙ halved (apart a b / 2 ^ k) (leb-true (apart a b / 2 ^ k) 1 t)))
    (λ t. le-leb (apart a b / 2 ^ k) 1 (from_half (apart a b / 2 ^ k) (shr-shr (apart a b) k 1 ∙ none_of_square (k + 1) a b t)))

pub apart_none : (a b : Middle) → apart a b ≡ 0 → a ≡ b
apart_none a b e =
    let n = or_none (bit_xor a.x b.x) (bit_xor a.y b.y) e in
    let x = xor_none a.x b.x n.0 in
    let y = xor_none a.y b.y n.1 in
    λ i. record { x = x i; y = y i }

-- ---- the highest digit in which two differ
twice_power : (d : ℕ) → 2 * 2 ^ d ≡ 2 ^ (d + 1)
twice_power d = omega (arith, pow-add 2 d 1)

pub square_around : (d : ℕ) (a b : Middle) → apart a b < 2 * 2 ^ d → same_square (d + 1) a b ≡ true
square_around d a b h = square_of_none (d + 1) a b (below_none (apart a b) (d + 1) (subst (λ n. apart a b < n) (twice_power d) h))

pub square_within : (d : ℕ) (a b : Middle) → 2 ^ d ≤ apart a b → same_square d a b ≡ false
square_within d a b h = at (same_square d a b) refl
  where
    at : (v : Bool) → same_square d a b ≡ v → v ≡ false
    at false e = refl
    at true e = absurd (omega (arith, h, none_below (apart a b) d (none_of_square d a b e)))

-- ---- the digits in which the middles of a list differ from one
grows : (m : Middle) (n : ℕ) (ps : List Placed) → n ≤ fold (λ k (p : Placed). bit_or k (apart m (middle_of p.rect))) n ps
grows m n [] = omega arith
grows m n (p ∷ ps) = omega (arith, le_or_l n (apart m (middle_of p.rect)), grows m (bit_or n (apart m (middle_of p.rect))) ps)

each_within : (m : Middle) (n : ℕ) (ps : List Placed) (q : Placed) → IsAmong q ps
    → apart m (middle_of q.rect) ≤ fold (λ k (p : Placed). bit_or k (apart m (middle_of p.rect))) n ps
each_within m n [] q h = absurd h
each_within m n (p ∷ ps) q (inl e) = subst
    (λ (o : Placed). apart m (middle_of o.rect) ≤ fold (λ k (p : Placed). bit_or k (apart m (middle_of p.rect))) n (p ∷ ps)) (sym e)
    (omega (arith, le_or_r n (apart m (middle_of p.rect)), grows m (bit_or n (apart m (middle_of p.rect))) ps))
each_within m n (p ∷ ps) q (inr h) = each_within m (bit_or n (apart m (middle_of p.rect))) ps q h

all_below : (k : ℕ) (m : Middle) (n : ℕ) (ps : List Placed) → n < 2 ^ k → ((q : Placed) → IsAmong q ps → apart m (middle_of q.rect) < 2 ^ k)
    → fold (λ k (p : Placed). bit_or k (apart m (middle_of p.rect))) n ps < 2 ^ k
all_below k m n [] h each = h
all_below k m n (p ∷ ps) h each = all_below k m (bit_or n (apart m (middle_of p.rect))) ps
    (or_lt k n (apart m (middle_of p.rect)) h (each p (inl refl))) (λ q a. each q (inr a))

pub spread_none : (m : Middle) (ps : List Placed) → spread m ps ≡ 0 → AreAt m ps
spread_none m ps e p h = sym (apart_none m (middle_of p.rect) (omega (arith, e, each_within m 0 ps p (among ps p h))))

spread_square : (k : ℕ) (m : Middle) (ps : List Placed) → spread m ps < 2 ^ k → AreInSquare k m ps
spread_square k m ps s p h = square_of_none k m (middle_of p.rect)
    (below_none (apart m (middle_of p.rect)) k (omega (arith, s, each_within m 0 ps p (among ps p h))))

square_spread : (k : ℕ) (m : Middle) (ps : List Placed) → AreInSquare k m ps → spread m ps < 2 ^ k
square_spread k m ps all = all_below k m 0 ps (pow_pos k)
    (λ q a. none_below (apart m (middle_of q.rect)) k (none_of_square k m (middle_of q.rect) (all q (contains_among ps q a))))

power_order : (j k : ℕ) → 2 ^ j < 2 ^ k → j < k
power_order j k h = at (cases k j)
  where
    cases : (n m : ℕ) → (n ≤ m) ⊎ (m < n)
    cases n m = grind arith

    at : (k ≤ j) ⊎ (j < k) → j < k
    at (inl l) = let p : 2 ^ k ≤ 2 ^ j = pow-le-pow_right {n = 2} (omega arith) l in absurd (omega (arith, h, p))
    at (inr l) = l

pub spread_between : (d : ℕ) (m : Middle) (ps : List Placed) → 2 ^ d ≤ spread m ps → spread m ps < 2 * 2 ^ d → IsBetween d m ps
spread_between d m ps low high = (
  spread_square (d + 1) m ps (subst (λ n. spread m ps < n) (twice_power d) high),
  λ k all. power_order d k (omega (arith, low, square_spread k m ps all)),
)

pub apart_some : (k : ℕ) (a b : Middle) (n : ℕ) → n ≡ apart a b → same_square k a b ≡ false → 0 < n
apart_some k a b n e u = at (zero_cases n)
  where
    zero_cases : (m : ℕ) → (m ≡ 0) ⊎ (0 < m)
    zero_cases m = grind arith

    at : (n ≡ 0) ⊎ (0 < n) → 0 < n
    at (inl z) = absurd (false≢true (sym u ∙ square_of_same k a b (apart_none a b (sym e ∙ z))))
    at (inr h) = h
