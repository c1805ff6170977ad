-- Steps on a line: what stands after one, before one, and between two.
use Rattle.std.proofs.Common.{◌≡◌, ℕ, zero, suc, ◌+◌, ◌*◌, ◌<◌, ◌≤◌, ◌^◌, ◌∙◌, ℤ, pos, negsuc, ◌+ℤ◌, ◌-ℤ◌, ◌*ℤ◌, neg_ℤ, ◌≤ℤ◌, ◌<ℤ◌, Bool, true, false, unsigned_abs, arith, sym, subst, inl, inr}
use Rattle.std.proofs.Common.{List, [], ◌∷◌, ◌++◌, length, get_or, take, ap, append-nil, refl, map, cond, ◌-◌}
use Rattle.std.proofs.lemmas.List.{take_more}
use Rattle.std.proofs.lemmas.Slice.Zip.{all_zipped_more, AllZip-long}
use Rattle.std.specs.List.{AllZip}
use Rattle.plane_terms.specs.Carve.{kept}
use Rattle.std.specs.Int.{int_div_euclid, w64}
use Rattle.std.specs.Prelude.{FitsSigned, Option, None, Some, IfNone, slice_get}
use Rattle.std.proofs.lemmas.Option.{get_or_from_slice_get, slice_get_within}
use mir.Val.{to_z, of_z}
use lib.Signed.{mag}
use Rattle.std.proofs.lemmas.Int.{ints}
use Rattle.plane_terms.specs.Point.{Point}
use Rattle.plane_terms.specs.HalfPlane.{HalfPlane, Holds, Says, value_at, turned}
use Rattle.plane_terms.specs.Cell.{Cell, InCell, meet_of}
use Rattle.plane_terms.specs.declared.op.Op.TheVariants.{Over, AtLeast, Zero}
use Rattle.number_laws.proofs.Ring.{num, neg, ◌⊕◌, ◌⊖◌, ◌⊗◌, same_by, le_by, lt_by, le_read, lt_read}
use Rattle.number_laws.proofs.Order.{le_trans_ℤ, scaled_le, lt_scaled, product_at_least, over_unscaled, cases_order_ℤ}
use Rattle.cell_laws.specs.Bounds.{Above}
use Rattle.cell_laws.proofs.Outside.{turned_value}
use Rattle.convex_cell.proofs.Spans.{floor_at, rounded_holds}
use Rattle.convex_cell.specs.declared.bounds.Bounds.{Bounds}
use Rattle.convex_cell.specs.Span.{After, Before, IsSpan, InBounds, IsBoundsOf, AreApart, AreBeside, Follows, AreRisingTo}
use Rattle.std.proofs.lemmas.Bool.{cases_Bool, cases_lt}
use Rattle.plane_terms.specs.Decide.{has_point}
use Rattle.cell_laws.proofs.Decision.{has_point-true}
use Rattle.cell_laws.proofs.Meets.{meet_points}

-- ---- the quotient that rounds down, as the code has it
pub back : (v : ℤ) → unsigned_abs v ≤ 2 ^ 50 → to_z w64 (of_z w64 v) ≡ v
back v h = omega (arith, ints)

pub floor_code : (k m r : ℤ) → FitsSigned w64 k → FitsSigned w64 m → mag r < 2 ^ 63 → pos 0 <ℤ m
    → r ≡ int_div_euclid (to_z w64 (of_z w64 k)) (to_z w64 (of_z w64 m)) → ((to_z w64 (of_z w64 r) *ℤ m) ≤ℤ k)
    × (k <ℤ ((to_z w64 (of_z w64 r) +ℤ pos 1) *ℤ m))
floor_code k m r f g h p e =
    let i : to_z w64 (of_z w64 k) ≡ k = omega (arith, ints) in
    let j : to_z w64 (of_z w64 m) ≡ m = omega (arith, ints) in
    let l : to_z w64 (of_z w64 r) ≡ r = omega (arith, ints) in
    let n : to_z w64 (of_z w64 r) ≡ int_div_euclid k m = l ∙ (rw (i, j) at e) in
    rw n (floor_at k m p)

-- ---- a step that is known
pub after_at : (u t : ℤ) (w : ℕ) → 0 < w → (u *ℤ pos w) ≤ℤ t → After (pos 2 *ℤ u) t w
after_at u t w p h = record {
  at = λ v n k. le_trans_ℤ (v *ℤ pos w) (u *ℤ pos w) t (scaled_le v u w (omega (arith, ints))) h;
  over = λ v n k. through_lt (v *ℤ pos w) (u *ℤ pos w) t (lt_scaled v u w p (omega (arith, ints))) h;
}
  where
    through_lt : (a b c : ℤ) → a <ℤ b → b ≤ℤ c → a <ℤ c
    through_lt a b c h k = omega (arith, ints)

pub after_over : (u t : ℤ) (w : ℕ) → (u *ℤ pos w) <ℤ t → After (pos 2 *ℤ u +ℤ pos 1) t w
after_over u t w h = record {
  at = λ v n k. weaker (v *ℤ pos w) (u *ℤ pos w) t (scaled_le v u w (omega (arith, ints))) h;
  over = λ v n k. through (v *ℤ pos w) (u *ℤ pos w) t (scaled_le v u w (omega (arith, ints))) h;
}
  where
    weaker : (a b c : ℤ) → a ≤ℤ b → b <ℤ c → a ≤ℤ c
    weaker a b c h k = omega (arith, ints)

    through : (a b c : ℤ) → a ≤ℤ b → b <ℤ c → a <ℤ c
    through a b c h k = omega (arith, ints)

-- the same, seen from the other side
pub scaled_neg : (v : ℤ) (w : ℕ) → neg_ℤ v *ℤ pos w ≡ neg_ℤ (v *ℤ pos w)
scaled_neg v w = same_by (neg (num v) ⊗ num (pos w)) (neg (num v ⊗ num (pos w))) (omega arith)

pub before_from_after : (k t : ℤ) (w : ℕ) → After k (neg_ℤ t) w → Before (neg_ℤ k) t w
before_from_after k t w a = record {
  at = λ v n h. flip _ _ (rw (scaled_neg v w) at (a.at (neg_ℤ v) (omega (arith, ints)) (omega (arith, ints))));
  under = λ v n h. flip_lt _ _ (rw (scaled_neg v w) at (a.over (neg_ℤ v) (omega (arith, ints)) (omega (arith, ints))));
}
  where
    flip : (x t : ℤ) → neg_ℤ x ≤ℤ neg_ℤ t → t ≤ℤ x
    flip x t h = omega (arith, ints)

    flip_lt : (x t : ℤ) → neg_ℤ x <ℤ neg_ℤ t → t <ℤ x
    flip_lt x t h = omega (arith, ints)

-- ---- a bound from below, rounded
strict_holds : (q b high z : ℤ) (w : ℕ) → pos 0 <ℤ b → (q *ℤ b) ≤ℤ neg_ℤ high → pos 0 <ℤ (b *ℤ z +ℤ high *ℤ pos w) → (q *ℤ pos w) <ℤ z
strict_holds q b high z w p h a =
    let s : pos 0 ≤ℤ ((neg_ℤ high -ℤ q *ℤ b) *ℤ pos w) = product_at_least _ (pos w) (omega (arith, ints)) (omega (arith, ints)) in
    let d : pos 0 <ℤ (b *ℤ (z -ℤ q *ℤ pos w)) = lt_by (num (pos 0)) (num b ⊗ (num z ⊖ num q ⊗ num (pos w)))
    (omega (
      arith,
      le_read (num (pos 0)) ((neg (num high) ⊖ num q ⊗ num b) ⊗ num (pos w)) s,
      lt_read (num (pos 0))
          (num b ⊗ num z ⊕ num high ⊗ num (pos w)) a,
    )) in
    apart z (q *ℤ pos w) (over_unscaled b _ p d)
  where
    apart : (a b : ℤ) → pos 0 <ℤ (a -ℤ b) → b <ℤ a
    apart a b h = omega (arith, ints)

pub first_strict : (s : Bool) (q b high z k : ℤ) (w : ℕ) → s ≡ true → pos 0 <ℤ b → (q *ℤ b) ≤ℤ neg_ℤ high → k ≡ pos 2 *ℤ q +ℤ pos 1
    → Above s (b *ℤ z +ℤ high *ℤ pos w) → After k z w
first_strict s q b high z k w t p h e a =
    rw e (after_over q z w (strict_holds q b high z w p h (subst (λ r. Above r (b *ℤ z +ℤ high *ℤ pos w)) t a)))

pub first_weak : (s : Bool) (q b high z k : ℤ) (w : ℕ) → s ≡ false → 0 < w → pos 0 <ℤ b → (q *ℤ b) ≤ℤ neg_ℤ high → k ≡ pos 2 *ℤ q
    → Above s (b *ℤ z +ℤ high *ℤ pos w) → After k z w
first_weak s q b high z k w t n p h e a =
    rw e (after_at q z w n (rounded_holds b high q z false w p h (subst (λ r. Above r (b *ℤ z +ℤ high *ℤ pos w)) t a)))

-- the bound on the other side
pub turned_above : (s : Bool) (b high z : ℤ) (w : ℕ) → Above s (b *ℤ z +ℤ high *ℤ pos w) → Above s (neg_ℤ b *ℤ neg_ℤ z +ℤ high *ℤ pos w)
turned_above s b high z w a =
    subst (Above s) (same_by (num b ⊗ num z ⊕ num high ⊗ num (pos w)) (neg (num b) ⊗ neg (num z) ⊕ num high ⊗ num (pos w)) (omega arith)) a

-- ---- the greatest value between two abscissas
pub high_right : (a c right x : ℤ) (w : ℕ) → pos 0 ≤ℤ a → x ≤ℤ (right *ℤ pos w) → (a *ℤ x +ℤ c *ℤ pos w) ≤ℤ ((a *ℤ right +ℤ c) *ℤ pos w)
high_right a c right x w p h =
    let d : pos 0 ≤ℤ (a *ℤ (right *ℤ pos w -ℤ x)) = product_at_least a _ p (room (right *ℤ pos w) x h) in
    le_by (num a ⊗ num x ⊕ num c ⊗ num (pos w)) ((num a ⊗ num right ⊕ num c) ⊗ num (pos w))
    (omega (arith, le_read (num (pos 0)) (num a ⊗ (num right ⊗ num (pos w) ⊖ num x)) d))
  where
    room : (a b : ℤ) → b ≤ℤ a → pos 0 ≤ℤ (a -ℤ b)
    room a b h = omega (arith, ints)

pub high_left : (a c left x : ℤ) (w : ℕ) → a <ℤ pos 0 → (left *ℤ pos w) ≤ℤ x → (a *ℤ x +ℤ c *ℤ pos w) ≤ℤ ((a *ℤ left +ℤ c) *ℤ pos w)
high_left a c left x w p h =
    let d : pos 0 ≤ℤ (neg_ℤ a *ℤ (x -ℤ left *ℤ pos w)) = product_at_least (neg_ℤ a) _ (omega (arith, ints)) (room x (left *ℤ pos w) h) in
    le_by (num a ⊗ num x ⊕ num c ⊗ num (pos w)) ((num a ⊗ num left ⊕ num c) ⊗ num (pos w))
    (omega (arith, le_read (num (pos 0)) (neg (num a) ⊗ (num x ⊖ num left ⊗ num (pos w))) d))
  where
    room : (a b : ℤ) → b ≤ℤ a → pos 0 ≤ℤ (a -ℤ b)
    room a b h = omega (arith, ints)

-- a half-plane with its part along x replaced by the greatest
pub raised : (s : Bool) (h : HalfPlane) (p : Point) (high : ℤ) → (h.a *ℤ p.x +ℤ h.c *ℤ pos p.w) ≤ℤ (high *ℤ pos p.w)
    → Above s (value_at h p) → Above s (h.b *ℤ p.y +ℤ high *ℤ pos p.w)
raised true h p high m a = over (h.a *ℤ p.x) (h.b *ℤ p.y) (h.c *ℤ pos p.w) (high *ℤ pos p.w) m a
  where
    over : (x y c g : ℤ) → (x +ℤ c) ≤ℤ g → pos 0 <ℤ (x +ℤ y +ℤ c) → pos 0 <ℤ (y +ℤ g)
    over x y c g m a = omega (arith, ints)
raised false h p high m a = least (h.a *ℤ p.x) (h.b *ℤ p.y) (h.c *ℤ pos p.w) (high *ℤ pos p.w) m a
  where
    least : (x y c g : ℤ) → (x +ℤ c) ≤ℤ g → pos 0 ≤ℤ (x +ℤ y +ℤ c) → pos 0 ≤ℤ (y +ℤ g)
    least x y c g m a = omega (arith, ints)

-- ---- what a half-plane says, by its operator
pub above_over : (h : HalfPlane) (p : Point) → h.op ≡ Over → Holds h p → Above true (value_at h p)
above_over h p e k = subst (λ o. Says o (value_at h p)) e k

pub above_at_least : (h : HalfPlane) (p : Point) → h.op ≡ AtLeast → Holds h p → Above false (value_at h p)
above_at_least h p e k = subst (λ o. Says o (value_at h p)) e k

pub above_zero : (h : HalfPlane) (p : Point) → h.op ≡ Zero → Holds h p → Above false (value_at h p)
above_zero h p e k = least _ (subst (λ o. Says o (value_at h p)) e k)
  where
    least : (v : ℤ) → v ≡ pos 0 → pos 0 ≤ℤ v
    least v e = omega (arith, ints)

pub above_turned : (h : HalfPlane) (p : Point) → h.op ≡ Zero → Holds h p → Above false (value_at (turned h AtLeast) p)
above_turned h p e k = rw (turned_value h AtLeast p) (least _ (subst (λ o. Says o (value_at h p)) e k))
  where
    least : (v : ℤ) → v ≡ pos 0 → pos 0 ≤ℤ neg_ℤ v
    least v e = omega (arith, ints)

-- without y
pub flat_above : (s : Bool) (h : HalfPlane) (p : Point) → h.b ≡ pos 0 → Above s (value_at h p) → Above s (h.a *ℤ p.x +ℤ h.c *ℤ pos p.w)
flat_above s h p e a = subst (Above s) (gone h.b e) a
  where
    gone : (b : ℤ) → b ≡ pos 0 → h.a *ℤ p.x +ℤ b *ℤ p.y +ℤ h.c *ℤ pos p.w ≡ h.a *ℤ p.x +ℤ h.c *ℤ pos p.w
    gone b e = rw e (same_by (num h.a ⊗ num p.x ⊕ num (pos 0) ⊗ num p.y ⊕ num h.c ⊗ num (pos p.w))
        (num h.a ⊗ num p.x ⊕ num h.c ⊗ num (pos p.w)) (omega arith))

pub flat_turned : (h : HalfPlane) → h.b ≡ pos 0 → (turned h AtLeast).b ≡ pos 0
flat_turned h e = omega (arith, ints)

-- ---- spans apart
halves : (n : ℕ) → (m : ℕ) × (n ≤ 2 * m) × (2 * m ≤ n + 1)
halves zero = (0, omega arith, omega arith)
halves (suc zero) = (1, omega arith, omega arith)
halves (suc (suc n)) = let h = halves n in (suc h.0, omega arith, omega arith)

half_of : (k : ℤ) → (v : ℤ) × (k ≤ℤ (pos 2 *ℤ v)) × ((pos 2 *ℤ v) ≤ℤ (k +ℤ pos 1))
half_of (pos n) = let h = halves n in (pos h.0, omega (arith, ints), omega (arith, ints))
half_of (negsuc n) = let h = halves n in (neg_ℤ (pos h.0), omega (arith, ints), omega (arith, ints))

pub never_both : (k n t : ℤ) (w : ℕ) → k <ℤ n → negsuc 562949953421311 ≤ℤ k → n ≤ℤ pos 562949953421312 → Before k t w → After n t w → ⊥
never_both k n t w less low high b a =
    let h = half_of k in
    let v = h.0 in
    elim (cases_order_ℤ k (pos 2 *ℤ v)) [
      | inl l ↦ clash_lt (v *ℤ pos w) t (b.under v (omega (arith, ints)) l) (a.at v (omega (arith, ints)) (omega (arith, ints)))
      | inr g ↦ clash_le (v *ℤ pos w) t (b.at v (omega (arith, ints)) h.1) (a.over v (omega (arith, ints)) (omega (arith, ints)))
    ]
  where
    clash_lt : (x t : ℤ) → t <ℤ x → x ≤ℤ t → ⊥
    clash_lt x t h k = omega (arith, ints)

    clash_le : (x t : ℤ) → t ≤ℤ x → x <ℤ t → ⊥
    clash_le x t h k = omega (arith, ints)

-- ---- two cells apart
no_meet : (c d : Cell) → ((p : Point) → InCell c p → InCell d p → ⊥) → has_point (meet_of c d) ≡ false
no_meet c d never = elim (cases_Bool (has_point (meet_of c d))) [
  | inl e ↦
      let h = (has_point-true (meet_of c d)).0 e in
      let m = (meet_points c d h.0).0 h.1 in
      absurd (never h.0 m.0 m.1)
  | inr e ↦ e
]

pub never_in : (b e : Bounds) → AreApart b e → IsSpan b.x → IsSpan b.y → IsSpan e.x → IsSpan e.y → (p : Point) → InBounds b p → InBounds e p
    → ⊥
never_in b e (inl h) bx by ex ey p m n = never_both b.x.to e.x.from p.x p.w h bx.to_low ex.from_high m.along.before n.along.after
never_in b e (inr (inl h)) bx by ex ey p m n = never_both e.x.to b.x.from p.x p.w h ex.to_low bx.from_high n.along.before m.along.after
never_in b e (inr (inr (inl h))) bx by ex ey p m n = never_both b.y.to e.y.from p.y p.w h by.to_low ey.from_high m.up.before n.up.after
never_in b e (inr (inr (inr h))) bx by ex ey p m n = never_both e.y.to b.y.from p.y p.w h ey.to_low by.from_high n.up.before m.up.after

pub in_bounds : (b : Bounds) (c : Cell) → IsBoundsOf b c → (p : Point) → InCell c p → InBounds b p
in_bounds b c i p m = record { along = i.x p m; up = i.y p m }

pub never_in_cells : (b e : Bounds) (c d : Cell) → AreApart b e → IsBoundsOf b c → IsBoundsOf e d → (p : Point) → InCell c p → ¬ (InCell d p)
never_in_cells b e c d h i j p m n = never_in b e h i.x_fits i.y_fits j.x_fits j.y_fits p (in_bounds b c i p m) (in_bounds e d j p n)

pub apart : (b e : Bounds) (c d : Cell) → AreApart b e → IsBoundsOf b c → IsBoundsOf e d → has_point (meet_of c d) ≡ false
apart b e c d h i j = no_meet c d (never_in_cells b e c d h i j)

-- what may be passed over adds nothing
pub none_kept : (b e : Bounds) (c d : Cell) (cs : List Cell) → AreApart b e → IsBoundsOf b c → IsBoundsOf e d
    → cs ≡ cs ++ kept (meet_of c d ∷ [])
none_kept b e c d cs h i j = rw (apart b e c d h i j) (sym (append-nil cs))

pub zip_at : {A B : Type 0} (R : A → B → Type 0) (xs : List A) (ys : List B) (i : ℕ) (d : A) (e : B) → AllZip R xs ys → i < length xs
    → R (get_or xs i d) (get_or ys i e)
zip_at R [] ys i d e z h = absurd (omega arith)
zip_at R (x ∷ xs) [] i d e z h = absurd z
zip_at R (x ∷ xs) (y ∷ ys) zero d e z h = z.0
zip_at R (x ∷ xs) (y ∷ ys) (suc i) d e z h = zip_at R xs ys i d e z.1 (omega arith)

pub bounds_more : (bs ds : List Bounds) (cs : List Cell) (i : ℕ) (b : Bounds) (c : Cell) → i < length cs → c ≡ get_or cs i c
    → AllZip IsBoundsOf bs (take i cs) → IsBoundsOf b c → ds ≡ bs ++ b ∷ [] → AllZip IsBoundsOf ds (take (i + 1) cs)
bounds_more bs ds cs i b c h e z j k =
    let s : take (i + 1) cs ≡ take i cs ++ c ∷ [] = take_more cs i c h ∙ ap (λ y. take i cs ++ y ∷ []) (sym e) in
    rw (s, k) (all_zipped_more IsBoundsOf bs (take i cs) b c z j)

pub bounds_long : (bs : List Bounds) (cs : List Cell) (i : ℕ) → take i cs ≡ cs → AllZip IsBoundsOf bs (take i cs) → length bs ≡ length cs
bounds_long bs cs i e z = sym (AllZip-long IsBoundsOf bs cs (rw e at z))

pub bounds_at : (bs : List Bounds) (cs : List Cell) (i : ℕ) (b : Bounds) (c : Cell) → AllZip IsBoundsOf bs cs → length bs ≡ length cs
    → i < length cs → c ≡ get_or cs i c → IsBoundsOf (get_or bs i b) c
bounds_at bs cs i b c z e h g = subst (IsBoundsOf (get_or bs i b)) (sym g) (zip_at IsBoundsOf bs cs i b c z (omega arith))

-- ---- lists of bounds in order
abbrev pub nowhere : Bounds
nowhere = record { x = record { from = pos 0; to = pos 0 }; y = record { from = pos 0; to = pos 0 } }

between : (x y z : ℤ) → x ≤ℤ y → y ≤ℤ z → x ≡ z → (x ≡ y) × (y ≡ z)
between x y z h k e = (omega (arith, ints), omega (arith, ints))

follows_through : (b d e : Bounds) → Follows b d → Follows d e → Follows b e
follows_through b d e h k = record {
  from = le_trans_ℤ b.x.from d.x.from e.x.from h.from k.from;
  to = le_trans_ℤ b.x.to d.x.to e.x.to h.to k.to;
  up_from = λ f t.
      let i = between b.x.from d.x.from e.x.from h.from k.from f in
      let j = between b.x.to d.x.to e.x.to h.to k.to t in
      le_trans_ℤ b.y.from d.y.from e.y.from (h.up_from (i.0) (j.0)) (k.up_from (i.1) (j.1));
  up_to = λ f t.
      let i = between b.x.from d.x.from e.x.from h.from k.from f in
      let j = between b.x.to d.x.to e.x.to h.to k.to t in
      le_trans_ℤ b.y.to d.y.to e.y.to (h.up_to (i.0) (j.0)) (k.up_to (i.1) (j.1));
}

follows_itself : (b : Bounds) → Follows b b
follows_itself b = record {
  from = itself b.x.from;
  to = itself b.x.to;
  up_from = λ f t. itself b.y.from;
  up_to = λ f t. itself b.y.to;
}
  where
    itself : (x : ℤ) → x ≤ℤ x
    itself x = omega (arith, ints)

pub rising_one : (bs : List Bounds) (n : ℕ) → n ≤ 1 → AreRisingTo n bs
rising_one bs n h j k d l m =
    let e : j ≡ k = omega arith in
    rw e (follows_itself (get_or bs k d))

pub rising_more : (bs : List Bounds) (i : ℕ) → 1 ≤ i → AreRisingTo i bs → ((d : Bounds) → Follows (get_or bs (i - 1) d) (get_or bs i d))
    → AreRisingTo (i + 1) bs
rising_more bs i p r f j k d l m = elim (cases_lt k i) [
  | inl h ↦ r j k d l h
  | inr h ↦
      let e : k ≡ i = omega arith in
      elim (cases_lt j i) [
        | inl n ↦ rw e (follows_through (get_or bs j d) (get_or bs (i - 1) d) (get_or bs i d) (r j (i - 1) d (omega arith) (omega arith))
            (f d))
        | inr n ↦ let g : j ≡ i = omega arith in rw (e, g) (follows_itself (get_or bs i d))
      ]
]

pub same_at : (bs : List Bounds) (i : ℕ) (d e : Bounds) → i < length bs → get_or bs i d ≡ get_or bs i e
same_at [] i d e h = absurd (omega arith)
same_at (b ∷ bs) zero d e h = refl
same_at (b ∷ bs) (suc i) d e h = same_at bs i d e (omega arith)

pub follows_any : (bs : List Bounds) (i j : ℕ) (y z d : Bounds) → i < length bs → j < length bs → Follows (get_or bs i y) (get_or bs j z)
    → Follows (get_or bs i d) (get_or bs j d)
follows_any bs i j y z d h k f = rw (same_at bs i d y h, same_at bs j d z k) f

pub ends_before : (bs : List Bounds) (m k : ℕ) (z d : Bounds) (v : ℤ) → AreRisingTo (length bs) bs → k ≤ m → m < length bs
    → (get_or bs m z).x.to <ℤ v → (get_or bs k d).x.to <ℤ v
ends_before bs m k z d v r l h e = through _ _ v (r k m d l h).to (subst (λ (b : Bounds). b.x.to <ℤ v) (same_at bs m z d h) e)
  where
    through : (x y v : ℤ) → x ≤ℤ y → y <ℤ v → x <ℤ v
    through x y v h k = omega (arith, ints)

pub begins_after : (bs : List Bounds) (m k : ℕ) (z d : Bounds) (v : ℤ) → AreRisingTo (length bs) bs → m ≤ k → k < length bs
    → v <ℤ (get_or bs m z).x.from → v <ℤ (get_or bs k d).x.from
begins_after bs m k z d v r l h e = through v _ _ (subst (λ (b : Bounds). v <ℤ b.x.from) (same_at bs m z d (omega arith)) e)
    (r m k d l h).from
  where
    through : (v x y : ℤ) → v <ℤ x → x ≤ℤ y → v <ℤ y
    through v x y h k = omega (arith, ints)

pub if_none_then : {T P Q : Type 0} (r : Option T) → (P → Q) → IfNone r P → IfNone r Q
if_none_then None f n = f n
if_none_then (Some x) f n = n

-- what stands from the one up to the other is apart from what those are beside
pub beside_apart : (bs : List Bounds) (e : Bounds) (i k m : ℕ) (y z d : Bounds) → AreRisingTo (length bs) bs → i ≤ k → k ≤ m → m < length bs
    → AreBeside e (get_or bs i y) (get_or bs m z) → AreApart e (get_or bs k d)
beside_apart bs e i k m y z d r h l n g =
    stands (get_or bs i d) (get_or bs k d) (get_or bs m d) (r i k d h (omega arith)) (r k m d l n)
    (rw (same_at bs i d y (omega arith), same_at bs m d z n) g)
  where
    stands : (b c d : Bounds) → Follows b c → Follows c d → AreBeside e b d → AreApart e c
    stands b c d h k g =
        let i = between b.x.from c.x.from d.x.from h.from k.from g.from in
        let j = between b.x.to c.x.to d.x.to h.to k.to g.to in
        elim g.beyond [
          | inl below ↦ inr (inr (inr (under c.y.to d.y.to e.y.from (k.up_to (i.1) (j.1)) below)))
          | inr above ↦ inr (inr (inl (over e.y.to b.y.from c.y.from above (h.up_from (i.0) (j.0)))))
        ]
      where
        under : (x y v : ℤ) → x ≤ℤ y → y <ℤ v → x <ℤ v
        under x y v h k = omega (arith, ints)

        over : (v x y : ℤ) → v <ℤ x → x ≤ℤ y → v <ℤ y
        over v x y h k = omega (arith, ints)

-- a cell that these bounds leave out has no point of what lies within the others
pub clear_at : (own : Bounds) (bs : List Bounds) (cs : List Cell) (k : ℕ) → AllZip IsBoundsOf bs cs → length bs ≡ length cs
    → (k < length bs → AreApart own (get_or bs k nowhere)) → (a : Cell) → IsBoundsOf own a → (d : Cell) → slice_get cs k ≡ Some d → (p : Point)
    → InCell a p → ¬ (InCell d p)
clear_at own bs cs k z same f a i d at p m n =
    let below : k < length cs = slice_get_within cs k d at in
    never_in_cells own (get_or bs k nowhere) a d (f (omega (arith, same, below))) i
    (bounds_at bs cs k nowhere d z same below (sym (get_or_from_slice_get cs k d d at))) p m n

-- ---- what is kept of a list in which only a window counts
pub none_before : (c : Cell) (cs : List Cell) (n : ℕ) → ((k : ℕ) → (d : Cell) → k < n → k < length cs
    → has_point (meet_of c (get_or cs k d)) ≡ false) → kept (map {A = Cell} (meet_of c) (take n cs)) ≡ []
none_before c [] zero f = refl
none_before c [] (suc n) f = refl
none_before c (x ∷ xs) zero f = refl
none_before c (x ∷ xs) (suc n) f = rw (f 0 x (omega arith) (omega arith)) (none_before c xs n
    (λ k d h l. f (suc k) d (omega arith) (omega arith)))

none_at_all : (c : Cell) (cs : List Cell) → ((k : ℕ) → (d : Cell) → k < length cs → has_point (meet_of c (get_or cs k d)) ≡ false)
    → kept (map {A = Cell} (meet_of c) cs) ≡ []
none_at_all c [] f = refl
none_at_all c (x ∷ xs) f = rw (f 0 x (omega arith)) (none_at_all c xs (λ k d l. f (suc k) d (omega arith)))

pub passed : (c : Cell) (cs : List Cell) (m n : ℕ) → m ≤ n → ((k : ℕ) → (d : Cell) → m ≤ k → k < n → k < length cs
    → has_point (meet_of c (get_or cs k d)) ≡ false) → kept (map {A = Cell} (meet_of c) (take m cs)) ≡ kept (map {A = Cell} (meet_of c) (take n cs))
passed c cs zero n h f = sym (none_before c cs n (λ k d l m. f k d (omega arith) l m))
passed c [] (suc m) zero h f = refl
passed c [] (suc m) (suc n) h f = refl
passed c (x ∷ xs) (suc m) zero h f = absurd (omega arith)
passed c (x ∷ xs) (suc m) (suc n) h f = ap (λ (y : List Cell). cond (has_point (meet_of c x)) (meet_of c x ∷ y) y)
    (passed c xs m n (omega arith) (λ k d a l e. f (suc k) d (omega arith) (omega arith) (omega arith)))

pub none_after : (c : Cell) (cs : List Cell) (n : ℕ) → ((k : ℕ) → (d : Cell) → n ≤ k → k < length cs
    → has_point (meet_of c (get_or cs k d)) ≡ false) → kept (map {A = Cell} (meet_of c) (take n cs)) ≡ kept (map {A = Cell} (meet_of c) cs)
none_after c [] zero f = refl
none_after c [] (suc n) f = refl
none_after c (x ∷ xs) zero f = sym (none_at_all c (x ∷ xs) (λ k d l. f k d (omega arith) l))
none_after c (x ∷ xs) (suc n) f = ap (λ (y : List Cell). cond (has_point (meet_of c x)) (meet_of c x ∷ y) y)
    (none_after c xs n (λ k d h l. f (suc k) d (omega arith) (omega arith)))

pub apart_at : (b : Bounds) (bs : List Bounds) (c : Cell) (cs : List Cell) (k : ℕ) (d : Cell) → ((e : Bounds) → AreApart b (get_or bs k e))
    → IsBoundsOf b c → AllZip IsBoundsOf bs cs → length bs ≡ length cs → k < length cs → has_point (meet_of c (get_or cs k d)) ≡ false
apart_at b bs c cs k d f i z e h = apart b (get_or bs k b) c (get_or cs k d) (f b) i (zip_at IsBoundsOf bs cs k b d z (omega arith))

pub unchanged : (c : Cell) (cs made : List Cell) (n : ℕ) → ((k : ℕ) → (d : Cell) → k < n → k < length cs
    → has_point (meet_of c (get_or cs k d)) ≡ false) → made ≡ made ++ kept (map {A = Cell} (meet_of c) (take n cs))
unchanged c cs made n f = rw (none_before c cs n f) (sym (append-nil made))
