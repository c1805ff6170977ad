-- The test of two ranks is an order in which any two compare.
use Rattle.std.proofs.Common.{◌≡◌, ℤ, pos, ◌-ℤ◌, ◌*ℤ◌, ◌≤ℤ◌, ◌<ℤ◌, ◌≤◌, ◌^◌, arith, true, false, unsigned_abs, lit<}
use Rattle.std.proofs.lemmas.Int.{ints, to_z-of_z, fits_signed_mul}
use mir.Syntax.{Width, w128, w64, w32}
use mir.Val.{SFits, to_z, of_z}
use Rattle.std.specs.Cmp.{IsStrictWeakOrder}
use Rattle.std.specs.Int.RustNames.{int_lt}
use Rattle.column_cut.specs.Ranks.{is_under}
use Rattle.std.proofs.lemmas.Int.{fits_signed_from_abs, unsigned_abs-mul}
use Rattle.std.proofs.Math.Nat.{mul-le-mul, lt_of_le_of_lt}
use Rattle.std.proofs.Common.{refl, ◌∙◌}
use Rattle.number_laws.proofs.Ring.{num, ◌⊖◌, ◌⊗◌, le_by, le_read, same_by}
use Rattle.plane_terms.specs.Point.{InReach}
use Rattle.number_laws.proofs.Order.{product_at_least, least_unscaled}

pub product_back : (w : Width) (a b : ℤ) → SFits w a → SFits w b → SFits w (a *ℤ b)
    → to_z w (of_z w (to_z w (of_z w a) *ℤ to_z w (of_z w b))) ≡ a *ℤ b
product_back w a b f g h = rw (to_z-of_z w a f, to_z-of_z w b g) (to_z-of_z w (a *ℤ b) h)

pub product_fits : (a b : ℤ) → unsigned_abs a ≤ 2 ^ 48 → unsigned_abs b ≤ 2 ^ 23 → SFits w128 (a *ℤ b)
product_fits a b h k = fits_signed_mul w128 a b (2 ^ 48) (2 ^ 23) h k (lit< tt)

cross_chain : (xl yl zl xw yw zw : ℤ) → pos 0 <ℤ xw → pos 0 <ℤ yw → pos 0 <ℤ zw → (xl *ℤ yw) ≤ℤ (yl *ℤ xw) → (yl *ℤ zw) ≤ℤ (zl *ℤ yw)
    → (xl *ℤ zw) ≤ℤ (zl *ℤ xw)
cross_chain xl yl zl xw yw zw px py pz h k =
    let a = le_read (num (pos 0)) (num zw ⊗ (num yl ⊗ num xw ⊖ num xl ⊗ num yw))
    (product_at_least zw (yl *ℤ xw -ℤ xl *ℤ yw) (omega (arith, ints)) (apart (xl *ℤ yw) (yl *ℤ xw) h)) in
    let b = le_read (num (pos 0)) (num xw ⊗ (num zl ⊗ num yw ⊖ num yl ⊗ num zw))
    (product_at_least xw (zl *ℤ yw -ℤ yl *ℤ zw) (omega (arith, ints)) (apart (yl *ℤ zw) (zl *ℤ yw) k)) in
    join (xl *ℤ zw) (zl *ℤ xw) (least_unscaled yw (zl *ℤ xw -ℤ xl *ℤ zw) py
    (le_by (num (pos 0)) (num yw ⊗ (num zl ⊗ num xw ⊖ num xl ⊗ num zw)) (omega (arith, a, b))))
  where
    apart : (u v : ℤ) → u ≤ℤ v → pos 0 ≤ℤ (v -ℤ u)
    apart u v h = omega (arith, ints)

    join : (u v : ℤ) → pos 0 ≤ℤ (v -ℤ u) → u ≤ℤ v
    join u v h = omega (arith, ints)

pub is_under-ranks : IsStrictWeakOrder is_under
is_under-ranks = record {
  one_way = λ x y e. swap (y.level *ℤ x.width) (x.level *ℤ y.width) e;
  chain = λ x y z e f. fails (z.level *ℤ x.width) (x.level *ℤ z.width)
      (cross_chain x.level y.level z.level x.width y.width z.width x.positive y.positive z.positive
      (failed (y.level *ℤ x.width) (x.level *ℤ y.width) e) (failed (z.level *ℤ y.width) (y.level *ℤ z.width) f));
}
  where
    swap : (u v : ℤ) → int_lt u v ≡ true → int_lt v u ≡ false
    swap u v e = grind (arith, ints)

    failed : (u v : ℤ) → int_lt u v ≡ false → v ≤ℤ u
    failed u v e = omega (arith, ints)

    fails : (u v : ℤ) → v ≤ℤ u → int_lt u v ≡ false
    fails u v h = grind (arith, ints)

pub product_fits_short : (a b : ℤ) → unsigned_abs a ≤ 2 ^ 24 → unsigned_abs b ≤ 2 ^ 23 → SFits w64 (a *ℤ b)
product_fits_short a b h k = fits_signed_mul w64 a b (2 ^ 24) (2 ^ 23) h k (lit< tt)

pub product_short_bound : (a b : ℤ) → unsigned_abs a ≤ 2 ^ 24 → unsigned_abs b ≤ 2 ^ 23 → unsigned_abs (a *ℤ b) ≤ 2 ^ 47
product_short_bound a b h k = rw (unsigned_abs-mul a b) (mul-le-mul h k)

-- a number that fits, read again
pub read_back : (z : ℤ) → unsigned_abs z ≤ 2 ^ 48 → to_z w128 (of_z w128 z) ≡ z
read_back z h = to_z-of_z w128 z (fits_signed_from_abs w128 z (lt_of_le_of_lt h (lit< tt)))

-- the level that the code computes, step by step
pub level_back : (level slope height past rise twice sum width low width' rise' : ℤ) → level ≡ slope -ℤ height → slope ≡ past *ℤ rise
    → height ≡ twice *ℤ width → past ≡ low -ℤ sum → rise ≡ rise' → width ≡ width' → level ≡ rise' *ℤ (low -ℤ sum) -ℤ width' *ℤ twice
level_back level slope height past rise twice sum width low width' rise' a b c d e f =
    a ∙ ap2 (b ∙ turn past rise (low -ℤ sum) rise' d e) (c ∙ turn twice width twice width' refl f)
  where
    turn : (u v u' v' : ℤ) → u ≡ u' → v ≡ v' → u *ℤ v ≡ v' *ℤ u'
    turn u v u' v' e f = rw (e, f) (same_by (num u' ⊗ num v') (num v' ⊗ num u') (omega arith))

    ap2 : {u v u' v' : ℤ} → u ≡ u' → v ≡ v' → u -ℤ v ≡ u' -ℤ v'
    ap2 {u} {v} {u'} {v'} e f = rw (e, f) refl

-- a sum or a product of numbers that are read again
pub through : (f : ℤ → ℤ → ℤ) (r a b : ℤ) → unsigned_abs a ≤ 2 ^ 48 → unsigned_abs b ≤ 2 ^ 48
    → r ≡ f (to_z w128 (of_z w128 a)) (to_z w128 (of_z w128 b)) → r ≡ f a b
through f r a b h k e = e ∙ rw (read_back a h, read_back b k) refl

-- a number of the grid, read again
pub grid_fits : (z : ℤ) → InReach z → SFits w32 z
grid_fits z h = omega (arith, ints, h.low, h.high)

pub through_grid : (f : ℤ → ℤ → ℤ) (r a b u v : ℤ) → a ≡ u → b ≡ v → InReach u → InReach v
    → r ≡ f (to_z w32 (of_z w32 a)) (to_z w32 (of_z w32 b)) → r ≡ f u v
through_grid f r a b u v e k h i q = q ∙ rw (e, k, to_z-of_z w32 u (grid_fits u h), to_z-of_z w32 v (grid_fits v i)) refl

pub width_over : (r h l x y : ℤ) → r ≡ h -ℤ l → x <ℤ y → l ≤ℤ x → y ≤ℤ h → pos 0 <ℤ r
width_over r h l x y e d f g = omega (arith, ints)
