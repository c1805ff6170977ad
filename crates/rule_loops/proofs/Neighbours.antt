-- Polygons whose envelopes have at most a side or a corner in common have no inside point in common: a point inside is left of the right side
-- of the envelope, and above the side below, since some segment runs below it.
use Rattle.std.proofs.Common.{◌≡◌, inl, inr, ℤ, pos, ◌*ℤ◌, ◌≤ℤ◌, ◌<ℤ◌, arith, refl, Bool, true, false, suc, List, [], ◌∷◌, cond}
use Rattle.std.specs.Prelude.{◌&&◌}
use Rattle.std.specs.Int.RustNames.{int_le, int_lt}
use Rattle.std.proofs.lemmas.Int.{ints}
use Rattle.std.proofs.lemmas.Bool.{false≢true}
use Rattle.plane_terms.specs.Lists.{SomeOf, how_many, is_odd}
use Rattle.plane_terms.specs.Point.{Point}
use Rattle.plane_terms.specs.Rectangle.{Rectangle, RectHolds}
use Rattle.plane_terms.specs.Segment.{Segment, cross}
use Rattle.plane_terms.specs.Polygon.{counts, IsInside}
use Rattle.plane_terms.specs.declared.kind.Kind.TheVariants as shapes
use Rattle.topology_terms.specs.Feature.{Feature, sides, env}
use Rattle.topology_terms.specs.Plans.{overlap_cells}
use Rattle.number_laws.proofs.Order.{scaled_le, cases_order_ℤ}
use Rattle.cell_laws.proofs.Meets.{kept_have_points}
use Rattle.rule_laws.proofs.Commons.{overlap_rule}
use Rattle.rule_laws.proofs.Crossings.{cross_below, inside_held}
use Rattle.rule_laws.proofs.Envelopes.{LiesIn, BothEnds, segments_ends}
use Rattle.rule_laws.proofs.Families.{IsFit}
use Rattle.rule_laws.proofs.Held.{some_each}
use Rattle.rule_loops.specs.Beside.{AreBeside}
use Rattle.rule_loops.proofs.Opened.{none_left}

pub some_passes : {A : Type 0} (test : A → Bool) (xs : List A) → is_odd (how_many test xs) ≡ true → SomeOf (λ x. test x ≡ true) xs
some_passes test [] e = absurd (false≢true e)
some_passes test (x ∷ xs) e = by_test (test x) refl (some_passes test xs) e
  where
    by_test : (b : Bool) → test x ≡ b → (is_odd (how_many test xs) ≡ true → SomeOf (λ x. test x ≡ true) xs)
        → is_odd (cond b (suc (how_many test xs)) (how_many test xs)) ≡ true → SomeOf (λ x. test x ≡ true) (x ∷ xs)
    by_test true t rest e = inl t
    by_test false t rest e = inr (rest e)

-- what the tests of a segment that counts say
pub three_tests : (u v z k : ℤ) → (int_le u z && (int_lt z v && int_lt (pos 0) k)) ≡ true → (u ≤ℤ z) × (z <ℤ v) × (pos 0 <ℤ k)
three_tests u v z k e = (from u v z k e, to u v z k e, over u v z k e)
  where
    from : (u v z k : ℤ) → (int_le u z && (int_lt z v && int_lt (pos 0) k)) ≡ true → u ≤ℤ z
    from u v z k e = grind (arith, ints)

    to : (u v z k : ℤ) → (int_le u z && (int_lt z v && int_lt (pos 0) k)) ≡ true → z <ℤ v
    to u v z k e = grind (arith, ints)

    over : (u v z k : ℤ) → (int_le u z && (int_lt z v && int_lt (pos 0) k)) ≡ true → pos 0 <ℤ k
    over u v z k e = grind (arith, ints)

pub low_end : (s : Segment) (p : Point) (v : ℤ) → (s.lo.x *ℤ pos p.w) ≤ℤ p.x → p.x <ℤ (s.hi.x *ℤ pos p.w) → v ≤ℤ s.lo.y → v ≤ℤ s.hi.y
    → pos 0 <ℤ cross s p → (v *ℤ pos p.w) <ℤ p.y
low_end s p v l r a b c = elim (cases_order_ℤ (v *ℤ pos p.w) p.y) [
  | inl h ↦ h
  | inr h ↦
      let i = scaled_le v s.lo.y p.w a in
      let j = scaled_le v s.hi.y p.w b in
      let k = cross_below s p l r (omega (arith, ints, h, i)) (omega (arith, ints, h, j)) in
      omega (arith, ints, c, k)
]

-- inside, neither on the right side of the envelope nor on the side below
strictly : (f : Feature) (p : Point) → IsInside (sides f) p → (p.x <ℤ ((env f).x1 *ℤ pos p.w)) × (((env f).y0 *ℤ pos p.w) <ℤ p.y)
strictly f p i = some_each (BothEnds (LiesIn (env f))) (λ s. counts s p ≡ true)
    ((p.x <ℤ ((env f).x1 *ℤ pos p.w)) × (((env f).y0 *ℤ pos p.w) <ℤ p.y)) one (sides f) (segments_ends f.shape)
    (some_passes (λ s. counts s p) (sides f) i.odd)
  where
    one : (s : Segment) → BothEnds (LiesIn (env f)) s → counts s p ≡ true
        → (p.x <ℤ ((env f).x1 *ℤ pos p.w)) × (((env f).y0 *ℤ pos p.w) <ℤ p.y)
    one s b e =
        let t = three_tests (s.lo.x *ℤ pos p.w) (s.hi.x *ℤ pos p.w) p.x (cross s p) e in
        let h = scaled_le s.hi.x (env f).x1 p.w b.1.right in
        (omega (arith, ints, t.1, h), low_end s p (env f).y0 t.0 t.1 b.0.below b.1.below t.2)

-- no point lies within both so
between : (r s : Rectangle) (p : Point) → AreBeside r s → RectHolds r p → RectHolds s p → p.x <ℤ (r.x1 *ℤ pos p.w) → (r.y0 *ℤ pos p.w) <ℤ p.y
    → p.x <ℤ (s.x1 *ℤ pos p.w) → (s.y0 *ℤ pos p.w) <ℤ p.y → ⊥
between r s p (inl b) h k c d e f = absurd (omega (arith, ints, scaled_le r.x1 s.x0 p.w b, k.left, c))
between r s p (inr (inl b)) h k c d e f = absurd (omega (arith, ints, scaled_le s.x1 r.x0 p.w b, h.left, e))
between r s p (inr (inr (inl b))) h k c d e f = absurd (omega (arith, ints, scaled_le r.y1 s.y0 p.w b, h.above, f))
between r s p (inr (inr (inr b))) h k c d e f = absurd (omega (arith, ints, scaled_le s.y1 r.y0 p.w b, k.above, d))

-- two polygons without a common inside point have no common cells
pub none_common : (f g : Feature) → IsFit shapes.Polygon f → IsFit shapes.Polygon g → ((p : Point) → IsInside (sides f) p → IsInside (sides g) p → ⊥)
    → overlap_cells f g ≡ []
none_common f g u v n = none_left (overlap_cells f g) (kept_have_points _) (λ p h. let k = (overlap_rule.exact f g p u v).0 h in n p k.0 k.1)

pub beside_common : (f g : Feature) → IsFit shapes.Polygon f → IsFit shapes.Polygon g → AreBeside (env f) (env g) → overlap_cells f g ≡ []
beside_common f g u v b = none_common f g u v (λ p h k.
    let i = strictly f p h in
    let j = strictly g p k in
    between (env f) (env g) p b (inside_held f.shape u.kind p h) (inside_held g.shape v.kind p k) i.0 i.1 j.0 j.1)
