-- The features round a point, among all of a side and among those near a subject.
use Rattle.std.proofs.Common.{◌≡◌, pos, ◌*ℤ◌, Bool, true, false, arith, refl, sym, ◌∙◌, List}
use Rattle.std.specs.Prelude.{◌&&◌}
use Rattle.std.specs.List.{filter}
use Rattle.std.proofs.lemmas.Bool.Decides.{Decides-and}
use Rattle.plane_terms.specs.Point.{Point}
use Rattle.plane_terms.proofs.Truths.{both_parts}
use Rattle.plane_terms.specs.Rectangle.{Rectangle, RectHolds, rects_meet, holds_point}
use Rattle.topology_terms.specs.Feature.{Feature, Side, is_on_side, env, Agree, IsAscending}
use Rattle.topology_terms.specs.Broken.{Row}
use Rattle.topology_terms.specs.Plans.{near, Around, Later, Own, Second, Other, side_by, around}
use Rattle.topology_terms.specs.Together.{of_side}
use Rattle.number_laws.proofs.Tests.{Decides-int_le}
use Rattle.sound_laws.proofs.Meetings.{meets_test}
use Rattle.sound_laws.proofs.FeatureFilters.{kept_twice, filter_same}
use Rattle.rule_laws.proofs.Lists.{filter_agree}

pub holds_from : (r : Rectangle) (p : Point) → holds_point r p ≡ true → RectHolds r p
holds_from r p t =
    let k = (Decides-and _ _ (Decides-int_le (r.x0 *ℤ pos p.w) p.x)
    (Decides-and _ _ (Decides-int_le p.x (r.x1 *ℤ pos p.w))
    (Decides-and _ _ (Decides-int_le (r.y0 *ℤ pos p.w) p.y) (Decides-int_le p.y (r.y1 *ℤ pos p.w))))).0 t in
    record { left = k.0; right = k.1.0; below = k.1.1.0; above = k.1.1.1 }

pub holds_test : (r : Rectangle) (p : Point) → RectHolds r p → holds_point r p ≡ true
holds_test r p h =
    (Decides-and _ _ (Decides-int_le (r.x0 *ℤ pos p.w) p.x)
    (Decides-and _ _ (Decides-int_le p.x (r.x1 *ℤ pos p.w))
    (Decides-and _ _ (Decides-int_le (r.y0 *ℤ pos p.w) p.y) (Decides-int_le p.y (r.y1 *ℤ pos p.w))))).1
    (h.left, (h.right, (h.below, h.above)))

abbrev pub round : Point → List Feature → List Feature
round p gs = filter (λ (g : Feature). holds_point (env g) p) gs

-- of two maps that agree round a point
pub round_agree : (S : Side) (F G : List Feature) (p : Point) → IsAscending F → IsAscending G → Agree (λ f. RectHolds (env f) p) F G
    → round p (of_side S F) ≡ round p (of_side S G)
round_agree S F G p u v agree =
    let held : Feature → Bool = λ g. holds_point (env g) p in
    let test : Feature → Bool = λ g. is_on_side S g && held g in
    kept_twice held (is_on_side S) F
    ∙ (filter_agree test F G u v
    (λ h f e t. agree.forth h f e (holds_from (env f) p (both_parts (is_on_side S f) (held f) t).1))
    (λ h f e t. agree.back h f e (holds_from (env f) p (both_parts (is_on_side S f) (held f) t).1))
    ∙ sym (kept_twice held (is_on_side S) G))

-- of those near a subject whose envelope holds the point
pub round_near : (S : Side) (F : List Feature) (f : Feature) (p : Point) → RectHolds (env f) p
    → round p (near S f F) ≡ round p (of_side S F)
round_near S F f p k =
    let held : Feature → Bool = λ g. holds_point (env g) p in
    kept_twice held (λ g. is_on_side S g && rects_meet (env f) (env g)) F
    ∙ (filter_same (λ g. (is_on_side S g && rects_meet (env f) (env g)) && held g) (λ g. is_on_side S g && held g) F
    (λ g. drop (is_on_side S g) (rects_meet (env f) (env g)) (held g)
    (λ t. meets_test (env f) (env g) (p, k, holds_from (env g) p t)))
    ∙ sym (kept_twice held (is_on_side S) F))
  where
    drop : (a m h : Bool) → (h ≡ true → m ≡ true) → ((a && m) && h) ≡ (a && h)
    drop a m true n = let e = n refl in rw e (grind arith)
    drop a m false n = grind arith

-- those around a subject, but for a rule that judges each pair once, are the near of a side
pub around_near : (who : Around) (row : Row) (F : List Feature) (f : Feature) → (who ≡ Later → ⊥)
    → around who row F f ≡ near (side_by who row f) f F
around_near Later row F f n = absurd (n refl)
around_near Own row F f n = refl
around_near Second row F f n = refl
around_near Other row F f n = refl
