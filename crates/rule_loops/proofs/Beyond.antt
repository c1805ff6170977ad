-- A polygon with a vertex out of the envelope of another is not covered by it.
use Rattle.std.proofs.Common.{◌≡◌, inl, inr, Bool, true, false, List, [], ◌∷◌, refl, sym, ◌∙◌, arith}
use Rattle.std.specs.Prelude.{not, ◌||◌}
use Rattle.std.specs.List.{list_any}
use Rattle.std.proofs.lemmas.Int.{ints}
use Rattle.std.proofs.lemmas.Bool.{false≢true}
use Rattle.std.proofs.lemmas.Bool.Decides.{Decides-and}
use Rattle.plane_terms.specs.Lists.{SomeOf}
use Rattle.plane_terms.specs.Point.{Place, Point, point_at}
use Rattle.plane_terms.specs.Rectangle.{Rectangle, RectHolds, rect_at, is_within}
use Rattle.plane_terms.specs.Segment.{Segment, OnSegment}
use Rattle.plane_terms.specs.declared.kind.Kind.TheVariants as shapes
use Rattle.topology_terms.specs.Feature.{Feature, sides, env}
use Rattle.topology_terms.specs.Tests.{covers}
use Rattle.number_laws.proofs.Tests.{Decides-int_le}
use Rattle.cell_laws.proofs.OnLine.{on_lo}
use Rattle.rule_laws.proofs.Families.{IsFit}
use Rattle.rule_laws.proofs.Held.{closure_held}
use Rattle.rule_laws.proofs.Words.{IsCoveredBy}
use Rattle.rule_laws.proofs.Covered.{covered_rule}
use Rattle.rule_loops.specs.Views.{is_out}

held_test : (r : Rectangle) (q : Place) → RectHolds r (point_at q) → is_within (rect_at q) r ≡ true
held_test r q h =
    (Decides-and _ _ (Decides-int_le r.x0 q.x)
    (Decides-and _ _ (Decides-int_le q.x r.x1) (Decides-and _ _ (Decides-int_le r.y0 q.y) (Decides-int_le q.y r.y1)))).1
    (omega (arith, ints, h.left), (omega (arith, ints, h.right), (omega (arith, ints, h.below), omega (arith, ints, h.above))))

none_out : (r : Rectangle) (ss : List Segment) → ((p : Point) → SomeOf (λ s. OnSegment s p) ss → RectHolds r p)
    → list_any (is_out r) ss ≡ false
none_out r [] h = refl
none_out r (s ∷ ss) h = rw (held_test r s.lo (h (point_at s.lo) (inl (on_lo s)))) (none_out r ss (λ p o. h p (inr o)))

pub beyond : (f g : Feature) → IsFit shapes.Polygon f → IsFit shapes.Polygon g → list_any (is_out (env g)) (sides f) ≡ true
    → covers f g ≡ false
beyond f g u v t = off (covers f g) (((covered_rule.exact f (g ∷ []) u (v, tt)).1) (uncovered, tt))
  where
    uncovered : IsCoveredBy f g → ⊥
    uncovered h = false≢true (sym (none_out (env g) (sides f) (λ p o. closure_held g p v (h p (inr o)))) ∙ t)

    off : (b : Bool) → not (b || false) ≡ true → b ≡ false
    off true e = sym e
    off false e = refl
