-- Rules with a partner on polygons and on points.
use Rattle.std.proofs.Common.{◌≡◌, ◌↔◌, inl, inr, Bool, true, false, refl, sym, ◌∙◌, [], ◌∷◌, cond}
use Rattle.std.proofs.lemmas.Bool.{false≢true}
use Rattle.plane_terms.specs.Point.{Point, same_place}
use Rattle.plane_terms.specs.Cell.{InCells, HavePoints, at_place}
use Rattle.plane_terms.specs.declared.kind.Kind.{Kind}
use Rattle.plane_terms.specs.declared.kind.Kind.TheVariants as shapes
use Rattle.topology_terms.specs.Feature.{Feature, sides, place}
use Rattle.topology_terms.specs.Plans.{overlap_cells, common_place}
use Rattle.topology_terms.specs.Cells.{inside}
use Rattle.cell_laws.proofs.Meets.{carve_points, kept_have_points}
use Rattle.cell_laws.proofs.Outside.{at_place_points}
use Rattle.column_laws.proofs.Exact.{inside_is_exact}
use Rattle.rule_laws.proofs.Held.{place_held}
use Rattle.rule_laws.proofs.Crossings.{inside_held}
use Rattle.rule_laws.proofs.Words.{BothInside, BothAt}
use Rattle.rule_laws.proofs.Pairs.{PairRule}
use Rattle.rule_laws.proofs.Tests.{at_test}
use Rattle.rule_laws.proofs.Spots.{places_have}

-- rules 1 and 2
pub overlap_rule : PairRule shapes.Polygon shapes.Polygon BothInside overlap_cells
overlap_rule = record {
  held_a = λ f g p u v h. inside_held f.shape u.kind p h.0;
  held_b = λ f g p u v h. inside_held g.shape v.kind p h.1;
  exact = λ f g p u v.
      let e = carve_points (inside f) (inside g) p in
      let m = inside_is_exact (sides f) (u.simple u.kind) p in
      let n = inside_is_exact (sides g) (v.simple v.kind) p in
      (λ h. let k = e.0 h in (m.0 k.0, n.0 k.1), λ h. e.1 (m.1 h.0, n.1 h.1));
  some = λ f g u v. kept_have_points _;
}

-- rule 22
common_by : (f g : Feature) (p : Point) (b : Bool) → same_place (place f) (place g) ≡ b
    → InCells (cond b (at_place (place f) ∷ []) []) p ↔ BothAt f g p
common_by f g p true e =
    let k = at_place_points (place f) p in
    (λ h. elim h [ inl a ↦ let i = k.0 a in (i, (at_test (place f) (place g) p i).0 e) | inr b ↦ absurd b ], λ h. inl (k.1 h.0))
common_by f g p false e = (λ h. absurd h, λ h. absurd (false≢true (sym e ∙ (at_test (place f) (place g) p h.0).1 h.1)))

common_have : (f g : Feature) (b : Bool) → HavePoints (cond b (at_place (place f) ∷ []) [])
common_have f g true = places_have (place f ∷ [])
common_have f g false = tt

pub common_place_rule : (k l : Kind) → PairRule k l BothAt common_place
common_place_rule k l = record {
  held_a = λ f g p u v h. place_held f p h.0;
  held_b = λ f g p u v h. place_held g p h.1;
  exact = λ f g p u v. common_by f g p (same_place (place f) (place g)) refl;
  some = λ f g u v. common_have f g (same_place (place f) (place g));
}
