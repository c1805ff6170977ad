-- Look-ups of features, and where two polygons overlap.
use Rattle.std.proofs.lemmas.Bool.Decides.{nat_tests}
use Rattle.std.proofs.Common.{◌≡◌, ◌↔◌, ℕ, ◌<◌, Bool, List, [], ◌∷◌, Option, Some, None, true, false, refl, sym, ap, ◌∙◌, subst}
use Rattle.std.specs.Prelude.{cond, ◌==◌, MatchOption}
use Rattle.std.specs.List.{find}
use Rattle.std.specs.Option.{option_map}
use Rattle.plane_terms.specs.Point.{Point}
use Rattle.plane_terms.specs.Segment.{Segment}
use Rattle.plane_terms.specs.Polygon.{IsInside}
use Rattle.topology_terms.specs.Feature.{Feature, feature_at, sides}
use Rattle.topology_terms.specs.Broken.{BrokenAt}
use Rattle.plain_topology.specs.Overlaps.{overlap_row, overlap_with_row, IsInsideOf}

-- the first of a handle
pub feature_at-find : (F : List Feature) (h : ℕ) → feature_at F h ≡ find (λ (f : Feature). f.handle == h) F
unfolding feature_at
feature_at-find [] h = refl
feature_at-find (f ∷ F) h = ap (λ o. cond (f.handle == h) (Some f) o) (feature_at-find F h)

pub matched : {A : Type 0} (v : A → Feature) (o : Option A) (r : Option Feature) → r ≡ option_map v o
    → MatchOption o (r ≡ None) (λ f. r ≡ Some (v f))
matched v None r e = e
matched v (Some f) r e = e

pub overlap_with : (class other : ℕ) (F : List Feature) (a b : ℕ) (p : Point)
    → (IsInsideOf F class a p × IsInsideOf F other b p) ↔ BrokenAt (overlap_with_row class other) F a b p
unfolding BrokenAt
overlap_with class other F a b p = (
  (λ h. record { f = h.0.f; g = h.1.f; subject = h.0.live; partner = h.1.live; inside_a = h.0.inside; inside_b = h.1.inside }),
  (λ k. (record { f = k.f; live = k.subject; inside = k.inside_a }, record { f = k.g; live = k.partner; inside = k.inside_b })),
)

-- in one class, the first one first
pub overlap_first : (class : ℕ) (F : List Feature) (a b : ℕ) (p : Point)
    → ((a < b) × BrokenAt (overlap_with_row class class) F a b p) ↔ BrokenAt (overlap_row class) F a b p
unfolding BrokenAt
overlap_first class F a b p = (
  (λ h. record {
    f = h.1.f;
    g = h.1.g;
    subject = h.1.subject;
    partner = h.1.partner;
    first = h.0;
    inside_a = h.1.inside_a;
    inside_b = h.1.inside_b;
  }),
  (λ k. (k.first, record { f = k.f; g = k.g; subject = k.subject; partner = k.partner; inside_a = k.inside_a; inside_b = k.inside_b })),
)
