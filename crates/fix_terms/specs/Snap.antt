-- An end of a line, put to another place.
--
-- with_first to vs, with_last to vs    the vertices, the first or the last of them at `to`
-- with_end i to rings      the parts of a line, its end i at `to`: part by part the first vertex, then the last
-- snapped_shape i to s     the line of these, made anew
-- snapped i to f           the plan: the feature so
-- is_for_dangles k         the rule is that against dangles
-- dangles_at gs end        there is such an end, and just one segment of the features is there
-- holds_other f gs q       a segment of another one of the features holds the place
-- may_snap row F f i to    the rule is that against dangles, of the feature; its end i dangles; another line of the side holds `to`
-- HasSnapped               what holds of the features after the plan
use Rattle.std.specs.Prelude.{Bool, true, false, ◌&&◌, not, ◌≡◌, ◌≢◌, ℕ, zero, suc, ◌==◌, List, [], ◌∷◌, map, Option, Some, None, slice_get}
use Rattle.std.specs.List.{list_any}
use Rattle.plane_terms.specs.Point.{Place, Point, IsAt}
use Rattle.plane_terms.specs.Shape.{Shape, shape_of, rings_of}
use Rattle.plane_terms.specs.declared.kind.Kind.TheVariants as kind
use Rattle.rule_words.specs.declared.rule_kind.RuleKind.{RuleKind}
use Rattle.rule_words.specs.declared.rule_kind.RuleKind.TheVariants as rule
use Rattle.topology_terms.specs.Feature.{Feature, feature_at, is_on_side}
use Rattle.topology_terms.specs.Together.{of_side, ends}
use Rattle.topology_terms.specs.Plans.{is_dangle, has_side_at}
use Rattle.topology_terms.specs.Broken.{Row, BrokenAt}
use Rattle.fix_terms.specs.Plans.{Edit}
use Rattle.fix_terms.specs.declared.edit.Edit.TheVariants.{Put}

abbrev pub with_first : Place → List Place → List Place
with_first to [] = []
with_first to (v ∷ vs) = to ∷ vs

abbrev pub with_last : Place → List Place → List Place
with_last to [] = []
with_last to (v ∷ []) = to ∷ []
with_last to (v ∷ w ∷ vs) = v ∷ with_last to (w ∷ vs)

abbrev pub with_end : ℕ → Place → List (List Place) → List (List Place)
with_end i to [] = []
with_end zero to (ring ∷ rings) = with_first to ring ∷ rings
with_end (suc zero) to (ring ∷ rings) = with_last to ring ∷ rings
with_end (suc (suc i)) to (ring ∷ rings) = ring ∷ with_end i to rings

abbrev pub snapped_shape : ℕ → Place → Shape → Shape
snapped_shape i to s = shape_of kind.Line (map {A = List Place} (λ ring. ring ∷ []) (with_end i to (rings_of s)))

abbrev pub snapped : ℕ → Place → Feature → List Edit
snapped i to f = Put f.handle (snapped_shape i to f.shape) ∷ []

abbrev pub is_for_dangles : RuleKind → Bool
is_for_dangles rule.LineMustNotHaveDangles = true
is_for_dangles other = false

abbrev pub dangles_at : List Feature → Option Place → Bool
dangles_at gs None = false
dangles_at gs (Some e) = is_dangle gs e

abbrev pub holds_other : Feature → List Feature → Place → Bool
holds_other f gs q = list_any (λ (g : Feature). not (g.handle == f.handle) && has_side_at g q) gs

abbrev pub may_snap : Row → List Feature → Feature → ℕ → Place → Bool
may_snap row F f i to = is_for_dangles row.kind && (is_on_side row.origin f && (dangles_at (of_side row.origin F) (slice_get (ends f) i)
    && holds_other f (of_side row.origin F) to))

-- the rule was broken at the end; it is not any more, neither there nor where the end is now; and no other feature changes
pub record HasSnapped (row : Row) (f : Feature) (i : ℕ) (to : Place) (F G : List Feature) : Type 0 where
  pub broken : (e : Place) → slice_get (ends f) i ≡ Some e → (p : Point) → IsAt e p → BrokenAt row F f.handle 0 p
  pub old_place : (e : Place) → slice_get (ends f) i ≡ Some e → (b : ℕ) (p : Point) → IsAt e p → ¬ (BrokenAt row G f.handle b p)
  pub new_place : (a b : ℕ) (p : Point) → IsAt to p → ¬ (BrokenAt row G a b p)
  pub others : (k : ℕ) → k ≢ f.handle → feature_at G k ≡ feature_at F k
