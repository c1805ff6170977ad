-- Worked rows: what the fixes plan on small maps, and when they plan nothing.
use Rattle.std.proofs.Common.{◌≡◌, ℕ, pos, true, false, List, [], ◌∷◌, map, filter, Option, Some, None, refl}
use Rattle.std.specs.Prelude.{neg_ℤ}
use Rattle.plane_terms.specs.Point.{Place}
use Rattle.plane_terms.specs.Segment.{segment_between}
use Rattle.plane_terms.specs.Share.{share_of}
use Rattle.plane_terms.specs.declared.share.Share.TheVariants.{Cross}
use Rattle.plane_terms.specs.Shape.{Shape, point_shape}
use Rattle.plane_terms.specs.declared.kind.Kind.TheVariants as kind
use Rattle.rule_words.specs.declared.rule_kind.RuleKind.{RuleKind}
use Rattle.rule_words.specs.declared.rule_kind.RuleKind.TheVariants as rule
use Rattle.topology_terms.specs.Feature.{Feature, feature_of}
use Rattle.topology_terms.specs.Together.{of_side}
use Rattle.topology_terms.specs.Plans.{is_dangle, own_ends}
use Rattle.topology_terms.specs.Broken.{Row}
use Rattle.fix_terms.specs.declared.edit.Edit.TheVariants.{Put, Add}
use Rattle.fix_terms.specs.Plans.{handles_of}
use Rattle.fix_terms.specs.Explode.{exploded, may_explode}
use Rattle.fix_terms.specs.Move.{moves, may_move, moved_shape}
use Rattle.fix_terms.specs.Snap.{snapped, may_snap}
use Rattle.fix_terms.specs.Create.{created, may_create}

abbrev at : ℕ → ℕ → Place
at x y = record { x = pos x; y = pos y }

abbrev line : List (List Place) → Shape
line parts = record { kind = kind.Line; parts = map (λ (part : List Place). part ∷ []) parts }

abbrev polygon : List Place → Shape
polygon ring = record { kind = kind.Polygon; parts = (ring ∷ []) ∷ [] }

abbrev row : RuleKind → Option ℕ → Row
row k s = record { kind = k; origin = record { class = 1; subtype = None }; dest = record { class = 2; subtype = s } }

-- ---- a road of two parts, and what is left under its handle
abbrev road : Feature
road = feature_of 1 1 4 (line ((at 0 0 ∷ at 1 0 ∷ []) ∷ (at 5 5 ∷ at 6 5 ∷ []) ∷ []))

abbrev first_part : Shape
first_part = line ((at 0 0 ∷ at 1 0 ∷ []) ∷ [])

road_explodes : may_explode road ≡ true
road_explodes = refl

road_parts : exploded road ≡ Put 1 first_part ∷ Add 1 4 (line ((at 5 5 ∷ at 6 5 ∷ []) ∷ [])) ∷ []
road_parts = refl

road_handles : handles_of (exploded road) 2 ≡ 1 ∷ 2 ∷ []
road_handles = refl

no_more_parts : may_explode (feature_of 1 1 4 first_part) ≡ false
no_more_parts = refl

-- ---- two lots with a corner in common
abbrev lots : List Feature
lots =
    feature_of 1 1 0 (polygon (at 0 0 ∷ at 10 0 ∷ at 10 10 ∷ at 0 10 ∷ []))
    ∷ feature_of 2 1 0 (polygon (at 10 0 ∷ at 20 0 ∷ at 20 10 ∷ at 10 10 ∷ []))
    ∷ []

abbrev left : Shape
left = polygon (at 0 0 ∷ at 10 0 ∷ at 12 10 ∷ at 0 10 ∷ [])

abbrev right : Shape
right = polygon (at 10 0 ∷ at 20 0 ∷ at 20 10 ∷ at 12 10 ∷ [])

lots_move : moves (at 10 10) (at 12 10) lots ≡ Put 1 left ∷ Put 2 right ∷ []
lots_move = refl

no_corner_left : may_move (at 10 10) (at 3 3) (feature_of 1 1 0 left ∷ feature_of 2 1 0 right ∷ []) ≡ false
no_corner_left = refl

no_move_onto_itself : may_move (at 10 10) (at 10 10) lots ≡ false
no_move_onto_itself = refl

-- moved there, its sides 1 and 3 cross
abbrev far : Place
far = record { x = neg_ℤ (pos 5); y = pos 5 }

right_turned : moved_shape (at 20 10) far right ≡ polygon (at 10 0 ∷ at 20 0 ∷ far ∷ at 12 10 ∷ [])
right_turned = refl

sides_cross : share_of (segment_between (at 20 0) far) (segment_between (at 12 10) (at 10 0)) ≡ Cross
unfolding share_of
sides_cross = refl

-- neighbours that have become equal are kept once
ends_meet : moved_shape (at 1 0) (at 2 0) (line ((at 0 0 ∷ at 1 0 ∷ at 2 0 ∷ []) ∷ [])) ≡ line ((at 0 0 ∷ at 2 0 ∷ []) ∷ [])
ends_meet = refl

-- ---- a road that stops short of another
abbrev through : Feature
through = feature_of 1 1 0 (line ((at 0 0 ∷ at 10 0 ∷ []) ∷ []))

abbrev side_road : Feature
side_road = feature_of 2 1 0 (line ((at 5 3 ∷ at 5 1 ∷ []) ∷ []))

abbrev dangles : Row
dangles = row rule.LineMustNotHaveDangles None

abbrev joined : Shape
joined = line ((at 5 3 ∷ at 5 0 ∷ []) ∷ [])

snaps : may_snap dangles (through ∷ side_road ∷ []) side_road 1 (at 5 0) ≡ true
snaps = refl

snapped_road : snapped 1 (at 5 0) side_road ≡ Put 2 joined ∷ []
snapped_road = refl

-- where no other road is, at an end that there is not, onto itself, and by another rule
no_road_there : may_snap dangles (through ∷ side_road ∷ []) side_road 1 (at 5 4) ≡ false
no_road_there = refl

no_third_end : may_snap dangles (through ∷ side_road ∷ []) side_road 2 (at 5 0) ≡ false
no_third_end = refl

not_onto_itself : may_snap dangles (through ∷ side_road ∷ []) side_road 1 (at 5 2) ≡ false
not_onto_itself = refl

not_by_this_rule : may_snap (row rule.LineMustNotHavePseudoNodes None) (through ∷ side_road ∷ []) side_road 1 (at 5 0) ≡ false
not_by_this_rule = refl

-- the ends that dangle afterwards
abbrev after : List Feature
after = through ∷ feature_of 2 1 0 joined ∷ []

through_dangles : filter (is_dangle (of_side dangles.origin after)) (own_ends through) ≡ at 0 0 ∷ at 10 0 ∷ []
through_dangles = refl

side_dangles : filter (is_dangle (of_side dangles.origin after)) (own_ends (feature_of 2 1 0 joined)) ≡ at 5 3 ∷ []
side_dangles = refl

-- ---- a lot without a well, and an end of a road without a sign
abbrev lot : Feature
lot = feature_of 1 1 0 (polygon (at 0 0 ∷ at 10 0 ∷ at 10 10 ∷ at 0 10 ∷ []))

abbrev wells : Option ℕ → Row
wells s = row rule.PolygonContainsPoint s

lot_needs : may_create (wells None) (lot ∷ []) lot (at 5 5) ≡ true
lot_needs = refl

well_made : created (wells None) (at 5 5) ≡ Add 2 0 (point_shape (at 5 5)) ∷ []
well_made = refl

well_bound : created (wells (Some 7)) (at 5 5) ≡ Add 2 7 (point_shape (at 5 5)) ∷ []
well_bound = refl

well_there : may_create (wells None) (lot ∷ feature_of 2 2 0 (point_shape (at 5 5)) ∷ []) lot (at 5 5) ≡ false
well_there = refl

another_subtype : may_create (wells (Some 7)) (lot ∷ feature_of 2 2 0 (point_shape (at 5 5)) ∷ []) lot (at 5 5) ≡ true
another_subtype = refl

not_on_the_boundary : may_create (wells None) (lot ∷ []) lot (at 10 5) ≡ false
not_on_the_boundary = refl

sign_needed : may_create (row rule.LineEndpointMustBeCoveredBy None) (through ∷ []) through (at 10 0) ≡ true
sign_needed = refl

no_end_there : may_create (row rule.LineEndpointMustBeCoveredBy None) (through ∷ []) through (at 5 0) ≡ false
no_end_there = refl
