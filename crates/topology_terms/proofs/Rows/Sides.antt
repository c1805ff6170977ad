-- Worked rows: sides of one class, and features that change their subtype or their shape.
use Rattle.std.proofs.Common.{◌≡◌, ℕ, pos, true, false, List, [], ◌∷◌, Some, None, refl}
use Rattle.plane_terms.specs.Shape.{point_shape}
use Rattle.plane_terms.specs.declared.kind.Kind.TheVariants as shapes
use Rattle.rule_words.specs.declared.rule_kind.RuleKind.TheVariants as rule
use Rattle.topology_terms.specs.Feature.{Class, Feature, Side, feature_of}
use Rattle.topology_terms.specs.Together.{of_side}
use Rattle.topology_terms.specs.Broken.{Row, judged}
use Rattle.topology_terms.specs.Causes.{is_fit, is_row}
use Rattle.topology_terms.specs.Changes.{reshaped, retyped}

abbrev lots : Side
lots = record { class = 1; subtype = None }

abbrev lots_of : ℕ → Side
lots_of s = record { class = 1; subtype = Some s }

abbrev zones : Side
zones = record { class = 2; subtype = None }

abbrev lot : ℕ → ℕ → Feature
lot h s = feature_of h 1 s (point_shape (record { x = pos h; y = pos 0 }))

abbrev classes : List Class
classes = record { name = 1 ∷ []; kind = shapes.Polygon } ∷ record { name = 2 ∷ []; kind = shapes.Polygon } ∷ []

abbrev overlap_with : Side → Side → Row
overlap_with A B = record { kind = rule.PolygonMustNotOverlapWith; origin = A; dest = B }

-- two subtypes of one class are apart, and so are two classes; a class and its own subtype are not
apart_subtypes : is_fit classes (overlap_with (lots_of 1) (lots_of 2)) ≡ true
apart_subtypes = refl

apart_classes : is_fit classes (overlap_with (lots_of 1) zones) ≡ true
apart_classes = refl

within : is_fit classes (overlap_with lots (lots_of 2)) ≡ false
within = refl

same_subtype_twice : is_fit classes (overlap_with (lots_of 2) (lots_of 2)) ≡ false
same_subtype_twice = refl

same_class : is_fit classes (overlap_with lots lots) ≡ false
same_class = refl

-- sides the other way round make another rule, and the subtype 0 is not the class
other_way : is_row (overlap_with (lots_of 1) (lots_of 2)) (overlap_with (lots_of 2) (lots_of 1)) ≡ false
other_way = refl

bound_0 : is_row (overlap_with (lots_of 0) zones) (overlap_with lots zones) ≡ false
bound_0 = refl

-- who is on a side
two_of_them : of_side (lots_of 2) (lot 1 1 ∷ lot 2 2 ∷ lot 3 0 ∷ lot 4 2 ∷ []) ≡ lot 2 2 ∷ lot 4 2 ∷ []
two_of_them = refl

all_of_them : of_side lots (lot 1 1 ∷ lot 2 2 ∷ []) ≡ lot 1 1 ∷ lot 2 2 ∷ []
all_of_them = refl

-- the rule judges its first side alone; a rule on both judges both
judged_first : judged (overlap_with (lots_of 1) (lots_of 2)) (lot 1 1) ≡ true
judged_first = refl

not_judged : judged (overlap_with (lots_of 1) (lots_of 2)) (lot 2 2) ≡ false
not_judged = refl

judged_both : judged (record (overlap_with (lots_of 1) (lots_of 2)) { kind = rule.PolygonMustCoverEachOther }) (lot 2 2) ≡ true
judged_both = refl

-- a change keeps the subtype, and a retype the shape
kept_subtype : reshaped (Some (lot 1 7)) (lot 2 0).shape ≡ Some (feature_of 1 1 7 (lot 2 0).shape)
kept_subtype = refl

kept_shape : retyped (Some (lot 1 7)) 3 ≡ Some (lot 1 3)
kept_shape = refl
