-- Worked rows: replies and refusals, computed from the definitions.
use Rattle.std.proofs.Common.{◌≡◌, ℕ, ℤ, pos, negsuc, false, Option, List, [], ◌∷◌, ◌++◌, Some, None, refl}
use Rattle.std.specs.Prelude.{codes}
use Rattle.std.specs.Fmt.{digits}
use Rattle.plane_terms.specs.Point.{Place}
use Rattle.plane_terms.specs.Rectangle.{rect_of, rect_at, whole_grid}
use Rattle.plane_terms.specs.Dirt.{add_dirt, add_all, pieces, cut_from, cut_dirt}
use Rattle.plane_terms.specs.HalfPlane.{x_is, y_is}
use Rattle.plane_terms.specs.Shape.{Shape}
use Rattle.plane_terms.specs.declared.kind.Kind.TheVariants as shapes
use Rattle.rule_words.specs.declared.rule_kind.RuleKind.TheVariants as kind
use Rattle.topology_terms.specs.Entry.{entry_at}
use Rattle.topology_terms.specs.Feature.{Side, no_side, feature_of as feature, feature_at}
use Rattle.topology_terms.specs.declared.cause.Cause.TheVariants.{ClassTaken, NoClass, Unfit, RuleThere, NoRule, WrongKind, NoFeature, NoError, AlreadySo}
use Rattle.topology_terms.specs.Project.{Project, rule_at}
use Rattle.corner_terms.specs.declared.cell_corner.Fraction.{Fraction}
use Rattle.corner_terms.specs.declared.cell_corner.CellCorner.{CellCorner}
use Rattle.plane_terms.specs.declared.shape_fault.ShapeFault.TheVariants as fault
use Rattle.line_terms.specs.declared.line_refusal.LineRefusal.TheVariants as line
use Rattle.line_terms.specs.Commands.{Sided, Class, Rule, DropRule, Begin, Add, Change as AChange, Delete, Retype, Undo, Mark, Unmark, Rules, Corners}
use Rattle.script_terms.specs.Refusal.{Line, SessionOpen, NoSession, NothingToUndo, Change}
use Rattle.script_terms.specs.Reply.{Judged, Refused, CellList, DirtyList, ErrorList, FeatureList, RuleList, CornerList, reply_text}
use Rattle.script_terms.specs.State.{Desk}
use Rattle.script_terms.specs.Refusing.{refusal_of}
use Rattle.script_terms.specs.Report.{report_of}

abbrev at : ℤ → ℤ → Place
at x y = record { x = x; y = y }

abbrev point : ℤ → ℤ → Shape
point x y = record { kind = shapes.Point; parts = ((at x y ∷ []) ∷ []) ∷ [] }

abbrev side : ℕ → Option ℕ → Side
side n s = record { class = n; subtype = s }

-- a class that a line names, and a subtype of one
abbrev class : List ℕ → Sided
class name = record { name = name; subtype = None }

abbrev one : List ℕ → ℕ → Sided
one name s = record { name = name; subtype = Some s }

-- the project after "two points at one place"
abbrev wells : Project
wells = record {
  classes = record { name = codes "wells"; kind = shapes.Point } ∷ [];
  rules = record {
    number = 1;
    row = record { kind = kind.PointMustBeDisjoint; origin = side 1 None; dest = no_side };
  } ∷ [];
  features = feature 1 1 0 (point (pos 3) (pos 4)) ∷ feature 2 1 0 (point (pos 3) (pos 4)) ∷ [];
  next = 3;
  dirt = [];
  entries = record {
    rule = 1;
    subject = 1;
    other = 2;
    whole = false;
    marked = false;
    frame = rect_at (at (pos 3) (pos 4));
    cells =
        (x_is (pos 3) ∷ y_is (pos 4) ∷ []) ∷ [];
  } ∷ [];
}

abbrev open_ann : Desk
open_ann = record { project = wells; sessions = record { name = codes "ann"; done = []; undone = [] } ∷ [] }

-- ---- the replies of the row
cells : reply_text (CellList wells) ≡ codes "error 1 1 2 cells 3 4 3 4" ++ 10 ∷ codes "cell 1 0 -3 =, 0 1 -4 =" ++ 10 ∷ codes "total 1" ++
    10 ∷ []
unfolding digits
cells = refl

dirty : reply_text (DirtyList wells) ≡ codes "total 0" ++ 10 ∷ []
unfolding digits
dirty = refl

errors : reply_text (ErrorList wells) ≡ codes "error 1 1 2 cells 3 4 3 4" ++ 10 ∷ codes "total 1" ++ 10 ∷ []
unfolding digits
errors = refl

judged : reply_text (Judged 2 1 0) ≡ codes "ok judged 2 errors 1 dirty 0" ++ 10 ∷ []
unfolding digits
judged = refl

-- ---- one refusal each
no_session : refusal_of open_ann (Add (codes "bob") (class (codes "wells")) (point (pos 0) (pos 0))) ≡ Some NoSession
no_session = refl

no_class : refusal_of open_ann (Add (codes "ann") (class (codes "roads")) (point (pos 0) (pos 0))) ≡ Some (Change NoClass)
no_class = refl

accepted : refusal_of open_ann (Add (codes "ann") (class (codes "wells")) (point (pos 0) (pos 0))) ≡ None
accepted = refl

other_kind : refusal_of open_ann (Add (codes "ann") (class (codes "wells")) (record {
  kind = shapes.Line;
  parts =
      ((at (pos 0) (pos 0) ∷ at (pos 5) (pos 0) ∷ []) ∷ []) ∷ [];
})) ≡ Some (Change WrongKind)
other_kind = refl

second_class : refusal_of open_ann (Class (codes "wells") shapes.Line) ≡ Some (Change ClassTaken)
second_class = refl

second_rule : refusal_of open_ann (Rule kind.PointMustBeDisjoint (class (codes "wells")) None) ≡ Some (Change RuleThere)
second_rule = refl

lots_of_points : refusal_of open_ann (Rule kind.PolygonMustNotOverlap (class (codes "wells")) None) ≡ Some (Change Unfit)
lots_of_points = refl

no_such_class : refusal_of open_ann (Rule kind.PointMustBeDisjoint (class (codes "roads")) None) ≡ Some (Change NoClass)
no_such_class = refl

lines_nowhere : refusal_of open_ann (Rule kind.LineMustNotOverlap (class (codes "roads")) None) ≡ Some (Change NoClass)
lines_nowhere = refl

no_such_rule : refusal_of open_ann (DropRule 2) ≡ Some (Change NoRule)
unfolding rule_at
no_such_rule = refl

second_session : refusal_of open_ann (Begin (codes "bob")) ≡ None
second_session = refl

begun_again : refusal_of open_ann (Begin (codes "ann")) ≡ Some SessionOpen
begun_again = refl

no_such_feature : refusal_of open_ann (Delete (codes "ann") 3) ≡ Some (Change NoFeature)
unfolding feature_at
no_such_feature = refl

moved : refusal_of open_ann (AChange (codes "ann") 2 (point (pos 5) (pos 4))) ≡ None
unfolding feature_at
moved = refl

undone : refusal_of open_ann (Undo (codes "ann")) ≡ Some NothingToUndo
undone = refl

-- ---- subtypes
retyped : refusal_of open_ann (Retype (codes "ann") 2 3) ≡ None
unfolding feature_at
retyped = refl

retyped_away : refusal_of open_ann (Retype (codes "ann") 3 3) ≡ Some (Change NoFeature)
unfolding feature_at
retyped_away = refl

of_one_subtype : refusal_of open_ann (Rule kind.PointMustBeDisjoint (one (codes "wells") 2) None) ≡ None
of_one_subtype = refl

a_class_and_its_subtype : refusal_of open_ann (Rule kind.PointMustCoincideWith (class (codes "wells")) (Some (one (codes "wells") 2))) ≡ Some
    (Change Unfit)
a_class_and_its_subtype = refl

two_subtypes : refusal_of open_ann (Rule kind.PointMustCoincideWith (one (codes "wells") 0) (Some (one (codes "wells") 2))) ≡ None
two_subtypes = refl

-- a class that is not there comes before sides that do not fit, the first side before the second
first_nowhere : refusal_of open_ann (Rule kind.PointMustCoincideWith (one (codes "roads") 1) (Some (one (codes "roads") 1))) ≡ Some
    (Change NoClass)
first_nowhere = refl

second_nowhere : refusal_of open_ann (Rule kind.PolygonContainsPoint (one (codes "wells") 1) (Some (one (codes "roads") 1))) ≡ Some
    (Change NoClass)
second_nowhere = refl

-- ---- exceptions
marks : refusal_of open_ann (Mark 1 1 2) ≡ None
unfolding entry_at
marks = refl

no_such_error : refusal_of open_ann (Mark 1 2 1) ≡ Some (Change NoError)
unfolding entry_at
no_such_error = refl

not_marked : refusal_of open_ann (Unmark 1 1 2) ≡ Some (Change AlreadySo)
unfolding entry_at
not_marked = refl

absent_before_so : refusal_of open_ann (Unmark 2 1 2) ≡ Some (Change NoError)
unfolding entry_at
absent_before_so = refl

already_text : reply_text (Refused (Change AlreadySo)) ≡ codes "refused E26" ++ 10 ∷ []
already_text = refl

-- ---- corners
corners_there : refusal_of open_ann (Corners 1 1 2) ≡ None
unfolding entry_at
corners_there = refl

corners_turned : refusal_of open_ann (Corners 1 2 1) ≡ Some (Change NoError)
unfolding entry_at
corners_turned = refl

corners_whole : refusal_of open_ann (Corners 1 1 0) ≡ Some (Change NoError)
unfolding entry_at
corners_whole = refl

abbrev corner : ℕ → Fraction → Fraction → CellCorner
corner k x y = record { cell = k; x = x; y = y }

abbrev whole : ℤ → Fraction
whole n = record { n = n; d = 1 }

abbrev over : ℤ → ℕ → Fraction
over n d = record { n = n; d = d }

corners_of_square : reply_text (CornerList (corner 1 (whole (pos 5)) (whole (pos 5)) ∷ corner 1 (whole (pos 5)) (whole (pos 10)) ∷ [])) ≡
    codes "corner 1 5 5" ++ 10 ∷ codes "corner 1 5 10" ++ 10 ∷ codes "total 2" ++ 10 ∷ []
unfolding digits
corners_of_square = refl

corners_of_roads : reply_text (CornerList (corner 1 (over (pos 5) 3) (over (pos 5) 3) ∷ corner 2 (over (negsuc 6) 2) (whole (pos 0)) ∷ [])) ≡
    codes "corner 1 5/3 5/3" ++ 10 ∷ codes "corner 2 -7/2 0" ++ 10 ∷ codes "total 2" ++ 10 ∷ []
unfolding digits
corners_of_roads = refl

no_corners : reply_text (CornerList []) ≡ codes "total 0" ++ 10 ∷ []
unfolding digits
no_corners = refl

-- ---- the rules in force, and the report
rules : reply_text (RuleList wells) ≡ codes "rule 1 point_must_be_disjoint wells" ++ 10 ∷ codes "total 1" ++ 10 ∷ []
unfolding digits
rules = refl

listed_rules : refusal_of open_ann Rules ≡ None
listed_rules = refl

-- a rule of two classes
abbrev zones : Project
zones = record wells {
  classes = record { name = codes "parcels"; kind = shapes.Polygon } ∷ record { name = codes "zones"; kind = shapes.Polygon } ∷ [];
  rules = record {
    number = 3;
    row = record {
      kind = kind.PolygonMustBeCoveredBy;
      origin = side 1 None;
      dest = side 2 None;
    };
  } ∷ [];
}

rules_of_two : reply_text (RuleList zones) ≡ codes "rule 3 polygon_must_be_covered_by parcels zones" ++ 10 ∷ codes "total 1" ++ 10 ∷ []
unfolding digits
rules_of_two = refl

report : report_of wells.rules wells.entries ≡ codes "rule,kind,subject,other,extent,mark,x0,y0,x1,y1" ++ 10 ∷ codes
    "1,point_must_be_disjoint,1,2,cells,error,3,4,3,4" ++ 10 ∷ []
unfolding digits rule_at
report = refl

-- sides and features of a subtype
abbrev typed : Project
typed = record wells {
  rules = record {
    number = 1;
    row = record { kind = kind.PointMustCoincideWith; origin = side 1 (Some 0); dest = side 1 (Some 2) };
  } ∷ [];
  features = feature 1 1 0 (point (pos 3) (pos 4)) ∷ feature 2 1 2 (point (pos 3) (pos 4)) ∷ [];
}

typed_rules : reply_text (RuleList typed) ≡ codes "rule 1 point_must_coincide_with wells:0 wells:2" ++ 10 ∷ codes "total 1" ++ 10 ∷ []
unfolding digits
typed_rules = refl

typed_features : reply_text (FeatureList typed) ≡ codes "feature 1 wells POINT (3 4)" ++ 10 ∷ codes "feature 2 wells:2 POINT (3 4)" ++ 10
    ∷ codes "total 2" ++ 10 ∷ []
unfolding digits
typed_features = refl

-- ---- the words of refusals
beyond_text : reply_text (Refused (Line (line.OutOfReach 3))) ≡ codes "refused E15 3" ++ 10 ∷ []
unfolding digits
beyond_text = refl

crossed_text : reply_text (Refused (Line (line.Invalid (fault.Cross 0 2)))) ≡ codes "refused E18 cross 0 2" ++ 10 ∷ []
unfolding digits
crossed_text = refl

-- ---- features
features : reply_text (FeatureList wells) ≡ codes "feature 1 wells POINT (3 4)" ++ 10 ∷ codes "feature 2 wells POINT (3 4)" ++ 10 ∷ codes
    "total 2" ++ 10 ∷ []
unfolding digits
features = refl

-- ---- a window in the middle of the grid: the four pieces round it stay dirty
four_left : reply_text (DirtyList (record wells { dirt = cut_dirt (whole_grid ∷ []) (rect_of (pos 0) (pos 0) (pos 5) (pos 5)) })) ≡
    codes "dirty -4194304 -4194304 0 4194304" ++ 10 ∷ codes "dirty 5 -4194304 4194304 4194304" ++ 10 ∷ codes "dirty 0 -4194304 5 0" ++ 10 ∷
    codes "dirty 0 5 5 4194304" ++ 10 ∷ codes "total 4" ++ 10 ∷ []
unfolding digits cut_from add_all pieces add_dirt
four_left = refl

window_judged : reply_text (Judged 2 1 4) ≡ codes "ok judged 2 errors 1 dirty 4" ++ 10 ∷ []
unfolding digits
window_judged = refl
