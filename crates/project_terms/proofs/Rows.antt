-- Lines, verdicts and a whole text, computed from the definitions.
--
-- two_lots      two squares that overlap, their rule, and the error between them: the worked project
use Rattle.std.proofs.Common.{◌≡◌, ℕ, ℤ, pos, negsuc, false, true, Option, List, [], ◌∷◌, ◌++◌, refl}
use Rattle.std.specs.Prelude.{codes, Some, None, flat_map, Ok, Err}
use Rattle.std.specs.Fmt.{digits}
use Rattle.plane_terms.specs.Point.{Place}
use Rattle.plane_terms.specs.Rectangle.{rect_of}
use Rattle.plane_terms.specs.HalfPlane.{HalfPlane}
use Rattle.plane_terms.specs.Shape.{Shape}
use Rattle.plane_terms.specs.declared.kind.Kind.TheVariants as kind
use Rattle.plane_terms.specs.declared.op.Op.TheVariants.{Over}
use Rattle.rule_words.specs.declared.rule_kind.RuleKind.TheVariants as rule
use Rattle.topology_terms.specs.Feature.{Side, no_side, feature_of as feature}
use Rattle.topology_terms.specs.Entry.{Entry}
use Rattle.topology_terms.specs.Project.{Project, empty_project}
use Rattle.project_terms.specs.declared.stage.Stage.TheVariants as stage
use Rattle.project_terms.specs.declared.project_cause.ProjectCause.TheVariants as cause
use Rattle.project_terms.specs.Lines.{fields, number}
use Rattle.project_terms.specs.Written.{project_text, text_of}
use Rattle.project_terms.specs.Records.{IsPlain}
use Rattle.project_terms.specs.Drafts.{Draft, start}
use Rattle.project_terms.specs.Verdicts.{SideForm, Unwritten, Written, line_verdict, side_form, own_form}
use Rattle.project_terms.specs.Texts.{ended}

-- ---- fields and numbers

spaced : fields (codes "a  b") ≡ codes "a" ∷ [] ∷ codes "b" ∷ []
spaced = refl

empty : fields [] ≡ [] ∷ []
empty = refl

below : number (codes "-30") ≡ Some (negsuc 29)
below = refl

no_zero_in_front : number (codes "07") ≡ None
no_zero_in_front = refl

no_zero_below : number (codes "-0") ≡ None
no_zero_below = refl

nought : number (codes "0") ≡ Some (pos 0)
nought = refl

however_long : number (codes "123456789012345678901234567890") ≡ Some (pos 1125899906842624)
however_long = refl

-- ---- the worked project

abbrev place : ℤ → ℤ → Place
place x y = record { x = x; y = y }

abbrev half : ℤ → ℤ → ℤ → HalfPlane
half a b c = record { a = a; b = b; c = c; op = Over }

abbrev square : ℤ → ℤ → Shape
square a b = record { kind = kind.Polygon; parts = ((place a a ∷ place b a ∷ place b b ∷ place a b ∷ []) ∷ []) ∷ [] }

abbrev cell : List HalfPlane
cell = half (pos 1) (pos 0) (pos 0) ∷ half (negsuc 0) (pos 0) (pos 10) ∷ half (pos 0) (pos 10) (pos 0) ∷ half (pos 0) (negsuc 9) (pos 100)
    ∷ half (pos 1) (pos 0) (negsuc 4) ∷ half (negsuc 0) (pos 0) (pos 15) ∷ half (pos 0) (pos 10) (negsuc 49) ∷ half (pos 0) (negsuc 9)
    (pos 150) ∷ []

abbrev overlap : Entry
overlap = record {
  rule = 1;
  subject = 1;
  other = 2;
  whole = false;
  marked = false;
  frame =
      rect_of (pos 5) (pos 5) (pos 10) (pos 10);
  cells = cell ∷ [];
}

abbrev two_lots : Project
two_lots = record {
  classes = record { name = codes "lots"; kind = kind.Polygon } ∷ [];
  rules = record {
    number = 1;
    row = record {
      kind = rule.PolygonMustNotOverlap;
      origin = record { class = 1; subtype = None };
      dest = no_side;
    };
  } ∷ [];
  features = feature 1 1 0 (square (pos 0) (pos 10)) ∷ feature 2 1 0 (square (pos 5) (pos 15)) ∷ [];
  next = 3;
  dirt = [];
  entries = overlap ∷ [];
}

abbrev lines : List ℕ → List (List ℕ)
lines title = title
    ∷ codes "next 3"
    ∷ codes "class lots polygon"
    ∷ codes "rule 1 polygon_must_not_overlap lots"
    ∷ codes "feature 1 lots POLYGON ((0 0, 10 0, 10 10, 0 10, 0 0))"
    ∷ codes "feature 2 lots POLYGON ((5 5, 15 5, 15 15, 5 15, 5 5))"
    ∷ codes "error 1 1 2 cells 5 5 10 10"
    ∷ codes "cell 1 0 0 >, -1 0 10 >, 0 10 0 >, 0 -10 100 >, 1 0 -5 >, -1 0 15 >, 0 10 -50 >, 0 -10 150 >"
    ∷ codes "end"
    ∷ []

text : project_text two_lots ≡ flat_map ended (lines (codes "topology 2"))
unfolding digits
text = refl

-- in format 1 the first line alone is another
older_text : text_of 1 two_lots ≡ flat_map ended (lines (codes "topology 1"))
unfolding digits
older_text = refl

plain : IsPlain two_lots
plain = record { rules = (record { origin = refl; dest = refl }, tt); features = (refl, (refl, tt)) }

empty_text : project_text empty_project ≡ flat_map ended (codes "topology 2" ∷ codes "next 1" ∷ codes "end" ∷ [])
unfolding digits
empty_text = refl

-- a rule between two subtypes of one class, and features of each
abbrev of_lots : Option ℕ → Side
of_lots t = record { class = 1; subtype = t }

abbrev two_kinds : Project
two_kinds = record two_lots {
  rules = record {
    number = 1;
    row = record { kind = rule.PolygonMustNotOverlapWith; origin = of_lots (Some 1); dest = of_lots (Some 0) };
  } ∷ [];
  features = feature 1 1 1 (square (pos 0) (pos 10)) ∷ feature 2 1 0 (square (pos 5) (pos 15)) ∷ [];
  entries = [];
}

typed_text : project_text two_kinds ≡ flat_map ended (codes "topology 2"
    ∷ codes "next 3"
    ∷ codes "class lots polygon"
    ∷ codes "rule 1 polygon_must_not_overlap_with lots:1 lots:0"
    ∷ codes "feature 1 lots:1 POLYGON ((0 0, 10 0, 10 10, 0 10, 0 0))"
    ∷ codes "feature 2 lots POLYGON ((5 5, 15 5, 15 15, 5 15, 5 5))"
    ∷ codes "end"
    ∷ [])
unfolding digits
typed_text = refl

-- ---- sides

abbrev named : List ℕ → Option ℤ → SideForm
named name subtype = record { name = name; subtype = subtype }

plain_side : side_form true (codes "lots") ≡ Some (named (codes "lots") None)
plain_side = refl

bound_side : side_form true (codes "lots:2") ≡ Some (named (codes "lots") (Some (pos 2)))
bound_side = refl

-- the format 1 has no colon
no_side_of_format_1 : side_form false (codes "lots:2") ≡ None
no_side_of_format_1 = refl

-- a side may bind the subtype 0, and a feature's is not written
side_of_0 : side_form true (codes "lots:0") ≡ Some (named (codes "lots") (Some (pos 0)))
side_of_0 = refl

no_own_of_0 : own_form true (codes "lots:0") ≡ None
no_own_of_0 = refl

-- a number is spelled in one way; its limits are looked at later
no_nought_below : side_form true (codes "lots:-0") ≡ None
no_nought_below = refl

no_zeros : own_form true (codes "lots:007") ≡ None
no_zeros = refl

no_plus : own_form true (codes "lots:+1") ≡ None
no_plus = refl

no_number : side_form true (codes "lots:") ≡ None
no_number = refl

one_colon : side_form true (codes "lots:1:2") ≡ None
one_colon = refl

no_name : side_form true (codes ":1") ≡ None
no_name = refl

below_0 : own_form true (codes "lots:-5") ≡ Some (named (codes "lots") (Some (negsuc 4)))
below_0 = refl

-- ---- verdicts

titled : line_verdict Unwritten start (fields (codes "topology 2")) ≡ Ok (record start { stage = stage.Title; typed = true })
titled = refl

older : line_verdict Unwritten start (fields (codes "topology 1")) ≡ Ok (record start { stage = stage.Title })
older = refl

another_format : line_verdict Unwritten start (fields (codes "topology 9")) ≡ Err cause.Form
another_format = refl

-- a section behind a later one, and a number beyond its limits
abbrev behind_features : Draft
behind_features = record { stage = stage.Features; typed = true; project = record two_lots { entries = [] } }

late_class : line_verdict Unwritten behind_features (fields (codes "class zones polygon")) ≡ Err cause.Form
late_class = refl

reversed : line_verdict Unwritten behind_features (fields (codes "dirty 5 5 4 5")) ≡ Err cause.Range
reversed = refl

no_rule : line_verdict Unwritten behind_features (fields (codes "error 2 1 2 cells 5 5 10 10")) ≡ Err cause.Unknown
unfolding Rattle.topology_terms.specs.Project.rule_at
no_rule = refl

cell_too_soon : line_verdict Unwritten behind_features (fields (codes "cell 1 0 0 >")) ≡ Err cause.Form
cell_too_soon = refl

end_too_soon : line_verdict Unwritten (record {
  stage = stage.Errors;
  typed = true;
  project = record two_lots {
    entries =
        record overlap { cells = [] } ∷ [];
  };
}) (fields (codes "end"))
    ≡ Err cause.Form
end_too_soon = refl

-- nothing stands behind the end: no cell either, though the last error is of cells
cell_too_late : line_verdict Unwritten (record { stage = stage.End; typed = true; project = two_lots }) (fields (codes "cell 1 0 0 >")) ≡ Err cause.Form
cell_too_late = refl

-- each cause but `Shape`, which is the shape's, and `Short`, which is the text's
again : line_verdict Unwritten behind_features (fields (codes "dirty 1 1 2 2")) ≡ Ok (record behind_features {
  stage = stage.Dirt;
  project = record two_lots { entries = []; dirt = rect_of (pos 1) (pos 1) (pos 2) (pos 2) ∷ [] };
})
again = refl

nested : line_verdict Unwritten (record {
  stage = stage.Dirt;
  typed = true;
  project = record two_lots { entries = []; dirt = rect_of (pos 1) (pos 1) (pos 2) (pos 2) ∷ [] };
}) (fields (codes "dirty 0 0 2 2")) ≡ Err cause.Order
nested = refl

two_spaces : line_verdict Unwritten behind_features (fields (codes "dirty 1  1 2 2")) ≡ Err cause.Form
two_spaces = refl

carriage_return : line_verdict Unwritten behind_features (fields (codes "end" ++ 13 ∷ [])) ≡ Err cause.Form
carriage_return = refl

handle_not_given : line_verdict (Written (square (pos 0) (pos 10))) behind_features (fields (codes "feature 3 lot POINT (0 0)")) ≡ Err
    cause.Range
handle_not_given = refl

-- a subtype is looked at before the class, and after the form
abbrev behind_rule : Draft
behind_rule = record { stage = stage.Rules; typed = true; project = record two_lots { features = []; entries = [] } }

subtype_256 : line_verdict (Written (square (pos 0) (pos 10))) behind_rule (fields (codes "feature 1 plots:256 POINT (0 0)")) ≡ Err
    cause.Range
subtype_256 = refl

subtype_below_0 : line_verdict (Written (square (pos 0) (pos 10))) behind_rule (fields (codes "feature 1 lots:-5 POINT (0 0)")) ≡ Err
    cause.Range
subtype_below_0 = refl

class_not_there : line_verdict (Written (square (pos 0) (pos 10))) behind_rule (fields (codes "feature 1 plots:255 POINT (0 0)")) ≡ Err
    cause.Unknown
class_not_there = refl

own_of_0 : line_verdict (Written (square (pos 0) (pos 10))) behind_rule (fields (codes "feature 1 lots:0 POINT (0 0)")) ≡ Err
    cause.Form
own_of_0 = refl

-- of a rule, too; its sides must have no feature in common
side_256 : line_verdict Unwritten behind_rule (fields (codes "rule 2 polygon_must_not_overlap_with lots:1 plots:256")) ≡ Err cause.Range
side_256 = refl

a_class_and_its_subtype : line_verdict Unwritten behind_rule (fields (codes "rule 2 polygon_must_not_overlap_with lots lots:2")) ≡ Err
    cause.Unknown
a_class_and_its_subtype = refl

one_subtype_twice : line_verdict Unwritten behind_rule (fields (codes "rule 2 polygon_must_not_overlap_with lots:2 lots:2")) ≡ Err
    cause.Unknown
one_subtype_twice = refl

two_subtypes : line_verdict Unwritten behind_rule (fields (codes "rule 2 polygon_must_not_overlap_with lots:1 lots:2")) ≡ Ok
    (record behind_rule {
      project = record two_lots {
        features = [];
        entries = [];
        rules = two_lots.rules ++ record {
          number = 2;
          row = record { kind = rule.PolygonMustNotOverlapWith; origin = of_lots (Some 1); dest = of_lots (Some 2) };
        } ∷ [];
      };
    })
two_subtypes = refl

-- the same rule on the class and on a subtype of it are two rules
another_side : line_verdict Unwritten behind_rule (fields (codes "rule 2 polygon_must_not_overlap lots")) ≡ Err cause.Order
another_side = refl
