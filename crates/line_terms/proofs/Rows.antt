-- Lines that are written out, and their forms.
use Rattle.std.proofs.Common.{ℕ, pos, List, [], refl, inl, inr, arith, Option, Some, None}
use Rattle.std.specs.Prelude.{codes}
use Rattle.plane_terms.specs.declared.kind.Kind.TheVariants as shapes
use Rattle.text_terms.specs.Numbers.{IsNumeral, IsSigned, IsWithinText}
use Rattle.rule_words.specs.declared.rule_kind.RuleKind.TheVariants as rule
use Rattle.plane_terms.specs.Point.{Place}
use Rattle.plane_terms.specs.Rectangle.{rect_of}
use Rattle.line_terms.specs.Commands.{Sided, Blank, Class, Rule, Add, Delete, Retype, Explode, Snap, Create, Move, Validate, All, Numbers, Rules, Corners, Version, In, Reconcile, Post}
use Rattle.line_terms.specs.Forms.{HasForm}

skipped : HasForm (codes " # class wells point") Blank
skipped = (refl, refl)

empty : HasForm [] Blank
empty = (refl, refl)

class_line : HasForm (codes "class wells  point ") (Class (codes "wells") shapes.Point)
class_line = (refl, ((refl, refl), (refl, refl)))

abbrev of : List ℕ → Option ℕ → Sided
of name subtype = record { name = name; subtype = subtype }

-- a rule that takes a second class, and one that takes none
contains_line : HasForm (codes "rule polygon_contains_point lots wells") (Rule rule.PolygonContainsPoint (of (codes "lots") None)
    (Some (of (codes "wells") None)))
contains_line = (refl, (refl, ((refl, refl), ((refl, refl), refl))))

disjoint_line : HasForm (codes "rule point_must_be_disjoint wells") (Rule rule.PointMustBeDisjoint (of (codes "wells") None) None)
disjoint_line = (refl, (refl, ((refl, refl), refl)))

-- the text of a shape is what is left, blanks inside included
add_line : HasForm (codes " by ann add wells  POINT  (3 4) ") (Add (codes "ann") (of (codes "wells") None) (codes "POINT  (3 4)"))
add_line = (refl, ((refl, refl), (refl, ((refl, refl), (refl, refl)))))

-- zeros in front are free
seven : IsWithinText 1 4294967295 (codes "007") 7
seven = record { numeral = record { some = λ e. cc; digits = refl; value = refl }; at_least = omega arith; at_most = omega arith }

-- subtypes: behind a colon, from 0 to 255, zeros in front are free
two : IsWithinText 0 255 (codes "02") 2
two = record { numeral = record { some = λ e. cc; digits = refl; value = refl }; at_least = omega arith; at_most = omega arith }

nought : IsWithinText 0 255 (codes "0") 0
nought = record { numeral = record { some = λ e. cc; digits = refl; value = refl }; at_least = omega arith; at_most = omega arith }

subtype_line : HasForm (codes "by ann add lots:02 POINT (3 4)") (Add (codes "ann") (of (codes "lots") (Some 2)) (codes "POINT (3 4)"))
subtype_line = (refl, ((refl, refl), (refl, ((refl, (codes "02", refl, two)), (refl, refl)))))

sides_line : HasForm (codes "rule polygon_contains_point lots:0 wells") (Rule rule.PolygonContainsPoint (of (codes "lots") (Some 0))
    (Some (of (codes "wells") None)))
sides_line = (refl, (refl, ((refl, (codes "0", refl, nought)), ((refl, refl), refl))))

retype_line : HasForm (codes "by ann retype 007 02") (Retype (codes "ann") 7 2)
retype_line = (refl, ((refl, refl), (refl, (seven, (two, refl)))))

no_subtype_above_255 : IsWithinText 0 255 (codes "256") 256 → ⊥
no_subtype_above_255 h = omega (arith, h.at_most)

delete_line : HasForm (codes "by ann delete 007") (Delete (codes "ann") 7)
delete_line = (refl, ((refl, refl), (refl, (seven, refl))))

whole_line : HasForm (codes "validate all") (Validate All)
whole_line = (refl, (refl, refl))

numeral_0 : IsNumeral (codes "0") 0
numeral_0 = record { some = λ e. cc; digits = refl; value = refl }

-- a `-` with a zero, and a number beyond the reach
zero_is : IsSigned (codes "-0") (pos 0)
zero_is = inr (codes "0", 0, refl, numeral_0, refl)

far_is : IsSigned (codes "4194305") (pos 4194305)
far_is = inl (4194305, record { some = λ e. cc; digits = refl; value = refl }, refl)

window_line : HasForm (codes "validate -0 4194305 -0 -0") (Validate (Numbers (rect_of (pos 0) (pos 4194305) (pos 0) (pos 0))))
window_line = (refl, (zero_is, (far_is, (zero_is, (zero_is, refl)))))

listing_line : HasForm (codes "rules") Rules
listing_line = (refl, refl)

-- a whole error has no partner, and its line a 0
one : IsWithinText 1 65535 (codes "1") 1
one = record { numeral = record { some = λ e. cc; digits = refl; value = refl }; at_least = omega arith; at_most = omega arith }

alone : IsWithinText 0 4294967295 (codes "0") 0
alone = record { numeral = record { some = λ e. cc; digits = refl; value = refl }; at_least = omega arith; at_most = omega arith }

-- fixes: an end is counted from 0, and a place may be beyond the reach
abbrev at_0 : Place
at_0 = record { x = pos 0; y = pos 0 }

abbrev beyond : Place
beyond = record { x = pos 4194305; y = pos 0 }

explode_line : HasForm (codes "by ann explode 007") (Explode (codes "ann") 7)
explode_line = (refl, ((refl, refl), (refl, (seven, refl))))

snap_line : HasForm (codes "by ann snap 1 007 0 -0 -0") (Snap (codes "ann") 1 7 0 at_0)
snap_line = (refl, ((refl, refl), (refl, (one, (seven, (alone, (zero_is, (zero_is, refl))))))))

create_line : HasForm (codes "by ann create 1 007 -0 -0") (Create (codes "ann") 1 7 at_0)
create_line = (refl, ((refl, refl), (refl, (one, (seven, (zero_is, (zero_is, refl)))))))

move_line : HasForm (codes "by ann move 4194305 -0 -0 -0") (Move (codes "ann") beyond at_0)
move_line = (refl, ((refl, refl), (refl, (far_is, (zero_is, (zero_is, (zero_is, refl)))))))

corners_line : HasForm (codes "corners 1 007 0") (Corners 1 7 0)
corners_line = (refl, (one, (seven, (alone, refl))))

-- versions: a name, and blanks wherever they may stand; `default` is a name as any other, and a name may be a command's word
version_line : HasForm (codes " version  plan ") (Version (codes "plan"))
version_line = (refl, ((refl, refl), refl))

in_line : HasForm (codes "in default") (In (codes "default"))
in_line = (refl, ((refl, refl), refl))

reconcile_line : HasForm (codes "reconcile post") (Reconcile (codes "post"))
reconcile_line = (refl, ((refl, refl), refl))

post_line : HasForm (codes "post plan") (Post (codes "plan"))
post_line = (refl, ((refl, refl), refl))

-- a class may have a subtype behind a colon, a version none
no_colon : HasForm (codes "version plan:2") (Version (codes "plan:2")) → ⊥
no_colon h = cc
