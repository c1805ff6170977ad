-- The least rectangle round a list of places, piece by piece.
use Rattle.std.proofs.Common.{◌≡◌, ℤ, List, [], ◌∷◌, ◌++◌, refl, sym, ap, subst, ◌∙◌, arith}
use Rattle.std.proofs.lemmas.Int.{ints}
use Rattle.std.specs.Int.{int_max, int_min}
use Rattle.plane_terms.specs.Lists.{Every}
use Rattle.plane_terms.specs.Point.{Place, IsInReach}
use Rattle.plane_terms.specs.Rectangle.{Rectangle, rect_at, join_of}
use Rattle.plane_terms.specs.Shape.{box_from, box_of_places}
use Rattle.plane_terms.proofs.ListLemmas.{every_append}
use Rattle.cell_laws.proofs.Envelope.{rect_same}

pub box_after : (r : Rectangle) (ps qs : List Place) → box_from r (ps ++ qs) ≡ box_from (box_from r ps) qs
box_after r [] qs = refl
box_after r (p ∷ ps) qs = box_after (join_of r (rect_at p)) ps qs

least_same : (v : ℤ) → int_min v v ≡ v
least_same v = grind (arith, ints)

most_same : (v : ℤ) → int_max v v ≡ v
most_same v = grind (arith, ints)

join_same : (p : Place) → join_of (rect_at p) (rect_at p) ≡ rect_at p
join_same p = rect_same (least_same p.x) (least_same p.y) (most_same p.x) (most_same p.y)

-- a first place that is joined once more changes nothing
pub box_once : (p : Place) (ps : List Place) → box_from (rect_at p) (p ∷ ps) ≡ box_of_places (p ∷ ps)
box_once p ps = ap (λ r. box_from r ps) (join_same p)

-- ---- one ring more
pub box_step : (wide new : Rectangle) (items now rest whole : List Place) → now ≡ items → new ≡ box_from wide now → whole ≡ items ++ rest
    → box_from new rest ≡ box_from wide whole
box_step wide new items now rest whole e h k =
    ap (λ (r : Rectangle). box_from r rest) h ∙ ap (λ (ps : List Place). box_from (box_from wide ps) rest) e
    ∙ sym (box_after wide items rest) ∙ ap (λ (ps : List Place). box_from wide ps) (sym k)

pub reach_step : (items now rest whole : List Place) → now ≡ items → Every IsInReach now → whole ≡ items ++ rest → Every IsInReach rest
    → Every IsInReach whole
reach_step items now rest whole e h k f =
    subst (λ (ps : List Place). Every IsInReach ps) (sym k)
    (every_append IsInReach items rest (subst (λ (ps : List Place). Every IsInReach ps) e h) f)
