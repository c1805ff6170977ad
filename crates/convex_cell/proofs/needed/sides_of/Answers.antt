use Rattle.std.proofs.Common.{◌≡◌, ◌∙◌, ◌↔◌, List, [], ◌∷◌, pos, negsuc, arith, ap, sym, subst}
use Rattle.std.specs.List.{All}
use Rattle.std.proofs.lemmas.Int.{ints}
use Rattle.plane_terms.specs.HalfPlane.{HalfPlane, Holds}
use Rattle.convex_cell.specs.Needed.{IsInFrame, closed_of}
use Rattle.convex_cell.proofs.Codes.{four_same}
use Rattle.convex_cell.proofs.Within.{left_side, right_side, lower_side, upper_side, sides_hold}
use Rattle.convex_cell.proofs.needed.sides_of.Goals as goal

pub returns : goal.returns
returns c =
    let x = c.args.x in
    let y = c.args.y in
    let left : c.closed-left.result ≡ left_side x = c.closed-left.ensures ∙ ap (closed_of (pos 1) (pos 0)) (omega (arith, ints)) in
    let right : c.closed-right.result ≡ right_side x = c.closed-right.ensures ∙ ap (closed_of (negsuc 0) (pos 0)) (omega (arith, ints)) in
    let below : c.closed-below.result ≡ lower_side y = c.closed-below.ensures ∙ ap (closed_of (pos 0) (pos 1)) (omega (arith, ints)) in
    let above : c.closed-above.result ≡ upper_side y = c.closed-above.ensures ∙ ap (closed_of (pos 0) (negsuc 0)) (omega (arith, ints)) in
    let all : c.in_ok-from_slice.field-0.items ≡ left_side x ∷ right_side x ∷ lower_side y ∷ upper_side y ∷ [] =
    c.in_ok-from_slice.ensures.items ∙ four_same left right below above in
    λ p. subst (λ (hs : List HalfPlane). All (λ h. Holds h p) hs ↔ IsInFrame x y p) (sym all) (sides_hold x y p)
