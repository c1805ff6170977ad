use Rattle.std.proofs.Common.{◌↔◌, sym, subst, All}
use Rattle.plane_terms.specs.HalfPlane.{Holds}
use Rattle.plane_terms.specs.Cell.{Cell}
use Rattle.convex_cell.proofs.Both.{all_of_both}
use Rattle.convex_cell.proofs.Pieces.{held_in}
use Rattle.convex_cell.proofs.piece.push_more.Goals as goal

pub push_others-requires-clause-framed : goal.push_others-requires-clause-framed
push_others-requires-clause-framed c = λ p a.
    let m = (held_in c.args.halves.now.items p).0 a in
    record { along = c.in-Some.ensures.sound p.x p.w (c.requires.x p m); up = c.in-Some-reach_of.ensures.sound p.y p.w (c.requires.y p m) }

pub returns-clause-points : goal.returns-clause-points
returns-clause-points c = λ p.
    let old = c.args.halves.now.items in
    let more = c.args.more.now in
    subst (λ (hs : Cell). All (λ h. Holds h p) hs ↔ (All (λ h. Holds h p) old × All (λ h. Holds h p) more))
    (sym c.in_ok-extend_from_slice.ensures.items) (all_of_both (λ h. Holds h p) old more)
