use Rattle.std.proofs.Common.{◌≡◌, ◌∙◌, ◌++◌, [], ◌∷◌, Some, refl, ap, drop, rules, subst}
use Rattle.std.specs.Prelude.{IfOk, List}
use Rattle.plane_terms.specs.Cell.{Cell}
use Rattle.plane_terms.specs.Carve.{carve_of}
use Rattle.topology_terms.specs.Cells.{uncovered, outside}
use Rattle.topology_terms.specs.Plans.{open_ground}
use Rattle.rule_loops.specs.Open.{outsides}
use Rattle.topology_terms.specs.Together.{of_side}
use Rattle.rule_loops.proofs.Chosen.{left_in_turn}
use Rattle.rule_loops.proofs.More.{ground_left}
use Rattle.plane_terms.specs.Shape.{envelope_of}
use Rattle.sound_laws.proofs.Meetings.{envelope_proper}
use Rattle.rule_loops.proofs.OpenPieces.{box_has_point, all_off, held_off}
use Rattle.rule_loops.proofs.gaps.open_ground.Goals as goal

pub returns-clause-ground : goal.returns-clause-ground
returns-clause-ground c =
    let f = c.args.subject.now in
    let S = c.args.side in
    let o = Some c.handle.result in
    let V = c.args.view.now in
    let round : List Cell = c.in_ok-round.round ∷ [] in
    let near = c.in_ok-near.near in
    let first : c.push.new.self.items ≡ outside f ∷ [] = c.in_ok-push.ensures.items
    ∙ (ap (λ dss. dss ++ c.in_ok-polygon_nearby.field-0 ∷ []) c.new-own.ensures.items ∙ ap (λ ds. ds ∷ []) c.in_ok-polygon_nearby.ensures.outside) in
    let turns = left_in_turn round c.in_ok-left.left near.held.items (outsides S o (drop near.rest V)) (outside f ∷ outsides S o V)
    (c.in_ok-left.ensures ∙ (ap (λ (x : Cell). uncovered (x ∷ []) c.deref.result.now) c.borrow.ensures
    ∙ ap (uncovered round) c.deref.ensures.value))
    (c.in_ok-near.ensures.all ∙ ap (λ dss. dss ++ outsides S o V) first) in
    let ground : carve_of round (outside f) ≡ open_ground f [] = search rules in
    let all : uncovered c.in_ok-left.left (outsides S o (drop near.rest V)) ≡ open_ground f (of_side S V) =
    turns ∙ (ap (λ cs. uncovered cs (outsides S o V)) ground ∙ rw (c.handle.ensures) (ground_left f S V)) in
    subst (λ (all : List Cell). IfOk c.left_by_turns.result (λ cells. cells ≡ all)) all c.left_by_turns.ensures.left

pub left_of_cell-requires-clause-some : goal.left_of_cell-requires-clause-some
left_of_cell-requires-clause-some c =
    rw (c.borrow.ensures, c.in_ok-round.ensures, c.env.ensures) (box_has_point (envelope_of c.shape.result.now) (envelope_proper c.shape.result.now))

pub left_of_cell-requires-clause-off_walls : goal.left_of_cell-requires-clause-off_walls
left_of_cell-requires-clause-off_walls c =
    let f = c.args.subject.now in
    let V = c.args.view.now in
    let o = Some c.handle.result in
    let near = c.in_ok-near.near in
    let first : c.push.new.self.items ≡ outside f ∷ [] =
    rw (c.in_ok-push.ensures.items, c.new-own.ensures.items, c.in_ok-polygon_nearby.ensures.outside) refl in
    rw (c.deref.ensures.value) (held_off c.args.side o V near.held.items (outsides c.args.side o (drop near.rest V)) c.push.new.self.items
    c.in_ok-near.ensures.all (rw first (all_off (f ∷ []))))
