use Rattle.std.proofs.Common.{◌≡◌, ◌<◌, length, ◌-◌, arith, to_z, of_z, w32, get_or, pos, sym, ◌∙◌}
use Rattle.std.proofs.lemmas.Int.{to_z-of_z}
use Rattle.std.proofs.lemmas.List.{get_or_default}
use Rattle.plane_terms.specs.Point.{InReach}
use Rattle.convex_cell.proofs.Ranges.{on_true}
use Rattle.plane_terms.proofs.ListLemmas.{among_at, every_at}
use Rattle.column_cut.proofs.Ranking.{grid_fits}
use Rattle.column_cut.proofs.vertices.is_last.Goals as goal

pub returns : goal.returns
returns c =
    let vs = c.args.values.now in
    let v = c.args.value in
    let k = length vs - 1 - c.args.before in
    let within : k < length vs = omega arith in
    let known_back = to_z-of_z w32 (get_or vs k (pos 0)) (grid_fits _ (every_at InReach vs k (pos 0) c.requires within)) in
    let back : to_z w32 (of_z w32 v) ≡ v = to_z-of_z w32 v c.ranges.value in
    on_true c.is_same.result _ _
    (λ e. among_at vs k v within (get_or_default vs k v (pos 0) within ∙ sym known_back ∙ e ∙ back)) c.is_same.ensures
