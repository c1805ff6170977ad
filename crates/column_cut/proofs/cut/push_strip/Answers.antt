use Rattle.column_cut.specs.Ranks.{segment_of}
use Rattle.std.proofs.Common.{◌≡◌, ◌∙◌, List, ap, map, None}
use Rattle.plane_terms.specs.Segment.{Segment}
use Rattle.plane_terms.specs.Columns.{column, slots, on_wall, in_column, intervals, is_covered, ordinates}
use Rattle.column_cut.specs.Parity.{is_even}
use Rattle.column_cut.specs.Pieces.{slot_cell}
use Rattle.column_cut.proofs.Steps.{strip_done}
use Rattle.column_cut.proofs.cut.push_strip.Goals as goal

pub returns : goal.returns
returns c =
    let x = c.args.left.now in
    let y = c.args.right.now in
    let ss = c.args.segments.now in
    let even = is_even c.args.parity in
    let made = map slot_cell c.find_slots.new.found.items in
    let same : made ≡ slots even None (column x y ss) = c.in_ok-find_slots.ensures
    ∙ ap (λ (col : List Segment). slots even None col) (ap (map segment_of) c.deref.ensures.value ∙ c.in_ok-find_column.ensures) in
    strip_done c.push_column.result (λ s. on_wall x s (intervals (is_covered x ss) None (ordinates x ss))) (λ s. in_column x y s) made
    (slots even None (column x y ss)) same c.args.cells.now c.push_wall.new.cells c.push_column.new.cells
    (rw c.deref-2.ensures.value at c.in_ok-push_wall.ensures) (rw c.deref-3.ensures.value at c.push_column.ensures)
