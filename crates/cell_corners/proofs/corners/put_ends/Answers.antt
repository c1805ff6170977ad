use Rattle.std.proofs.Common.{◌↔◌, ◌⊎◌}
use Rattle.plane_terms.specs.Lists.{SomeOf}
use Rattle.plane_terms.specs.Point.{Point}
use Rattle.plane_terms.specs.HalfPlane.{turned}
use Rattle.plane_terms.specs.Cell.{InCell, weak_of}
use Rattle.plane_terms.specs.Corners.{MeetAt}
use Rattle.cell_corners.specs.Listed.{corner_at, Stands}
use Rattle.cell_corners.specs.Held.{IsEndOn}
use Rattle.cell_corners.proofs.Ascents.{on_ok}
use Rattle.cell_corners.proofs.OnLines.{ends_are, found_twice}
use Rattle.cell_corners.proofs.corners.put_ends.Goals as goal

pub returns-clause-found : goal.returns-clause-found
returns-clause-found c =
    let h = c.args.half.now in
    let hs = c.args.halves.now in
    let mid = c.put_beginning.new.found.items in
    let new = c.put_beginning-2.new.found.items in
    let second = rw c.turned.ensures at c.put_beginning-2.ensures.found in
    on_ok c.put_beginning-2.result ((p : Point) → Stands new p ↔ (Stands mid p ⊎ IsEndOn (turned h c.op.result) hs (corner_at p)))
    ((p : Point) → Stands new p ↔ (Stands c.args.found.now.items p ⊎ (InCell (weak_of hs) p × SomeOf (MeetAt p h) hs)))
    (λ g p. found_twice (c.in_ok-put_beginning.ensures.found p) (g p) (ends_are h c.op.result hs p)) second
