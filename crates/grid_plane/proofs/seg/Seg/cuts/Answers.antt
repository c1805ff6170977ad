use Rattle.std.proofs.Common.{◌≡◌, ◌↔◌, IsTrue, Bool, sym, subst}
use Rattle.plane_terms.specs.Segment.{IsSegment}
use Rattle.plane_terms.specs.ShapeFaults.{AreBad}
use Rattle.grid_plane.proofs.Cuts.{cut_means}
use Rattle.grid_plane.proofs.seg.Seg.cuts.Goals as goal

pub returns : goal.returns
returns c =
    subst (λ (b : Bool). IsTrue b ↔ AreBad c.args.self.now c.args.other.now) (sym c.decide_cut.ensures)
    (cut_means c.args.self.now c.args.other.now (subst IsSegment c.self.view_is c.self.invariant.proper)
    (subst IsSegment c.other.view_is c.other.invariant.proper))
