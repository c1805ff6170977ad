use Rattle.std.proofs.Common.{◌∙◌, sym, subst}
use Rattle.plane_terms.specs.Lists.{Every}
use Rattle.plane_terms.specs.Point.{InReach}
use Rattle.column_cut.proofs.Ascending.{every_ascending}
use Rattle.column_cut.proofs.vertices.ascending.Goals as goal

pub coordinates-requires : goal.coordinates-requires
coordinates-requires c = subst (Every InReach) (sym (c.deref.ensures.value ∙ c.in_ok-distinct.ensures))
    (every_ascending InReach c.args.values.now.items c.requires)
