use Rattle.std.proofs.Common.{◌∙◌}
use Rattle.std.specs.Ordering.{int_eq}
use Rattle.std.proofs.lemmas.List.Filters.{dedup_is}
use Rattle.column_cut.proofs.Ascending.{distinct_is}
use Rattle.column_cut.proofs.vertices.distinct.Goals as goal

pub returns : goal.returns
returns c = dedup_is int_eq _ _ c.dedup.ensures.filtered ∙ distinct_is _ _ c.sort.ensures.permutation c.in_ok-sort.ensures.sorted
