use Rattle.std.proofs.Common.{rules}
use Rattle.std.proofs.lemmas.List.Sorted.{IsPartitionPoint-from_clause}
use Rattle.validation.proofs.TooFar.{is_before, before_parted}
use Rattle.validation.proofs.sorted.first_from.Goals as goal

pub returns-clause-parted : goal.returns-clause-parted
returns-clause-parted c = IsPartitionPoint-from_clause (is_before c.args.x) c.args.rects.now c.partition_point.result
    c.partition_point.ensures.partitioned (before_parted c.args.x c.args.rects.now c.requires) (λ a r f k. search rules)
