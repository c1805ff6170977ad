use Rattle.std.proofs.Common.{rules}
use Rattle.std.specs.Prelude.{nat_lt}
use Rattle.std.proofs.lemmas.List.Sorted.{IsPartitionPoint-from_clause}
use Rattle.error_store.proofs.Walking.{handles_parted}
use Rattle.error_store.proofs.walk.place_from.Goals as goal

pub returns-clause-parted : goal.returns-clause-parted
returns-clause-parted c = IsPartitionPoint-from_clause (λ a. nat_lt a c.args.from) c.args.handles.now c.partition_point.result
    c.partition_point.ensures.partitioned (handles_parted c.args.handles.now c.args.from c.requires) (λ a r f k. search rules)
