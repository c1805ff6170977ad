use Rattle.std.proofs.Common.{ltb, rules}
use Rattle.std.proofs.lemmas.List.Sorted.{IsPartitionPoint-from_clause, IsPartitionedBy-ltb}
use Rattle.feature_store.specs.declared.slot.Slot.{Slot}
use Rattle.feature_store.specs.Slots.{handle_in}
use Rattle.feature_store.proofs.Lists.{rising, placed}
use Rattle.feature_store.proofs.slots.place_of.Goals as goal

pub returns : goal.returns
returns c =
    let t = c.args.handle in
    let S = c.args.slots.now in
    let i = c.partition_point.result in
    placed t S i c.partition_point.ensures.bound (IsPartitionPoint-from_clause (λ (s : Slot). ltb (handle_in s) t) S i
    c.partition_point.ensures.partitioned (IsPartitionedBy-ltb handle_in S t (rising S c.requires)) (λ a r f k. search rules))
