use Rattle.dirty_area.proofs.list.drop_held.Goals as goal

pub trim_near-requires-clause-places : goal.trim_near-requires-clause-places
trim_near-requires-clause-places c = rw (c.deref-in-Some-3.ensures.value, ← c.deref.ensures.value) c.in-Some.ensures
