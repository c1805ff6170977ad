use Rattle.feature_store.proofs.Lists.{found_at, none_at}
use Rattle.feature_store.proofs.slots.feature_of.Goals as goal

pub returns-in-Ok : goal.returns-in-Ok
returns-in-Ok c = rw (found_at c.args.handle c.args.slots.now c.in-Ok.place c.index-slots-place.result c.in-Ok.ensures c.requires
    c.index-slots-place.is) c.feature.ensures

pub returns-in-Err : goal.returns-in-Err
returns-in-Err c = none_at c.args.handle c.args.slots.now c.in-Err.field-0 c.in-Err.ensures
