use Rattle.std.proofs.Common.{get_or}
use Rattle.std.proofs.lemmas.List.{get_or_default}
use Rattle.error_store.proofs.Walking.{least_there}
use Rattle.error_store.proofs.walk.least_from.Goals as goal

pub returns-then-place-handles : goal.returns-then-place-handles
returns-then-place-handles c =
    let hs = c.args.handles.now in
    let i = c.place_from-place.result in
    let a = get_or hs i 0 in
    least_there hs c.args.from i a c.requires c.place_from-place.ensures.parted c.if-place-handles.true
    (get_or_default hs i 0 a c.if-place-handles.true)
