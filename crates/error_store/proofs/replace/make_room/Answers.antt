use Rattle.std.proofs.Common.{◌∙◌, map, subst}
use Rattle.std.specs.BTreeMap.{keys}
use Rattle.std.specs.Map.Iter.{deref}
use Rattle.std.proofs.lemmas.Map.Iter.{iter_end}
use Rattle.error_store.specs.Exchange.{KeepsBeside}
use Rattle.error_store.proofs.Exchange.{room_on, room_all, beside_on}
use Rattle.error_store.proofs.replace.make_room.Goals as goal

pub loop-pair-preserved : goal.loop-pair-preserved
loop-pair-preserved c =
    let inv = c.loop-pair.invariant in
    let room = c.in_ok-make_room_at.ensures in (
      room.runs,
      room.same ∙ inv.1,
      room_on c.loop-pair.runs c.make_room_at.new.runs room.kept c.loop-pair.yielded c.in-Some.pair inv.2 room.room,
      beside_on c.args.runs.now c.loop-pair.runs c.make_room_at.new.runs c.loop-pair.yielded c.in-Some.pair inv.3 room.beside,
    )

pub returns-clause-room : goal.returns-clause-room
returns-clause-room c = room_all c.args.fresh.now c.loop-pair.runs (map deref c.loop-pair.yielded)
    (iter_end deref (keys c.args.fresh.now) c.loop-pair.yielded c.into_iter-pair-iterator.result c.loop-pair.pair-iterator
    c.next.new.self c.next.result (c.into_iter-pair-iterator.ensures.into_iter_gives ∙ c.keys-pair-items.ensures.rest)
    c.loop-pair.yielded_by c.in-None.is c.next.ensures.steps).0 c.loop-pair.invariant.2

pub returns-clause-beside : goal.returns-clause-beside
returns-clause-beside c = subst (λ ps. KeepsBeside ps c.args.runs.now c.loop-pair.runs)
    (iter_end deref (keys c.args.fresh.now) c.loop-pair.yielded c.into_iter-pair-iterator.result c.loop-pair.pair-iterator
    c.next.new.self c.next.result (c.into_iter-pair-iterator.ensures.into_iter_gives ∙ c.keys-pair-items.ensures.rest)
    c.loop-pair.yielded_by c.in-None.is c.next.ensures.steps).0 c.loop-pair.invariant.3
