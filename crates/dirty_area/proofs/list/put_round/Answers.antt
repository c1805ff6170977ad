use Rattle.std.proofs.Common.{◌+◌}
use Rattle.dirty_area.proofs.list.put_round.Goals as goal

pub put_last-requires-clause-room : goal.put_last-requires-clause-room
put_last-requires-clause-room c = c.drop_held.ensures.room 1 c.requires.room

pub returns-clause-room : goal.returns-clause-room
returns-clause-room c = λ n h. c.put_last.ensures.room n (c.drop_held.ensures.room (n + 1) h)
