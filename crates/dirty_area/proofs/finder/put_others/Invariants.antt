use Rattle.std.proofs.Common.{take, not, ◌≡◌}
use Rattle.dirty_area.specs.Indexed.{GainsSome}
use Rattle.dirty_area.proofs.Indexes.{has_one}
use Rattle.dirty_area.proofs.finder.put_others.Given as goal

abbrev pub invariant-loop-s : goal.invariant-loop-s
invariant-loop-s l = (l.seeker ≡ l.there) × GainsSome l.place (take l.s-index l.rects) (λ s. not (has_one l.there s)) l.fn.index l.index
