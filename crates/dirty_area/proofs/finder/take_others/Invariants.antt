use Rattle.std.proofs.Common.{take, not, ◌≡◌}
use Rattle.dirty_area.specs.Indexed.{LosesSome}
use Rattle.dirty_area.proofs.Indexes.{has_one}
use Rattle.dirty_area.proofs.finder.take_others.Given as goal

abbrev pub invariant-loop-s : goal.invariant-loop-s
invariant-loop-s l = (l.seeker ≡ l.kept) × LosesSome l.place (take l.s-index l.rects) (λ s. not (has_one l.kept s)) l.fn.index l.index
