use Rattle.std.proofs.Common.{take}
use Rattle.plane_terms.specs.Lists.{Every}
use Rattle.sound_check.specs.Pairs.{IsEntrySound}
use Rattle.sound_check.proofs.entries.are_entries_sound.Given as goal

abbrev pub invariant-loop-i : goal.invariant-loop-i
invariant-loop-i l = Every (IsEntrySound l.dirt l.envelope l.fresh) (take l.i l.stored)
