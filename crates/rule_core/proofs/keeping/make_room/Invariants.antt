use Rattle.std.proofs.Common.{◌≡◌, length}
use Rattle.rule_core.specs.Kept.{total, KeepsMost}
use Rattle.rule_core.proofs.keeping.make_room.Given as goal

abbrev pub invariant-loop-cache : goal.invariant-loop-cache
invariant-loop-cache l = record {
  counted : total l.cache.entries ≡ l.halves;
  most : KeepsMost l.fn.region l.fn.more l.fn.cache.entries l.cache.entries;
  cap : l.cache.cap ≡ l.fn.cache.cap;
}

abbrev pub decreases-loop-cache : goal.decreases-loop-cache
decreases-loop-cache l = length l.cache.entries
