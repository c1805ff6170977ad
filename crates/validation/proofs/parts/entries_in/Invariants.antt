use Rattle.std.proofs.Common.{◌≡◌}
use Rattle.validation.specs.Parted.{entries_of}
use Rattle.validation.proofs.parts.entries_in.Given as goal

abbrev pub invariant-loop-part : goal.invariant-loop-part
invariant-loop-part l = l.all.items ≡ entries_of l.yielded
