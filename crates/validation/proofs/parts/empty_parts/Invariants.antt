use Rattle.std.proofs.Common.{◌≡◌, map, take}
use Rattle.validation.proofs.Parted.{empty_part}
use Rattle.validation.proofs.parts.empty_parts.Given as goal

abbrev pub invariant-loop-rule : goal.invariant-loop-rule
invariant-loop-rule l = l.parts.items ≡ map empty_part (take l.rule-index l.in_force)
