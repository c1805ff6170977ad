use Rattle.std.proofs.Common.{◌≡◌, ◌++◌, take}
use Rattle.std.specs.Prelude.{flat_map}
use Rattle.script_terms.specs.Reply.{corner_line}
use Rattle.reply_text.proofs.corners.push_corner_lines.Given as goal

abbrev pub invariant-loop-corner : goal.invariant-loop-corner
invariant-loop-corner l = l.out.items ≡ l.initial.out.items ++ flat_map corner_line (take l.corner-index l.corners)
