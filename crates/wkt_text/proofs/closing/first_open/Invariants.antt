use Rattle.std.proofs.Common.{◌≡◌, ◌+◌, length}
use Rattle.wkt_text.specs.Open.{first_open}
use Rattle.wkt_text.proofs.FirstOpen.{left}
use Rattle.wkt_text.proofs.closing.first_open.Given as goal

abbrev pub invariant-loop-part : goal.invariant-loop-part
invariant-loop-part l =
    (l.from + length (left l.parts l.part-index) ≡ length (left l.parts 0))
    × (first_open l.from (left l.parts l.part-index) ≡ first_open 0 (left l.parts 0))
