use Rattle.std.proofs.Common.{◌≡◌, false, take}
use Rattle.std.specs.Prelude.{◌&&◌}
use Rattle.std.specs.List.{list_any}
use Rattle.topology_terms.specs.Feature.{Feature, is_on_side, place}
use Rattle.topology_terms.specs.Plans.{is_round}
use Rattle.fix_tools.proofs.ask.none_inside.Given as goal

abbrev pub invariant-loop-i : goal.invariant-loop-i
invariant-loop-i l = list_any (λ (h : Feature). is_on_side l.side h && is_round l.polygon (place h)) (take l.i l.view) ≡ false
