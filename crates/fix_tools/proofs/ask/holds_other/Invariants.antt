use Rattle.std.proofs.Common.{◌≡◌, false, take}
use Rattle.std.specs.Prelude.{◌&&◌, ◌==◌, not}
use Rattle.std.specs.List.{list_any}
use Rattle.topology_terms.specs.Feature.{Feature, is_on_side}
use Rattle.topology_terms.specs.Plans.{has_side_at}
use Rattle.fix_tools.proofs.ask.holds_other.Given as goal

abbrev pub invariant-loop-i : goal.invariant-loop-i
invariant-loop-i l =
    list_any (λ (h : Feature). is_on_side l.side h && (not (h.handle == l.feature.handle) && has_side_at h l.place)) (take l.i l.view) ≡ false
