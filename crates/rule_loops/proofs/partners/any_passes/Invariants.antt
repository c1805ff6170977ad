use Rattle.std.proofs.Common.{◌≡◌, false, take}
use Rattle.std.specs.Prelude.{◌&&◌}
use Rattle.std.specs.List.{list_any}
use Rattle.topology_terms.specs.Feature.{Feature, is_on_side}
use Rattle.rule_loops.proofs.partners.any_passes.Given as goal

abbrev pub invariant-loop-i : goal.invariant-loop-i
invariant-loop-i g l = record {
  none : list_any (λ (h : Feature). is_on_side l.side h && g.T.Test.test l.test h) (take l.i l.view) ≡ false;
  uncounted : l.work.judged ≡ l.fn.work.judged;
}
