use Rattle.std.proofs.Common.{sym, ◌∙◌}
use Rattle.topology_terms.specs.Together.{of_side}
use Rattle.rule_loops.proofs.More.{no_gap}
use Rattle.rule_loops.proofs.gaps.gap_cells.Goals as goal

pub returns-then-len-eq0-clause-gaps : goal.returns-then-len-eq0-clause-gaps
returns-then-len-eq0-clause-gaps c = no_gap c.args.subject.now (of_side c.args.side c.args.view.now) c.in_ok-ground.ground
    c.in_ok-ground.ensures.ground (sym c.len.ensures ∙ c.if-len-eq0.true)
