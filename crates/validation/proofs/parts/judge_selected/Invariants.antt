use Rattle.std.proofs.Common.{◌≡◌, ◌≤◌, ◌+◌, ℕ, take}
use Rattle.plane_terms.specs.Lists.{Every}
use Rattle.topology_terms.specs.Counts.{raised, judged_of}
use Rattle.validation_laws.specs.Parts.{live_of}
use Rattle.validation.specs.Asked.{viewed_steps, judged_envelopes}
use Rattle.validation.specs.Parted.{rules_of, IsDone}
use Rattle.validation.proofs.parts.judge_selected.Given as goal

abbrev pub invariant-loop-i : goal.invariant-loop-i
invariant-loop-i g l = Every (IsDone g.R.RuleSet.meaning l.features.features (take l.i l.selected)) l.parts
    × (rules_of l.parts ≡ rules_of l.initial.parts)
    × (l.work.judged ≡ raised l.initial.work.judged (judged_of (rules_of l.initial.parts) (live_of l.features.features (take l.i l.selected))))
    × (g.M.Meter.taken l.initial.meter ≤ g.M.Meter.taken l.meter)
    × ((s : ℕ) → g.M.Meter.taken l.meter ≤ g.M.Meter.taken l.initial.meter + viewed_steps s (judged_envelopes (rules_of l.initial.parts)
    (live_of l.features.features (take l.i l.selected))) l.features.placed)
