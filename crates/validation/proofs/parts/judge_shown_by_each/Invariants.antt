use Rattle.std.proofs.Common.{◌≡◌, [], ◌∷◌, take}
use Rattle.topology_terms.specs.Counts.{raised, judged_of}
use Rattle.validation.specs.Parted.{rules_of}
use Rattle.validation.proofs.Parted.{AreGrownUpto}
use Rattle.validation.proofs.parts.judge_shown_by_each.Given as goal

abbrev pub invariant-loop-part : goal.invariant-loop-part
invariant-loop-part g l = AreGrownUpto g.R.RuleSet.meaning l.view l.f.handle l.part-index l.initial.parts l.parts
    × (l.work.judged ≡ raised l.initial.work.judged (judged_of (take l.part-index (rules_of l.initial.parts)) (l.f ∷ [])))
