use Rattle.sound_laws.proofs.RuleLists.{each_rule}
use Rattle.project_check.proofs.check.check_project.Goals as goal

pub first_unsound-requires-clause-fits : goal.first_unsound-requires-clause-fits
first_unsound-requires-clause-fits g c = rw c.of-indexed.ensures (each_rule (λ row. g.R.RuleSet.meaning.Fits row c.args.features.now)
    c.args.in_force.now c.requires.rules c.requires.fits)
