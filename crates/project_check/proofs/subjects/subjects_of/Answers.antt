use Rattle.std.proofs.Common.{rules, ◌≡◌, ◌++◌, map}
use Rattle.topology_terms.specs.Feature.{Feature}
use Rattle.topology_terms.specs.Entry.{Entry}
use Rattle.validation_laws.proofs.Handles.{rising}
use Rattle.project_check.proofs.EachSubject.{all_there}
use Rattle.project_check.proofs.subjects.subjects_of.Goals as goal

pub returns-clause-rising : goal.returns-clause-rising
returns-clause-rising c = rising c.once_each.new.found.items c.in_ok-once_each.ensures.ascending

pub returns-clause-all : goal.returns-clause-all
returns-clause-all c =
    let found : c.add_subjects.new.subjects.items ≡ map (λ (f : Feature). f.handle) c.args.features.now
    ++ map (λ (e : Entry). e.subject) c.args.errors.now = search rules in
    all_there c.args.features.now c.args.errors.now c.add_subjects.new.subjects.items c.once_each.new.found.items found
    c.in_ok-once_each.ensures.same
