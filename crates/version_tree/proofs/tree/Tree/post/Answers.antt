use Rattle.std.proofs.Common.{◌∙◌, Option, ap, refl, subst, sym}
use Rattle.std.specs.Option.{IfSome}
use Rattle.topology_terms.specs.Project.{Project}
use Rattle.topology_terms.specs.Settled.{IsSettledUnder}
use Rattle.topology_terms.specs.Sound.{IsSoundUnder}
use Rattle.version_terms.specs.declared.place.Place.{Place}
use Rattle.version_terms.specs.Versions.{IsAt}
use Rattle.version_tree.specs.Trees.{IsPostFault}
use Rattle.version_tree.proofs.Becoming.{at_alike}
use Rattle.version_tree.proofs.Merges.{raised_each, raised_features, raised_nexts, told_fault}
use Rattle.version_tree.proofs.Posts.{at_becomes, same_classes, posted_each, based_each, posted_whole, raised_post, stopped_post}
use Rattle.version_tree.proofs.tree.Tree.post.Goals as goal

pub version-requires : goal.version-requires
version-requires g c = at_becomes _ c.root_place-root.result c.args.self.now c.raise_at.new.self c.in-Some.place c.raise_at.ensures
    (subst (λ (o : Option Place). IfSome o (IsAt c.args.self.now)) c.in-Some.is c.place_of.ensures.at)

pub become_at-requires-clause-at : goal.become_at-requires-clause-at
become_at-requires-clause-at g c = at_becomes _ c.root_place-root.result c.args.self.now c.raise_at.new.self c.root_place-root.result c.raise_at.ensures
    c.root_place-root.ensures.at

pub become_at-requires-clause-classes : goal.become_at-requires-clause-classes
become_at-requires-clause-classes g c = λ v e.
    c.in_ok-features.ensures.classes ∙ (c.store.ensures.classes ∙ (ap (λ (p : Project). p.classes) c.topology.ensures
    ∙ same_classes c.raise_at.new.self c.in-Some.place c.root_place-root.result c.version.result.now v c.tree_law.ensures c.version.ensures e))

pub become_at-requires-clause-given : goal.become_at-requires-clause-given
become_at-requires-clause-given g c = λ v e.
    let k = raised_nexts g.R.RuleSet.meaning c.root_place-root.result c.args.self.now c.raise_at.new.self c.raise_at.ensures v e in
    let a = at_alike c.raise_at.new.self c.in-Some.place c.version.result.now c.tree_law.ensures c.version.ensures in
    rw (c.in_ok-features.ensures.next, c.store.ensures.next, c.topology.ensures, ← k) a.next

pub set_base_at-requires : goal.set_base_at-requires
set_base_at-requires g c = at_becomes _ c.root_place-root.result c.raise_at.new.self c.become_at.new.self c.in-Some.place c.in_ok-posted.ensures
    (at_becomes _ c.root_place-root.result c.args.self.now c.raise_at.new.self c.in-Some.place c.raise_at.ensures
    (subst (λ (o : Option Place). IfSome o (IsAt c.args.self.now)) c.in-Some.is c.place_of.ensures.at))

pub returns-clause-ok : goal.returns-clause-ok
returns-clause-ok g c =
    let f = sym c.place_of.ensures.place ∙ c.in-Some.is in
    let fit = c.in_ok-check_fresh.ensures.ok in
    let same = c.in_ok-features.ensures.features ∙ (c.store.ensures.features ∙ (ap (λ (p : Project). p.features) c.topology.ensures
    ∙ raised_features g.R.RuleSet.meaning _ c.root_place-root.result c.args.self.now c.raise_at.new.self c.in-Some.place fit.version
    c.version.result.now c.raise_at.ensures fit.there c.version.ensures)) in
    posted_whole g.R.RuleSet.meaning c.args.name.now c.in-Some.place c.root_place-root.result c.args.self.now c.raise_at.new.self
    c.in_ok-features.features.features c.place_of.ensures.tree f c.root_place-root.ensures.place fit same c.raise_at.ensures c.in_ok-posted.posted
    c.become_at.new.self c.set_base_at.new.self c.in_ok-posted.ensures c.set_base_at.ensures

pub returns-in_err-features-clause-refused : goal.returns-in_err-features-clause-refused
returns-in_err-features-clause-refused g c =
    let f = sym c.place_of.ensures.place ∙ c.in-Some.is in
    let fit = c.in_ok-check_fresh.ensures.ok in
    told_fault _ _ (IsPostFault c.args.name.now c.args.self.now c.raise_at.new.self) c.from_residual-in_err-features.ensures.1
    (raised_post g.R.RuleSet.meaning c.args.name.now c.in-Some.place c.root_place-root.result c.args.self.now c.raise_at.new.self
    fit.version.project.features c.place_of.ensures.tree f c.root_place-root.ensures.place fit refl c.raise_at.ensures)

pub returns-in_err-features-clause-sound : goal.returns-in_err-features-clause-sound
returns-in_err-features-clause-sound g c =
    raised_each (IsSoundUnder g.R.RuleSet.meaning) g.R.RuleSet.meaning _ c.root_place-root.result c.args.self.now c.raise_at.new.self
    (λ v w k q. k.sound q) c.raise_at.ensures

pub returns-in_err-features-clause-settled : goal.returns-in_err-features-clause-settled
returns-in_err-features-clause-settled g c =
    raised_each (IsSettledUnder g.R.RuleSet.meaning) g.R.RuleSet.meaning _ c.root_place-root.result c.args.self.now c.raise_at.new.self
    (λ v w k q. k.settled q) c.raise_at.ensures

pub returns-in_err-posted-clause-refused : goal.returns-in_err-posted-clause-refused
returns-in_err-posted-clause-refused g c =
    let f = sym c.place_of.ensures.place ∙ c.in-Some.is in
    let fit = c.in_ok-check_fresh.ensures.ok in
    let same = c.in_ok-features.ensures.features ∙ (c.store.ensures.features ∙ (ap (λ (p : Project). p.features) c.topology.ensures
    ∙ raised_features g.R.RuleSet.meaning _ c.root_place-root.result c.args.self.now c.raise_at.new.self c.in-Some.place fit.version
    c.version.result.now c.raise_at.ensures fit.there c.version.ensures)) in
    told_fault _ _ (IsPostFault c.args.name.now c.args.self.now c.become_at.new.self) c.from_residual-in_err-posted.ensures.1
    (stopped_post g.R.RuleSet.meaning c.args.name.now c.in-Some.place c.root_place-root.result c.args.self.now c.raise_at.new.self
    c.in_ok-features.features.features c.place_of.ensures.tree f c.root_place-root.ensures.place fit same c.raise_at.ensures
    c.become_at.new.self c.in_err-posted.ensures)

pub returns-in_err-posted-clause-sound : goal.returns-in_err-posted-clause-sound
returns-in_err-posted-clause-sound g c = λ s.
    posted_each (IsSoundUnder g.R.RuleSet.meaning) g.R.RuleSet.meaning c.in_ok-features.features.features c.become_at.result
    c.root_place-root.result c.raise_at.new.self c.become_at.new.self (λ v w k q. k.sound q) c.become_at.ensures
    (raised_each (IsSoundUnder g.R.RuleSet.meaning) g.R.RuleSet.meaning _ c.root_place-root.result c.args.self.now c.raise_at.new.self
    (λ v w k q. k.sound q) c.raise_at.ensures s)

pub returns-in_err-posted-clause-settled : goal.returns-in_err-posted-clause-settled
returns-in_err-posted-clause-settled g c = λ s.
    posted_each (IsSettledUnder g.R.RuleSet.meaning) g.R.RuleSet.meaning c.in_ok-features.features.features c.become_at.result
    c.root_place-root.result c.raise_at.new.self c.become_at.new.self (λ v w k q. k.settled q) c.become_at.ensures
    (raised_each (IsSettledUnder g.R.RuleSet.meaning) g.R.RuleSet.meaning _ c.root_place-root.result c.args.self.now c.raise_at.new.self
    (λ v w k q. k.settled q) c.raise_at.ensures s)

pub returns-clause-sound : goal.returns-clause-sound
returns-clause-sound g c = λ s.
    based_each (IsSoundUnder g.R.RuleSet.meaning) c.in_ok-features.features.features c.in-Some.place c.become_at.new.self
    c.set_base_at.new.self c.set_base_at.ensures
    (posted_each (IsSoundUnder g.R.RuleSet.meaning) g.R.RuleSet.meaning c.in_ok-features.features.features c.become_at.result
    c.root_place-root.result c.raise_at.new.self c.become_at.new.self (λ v w k q. k.sound q) c.become_at.ensures
    (raised_each (IsSoundUnder g.R.RuleSet.meaning) g.R.RuleSet.meaning _ c.root_place-root.result c.args.self.now c.raise_at.new.self
    (λ v w k q. k.sound q) c.raise_at.ensures s))

pub returns-clause-settled : goal.returns-clause-settled
returns-clause-settled g c = λ s.
    based_each (IsSettledUnder g.R.RuleSet.meaning) c.in_ok-features.features.features c.in-Some.place c.become_at.new.self
    c.set_base_at.new.self c.set_base_at.ensures
    (posted_each (IsSettledUnder g.R.RuleSet.meaning) g.R.RuleSet.meaning c.in_ok-features.features.features c.become_at.result
    c.root_place-root.result c.raise_at.new.self c.become_at.new.self (λ v w k q. k.settled q) c.become_at.ensures
    (raised_each (IsSettledUnder g.R.RuleSet.meaning) g.R.RuleSet.meaning _ c.root_place-root.result c.args.self.now c.raise_at.new.self
    (λ v w k q. k.settled q) c.raise_at.ensures s))
