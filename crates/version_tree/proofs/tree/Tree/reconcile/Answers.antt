use Rattle.std.proofs.Common.{◌∙◌, Option, ap, refl, subst, sym}
use Rattle.topology_terms.specs.Project.{Project}
use Rattle.topology_terms.specs.Settled.{IsSettledUnder}
use Rattle.topology_terms.specs.Sound.{IsSoundUnder}
use Rattle.version_terms.specs.VersionChanges.{BecomesAt}
use Rattle.version_tree.proofs.Becoming.{at_alike}
use Rattle.version_tree.specs.Merges.{Merging}
use Rattle.version_tree.proofs.Merges.{has_one, not_none, is_at, became_at, merged_each, raised_each, raised_nexts, raised_part, raised_root, stopped_part, told_fault, whole}
use Rattle.version_tree.proofs.tree.Tree.reconcile.Goals as goal
use Rattle.version_tree.specs.Trees.{IsReconcileFault}
use Rattle.version_tree.specs.declared.version.Merged.{Merged}

pub returns-in_err-root-clause-refused : goal.returns-in_err-root-clause-refused
returns-in_err-root-clause-refused g c =
    let f = sym c.place_of.ensures.place ∙ c.in-Some.is in
    told_fault _ _ (IsReconcileFault c.args.name.now c.args.self.now c.raise_at.new.self) c.from_residual.ensures.1
    (raised_part g.R.RuleSet.meaning c.args.name.now c.in-Some.place c.args.self.now c.raise_at.new.self c.raise_at.new.self _
    c.place_of.ensures.tree f refl c.raise_at.ensures)

pub returns-in_err-root-clause-sound : goal.returns-in_err-root-clause-sound
returns-in_err-root-clause-sound g c =
    raised_each (IsSoundUnder g.R.RuleSet.meaning) g.R.RuleSet.meaning _ c.in-Some.place c.args.self.now c.raise_at.new.self
    (λ v w k q. k.sound q) c.raise_at.ensures

pub returns-in_err-root-clause-settled : goal.returns-in_err-root-clause-settled
returns-in_err-root-clause-settled g c =
    raised_each (IsSettledUnder g.R.RuleSet.meaning) g.R.RuleSet.meaning _ c.in-Some.place c.args.self.now c.raise_at.new.self
    (λ v w k q. k.settled q) c.raise_at.ensures

pub reconcile_at-requires-clause-at : goal.reconcile_at-requires-clause-at
reconcile_at-requires-clause-at g c =
    is_at c.raise_at.new.self c.in-Some.place _ (became_at _ c.in-Some.place c.args.self.now c.raise_at.new.self c.raise_at.ensures)

pub reconcile_at-requires-clause-classes : goal.reconcile_at-requires-clause-classes
reconcile_at-requires-clause-classes g c = λ v e.
    c.in_ok-root.ensures.classes ∙ (c.store.ensures.classes ∙ (c.root.ensures.alike.classes
    ∙ sym (at_alike c.raise_at.new.self c.in-Some.place v c.root.ensures.tree e).classes))

pub reconcile_at-requires-clause-given : goal.reconcile_at-requires-clause-given
reconcile_at-requires-clause-given g c = λ v e.
    let k = raised_nexts g.R.RuleSet.meaning c.in-Some.place c.args.self.now c.raise_at.new.self c.raise_at.ensures v e in
    rw (c.in_ok-root.ensures.next, c.store.ensures.next, ← k) c.root.ensures.alike.next

pub returns-in_err-merged-clause-refused : goal.returns-in_err-merged-clause-refused
returns-in_err-merged-clause-refused g c =
    let f = sym c.place_of.ensures.place ∙ c.in-Some.is in
    let same = c.in_ok-root.ensures.features ∙ (c.store.ensures.features ∙ (ap (λ (p : Project). p.features) c.root.ensures.value
    ∙ raised_root g.R.RuleSet.meaning _ c.in-Some.place c.args.self.now c.raise_at.new.self c.raise_at.ensures)) in
    told_fault _ _ (IsReconcileFault c.args.name.now c.args.self.now c.reconcile_at.new.self) c.from_residual-in_err-merged.ensures.1
    (stopped_part g.R.RuleSet.meaning c.args.name.now c.in-Some.place c.args.self.now c.raise_at.new.self c.reconcile_at.new.self
    c.in_ok-root.root.features c.place_of.ensures.tree f same c.raise_at.ensures c.in_err-merged.ensures)

pub returns-in_err-merged-clause-sound : goal.returns-in_err-merged-clause-sound
returns-in_err-merged-clause-sound g c = λ s.
    merged_each (IsSoundUnder g.R.RuleSet.meaning) g.R.RuleSet.meaning c.in_ok-root.root.features c.reconcile_at.result c.in-Some.place
    c.raise_at.new.self c.reconcile_at.new.self (λ v w k q. k.sound q) c.reconcile_at.ensures
    (raised_each (IsSoundUnder g.R.RuleSet.meaning) g.R.RuleSet.meaning _ c.in-Some.place c.args.self.now c.raise_at.new.self
    (λ v w k q. k.sound q) c.raise_at.ensures s)

pub returns-in_err-merged-clause-settled : goal.returns-in_err-merged-clause-settled
returns-in_err-merged-clause-settled g c = λ s.
    merged_each (IsSettledUnder g.R.RuleSet.meaning) g.R.RuleSet.meaning c.in_ok-root.root.features c.reconcile_at.result c.in-Some.place
    c.raise_at.new.self c.reconcile_at.new.self (λ v w k q. k.settled q) c.reconcile_at.ensures
    (raised_each (IsSettledUnder g.R.RuleSet.meaning) g.R.RuleSet.meaning _ c.in-Some.place c.args.self.now c.raise_at.new.self
    (λ v w k q. k.settled q) c.raise_at.ensures s)

pub returns-in-Some-2-clause-ok : goal.returns-in-Some-2-clause-ok
returns-in-Some-2-clause-ok g c =
    let f = sym c.place_of.ensures.place ∙ c.in-Some.is in
    let same = c.in_ok-root.ensures.features ∙ (c.store.ensures.features ∙ (ap (λ (p : Project). p.features) c.root.ensures.value
    ∙ raised_root g.R.RuleSet.meaning _ c.in-Some.place c.args.self.now c.raise_at.new.self c.raise_at.ensures)) in
    whole g.R.RuleSet.meaning c.args.name.now c.in-Some.place c.args.self.now c.raise_at.new.self c.reconcile_at.new.self
    c.in_ok-root.root.features c.place_of.ensures.tree f same c.raise_at.ensures _ _ c.in-Some-2.merged refl refl
    (subst (λ (o : Option Merged). BecomesAt c.in-Some.place (Merging g.R.RuleSet.meaning c.in_ok-root.root.features o) c.raise_at.new.self
    c.reconcile_at.new.self) c.in-Some-2.is c.in_ok-merged.ensures)

pub returns-in-Some-2-clause-sound : goal.returns-in-Some-2-clause-sound
returns-in-Some-2-clause-sound g c = λ s.
    merged_each (IsSoundUnder g.R.RuleSet.meaning) g.R.RuleSet.meaning c.in_ok-root.root.features c.reconcile_at.result c.in-Some.place
    c.raise_at.new.self c.reconcile_at.new.self (λ v w k q. k.sound q) c.reconcile_at.ensures
    (raised_each (IsSoundUnder g.R.RuleSet.meaning) g.R.RuleSet.meaning _ c.in-Some.place c.args.self.now c.raise_at.new.self
    (λ v w k q. k.sound q) c.raise_at.ensures s)

pub returns-in-Some-2-clause-settled : goal.returns-in-Some-2-clause-settled
returns-in-Some-2-clause-settled g c = λ s.
    merged_each (IsSettledUnder g.R.RuleSet.meaning) g.R.RuleSet.meaning c.in_ok-root.root.features c.reconcile_at.result c.in-Some.place
    c.raise_at.new.self c.reconcile_at.new.self (λ v w k q. k.settled q) c.reconcile_at.ensures
    (raised_each (IsSettledUnder g.R.RuleSet.meaning) g.R.RuleSet.meaning _ c.in-Some.place c.args.self.now c.raise_at.new.self
    (λ v w k q. k.settled q) c.raise_at.ensures s)

pub returns-in-None-clause-refused : goal.returns-in-None-clause-refused
returns-in-None-clause-refused g c =
    absurd (has_one g.R.RuleSet.meaning c.in_ok-root.root.features _ c.in-Some.place c.args.self.now c.raise_at.new.self
    c.reconcile_at.new.self c.version.result.now c.version.ensures
    (not_none c.base.result c.version.result.now.base (λ s. s.now.features) c.base.ensures c.if-is_none.ensures) c.raise_at.ensures
    (subst (λ (o : Option Merged). BecomesAt c.in-Some.place (Merging g.R.RuleSet.meaning c.in_ok-root.root.features o) c.raise_at.new.self
    c.reconcile_at.new.self) c.in-None.is c.in_ok-merged.ensures))

pub returns-in-None-clause-sound : goal.returns-in-None-clause-sound
returns-in-None-clause-sound g c = λ s.
    merged_each (IsSoundUnder g.R.RuleSet.meaning) g.R.RuleSet.meaning c.in_ok-root.root.features c.reconcile_at.result c.in-Some.place
    c.raise_at.new.self c.reconcile_at.new.self (λ v w k q. k.sound q) c.reconcile_at.ensures
    (raised_each (IsSoundUnder g.R.RuleSet.meaning) g.R.RuleSet.meaning _ c.in-Some.place c.args.self.now c.raise_at.new.self
    (λ v w k q. k.sound q) c.raise_at.ensures s)

pub returns-in-None-clause-settled : goal.returns-in-None-clause-settled
returns-in-None-clause-settled g c = λ s.
    merged_each (IsSettledUnder g.R.RuleSet.meaning) g.R.RuleSet.meaning c.in_ok-root.root.features c.reconcile_at.result c.in-Some.place
    c.raise_at.new.self c.reconcile_at.new.self (λ v w k q. k.settled q) c.reconcile_at.ensures
    (raised_each (IsSettledUnder g.R.RuleSet.meaning) g.R.RuleSet.meaning _ c.in-Some.place c.args.self.now c.raise_at.new.self
    (λ v w k q. k.settled q) c.raise_at.ensures s)
