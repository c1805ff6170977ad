use Rattle.std.proofs.Common.{refl, subst, sym}
use Rattle.std.specs.Result.{MatchResult}
use Rattle.version_terms.specs.Versions.{Tree}
use Rattle.version_terms.specs.VersionChanges.{BecomesAt}
use Rattle.version_terms.specs.declared.place.Place.{Place}
use Rattle.version_terms.specs.declared.place.Place.TheVariants.{Current, Other}
use Rattle.version_tree.specs.Merges.{Merging, Stopping}
use Rattle.version_tree.proofs.Merges.{merged_current, merged_other, current_keeps, merged_keeps, at_place}
use Rattle.version_tree.proofs.tree.Tree.reconcile_at.Goals as goal

pub reconcile-requires-clause-classes : goal.reconcile-requires-clause-classes
reconcile-requires-clause-classes g c =
    let t : Tree = record { current = c.self.inside.current; others = c.self.inside.others.items } in
    c.requires.classes c.self.inside.current (at_place t c.args.self.now c.args.place Current c.self.inside.current c.self.view_is
    c.in-Current.is refl)

pub reconcile-requires-clause-given : goal.reconcile-requires-clause-given
reconcile-requires-clause-given g c =
    let t : Tree = record { current = c.self.inside.current; others = c.self.inside.others.items } in
    c.requires.given c.self.inside.current (at_place t c.args.self.now c.args.place Current c.self.inside.current c.self.view_is
    c.in-Current.is refl)

pub reconcile_in-requires-clause-classes : goal.reconcile_in-requires-clause-classes
reconcile_in-requires-clause-classes g c = λ v e.
    let t : Tree = record { current = c.self.inside.current; others = c.self.inside.others.items } in
    c.requires.classes v (at_place t c.args.self.now c.args.place (Other c.in-Other.index) v c.self.view_is c.in-Other.is e)

pub reconcile_in-requires-clause-given : goal.reconcile_in-requires-clause-given
reconcile_in-requires-clause-given g c = λ v e.
    let t : Tree = record { current = c.self.inside.current; others = c.self.inside.others.items } in
    c.requires.given v (at_place t c.args.self.now c.args.place (Other c.in-Other.index) v c.self.view_is c.in-Other.is e)

pub invariant_of-self : goal.invariant_of-self
invariant_of-self g c = current_keeps g.R.RuleSet.meaning _ c.reconcile.new.self c.self.invariant c.reconcile.ensures.moves

pub invariant_of-self-in-Other : goal.invariant_of-self-in-Other
invariant_of-self-in-Other g c = merged_keeps g.R.RuleSet.meaning c.args.root.features c.reconcile_in.result _ c.in-Other.index
    c.reconcile_in.new.versions.items c.self.invariant c.reconcile_in.ensures

pub returns-in-Current : goal.returns-in-Current
returns-in-Current g c =
    let M = g.R.RuleSet.meaning in
    let D = c.args.root.features in
    let r = c.reconcile.result in
    let t : Tree = record { current = c.self.inside.current; others = c.self.inside.others.items } in
    let u : Tree = record { current = c.reconcile.new.self; others = c.self.inside.others.items } in
    let b = merged_current M D r t c.reconcile.new.self c.reconcile.ensures.ok c.reconcile.ensures.err c.reconcile.ensures.moves in
    subst (λ (s : Tree). MatchResult r (λ o. BecomesAt c.args.place (Merging M D o) s u) (λ e. BecomesAt c.args.place (Stopping M D) s u))
    c.self.view_is
    (subst (λ (i : Place). MatchResult r (λ o. BecomesAt i (Merging M D o) t u) (λ e. BecomesAt i (Stopping M D) t u)) (sym c.in-Current.is) b)

pub returns-in-Other : goal.returns-in-Other
returns-in-Other g c =
    let M = g.R.RuleSet.meaning in
    let D = c.args.root.features in
    let r = c.reconcile_in.result in
    let t : Tree = record { current = c.self.inside.current; others = c.self.inside.others.items } in
    let u : Tree = record { current = c.self.inside.current; others = c.reconcile_in.new.versions.items } in
    let b = merged_other M D r t c.in-Other.index c.reconcile_in.new.versions.items c.reconcile_in.ensures in
    subst (λ (s : Tree). MatchResult r (λ o. BecomesAt c.args.place (Merging M D o) s u) (λ e. BecomesAt c.args.place (Stopping M D) s u))
    c.self.view_is
    (subst (λ (i : Place). MatchResult r (λ o. BecomesAt i (Merging M D o) t u) (λ e. BecomesAt i (Stopping M D) t u)) (sym c.in-Other.is) b)
