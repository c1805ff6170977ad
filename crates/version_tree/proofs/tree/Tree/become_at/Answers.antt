use Rattle.std.proofs.Common.{refl, subst, sym}
use Rattle.std.specs.Result.{MatchResult}
use Rattle.version_terms.specs.Versions.{Tree}
use Rattle.version_terms.specs.VersionChanges.{BecomesAt}
use Rattle.version_terms.specs.declared.place.Place.{Place}
use Rattle.version_terms.specs.declared.place.Place.TheVariants.{Current, Other}
use Rattle.version_tree.specs.Merges.{Posting, Stopping}
use Rattle.version_tree.proofs.Merges.{current_keeps, at_place}
use Rattle.version_tree.proofs.Posts.{posted_current, posted_other, posted_keeps}
use Rattle.version_tree.proofs.tree.Tree.become_at.Goals as goal

pub become_like-requires-clause-classes : goal.become_like-requires-clause-classes
become_like-requires-clause-classes g c =
    let t : Tree = record { current = c.self.inside.current; others = c.self.inside.others.items } in
    c.requires.classes c.self.inside.current (at_place t c.args.self.now c.args.place Current c.self.inside.current c.self.view_is
    c.in-Current.is refl)

pub become_like-requires-clause-given : goal.become_like-requires-clause-given
become_like-requires-clause-given g c =
    let t : Tree = record { current = c.self.inside.current; others = c.self.inside.others.items } in
    c.requires.given c.self.inside.current (at_place t c.args.self.now c.args.place Current c.self.inside.current c.self.view_is
    c.in-Current.is refl)

pub become_in-requires-clause-classes : goal.become_in-requires-clause-classes
become_in-requires-clause-classes g c = λ v e.
    let t : Tree = record { current = c.self.inside.current; others = c.self.inside.others.items } in
    c.requires.classes v (at_place t c.args.self.now c.args.place (Other c.in-Other.index) v c.self.view_is c.in-Other.is e)

pub become_in-requires-clause-given : goal.become_in-requires-clause-given
become_in-requires-clause-given g c = λ v e.
    let t : Tree = record { current = c.self.inside.current; others = c.self.inside.others.items } in
    c.requires.given v (at_place t c.args.self.now c.args.place (Other c.in-Other.index) v c.self.view_is c.in-Other.is e)

pub invariant_of-self : goal.invariant_of-self
invariant_of-self g c = current_keeps g.R.RuleSet.meaning _ c.become_like.new.self c.self.invariant c.become_like.ensures.moves

pub invariant_of-self-in-Other : goal.invariant_of-self-in-Other
invariant_of-self-in-Other g c = posted_keeps g.R.RuleSet.meaning c.args.from.now.features c.become_in.result _ c.in-Other.index
    c.become_in.new.versions.items c.self.invariant c.become_in.ensures

pub returns-in-Current : goal.returns-in-Current
returns-in-Current g c =
    let M = g.R.RuleSet.meaning in
    let F = c.args.from.now.features in
    let r = c.become_like.result in
    let t : Tree = record { current = c.self.inside.current; others = c.self.inside.others.items } in
    let u : Tree = record { current = c.become_like.new.self; others = c.self.inside.others.items } in
    let b = posted_current M F r t c.become_like.new.self c.become_like.ensures.ok c.become_like.ensures.err c.become_like.ensures.moves in
    subst (λ (s : Tree). MatchResult r (λ n. BecomesAt c.args.place (Posting M F n) s u) (λ e. BecomesAt c.args.place (Stopping M F) s u))
    c.self.view_is
    (subst (λ (i : Place). MatchResult r (λ n. BecomesAt i (Posting M F n) t u) (λ e. BecomesAt i (Stopping M F) t u)) (sym c.in-Current.is) b)

pub returns-in-Other : goal.returns-in-Other
returns-in-Other g c =
    let M = g.R.RuleSet.meaning in
    let F = c.args.from.now.features in
    let r = c.become_in.result in
    let t : Tree = record { current = c.self.inside.current; others = c.self.inside.others.items } in
    let u : Tree = record { current = c.self.inside.current; others = c.become_in.new.versions.items } in
    let b = posted_other M F r t c.in-Other.index c.become_in.new.versions.items c.become_in.ensures in
    subst (λ (s : Tree). MatchResult r (λ n. BecomesAt c.args.place (Posting M F n) s u) (λ e. BecomesAt c.args.place (Stopping M F) s u))
    c.self.view_is
    (subst (λ (i : Place). MatchResult r (λ n. BecomesAt i (Posting M F n) t u) (λ e. BecomesAt i (Stopping M F) t u)) (sym c.in-Other.is) b)
