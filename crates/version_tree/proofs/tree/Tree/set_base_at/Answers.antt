use Rattle.std.proofs.Common.{◌≡◌, subst, sym}
use Rattle.version_terms.specs.Versions.{Tree}
use Rattle.version_terms.specs.VersionChanges.{BecomesAt, based}
use Rattle.version_terms.specs.declared.place.Place.{Place}
use Rattle.version_tree.proofs.Becoming.{current_becomes, other_becomes}
use Rattle.version_tree.proofs.Posts.{based_keeps, based_other_keeps}
use Rattle.version_tree.proofs.tree.Tree.set_base_at.Goals as goal

pub invariant_of-self : goal.invariant_of-self
invariant_of-self g c = based_keeps c.args.base.features _ c.set_base.new.self c.self.invariant c.set_base.ensures

pub invariant_of-self-in-Other : goal.invariant_of-self-in-Other
invariant_of-self-in-Other g c = based_other_keeps c.args.base.features _ c.in-Other.index c.set_base_in.new.versions.items c.self.invariant
    c.set_base_in.ensures

pub returns-in-Current : goal.returns-in-Current
returns-in-Current g c =
    let F = c.args.base.features in
    let t : Tree = record { current = c.self.inside.current; others = c.self.inside.others.items } in
    let u : Tree = record { current = c.set_base.new.self; others = c.self.inside.others.items } in
    let b = current_becomes (λ v w. w ≡ based F v) t c.set_base.new.self c.set_base.ensures in
    subst (λ (s : Tree). BecomesAt c.args.place (λ v w. w ≡ based F v) s u) c.self.view_is
    (subst (λ (i : Place). BecomesAt i (λ v w. w ≡ based F v) t u) (sym c.in-Current.is) b)

pub returns-in-Other : goal.returns-in-Other
returns-in-Other g c =
    let F = c.args.base.features in
    let t : Tree = record { current = c.self.inside.current; others = c.self.inside.others.items } in
    let u : Tree = record { current = c.self.inside.current; others = c.set_base_in.new.versions.items } in
    let b = other_becomes (λ v w. w ≡ based F v) t c.in-Other.index c.set_base_in.new.versions.items c.set_base_in.ensures in
    subst (λ (s : Tree). BecomesAt c.args.place (λ v w. w ≡ based F v) s u) c.self.view_is
    (subst (λ (i : Place). BecomesAt i (λ v w. w ≡ based F v) t u) (sym c.in-Other.is) b)
