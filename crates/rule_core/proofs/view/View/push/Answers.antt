use Rattle.std.proofs.Common.{◌≡◌, ◌++◌, ◌∷◌, [], map, ◌∙◌, ap, subst, sym}
use Rattle.std.proofs.lemmas.List.{map-append}
use Rattle.topology_terms.specs.Feature.{by_handle, IsAscending}
use Rattle.sound_laws.proofs.Keyed.{ascending_last}
use Rattle.sound_laws.proofs.FeatureLists.{handles}
use Rattle.rule_core.proofs.view.View.push.Goals as goal

pub invariant_of-self-2 : goal.invariant_of-self-2
invariant_of-self-2 c =
    let before = map (λ f. f.now) c.self.inside.features.items in
    let e : map (λ f. f.now) c.push.new.self.items ≡ before ++ c.args.f.now ∷ [] = ap (λ l. map (λ f. f.now) l) c.in_ok-push.ensures.items
    ∙ map-append (λ f. f.now) c.self.inside.features.items (c.args.f ∷ []) in
    subst IsAscending (sym e) (ascending_last by_handle handles before c.args.f.now c.self.invariant (rw (← c.self.view_is) at c.requires))
