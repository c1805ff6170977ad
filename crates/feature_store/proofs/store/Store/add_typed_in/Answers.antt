use Rattle.std.proofs.Common.{◌≡◌, ◌++◌, ◌∷◌, ◌∙◌, [], None, ap, subst, sym, arith}
use Rattle.topology_terms.specs.Feature.{Feature}
use Rattle.topology_terms.specs.Causes.{add_cause}
use Rattle.feature_store.specs.Stored.{Stored}
use Rattle.feature_store.specs.Slots.{filled}
use Rattle.feature_store.proofs.Filling.{filled_last, filled_most}
use Rattle.feature_store.proofs.Keeping.{slot_kept, fits_class}
use Rattle.feature_store.proofs.store.Store.add_typed_in.Goals as goal

pub invariant_of-self : goal.invariant_of-self
invariant_of-self c =
    let may = subst (λ (s : Stored). add_cause s.classes s.next c.args.class c.args.shape.kind ≡ None) (sym c.self.view_is) c.requires.may
    in
    let fits = (fits_class c.self.inside.classes.items c.self.inside.next c.args.class c.args.shape.kind may).0 in
    rw c.push_reserved.ensures.items
    (slot_kept c.self.inside.classes.items c.self.inside.slots.items c.self.inside.next c.self.inside.live c.typed-feature.result
    (ap (λ (f : Feature). f.handle) c.typed-feature.ensures)
    (rw c.typed-feature.ensures fits)
    (rw c.typed-feature.ensures (record
    { proper = c.simple_law.ensures.proper; polygon = c.simple_law.ensures.simple; boundary = c.simple_law.ensures.boundary }))
    c.self.invariant.0 c.self.invariant.1)

pub overflow_add-self : goal.overflow_add-self
overflow_add-self c =
    let live = c.self.invariant.1.live in
    let most = filled_most c.self.inside.slots.items in
    let few = c.count_law.ensures in
    omega arith

pub returns-clause-features : goal.returns-clause-features
returns-clause-features c = ap filled c.push_reserved.ensures.items ∙ (filled_last c.self.inside.slots.items c.typed-feature.result
    ∙ (ap (λ (s : Stored). s.features ++ c.typed-feature.result ∷ []) c.self.view_is
    ∙ ap (λ (f : Feature). c.args.self.now.features ++ f ∷ []) c.typed-feature.ensures))
