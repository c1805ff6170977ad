use Rattle.std.proofs.Common.{◌≡◌, ◌∙◌, sym, ap, None, length}
use Rattle.topology_terms.specs.Feature.{Class}
use Rattle.topology_terms.specs.Lookups.{number_from}
use Rattle.feature_store.specs.Slots.{filled}
use Rattle.feature_store.proofs.Keeping.{none_of, class_kept}
use Rattle.feature_store.proofs.store.Store.add_class.Goals as goal

pub invariant_of-self-2 : goal.invariant_of-self-2
invariant_of-self-2 c =
    let free : number_from 1 c.self.inside.classes.items c.args.name ≡ None = ap (λ cs. number_from 1 cs c.args.name)
    (sym c.deref.ensures.value) ∙ (sym c.class_number.ensures ∙ none_of c.class_number.result (sym c.is_some.ensures
    ∙ c.if-is_some.false)) in
    rw c.in_ok-push.ensures.items (
      class_kept c.self.inside.classes.items (filled c.self.inside.slots.items) c.self.inside.next
          c.new.result c.args.name (ap (λ (d : Class). d.name) c.new.ensures) free (λ e. c.if-len-eq-CLASS_LIMIT.false (c.len.ensures
          ∙ (sym c.deref.ensures.len ∙ (ap length c.deref.ensures.value ∙ e)))) c.self.invariant.0,
      c.self.invariant.1,
    )
