use Rattle.std.proofs.Common.{◌≡◌, ◌∙◌, Some, rules, refl, sym, ap, length}
use Rattle.std.specs.Option.{option_map}
use Rattle.std.proofs.lemmas.Option.{slice_get_read}
use Rattle.feature_store.specs.Slots.{feature_in, slot_of}
use Rattle.feature_store.proofs.Lists.{written}
use Rattle.feature_store.proofs.slots.swap_at.Goals as goal

pub returns-clause-list : goal.returns-clause-list
returns-clause-list c =
    let comes : c.replace.new.dest ≡ slot_of c.args.handle c.args.kept.now = c.replace.ensures.after
    ∙ (c.of-comes.ensures ∙ ap (slot_of c.args.handle) c.take.ensures.value) in
    rw comes (written c.args.slots.now.items c.args.place (slot_of c.args.handle c.args.kept.now) (search rules))

pub returns-clause-kept : goal.returns-clause-kept
returns-clause-kept c = ap (option_map feature_in) (slice_get_read c.args.slots.now.items (length c.args.slots.now.items) c.args.place
    c.index_mut.result.now refl (search rules) c.index_mut.ensures.value)
    ∙ ap (λ o. Some o) (ap feature_in (sym c.replace.ensures.value) ∙ sym c.into_feature.ensures)
