use Rattle.std.proofs.Common.{List, Some, subst, ap, ◌∙◌, arith}
use Rattle.topology_terms.specs.Feature.{Feature, feature_of, IsSetAt}
use Rattle.project_terms.specs.Drafts.{Draft, last_in}
use Rattle.project_text.proofs.Saying.{feature_said}
use Rattle.project_text.proofs.draft.Draft.put_feature.Goals as goal

pub returns : goal.returns
returns c =
    let i = c.self.inside in
    let d : Draft = record {
      stage = i.stage;
      typed = i.typed;
      project =
          record {
            classes = i.store.classes;
            rules = i.rules.items;
            features = i.store.features;
            next = i.store.next;
            dirt =
                i.dirt;
            entries = i.entries.items;
          };
    } in
    let f : Feature = feature_of c.args.handle c.args.class c.args.subtype c.args.shape in
    rw (← c.self.view_is) (feature_said d c.swap.new.self.features c.swap.new.self.classes c.swap.new.self.next f c.last_handle.result
    c.features.ensures.keeps.ascending c.features_law.ensures
    (c.last_handle.ensures ∙ ap (λ (F : List Feature). last_in (λ (g : Feature). g.handle) F) c.features.ensures.value)
    (omega (arith, c.if-last_handle-handle.false))
    (subst (λ (x : Feature). IsSetAt c.args.handle (Some x) i.store.features c.swap.new.self.features) c.typed.ensures
    c.in_ok-swap.ensures.set)
    c.in_ok-swap.ensures.classes c.in_ok-swap.ensures.next)
