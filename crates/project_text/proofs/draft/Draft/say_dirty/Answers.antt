use Rattle.project_terms.specs.Drafts.{Draft}
use Rattle.project_text.specs.Reading.{rect_said}
use Rattle.project_text.proofs.Saying.{dirty_said}
use Rattle.project_text.proofs.draft.Draft.say_dirty.Goals as goal

pub returns : goal.returns
returns c =
    let i = c.self.inside in
    let d : Draft = record {
      stage = i.stage;
      typed = i.typed;
      project =
          record {
            classes = i.store.classes;
            rules = i.rules.items;
            features = i.store.features;
            next = i.store.next;
            dirt =
                i.dirt;
            entries = i.entries.items;
          };
    } in
    rw (← c.self.view_is) (dirty_said d c.add.new.self c.in-Some.r (rect_said c.args.form.now) c.is_nested.result c.in-Some.ensures.0
    c.in-Some.ensures.1 c.is_nested.ensures c.if-is_nested.false c.in_ok-add.ensures.ok)
