use Rattle.std.proofs.Common.{◌≡◌, ◌<◌, ◌-◌, List, length, Ok, sym, ap, arith}
use Rattle.topology_terms.specs.Entry.{Entry}
use Rattle.project_terms.specs.Drafts.{Draft}
use Rattle.project_text.proofs.Lasts.{cell_set, some_entry}
use Rattle.project_text.proofs.draft.Draft.say_cell.Goals as goal

pub returns : goal.returns
returns c =
    let i = c.self.inside in
    let items = i.entries.items in
    let same : c.args.self.now.project.entries ≡ items = sym (ap (λ (d : Draft). d.project.entries) c.self.view_is) in
    let some : 0 < length c.args.self.now.project.entries = some_entry c.args.self.now.project.entries c.requires in
    let put = cell_set items (c.len-last.result - 1) c.index_mut.result.now c.push_cell.new.self c.args.cell
    (omega (arith, c.len-last.ensures, some, ap (λ (es : List Entry). length es) same)) c.index_mut.ensures.value
    c.in_ok-push_cell.ensures.ok in
    rw (← c.self.view_is) (ap (λ (es : List Entry). Ok
    (record {
      stage = i.stage;
      typed = i.typed;
      project =
          record {
            classes = i.store.classes;
            rules = i.rules.items;
            features = i.store.features;
            next = i.store.next;
            dirt =
                i.dirt;
            entries = es;
          };
    })) put)
