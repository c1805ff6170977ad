use Rattle.topology_terms.specs.Project.{Project}
use Rattle.project_text.proofs.Sections.{all_written}
use Rattle.project_text.proofs.write.write_parts.Goals as goal

pub returns : goal.returns
returns c =
    let p : Project = record {
      classes = c.args.store.now.classes;
      rules = c.args.rules.now;
      features = c.args.store.now.features;
      next = c.args.store.now.next;
      dirt = c.args.dirt.now;
      entries = c.args.errors.now;
    } in
    all_written p _ _ _ c.blocks-2.ensures c.new-out.ensures.items c.in_ok-push_project.ensures
