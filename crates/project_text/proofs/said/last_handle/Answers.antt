use Rattle.std.proofs.Common.{sym, refl, ◌∙◌}
use Rattle.topology_terms.specs.Feature.{Feature}
use Rattle.project_text.proofs.Lasts.{last_number_at}
use Rattle.project_text.proofs.said.last_handle.Goals as goal

pub returns-in-Some : goal.returns-in-Some
returns-in-Some c =
    c.handle.ensures ∙ sym (last_number_at (λ (f : Feature). f.handle) c.args.features.now c.in-Some.feature.now c.in-Some.ensures)

pub returns-in-None : goal.returns-in-None
returns-in-None c = rw c.in-None.ensures refl
