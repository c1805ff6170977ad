use Rattle.std.proofs.Common.{ap, [], ◌∷◌}
use Rattle.version_terms.specs.Versions.{Tree}
use Rattle.fix_terms.specs.declared.edit.Edit.TheVariants.{Add}
use Rattle.command_answers.proofs.Planning.{new_done, new_world, room_world_of}
use Rattle.command_answers.proofs.planned.new_noted.Goals as goal

pub returns-in-Ok-clause-noted : goal.returns-in-Ok-clause-noted
returns-in-Ok-clause-noted c =
    new_done c.args.editor.now c.args.class c.args.subtype c.args.shape c.in-Ok.field-0 c.args.tree.now.current.project c.add_noted.new.tree.current.project
    c.args.sessions.now c.add_noted.new.sessions c.requires c.in-Ok.ensures.ok c.in-Ok.ensures.noted

pub returns-in-Ok-clause-world : goal.returns-in-Ok-clause-world
returns-in-Ok-clause-world c =
    new_world c.args.editor.now c.args.class c.args.subtype c.args.shape c.in-Ok.field-0 c.args.tree.now.current.project c.add_noted.new.tree.current.project
    c.args.sessions.now c.add_noted.new.sessions c.current_law.ensures.topology.store c.requires c.in-Ok.ensures.ok c.in-Ok.ensures.noted

pub returns-in-Err-clause-world : goal.returns-in-Err-clause-world
returns-in-Err-clause-world c =
    room_world_of c.args.editor.now (Add c.args.class c.args.subtype c.args.shape ∷ []) c.args.tree.now.current.project c.add_noted.new.tree.current.project
    c.args.sessions.now c.add_noted.new.sessions c.requires (ap (λ (t : Tree). t.current.project) c.in-Err.ensures.err) c.in-Err.ensures.room
