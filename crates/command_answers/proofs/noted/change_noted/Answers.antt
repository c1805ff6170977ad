use Rattle.std.proofs.Common.{◌≡◌, ◌∙◌, Option, sym, ap, subst}
use Rattle.topology_terms.specs.Feature.{Feature, feature_at}
use Rattle.session_terms.specs.Kept.{KeptStep}
use Rattle.edit_session.specs.SessionsCalls.{IsNoted}
use Rattle.command_answers.proofs.Noting.{room_noted}
use Rattle.command_answers.proofs.noted.change_noted.Goals as goal

pub returns-clause-noted : goal.returns-clause-noted
returns-clause-noted c =
    let kept : KeptStep = record { handle = c.args.handle; kept = feature_at c.args.tree.now.current.project.features c.args.handle } in
    let same : c.new.result ≡ kept = c.new.ensures ∙ ap (λ (o : Option Feature). record { handle = c.args.handle; kept = o })
    (sym c.in_ok-was.ensures.was) in
    room_noted c.args.editor.now kept c.args.sessions.now c.make_room.new.sessions c.note_in.new.self c.in_ok-make_room.ensures.made
    (subst (λ (t : KeptStep). IsNoted c.args.editor.now t c.make_room.new.sessions c.note_in.new.self) same c.note_in.ensures)
