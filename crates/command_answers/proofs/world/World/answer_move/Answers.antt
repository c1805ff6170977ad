use Rattle.std.proofs.Common.{◌≡◌, None, sym, subst, List}
use Rattle.std.specs.Prelude.{IfOk, IfErr}
use Rattle.fix_terms.specs.Move.{HasMoved}
use Rattle.fix_terms.specs.Plans.{IsAfter, IsPossible}
use Rattle.fix_tools.specs.Move.{IsMovePlan, IsMoveFault}
use Rattle.topology_terms.specs.Feature.{Feature}
use Rattle.topology_terms.specs.Project.{Project}
use Rattle.line_terms.specs.Commands.{Move}
use Rattle.script_terms.specs.Answer.{Answers}
use Rattle.reply_text.specs.Replies.{said_of}
use Rattle.command_answers.specs.Worlds.{aside_of, seen_desk}
use Rattle.script_terms.specs.Refusing.{refusal_of}
use Rattle.script_terms.specs.State.{State, desk_of}
use Rattle.command_answers.proofs.Fixing.{move_ready, move_answered, move_passed}
use Rattle.command_answers.proofs.Trees.{aside_same, settled_seen, sound_seen}
use Rattle.command_answers.proofs.world.World.answer_move.Goals as goal

pub do_planned-requires-clause-world : goal.do_planned-requires-clause-world
do_planned-requires-clause-world c = c.self.invariant

pub do_planned-requires-clause-ready : goal.do_planned-requires-clause-ready
do_planned-requires-clause-ready c =
    move_ready c.args.editor.now c.args.from c.args.to c.self.inside.tree.current.project c.self.inside.sessions c.move_all-planned.result c.self.invariant c.current_law.ensures.ordered
    (subst (λ (z : State). refusal_of (desk_of z) (Move c.args.editor.now c.args.from c.args.to) ≡ None) (sym c.self.view_is)
    (move_passed (desk_of c.args.self.now) c.args.editor.now c.args.from c.args.to c.in_ok-told.told c.in_ok-told.ensures c.in_default.not-Some))
    (subst (λ (q : Project). IfOk c.move_all-planned.result (IsMovePlan c.args.from c.args.to q.features)) c.current.ensures c.move_all-planned.ensures.plan) (subst (λ (q : Project). IfOk c.move_all-planned.result (λ es. IsPossible es q)) c.current.ensures c.move_all-planned.ensures.possible)

pub returns-clause-answers : goal.returns-clause-answers
returns-clause-answers c =
    subst (λ (z : State). IfOk c.do_planned.result (λ r. Answers (desk_of z) (Move c.args.editor.now c.args.from c.args.to) (said_of c.do_planned.new.tree.current.project r)
    (seen_desk c.do_planned.new.tree.current.project c.do_planned.new.sessions))) c.self.view_is (move_answered c.args.editor.now c.args.from c.args.to c.self.inside.tree.current.project c.do_planned.new.tree.current.project c.self.inside.sessions
    c.do_planned.new.sessions c.move_all-planned.result c.do_planned.result
    (subst (λ (z : State). refusal_of (desk_of z) (Move c.args.editor.now c.args.from c.args.to) ≡ None) (sym c.self.view_is)
    (move_passed (desk_of c.args.self.now) c.args.editor.now c.args.from c.args.to c.in_ok-told.told c.in_ok-told.ensures c.in_default.not-Some))
    (subst (λ (q : Project). IfOk c.move_all-planned.result (IsMovePlan c.args.from c.args.to q.features)) c.current.ensures c.move_all-planned.ensures.plan) (subst (λ (q : Project). IfErr c.move_all-planned.result (IsMoveFault c.args.from c.args.to q.features)) c.current.ensures c.move_all-planned.ensures.refused)
    (subst (λ (q : Project). IfOk c.move_all-planned.result (λ es. (G : List Feature) → IsAfter es q.features q.next G → HasMoved c.args.from c.args.to q.features G)) c.current.ensures c.move_all-planned.ensures.fixed) c.do_planned.ensures.ordered c.do_planned.ensures.told)

pub invariant_of-self : goal.invariant_of-self
invariant_of-self c = c.do_planned.ensures.world

pub returns-clause-sound : goal.returns-clause-sound
returns-clause-sound c = sound_seen c.self.inside.tree c.do_planned.new.tree.current.project c.self.inside.sessions c.args.self.now
    c.self.view_is c.do_planned.ensures.sound

pub returns-clause-settled : goal.returns-clause-settled
returns-clause-settled c = settled_seen c.self.inside.tree c.do_planned.new.tree.current.project c.self.inside.sessions c.args.self.now
    c.self.view_is c.do_planned.ensures.settled

pub returns-clause-aside : goal.returns-clause-aside
returns-clause-aside c = subst (λ (z : State). aside_of c.do_planned.new.tree ≡ z.aside) c.self.view_is
    (aside_same c.self.inside.tree c.do_planned.new.tree c.do_planned.ensures.aside)
