use Rattle.std.proofs.Common.{ap, ◌≡◌, sym, subst, arith, ◌∙◌, List, Some}
use Rattle.std.specs.Prelude.{IfOk, IfErr, true}
use Rattle.fix_terms.specs.Create.{HasCreated}
use Rattle.fix_terms.specs.Plans.{IsAfter}
use Rattle.fix_tools.specs.Create.{IsCreated, IsCreateFault}
use Rattle.topology_terms.specs.Broken.{Row}
use Rattle.topology_terms.specs.Feature.{Feature, feature_at}
use Rattle.topology_terms.specs.Project.{Project, rule_at}
use Rattle.line_terms.specs.Commands.{Create}
use Rattle.script_terms.specs.Answer.{Answers}
use Rattle.reply_text.specs.Replies.{said_of}
use Rattle.command_answers.specs.Worlds.{aside_of, seen_desk}
use Rattle.script_terms.specs.State.{State, desk_of, is_open}
use Rattle.command_answers.proofs.Fixing.{create_ready, create_answered}
use Rattle.command_answers.proofs.Trees.{aside_same, settled_seen, sound_seen}
use Rattle.command_answers.proofs.world.World.answer_create.Goals as goal

pub do_planned-requires-clause-world : goal.do_planned-requires-clause-world
do_planned-requires-clause-world c = c.self.invariant

pub do_planned-requires-clause-ready : goal.do_planned-requires-clause-ready
do_planned-requires-clause-ready c =
    create_ready c.args.editor.now c.args.rule c.args.handle c.args.at c.self.inside.tree.current.project c.self.inside.sessions c.create-planned.result c.self.invariant c.current_law.ensures.topology
    (subst (λ (q : Project). IfOk c.create-planned.result (IsCreated q c.args.rule c.args.handle c.args.at)) c.current-2.ensures c.create-planned.ensures.plan)

pub returns-clause-answers : goal.returns-clause-answers
returns-clause-answers c =
    subst (λ (z : State). IfOk c.do_planned.result (λ r. Answers (desk_of z) (Create c.args.editor.now c.args.rule c.args.handle c.args.at) (said_of c.do_planned.new.tree.current.project r)
    (seen_desk c.do_planned.new.tree.current.project c.do_planned.new.sessions))) c.self.view_is (create_answered c.args.editor.now c.args.rule c.args.handle c.args.at c.self.inside.tree.current.project c.do_planned.new.tree.current.project c.self.inside.sessions
    c.do_planned.new.sessions c.create-planned.result c.do_planned.result
    (subst (λ (z : State). is_open (desk_of z) c.args.editor.now ≡ true) (sym c.self.view_is) (sym c.is_open.ensures ∙ c.if-not-is_open.false))
    (let n = ap (λ (q : Project). q.next) c.current.ensures in omega (arith, n, c.next_handle.ensures.next, c.store.ensures.next))
    (subst (λ (q : Project). IfOk c.create-planned.result (IsCreated q c.args.rule c.args.handle c.args.at)) c.current-2.ensures c.create-planned.ensures.plan) (subst (λ (q : Project). IfErr c.create-planned.result (IsCreateFault q c.args.rule c.args.handle c.args.at)) c.current-2.ensures c.create-planned.ensures.refused)
    (subst (λ (q : Project). IfOk c.create-planned.result (λ es. (row : Row) (f : Feature) → rule_at q.rules c.args.rule ≡ Some row → feature_at q.features c.args.handle ≡ Some f → (G : List Feature) → IsAfter es q.features q.next G → HasCreated row f c.args.at q.features q.next G)) c.current-2.ensures c.create-planned.ensures.fixed) c.do_planned.ensures.ordered c.do_planned.ensures.told)

pub invariant_of-self : goal.invariant_of-self
invariant_of-self c = c.do_planned.ensures.world

pub returns-clause-sound : goal.returns-clause-sound
returns-clause-sound c = sound_seen c.self.inside.tree c.do_planned.new.tree.current.project c.self.inside.sessions c.args.self.now
    c.self.view_is c.do_planned.ensures.sound

pub returns-clause-settled : goal.returns-clause-settled
returns-clause-settled c = settled_seen c.self.inside.tree c.do_planned.new.tree.current.project c.self.inside.sessions c.args.self.now
    c.self.view_is c.do_planned.ensures.settled

pub returns-clause-aside : goal.returns-clause-aside
returns-clause-aside c = subst (λ (z : State). aside_of c.do_planned.new.tree ≡ z.aside) c.self.view_is
    (aside_same c.self.inside.tree c.do_planned.new.tree c.do_planned.ensures.aside)
