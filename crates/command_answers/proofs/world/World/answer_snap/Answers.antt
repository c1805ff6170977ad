use Rattle.std.proofs.Common.{◌≡◌, None, sym, subst, ◌∙◌, List, Some}
use Rattle.std.specs.Prelude.{IfOk, IfErr, is_some, true}
use Rattle.fix_terms.specs.Snap.{HasSnapped}
use Rattle.fix_terms.specs.Plans.{IsAfter, IsPossible}
use Rattle.fix_tools.specs.Snap.{IsSnapped, IsSnapFault}
use Rattle.topology_terms.specs.Broken.{Row}
use Rattle.topology_terms.specs.Feature.{Feature, feature_at}
use Rattle.topology_terms.specs.Project.{Project, rule_at}
use Rattle.line_terms.specs.Commands.{Delete, Snap}
use Rattle.script_terms.specs.Answer.{Answers}
use Rattle.reply_text.specs.Replies.{said_of}
use Rattle.command_answers.specs.Worlds.{aside_of, seen_desk}
use Rattle.script_terms.specs.Refusing.{refusal_of}
use Rattle.script_terms.specs.State.{State, desk_of}
use Rattle.command_answers.proofs.Fixing.{in_force, snap_ready, snap_answered}
use Rattle.command_answers.proofs.Trees.{aside_same, settled_seen, sound_seen}
use Rattle.command_answers.proofs.world.World.answer_snap.Goals as goal

pub do_planned-requires-clause-world : goal.do_planned-requires-clause-world
do_planned-requires-clause-world c = c.self.invariant

pub do_planned-requires-clause-ready : goal.do_planned-requires-clause-ready
do_planned-requires-clause-ready c =
    snap_ready c.args.editor.now c.args.rule c.args.handle c.args.end c.args.to c.self.inside.tree.current.project c.self.inside.sessions c.snap-planned.result c.self.invariant
    c.current_law.ensures.ordered
    (subst (λ (z : State). refusal_of (desk_of z) (Delete c.args.editor.now c.args.handle) ≡ None) (sym c.self.view_is) c.in_default.ensures)
    (subst (λ (q : Project). IfOk c.snap-planned.result (IsSnapped q c.args.rule c.args.handle c.args.end c.args.to)) c.current-2.ensures c.snap-planned.ensures.plan) (subst (λ (q : Project). IfOk c.snap-planned.result (λ es. IsPossible es q)) c.current-2.ensures c.snap-planned.ensures.possible)

pub returns-clause-answers : goal.returns-clause-answers
returns-clause-answers c =
    subst (λ (z : State). IfOk c.do_planned.result (λ r. Answers (desk_of z) (Snap c.args.editor.now c.args.rule c.args.handle c.args.end c.args.to) (said_of c.do_planned.new.tree.current.project r)
    (seen_desk c.do_planned.new.tree.current.project c.do_planned.new.sessions))) c.self.view_is (snap_answered c.args.editor.now c.args.rule c.args.handle c.args.end c.args.to c.self.inside.tree.current.project c.do_planned.new.tree.current.project c.self.inside.sessions
    c.do_planned.new.sessions c.snap-planned.result c.do_planned.result
    (subst (λ (z : State). refusal_of (desk_of z) (Delete c.args.editor.now c.args.handle) ≡ None) (sym c.self.view_is) c.in_default.ensures)
    (in_force c.self.inside.tree.current.project c.args.rule (subst (λ (q : Project). is_some (rule_at q.rules c.args.rule) ≡ true) c.current.ensures (rw c.rules.ensures at (sym c.is_in_force.ensures ∙ c.if-not-is_in_force.false))))
    (subst (λ (q : Project). IfOk c.snap-planned.result (IsSnapped q c.args.rule c.args.handle c.args.end c.args.to)) c.current-2.ensures c.snap-planned.ensures.plan) (subst (λ (q : Project). IfErr c.snap-planned.result (IsSnapFault q c.args.rule c.args.handle c.args.end c.args.to)) c.current-2.ensures c.snap-planned.ensures.refused)
    (subst (λ (q : Project). IfOk c.snap-planned.result (λ es. (row : Row) (f : Feature) → rule_at q.rules c.args.rule ≡ Some row → feature_at q.features c.args.handle ≡ Some f → (G : List Feature) → IsAfter es q.features q.next G → HasSnapped row f c.args.end c.args.to q.features G)) c.current-2.ensures c.snap-planned.ensures.fixed) c.do_planned.ensures.ordered c.do_planned.ensures.told)

pub invariant_of-self : goal.invariant_of-self
invariant_of-self c = c.do_planned.ensures.world

pub returns-clause-sound : goal.returns-clause-sound
returns-clause-sound c = sound_seen c.self.inside.tree c.do_planned.new.tree.current.project c.self.inside.sessions c.args.self.now
    c.self.view_is c.do_planned.ensures.sound

pub returns-clause-settled : goal.returns-clause-settled
returns-clause-settled c = settled_seen c.self.inside.tree c.do_planned.new.tree.current.project c.self.inside.sessions c.args.self.now
    c.self.view_is c.do_planned.ensures.settled

pub returns-clause-aside : goal.returns-clause-aside
returns-clause-aside c = subst (λ (z : State). aside_of c.do_planned.new.tree ≡ z.aside) c.self.view_is
    (aside_same c.self.inside.tree c.do_planned.new.tree c.do_planned.ensures.aside)
