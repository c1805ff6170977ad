use Rattle.std.proofs.Common.{ap, arith}
use Rattle.topology_terms.specs.Project.{Project}
use Rattle.command_answers.specs.Worlds.{seen_desk}
use Rattle.command_answers.proofs.Noting.{seen_same, stays_world}
use Rattle.command_answers.proofs.Answering.{validated}
use Rattle.command_answers.proofs.Trees.{aside_same, settled_seen, sound_seen}
use Rattle.command_answers.proofs.world.World.answer_validate.Goals as goal

pub returns-clause-answers : goal.returns-clause-answers
returns-clause-answers c =
    rw (← c.self.view_is) (validated (seen_desk c.self.inside.tree.current.project c.self.inside.sessions) _ c.args.window _ _ _ _ c.validate.new.work.judged
    c.current_law.ensures.topology
    (let n = ap (λ (q : Project). q.next) c.current.ensures in omega (arith, n, c.next_handle.ensures.next, c.store.ensures.next)) c.begin_count.ensures c.in_ok-validate.ensures.ok c.in_ok-validate.ensures.judged
    c.in_ok-validate.ensures.summary.0 c.in_ok-validate.ensures.summary.1 c.in_ok-validate.ensures.summary.2
    (seen_same c.self.inside.tree.current.project c.validate.new.self.current.project c.self.inside.sessions c.in_ok-validate.ensures.ok.features))

pub invariant_of-self-2 : goal.invariant_of-self-2
invariant_of-self-2 c =
    let v = c.in_ok-validate.ensures.ok in
    stays_world c.self.inside.tree.current.project c.validate.new.self.current.project c.self.inside.sessions v.features v.next v.classes c.self.invariant

pub returns-clause-sound : goal.returns-clause-sound
returns-clause-sound c = sound_seen c.self.inside.tree c.validate.new.self.current.project c.self.inside.sessions c.args.self.now c.self.view_is
    c.validate.ensures.sound

pub returns-clause-settled : goal.returns-clause-settled
returns-clause-settled c = settled_seen c.self.inside.tree c.validate.new.self.current.project c.self.inside.sessions c.args.self.now c.self.view_is
    c.validate.ensures.settled

pub returns-clause-aside : goal.returns-clause-aside
returns-clause-aside c = rw (← c.self.view_is) (aside_same c.self.inside.tree c.validate.new.self c.validate.ensures.aside)
