use Rattle.std.proofs.Common.{◌∙◌}
use Rattle.topo_run.proofs.Endings.{ends_empty, made_new, made_state}
use Rattle.topo_run.proofs.Shelved.{none_opened}
use Rattle.topo_run.proofs.replay.replay.Goals as goal

pub replay_from-status-requires : goal.replay_from-status-requires
replay_from-status-requires g c = made_new c.of-replayer.result _ c.of-replayer.ensures

pub returns-clause-ends : goal.returns-clause-ends
returns-clause-ends g c =
    ends_empty c.of-replayer.result.state c.replay_from-status.new.replayer.state _ _ c.replay_from-status.result
    (made_state c.of-replayer.result _ c.of-replayer.ensures ∙ c.new.ensures.empty) c.replay_from-status.ensures.ends

pub returns-clause-unopened : goal.returns-clause-unopened
returns-clause-unopened g c =
    none_opened _ _ _ c.replay_from-status.result
    (ends_empty c.of-replayer.result.state c.replay_from-status.new.replayer.state _ _ c.replay_from-status.result
    (made_state c.of-replayer.result _ c.of-replayer.ensures ∙ c.new.ensures.empty) c.replay_from-status.ensures.ends)
