use Rattle.std.proofs.Common.{refl}
use Rattle.topo_run.proofs.Feeding.{line_ended}
use Rattle.topo_run.proofs.pieces.Replayer.end_line.Goals as goal

pub returns : goal.returns
returns c =
    line_ended {w = c.self.inside.world} {v = c.answer_ended.new.world} {rest = c.self.inside.rest.items} {left = c.clear.new.self.items}
    {flag = c.self.inside.refused} {bad = c.in_ok-bad.bad} {now = c.either-self-inside.result} c.self.view_is refl c.in_ok-bad.ensures.ok
    c.clear.ensures.items c.either-self-inside.ensures
