use Rattle.std.proofs.Common.{◌∙◌}
use Rattle.wkt_text.proofs.FirstOpen.{closed_is}
use Rattle.wkt_text.proofs.closing.is_closed.Goals as goal

pub returns-in-len1-up : goal.returns-in-len1-up
returns-in-len1-up c =
    c.is_same.ensures
    ∙ closed_is c.args.ring.now c.first-item.result c.index-ring-ring.result c.in-len1-up.len_at_least c.first-item.is c.index-ring-ring.is
