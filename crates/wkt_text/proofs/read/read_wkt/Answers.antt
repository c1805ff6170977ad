use Rattle.wkt_text.proofs.Results.{only}
use Rattle.wkt_text.proofs.read.read_wkt.Goals as goal

pub returns-clause-only : goal.returns-clause-only
returns-clause-only c = only c.args.text.now c.read_shape.result c.read_shape.ensures
