use Rattle.wkt_text.proofs.Geometries.{only}
use Rattle.wkt_text.proofs.spelling.read_geometry.Goals as goal

pub returns-clause-only : goal.returns-clause-only
returns-clause-only c = only c.args.text.now c.read_all.result c.read_all.ensures
