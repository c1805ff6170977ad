use Rattle.shape.proofs.Made.{polygon_countable, polygon_closes}
use Rattle.shape.proofs.polygon.Polygon.of.Goals as goal

pub polygon_of-requires-clause-countable : goal.polygon_of-requires-clause-countable
polygon_of-requires-clause-countable c = polygon_countable c.closed_parts.result.items c.args.parts.items c.closed_parts.ensures c.requires

pub polygon_of-requires-clause-closing : goal.polygon_of-requires-clause-closing
polygon_of-requires-clause-closing c = polygon_closes c.closed_parts.result.items c.args.parts.items c.closed_parts.ensures
