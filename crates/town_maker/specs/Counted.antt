-- counts_of c     the counts of a town, as the definitions have them
use Rattle.town_terms.specs.Summary as terms
use Rattle.town_maker.specs.declared.summary.TownCounts.{TownCounts}

abbrev pub counts_of : TownCounts → terms.TownCounts
counts_of c = record { features = c.features; judged = c.judged; errors = c.errors; dirty = c.dirty; text = c.text }
