use Rattle.rule_laws.proofs.Posters.{poster_laws, poster_cuts, poster_views}
use Rattle.rules.proofs.law.poster_law.Goals as goal

pub returns-clause-laws : goal.returns-clause-laws
returns-clause-laws c = poster_laws

pub returns-clause-right : goal.returns-clause-right
returns-clause-right c = poster_cuts

pub returns-clause-views : goal.returns-clause-views
returns-clause-views c = poster_views
