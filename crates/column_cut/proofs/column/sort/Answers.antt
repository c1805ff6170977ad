use Rattle.std.proofs.Common.{rules}
use Rattle.std.proofs.lemmas.List.Sorted.{answers_always}
use Rattle.column_cut.specs.Ranks.{is_under}
use Rattle.column_cut.proofs.Ranking.{is_under-ranks}
use Rattle.column_cut.proofs.column.sort.Goals as goal

pub returns-clause-sorted : goal.returns-clause-sorted
returns-clause-sorted c = c.in_ok-sort_by.ensures.sorted is_under is_under-ranks (answers_always _ _ _ (λ f a r g k. search rules))

pub returns-clause-stable : goal.returns-clause-stable
returns-clause-stable c = c.in_ok-sort_by.ensures.stable is_under is_under-ranks (answers_always _ _ _ (λ f a r g k. search rules))
