use Rattle.std.proofs.Common.{◌∙◌, arith}
use Rattle.std.proofs.lemmas.Int.{ints}
use Rattle.std.proofs.lemmas.List.Filters.{dedup_is}
use Rattle.shape.proofs.Places.{kept_is}
use Rattle.shape.proofs.vertices.keep.Goals as goal

pub returns : goal.returns
returns c = dedup_is _ _ _ c.dedup.ensures.filtered ∙ kept_is _ (λ x y. grind (arith, ints)) c.args.vertices.now.items
