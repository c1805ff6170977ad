use Rattle.std.proofs.Common.{◌≡◌, ◌+◌, Bool, cond, sym, ◌∙◌, ap}
use Rattle.plane_terms.specs.Lists.{how_many}
use Rattle.plane_terms.specs.Line.{holds_place}
use Rattle.plane_terms.specs.Segment.{Segment}
use Rattle.plane_terms.specs.Shape.{Shape, segments_of}
use Rattle.topology_terms.specs.Feature.{sides}
use Rattle.rule_loops.specs.Views.{up_to_three}
use Rattle.rule_loops.proofs.counts.with_segments.Goals as goal

pub returns-then-is_round : goal.returns-then-is_round
returns-then-is_round c =
    let q = c.args.place in
    let more = up_to_three (c.args.count + up_to_three (how_many (λ (t : Segment). holds_place t q) (sides c.args.other.now))) in
    let count : c.count_on.result ≡ up_to_three (how_many (λ (t : Segment). holds_place t q) (sides c.args.other.now)) = c.count_on.ensures
    ∙ ap (λ (s : Shape). up_to_three (how_many (λ (t : Segment). holds_place t q) (segments_of s))) c.shape.ensures in
    c.up_to_three.ensures ∙ (ap (λ m. up_to_three (c.args.count + m)) count
    ∙ sym (ap (λ (b : Bool). cond b more c.args.count) (sym c.is_round.ensures ∙ c.if-is_round.true)))
