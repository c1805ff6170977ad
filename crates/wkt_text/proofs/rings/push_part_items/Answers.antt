use Rattle.std.proofs.Common.{ap}
use Rattle.shape.specs.Given.{rings_in as lists_of}
use Rattle.wkt_text.specs.Closed.{rings_text}
use Rattle.text_out.proofs.Pushing.{in_two}
use Rattle.wkt_text.proofs.Items.{listed_by}
use Rattle.wkt_text.proofs.rings.push_part_items.Goals as goal

pub returns-in_ok-push_rings-in-len1-up : goal.returns-in_ok-push_rings-in-len1-up
returns-in_ok-push_rings-in-len1-up c =
    in_two c.push_more_parts.result _ _ _ _ _ _ c.in_ok-push_rings-in-len1-up.ensures c.push_more_parts.ensures
    (listed_by rings_text (λ part. lists_of part.items) c.args.parts.now c.first-item.result _ c.in-len1-up.len_at_least c.first-item.is (ap (λ r. lists_of r) c.deref.ensures.value))
