use Rattle.std.proofs.Common.{◌≡◌, true, false, sym, ◌∙◌}
use Rattle.std.specs.Prelude.{◌||◌}
use Rattle.std.specs.List.{list_any}
use Rattle.plane_terms.specs.Rectangle.{is_within}
use Rattle.dirty_area.specs.Blocks.{all_rects}
use Rattle.dirty_area.proofs.Calls.{add_dirt-held, add_dirt-loose, add_dirt-apart}
use Rattle.dirty_area.proofs.list.add_in.Goals as goal

pub returns-then-not-has-clause-added : goal.returns-then-not-has-clause-added
returns-then-not-has-clause-added c =
    let d = all_rects c.args.blocks.now.items in
    let apart : list_any (λ s. is_within c.args.r s || is_within s c.args.r) d ≡ false = cc in
    c.put_last.ensures.put ∙ sym (add_dirt-apart d c.args.r apart)

pub returns-then-not-has-2-clause-added : goal.returns-then-not-has-2-clause-added
returns-then-not-has-2-clause-added c =
    let d = all_rects c.args.blocks.now.items in
    let loose : list_any (λ s. is_within c.args.r s) d ≡ false = cc in
    c.put_round.ensures.put ∙ sym (add_dirt-loose d c.args.r loose)

pub returns-else-not-has-2-clause-added : goal.returns-else-not-has-2-clause-added
returns-else-not-has-2-clause-added c =
    let d = all_rects c.args.blocks.now.items in
    let held : list_any (λ s. is_within c.args.r s) d ≡ true = cc in
    sym (add_dirt-held d c.args.r held)
