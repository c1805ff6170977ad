use Rattle.std.proofs.Common.{◌≡◌, ◌∙◌, ap}
use Rattle.plane_terms.specs.Rectangle.{is_within, rect_at}
use Rattle.number_laws.proofs.Tests.{says}
use Rattle.grid_plane.proofs.Rectangles.{held_place, Decides-is_within}
use Rattle.grid_plane.proofs.rect.Rect.holds_point.Goals as goal

pub returns-clause-meaning : goal.returns-clause-meaning
returns-clause-meaning c =
    let q = c.args.p in
    let r = c.args.self.now in
    let same : c.is_round.result ≡ is_within (rect_at q) r = c.is_round.ensures ∙ ap (λ s. is_within s r) c.round.ensures.value in
    let w = says _ _ same (Decides-is_within (rect_at q) r) in
    let h = held_place q r in
    (λ t. h.0 (w.0 t), λ k. w.1 (h.1 k))
