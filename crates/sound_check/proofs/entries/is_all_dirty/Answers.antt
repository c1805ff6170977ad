use Rattle.std.proofs.Common.{◌≡◌, ◌∙◌, true, sym, subst}
use Rattle.std.specs.List.{list_any}
use Rattle.std.proofs.lemmas.Bool.{OnTrue_from}
use Rattle.plane_terms.specs.Rectangle.{is_within}
use Rattle.sound_laws.proofs.Dirts.{covers_held}
use Rattle.sound_check.proofs.entries.is_all_dirty.Goals as goal

pub returns-then-not-whole : goal.returns-then-not-whole
returns-then-not-whole c =
    let d = c.args.dirt.now in
    let framed = c.requires (sym c.whole.ensures ∙ c.if-not-whole.true) in
    OnTrue_from c.holds.result _ (λ t p i. covers_held d c.args.e.now.frame p
    (subst (λ r. list_any (λ s. is_within r s) d ≡ true) c.frame.ensures (sym c.holds.ensures ∙ t)) (framed.frame.holds p i))
