use Rattle.std.proofs.Common.{◌≡◌, ◌∙◌, sym, true}
use Rattle.validation.specs.Ends.{shows_at_ends}
use Rattle.validation.specs.Parted.{rules_of}
use Rattle.validation.proofs.Enough.{near_or_at_ends}
use Rattle.validation.proofs.shown.view_for.Goals as goal
use Rattle.validation.proofs.shown.view_for.Goals.{then-is_empty+in_ok-view, else-is_empty+in_ok-view-2}

pub returns-clause-view : goal.returns-clause-view
returns-clause-view g c =
    let rules = rules_of c.args.parts.now in
    let at_ends : shows_at_ends rules c.args.f.now ≡ true = sym c.is_shown_at_ends.ensures ∙ c.if-not-is_shown_at_ends.false in
    elim c.if-is_empty.branch [
      | then-is_empty+in_ok-view w ↦ rw w.view-is (near_or_at_ends rules c.args.features.now.features w.in_ok-view.view c.args.f.now at_ends
          w.in_ok-view.ensures.view)
      | else-is_empty+in_ok-view-2 w ↦ rw w.view-is w.in_ok-view-2.ensures.view
    ]
