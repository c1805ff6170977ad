use Rattle.std.proofs.Common.{◌≡◌, true, false, [], ◌∷◌, ◌++◌, sym, ap, ◌∙◌}
use Rattle.std.specs.Prelude.{◌||◌}
use Rattle.std.specs.List.{list_any}
use Rattle.std.proofs.lemmas.Result.{on_ok_weaker}
use Rattle.plane_terms.specs.Rectangle.{is_within}
use Rattle.dirty_area.proofs.Calls.{add_dirt-held, add_dirt-apart, dirt_added}
use Rattle.dirty_area.proofs.Splits.{none_nested, none_holds, one_holds}
use Rattle.dirty_area.proofs.cut.add_one.Goals as goal

pub add_loose-requires : goal.add_loose-requires
add_loose-requires c =
    let apart : list_any (λ s. is_within c.args.r s || is_within s c.args.r) c.args.round.now ≡ false = cc in
    rw c.look.ensures.same (add_dirt-apart c.args.round.now c.args.r apart)

pub returns-then-not-look-clause-dirt : goal.returns-then-not-look-clause-dirt
returns-then-not-look-clause-dirt c =
    let apart : list_any (λ s. is_within c.args.r s || is_within s c.args.r) c.args.round.now ≡ false = cc in
    on_ok_weaker c.push.result
    (λ e. e ∙ sym (none_nested c.args.dirt.now.left c.args.round.now c.args.r c.requires.split apart)) c.push.ensures.left

pub returns-then-not-look-clause-round : goal.returns-then-not-look-clause-round
returns-then-not-look-clause-round c =
    let apart : list_any (λ s. is_within c.args.r s || is_within s c.args.r) c.args.round.now ≡ false = cc in
    on_ok_weaker c.push.result
    (λ e. c.in_ok-add_loose.ensures.ok ∙ (ap (λ d. d ++ c.args.r ∷ []) c.look.ensures.same ∙ sym (add_dirt-apart c.args.round.now c.args.r apart)))
    c.push.ensures.left

pub returns-then-look-clause-dirt : goal.returns-then-look-clause-dirt
returns-then-look-clause-dirt c =
    let held : list_any (λ s. is_within c.args.r s) c.args.round.now ≡ true = cc in
    sym (one_holds c.args.dirt.now.left c.args.round.now c.args.r c.requires.split held)

pub returns-then-look-clause-round : goal.returns-then-look-clause-round
returns-then-look-clause-round c =
    let held : list_any (λ s. is_within c.args.r s) c.args.round.now ≡ true = cc in
    c.look-2.ensures.same ∙ (c.look.ensures.same ∙ sym (add_dirt-held c.args.round.now c.args.r held))

pub returns-then-not-look-clause-kept : goal.returns-then-not-look-clause-kept
returns-then-not-look-clause-kept c =
    let apart : list_any (λ s. is_within c.args.r s || is_within s c.args.r) c.args.round.now ≡ false = cc in
    on_ok_weaker c.push.result
    (λ e. dirt_added c.args.dirt.now.left c.push.new.self.left c.args.r
    (e ∙ sym (none_nested c.args.dirt.now.left c.args.round.now c.args.r c.requires.split apart)) c.requires.kept c.corner_law.ensures)
    c.push.ensures.left

pub returns-clause-dirt : goal.returns-clause-dirt
returns-clause-dirt c =
    let loose : list_any (λ s. is_within c.args.r s) c.args.round.now ≡ false = cc in
    on_ok_weaker c.push-2.result
    (λ e. e ∙ (ap (λ d. d ++ c.args.r ∷ []) c.drop_held.ensures.left
    ∙ sym (none_holds c.args.dirt.now.left c.args.round.now c.args.r c.requires.split loose))) c.push-2.ensures.left

pub returns-clause-kept : goal.returns-clause-kept
returns-clause-kept c =
    let loose : list_any (λ s. is_within c.args.r s) c.args.round.now ≡ false = cc in
    on_ok_weaker c.push-2.result
    (λ e. dirt_added c.args.dirt.now.left c.push-2.new.self.left c.args.r
    (e ∙ (ap (λ d. d ++ c.args.r ∷ []) c.drop_held.ensures.left
    ∙ sym (none_holds c.args.dirt.now.left c.args.round.now c.args.r c.requires.split loose))) c.requires.kept c.corner_law.ensures)
    c.push-2.ensures.left
