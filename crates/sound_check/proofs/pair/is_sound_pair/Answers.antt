use Rattle.std.proofs.Common.{◌↔◌, ◌∙◌, IsTrue, sym}
use Rattle.std.proofs.lemmas.Bool.{false≢true}
use Rattle.plane_terms.specs.Lists.{Every}
use Rattle.convex_cell.proofs.Results.{if_ok}
use Rattle.sound_check.specs.Pairs.{IsEntrySound, IsSoundPair}
use Rattle.sound_check.proofs.Pairs.{pair_sound, fresh_lie, stored_sound}
use Rattle.sound_check.proofs.pair.is_sound_pair.Goals as goal

pub returns-then-not-branch : goal.returns-then-not-branch
returns-then-not-branch c = (
  λ k. absurd (false≢true k),
  λ s. sym c.if-not-branch.true ∙ c.in_ok-all_lie_in.ensures.1 (fresh_lie c.args.dirt.now c.args.envelope c.args.fresh.now
      c.args.stored.now c.args.rule c.args.subject c.requires.fresh_ascending c.requires.fresh_own s),
)

pub returns : goal.returns
returns c =
    let d = c.args.dirt.now in
    let o = c.args.envelope in
    let fresh = c.args.fresh.now in
    let stored = c.args.stored.now in
    let r = c.args.rule in
    let a = c.args.subject in
    if_ok (λ yes. IsTrue yes ↔ Every (IsEntrySound d o fresh) stored) (λ yes. IsTrue yes ↔ IsSoundPair d o fresh stored r a) _
    (λ yes t. (
      λ k. pair_sound d o fresh stored r a (c.do_wholes_agree.ensures.0 c.if-not-do_wholes_agree.false)
          (c.in_ok-all_lie_in.ensures.0 c.if-not-branch.false) (t.0 k),
      λ s. t.1 (stored_sound d o fresh stored r a c.requires.stored_ascending c.requires.stored_own s),
    )) c.are_entries_sound.ensures
