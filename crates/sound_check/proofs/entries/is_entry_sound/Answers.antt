use Rattle.std.proofs.Common.{◌↔◌, ◌∙◌, IsTrue, refl, sym, subst}
use Rattle.std.proofs.lemmas.Bool.{false≢true, OnTrue_at}
use Rattle.convex_cell.proofs.Results.{if_ok}
use Rattle.sound_check.specs.Frames.{Stands}
use Rattle.sound_check.specs.Pairs.{LiesIn, IsEntrySound}
use Rattle.sound_check.proofs.entries.is_entry_sound.Goals as goal

pub returns-then-not-frame_stands : goal.returns-then-not-frame_stands
returns-then-not-frame_stands c = (
  λ k. absurd (false≢true k),
  λ s. sym c.if-not-frame_stands.true ∙ c.frame_stands.ensures.1 (subst (Stands c.args.dirt.now c.args.envelope) (sym c.frame.ensures)
      s.stands),
)

pub returns-then-is_all_dirty : goal.returns-then-is_all_dirty
returns-then-is_all_dirty c =
    let all = OnTrue_at c.if-is_all_dirty.true c.is_all_dirty.ensures in (
      λ k. record {
        stands = subst (Stands c.args.dirt.now c.args.envelope) c.frame.ensures (c.frame_stands.ensures.0 c.if-not-frame_stands.false);
        framed = c.in_ok-is_framed_or_whole.ensures.0 c.if-not-branch.false;
        within = λ q n i. absurd (n (all q i));
      },
      λ s. refl,
    )

pub returns : goal.returns
returns c =
    let d = c.args.dirt.now in
    let o = c.args.envelope in
    let fresh = c.args.fresh.now in
    let e = c.args.e.now in
    if_ok (λ yes. IsTrue yes ↔ LiesIn d fresh e) (λ yes. IsTrue yes ↔ IsEntrySound d o fresh e) _ (λ yes t. (
      λ k. record {
        stands = subst (Stands d o) c.frame.ensures (c.frame_stands.ensures.0 c.if-not-frame_stands.false);
        framed = c.in_ok-is_framed_or_whole.ensures.0 c.if-not-branch.false;
        within = t.0 k;
      },
      λ s. t.1 s.within,
    )) c.lies_in.ensures
