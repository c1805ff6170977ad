use Rattle.std.proofs.Common.{sym, ◌∙◌, subst}
use Rattle.std.proofs.lemmas.Bool.{false≢true}
use Rattle.plane_terms.specs.Rectangle.{RectsMeet}
use Rattle.plane_terms.specs.Segment.{box_of}
use Rattle.cell_laws.proofs.Meeting.{NoneShared}
use Rattle.plane_terms.specs.declared.share.Share.TheVariants.{Nothing, Along, Cross, Touch}
use Rattle.cell_laws.proofs.Envelope.{apart_by_box}
use Rattle.cell_laws.proofs.Shares.{Means, share_of-means, means_one, exactly, none_shared}
use Rattle.grid_plane.proofs.seg.Seg.shares.Goals as goal

-- where the envelopes are apart
apart : (c : goal.Then-not-meets) → NoneShared c.args.self.now c.args.other.now
apart c =
    let s = c.args.self.now in
    let t = c.args.other.now in
    apart_by_box s t c.env.ensures.valid.proper c.env-2.ensures.valid.proper (λ (k : RectsMeet (box_of s) (box_of t)). false≢true
    (sym c.if-not-meets.true ∙ c.meets.ensures.meaning.1 (rw (c.env.ensures.value, c.env-2.ensures.value) k)))

pub returns-then-not-meets-clause-value : goal.returns-then-not-meets-clause-value
returns-then-not-meets-clause-value c =
    means_one Nothing _ _ _ (apart c)
    (share_of-means c.args.self.now c.args.other.now c.env.ensures.valid.proper c.env-2.ensures.valid.proper)

pub returns-then-not-meets-clause-nothing : goal.returns-then-not-meets-clause-nothing
returns-then-not-meets-clause-nothing c = none_shared Nothing _ _ (exactly Nothing _ _ (apart c) Nothing)

pub returns-then-not-meets-clause-along : goal.returns-then-not-meets-clause-along
returns-then-not-meets-clause-along c = exactly Nothing _ _ (apart c) Along

pub returns-then-not-meets-clause-cross : goal.returns-then-not-meets-clause-cross
returns-then-not-meets-clause-cross c = exactly Nothing _ _ (apart c) Cross

pub returns-then-not-meets-clause-touch : goal.returns-then-not-meets-clause-touch
returns-then-not-meets-clause-touch c = exactly Nothing _ _ (apart c) Touch

-- where they meet
meant : (c : goal.After-decide) → Means c.decide.result c.args.self.now c.args.other.now
meant c =
    let s = c.args.self.now in
    let t = c.args.other.now in
    subst (λ r. Means r s t) (sym c.decide.ensures.value) (share_of-means s t c.env.ensures.valid.proper c.env-2.ensures.valid.proper)

pub returns-clause-nothing : goal.returns-clause-nothing
returns-clause-nothing c = none_shared c.decide.result _ _ (exactly c.decide.result _ _ (meant c) Nothing)

pub returns-clause-along : goal.returns-clause-along
returns-clause-along c = exactly c.decide.result _ _ (meant c) Along

pub returns-clause-cross : goal.returns-clause-cross
returns-clause-cross c = exactly c.decide.result _ _ (meant c) Cross

pub returns-clause-touch : goal.returns-clause-touch
returns-clause-touch c = exactly c.decide.result _ _ (meant c) Touch
