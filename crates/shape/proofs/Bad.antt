-- Bad pairs, by what the segments share.
use Rattle.std.proofs.Common.{◌≡◌, ℕ, zero, suc, true, ◌⊎◌, inl, inr, List, [], ◌∷◌, Some, refl, arith}
use Rattle.std.specs.List.{slice_get}
use Rattle.plane_terms.specs.Lists.{Every, EveryPair}
use Rattle.plane_terms.specs.Point.{Point}
use Rattle.plane_terms.specs.Rectangle.{rects_meet}
use Rattle.plane_terms.specs.Segment.{Segment, IsSegment, SharePoint, IsEndOf, box_of}
use Rattle.plane_terms.specs.Shape.{AreSimple}
use Rattle.plane_terms.specs.Share.{share_of, AreSame}
use Rattle.plane_terms.specs.declared.share.Share.{Share}
use Rattle.plane_terms.specs.declared.share.Share.TheVariants.{Nothing, Along, Cross, Touch}
use Rattle.cell_laws.proofs.Shares.{Means, share_of-means, end_same}
use Rattle.cell_laws.proofs.Envelope.{box_holds}
use Rattle.sound_laws.proofs.Meetings.{meets_test}
use Rattle.plane_terms.specs.ShapeFaults.{AreBad, IsPair}

-- ---- bad pairs have envelopes that meet
pub shared : (s t : Segment) → AreBad s t → SharePoint s t
shared s t (inl c) = (c.meet.at, c.meet.first, c.meet.second)
shared s t (inr o) = (o.p, o.p_on_s, o.p_on_t)

pub bad_boxes : (s t : Segment) → IsSegment s → IsSegment t → AreBad s t → rects_meet (box_of s) (box_of t) ≡ true
bad_boxes s t g h b =
    let p = shared s t b in meets_test (box_of s) (box_of t) (p.0, box_holds s p.0 g p.1, box_holds t p.0 h p.2)

-- ---- pairs that are not bad
simple_by : (r : Share) (s t : Segment) → Means r s t → ¬ (AreBad s t) → AreSimple s t
simple_by Nothing s t h n = record { apart = λ o. n (inr o); ends = record { each = λ p a b. absurd (h.never p a b) } }
simple_by Along s t h n = absurd (n (inr h))
simple_by Cross s t h n = absurd (n (inl h))
simple_by Touch s t h n = record { apart = λ o. n (inr o); ends = record { each = λ p a b. moved p (h.meet.only p a b) h.end } }
  where
    moved : (p : Point) → AreSame h.meet.at p → IsEndOf s h.meet.at ⊎ IsEndOf t h.meet.at → IsEndOf s p ⊎ IsEndOf t p
    moved p m (inl e) = inl (end_same s h.meet.at p m e)
    moved p m (inr e) = inr (end_same t h.meet.at p m e)

simple_with : (s : Segment) (ts : List Segment) → IsSegment s → Every IsSegment ts
    → ((j : ℕ) (t : Segment) → slice_get ts j ≡ Some t → ¬ (AreBad s t)) → Every (AreSimple s) ts
simple_with s [] g h f = tt
simple_with s (t ∷ ts) g h f =
    (simple_by (share_of s t) s t (share_of-means s t g h.0) (f zero t refl), simple_with s ts g h.1 (λ j u e. f (suc j) u e))

pub all_simple : (ss : List Segment) → Every IsSegment ss → ((i j : ℕ) → ¬ (IsPair AreBad ss i j)) → EveryPair AreSimple ss
all_simple [] h f = tt
all_simple (s ∷ ss) h f = (
  simple_with s ss h.0 h.1 (λ j t e b. f zero (suc j) (record { ordered = omega arith; s = s; t = t; first = refl; second = e; says = b })),
  all_simple ss h.1
      (λ i j p. f (suc i) (suc j)
      (record { ordered = omega (arith, p.ordered); s = p.s; t = p.t; first = p.first; second = p.second; says = p.says })),
)
