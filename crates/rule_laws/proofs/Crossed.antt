-- The points of pairs of segments: of two lines, and of one line with itself.
use Rattle.std.proofs.Common.{◌≡◌, ◌↔◌, ◌⊎◌, inl, inr, Bool, true, false, refl, sym, ◌∙◌, List, [], ◌∷◌, ◌++◌, map, cond}
use Rattle.std.specs.Prelude.{filter, flat_map}
use Rattle.std.proofs.lemmas.Bool.{false≢true}
use Rattle.plane_terms.specs.Lists.{Every, SomeOf, SomePair}
use Rattle.plane_terms.specs.Point.{Place, Point, IsAt}
use Rattle.plane_terms.specs.Segment.{Segment, IsSegment, OnSegment, Overlap, overlap}
use Rattle.plane_terms.specs.Line.{holds_place}
use Rattle.plane_terms.specs.Cell.{Cell, InCell, InCells, HasPoint, HavePoints, meet_of, on_segment, out_of_place}
use Rattle.plane_terms.specs.Shape.{path, rings_of, segments_by}
use Rattle.plane_terms.specs.declared.kind.Kind.{Kind}
use Rattle.plane_terms.specs.declared.kind.Kind.TheVariants as shapes
use Rattle.topology_terms.specs.Feature.{Feature, sides}
use Rattle.topology_terms.specs.Cells.{in_common, along, on_both, off_places, each_pair, each_later, crossings_of, in_part, later_crossings}
use Rattle.topology_terms.specs.Together.{ends}
use Rattle.topology_terms.specs.Tests.{has_end_at}
use Rattle.topology_terms.specs.Plans.{common_stretches, common_inner, common_but_ends, own_stretches, own_crossings}
use Rattle.cell_laws.proofs.Lists.{all_append, some_append}
use Rattle.cell_laws.proofs.Meets.{meet_points, kept_points, kept_have_points}
use Rattle.cell_laws.proofs.Outside.{out_of_place_points}
use Rattle.cell_laws.proofs.SegmentCells.{on_segment_points}
use Rattle.rule_laws.proofs.Words.{BothOn, Runs, OnSides, Stretch, BothInner, BothNotEnds, Overlay, MeetsLater, PartCrosses, Crosses, Crossing}
use Rattle.rule_laws.proofs.Families.{IsFit}
use Rattle.rule_laws.proofs.Held.{line_held}
use Rattle.rule_laws.proofs.Uncovered.{some_flat, some_same_of, none_each, uncovered_points, uncovered_have_points, one_cell}
use Rattle.rule_laws.proofs.Tests.{overlap_test, place_test, end_test}
use Rattle.rule_laws.proofs.Pairs.{PairRule}
use Rattle.rule_laws.proofs.Alone.{AloneRule}

-- ---- two segments
pub in_common_points : (s t : Segment) (p : Point) → IsSegment s → IsSegment t → InCells (in_common s t) p ↔ BothOn p s t
in_common_points s t p g h =
    let a = kept_points (meet_of (on_segment s) (on_segment t) ∷ []) p in
    let b = one_cell (meet_of (on_segment s) (on_segment t)) p in
    let c = meet_points (on_segment s) (on_segment t) p in
    let d = on_segment_points s p g in
    let e = on_segment_points t p h in
    (λ k. let m = c.0 (b.0 (a.0 k)) in (d.0 m.0, e.0 m.1), λ k. a.1 (b.1 (c.1 (d.1 k.0, e.1 k.1))))

by_overlap : (s t : Segment) (p : Point) (b : Bool) → overlap s t ≡ b → IsSegment s → IsSegment t → (cs : List Cell) (P : Type 0)
    → InCells cs p ↔ P → InCells (cond b cs []) p ↔ (Overlap s t × P)
by_overlap s t p true e g h cs P m = (λ i. ((overlap_test s t g h).0 e, m.0 i), λ i. m.1 i.1)
by_overlap s t p false e g h cs P m = (λ i. absurd i, λ i. absurd (false≢true (sym e ∙ (overlap_test s t g h).1 i.0)))

along_points : (s t : Segment) (p : Point) → IsSegment s → IsSegment t → InCells (along s t) p ↔ Runs p s t
along_points s t p g h =
    let k = by_overlap s t p (overlap s t) refl g h (in_common s t) (BothOn p s t) (in_common_points s t p g h) in
    (λ i. let m = k.0 i in (m.0, m.1.0, m.1.1), λ r. k.1 (r.0, (r.1, r.2)))

some_cond : (b : Bool) (cs : List Cell) → HavePoints cs → HavePoints (cond b cs [])
some_cond true cs h = h
some_cond false cs h = tt

along_have_points : (s t : Segment) → HavePoints (along s t)
along_have_points s t = some_cond (overlap s t) (in_common s t) (kept_have_points (meet_of (on_segment s) (on_segment t) ∷ []))

-- of the places those on both are carved out, and the others are not there
off_picked : (s t : Segment) (q : Place) (qs : List Place) (p : Point) (b : Bool) → on_both s t q ≡ b → IsSegment s → IsSegment t
    → BothOn p s t → (Every (λ ds. InCells ds p) (map {A = Place} out_of_place (filter (on_both s t) qs)) ↔ Every (λ q. ¬ (IsAt q p)) qs)
    → Every (λ ds. InCells ds p) (map {A = Place} out_of_place (cond b (q ∷ filter (on_both s t) qs) (filter (on_both s t) qs))) ↔
    (¬ (IsAt q p) × Every (λ q. ¬ (IsAt q p)) qs)
off_picked s t q qs p true e g h o rest =
    let x = out_of_place_points q p in
    (λ k. (x.0 k.0, rest.0 k.1), λ k. (x.1 k.0, rest.1 k.1))
off_picked s t q qs p false e g h o rest =
    (λ k. ((λ a. false≢true (sym e ∙ both (place_test s q p g a o.0) (place_test t q p h a o.1))), rest.0 k), λ k. rest.1 k.1)
  where
    both : holds_place s q ≡ true → holds_place t q ≡ true → on_both s t q ≡ true
    both a b = rw (a, b) refl

off_each : (s t : Segment) (qs : List Place) (p : Point) → IsSegment s → IsSegment t → BothOn p s t
    → Every (λ ds. InCells ds p) (map {A = Place} out_of_place (filter (on_both s t) qs)) ↔ Every (λ q. ¬ (IsAt q p)) qs
off_each s t [] p g h o = (λ k. k, λ k. k)
off_each s t (q ∷ qs) p g h o = off_picked s t q qs p (on_both s t q) refl g h o (off_each s t qs p g h o)

pub off_points : (es : List Place) (s t : Segment) (p : Point) → IsSegment s → IsSegment t
    → InCells (off_places es s t) p ↔ (BothOn p s t × ¬ (SomeOf (λ q. IsAt q p) es))
off_points es s t p g h =
    let x = uncovered_points (in_common s t) (map {A = Place} out_of_place (filter (on_both s t) es)) p in
    let c = in_common_points s t p g h in
    let n = none_each (λ q. IsAt q p) es in (
      λ k. let y = x.0 k in let o = c.0 y.0 in (o, n.0 ((off_each s t es p g h o).0 y.1)),
      λ k. x.1 (c.1 k.0, (off_each s t es p g h k.0).1 (n.1 k.1)),
    )

pub off_have_points : (es : List Place) (s t : Segment) → HavePoints (off_places es s t)
off_have_points es s t =
    uncovered_have_points (in_common s t) (map {A = Place} out_of_place (filter (on_both s t) es))
    (kept_have_points (meet_of (on_segment s) (on_segment t) ∷ []))

-- ---- segments of two lists
module _ (cells : Segment → Segment → List Cell) (R : Segment → Segment → Type 0) (p : Point)
    (exact : (s t : Segment) → IsSegment s → IsSegment t → InCells (cells s t) p ↔ R s t) where
  row_points : (s : Segment) (ts : List Segment) → IsSegment s → Every IsSegment ts → InCells (flat_map (cells s) ts) p ↔ SomeOf (R s) ts
  row_points s ts g u =
      let a = some_flat (λ c. InCell c p) (cells s) ts in
      let b = some_same_of IsSegment (λ t. InCells (cells s t) p) (R s) (λ t h. exact s t g h) ts u in
      (λ k. b.0 (a.0 k), λ k. a.1 (b.1 k))

  each_pair_points : (ss ts : List Segment) → Every IsSegment ss → Every IsSegment ts
      → InCells (each_pair cells ss ts) p ↔ SomeOf (λ s. SomeOf (R s) ts) ss
  each_pair_points ss ts u v =
      let a = some_flat (λ c. InCell c p) (λ (s : Segment). flat_map (cells s) ts) ss in
      let b = some_same_of IsSegment (λ s. InCells (flat_map (cells s) ts) p) (λ s. SomeOf (R s) ts) (λ s g. row_points s ts g v) ss u in
      (λ k. b.0 (a.0 k), λ k. a.1 (b.1 k))

  each_later_points : (ss : List Segment) → Every IsSegment ss → InCells (each_later cells ss) p ↔ SomePair R ss
  each_later_points [] u = (λ k. k, λ k. k)
  each_later_points (s ∷ ss) u =
      let a = some_append (λ c. InCell c p) (flat_map (cells s) ss) (each_later cells ss) in
      let b = row_points s ss u.0 u.1 in
      let c = each_later_points ss u.1 in (
        λ k. elim (a.0 k) [ inl i ↦ inl (b.0 i) | inr i ↦ inr (c.0 i) ],
        λ k. elim k [ inl i ↦ a.1 (inl (b.1 i)) | inr i ↦ a.1 (inr (c.1 i)) ],
      )

have_append : (cs ds : List Cell) → HavePoints cs → HavePoints ds → HavePoints (cs ++ ds)
have_append cs ds h k = (all_append HasPoint cs ds).1 (h, k)

module _ (cells : Segment → Segment → List Cell) (have : (s t : Segment) → HavePoints (cells s t)) where
  row_have : (s : Segment) (ts : List Segment) → HavePoints (flat_map (cells s) ts)
  row_have s [] = tt
  row_have s (t ∷ ts) = have_append (cells s t) (flat_map (cells s) ts) (have s t) (row_have s ts)

  each_pair_have : (ss ts : List Segment) → HavePoints (each_pair cells ss ts)
  each_pair_have [] ts = tt
  each_pair_have (s ∷ ss) ts = have_append (flat_map (cells s) ts) (each_pair cells ss ts) (row_have s ts) (each_pair_have ss ts)

  each_later_have : (ss : List Segment) → HavePoints (each_later cells ss)
  each_later_have [] = tt
  each_later_have (s ∷ ss) = have_append (flat_map (cells s) ss) (each_later cells ss) (row_have s ss) (each_later_have ss)

some_along : (p : Point) (N : Type 0) (s : Segment) (ts : List Segment)
    → SomeOf (λ t. BothOn p s t × N) ts ↔ (OnSegment s p × SomeOf (λ t. OnSegment t p) ts × N)
some_along p N s [] = (λ h. absurd h, λ h. h.1)
some_along p N s (t ∷ ts) =
    let k = some_along p N s ts in (
      λ h. elim h [ inl i ↦ (i.0.0, inl i.0.1, i.1) | inr i ↦ let m = k.0 i in (m.0, inr m.1, m.2) ],
      λ h. elim h.1 [ inl o ↦ inl ((h.0, o), h.2) | inr o ↦ inr (k.1 (h.0, o, h.2)) ],
    )

-- a point of a segment of each
some_both : (p : Point) (N : Type 0) (ss ts : List Segment)
    → SomeOf (λ s. SomeOf (λ t. BothOn p s t × N) ts) ss ↔ (SomeOf (λ s. OnSegment s p) ss × SomeOf (λ t. OnSegment t p) ts × N)
some_both p N [] ts = (λ h. absurd h, λ h. h.0)
some_both p N (s ∷ ss) ts =
    let a = some_along p N s ts in
    let k = some_both p N ss ts in (
      λ h. elim h [ inl i ↦ let m = a.0 i in (inl m.0, m.1, m.2) | inr i ↦ let m = k.0 i in (inr m.0, m.1, m.2) ],
      λ h. elim h.0 [ inl o ↦ inl (a.1 (o, h.1, h.2)) | inr o ↦ inr (k.1 (o, h.1, h.2)) ],
    )

-- ---- rules 10 and 11
stretch_points : (f g : Feature) (p : Point) → IsFit shapes.Line f → IsFit shapes.Line g → InCells (common_stretches f g) p ↔ Stretch f g p
stretch_points f g p u v = each_pair_points along (Runs p) p (λ s t i j. along_points s t p i j) (sides f) (sides g) u.proper v.proper

some_weaker : {A : Type 0} (P Q : A → Type 0) → ((x : A) → P x → Q x) → (xs : List A) → SomeOf P xs → SomeOf Q xs
some_weaker P Q m [] h = h
some_weaker P Q m (x ∷ xs) h = elim h [ inl i ↦ inl (m x i) | inr i ↦ inr (some_weaker P Q m xs i) ]

some_any : {A : Type 0} (P : A → Type 0) (Q : Type 0) → ((x : A) → P x → Q) → (xs : List A) → SomeOf P xs → Q
some_any P Q m [] h = absurd h
some_any P Q m (x ∷ xs) h = elim h [ inl i ↦ m x i | inr i ↦ some_any P Q m xs i ]

pub stretch_rule : PairRule shapes.Line shapes.Line Stretch common_stretches
stretch_rule = record {
  held_a = λ f g p u v h.
      line_held f p (some_weaker (λ s. SomeOf (Runs p s) (sides g)) (λ s. OnSegment s p)
      (λ s i. some_any (Runs p s) (OnSegment s p) (λ t r. r.1) (sides g) i) (sides f) h);
  held_b = λ f g p u v h.
      line_held g p (some_any (λ s. SomeOf (Runs p s) (sides g)) (SomeOf (λ t. OnSegment t p) (sides g))
      (λ s i. some_weaker (Runs p s) (λ t. OnSegment t p) (λ t r. r.2) (sides g) i) (sides f) h);
  exact = stretch_points;
  some = λ f g u v. each_pair_have along along_have_points (sides f) (sides g);
}

-- ---- rules 12 and 13
off_pair_points : (es : List Place) (f g : Feature) (p : Point) → IsFit shapes.Line f → IsFit shapes.Line g
    → InCells (each_pair (off_places es) (sides f) (sides g)) p ↔ (OnSides f p × OnSides g p × ¬ (SomeOf (λ q. IsAt q p) es))
off_pair_points es f g p u v =
    let N : Type 0 = ¬ (SomeOf (λ q. IsAt q p) es) in
    let a = each_pair_points (off_places es) (λ s t. BothOn p s t × N) p (λ s t i j. off_points es s t p i j) (sides f)
    (sides g) u.proper v.proper in
    let b = some_both p N (sides f) (sides g) in
    (λ h. b.0 (a.0 h), λ h. a.1 (b.1 h))

inner_points : (f g : Feature) (p : Point) → IsFit shapes.Line f → IsFit shapes.Line g → InCells (common_inner f g) p ↔ BothInner f g p
inner_points f g p u v =
    let a = off_pair_points (ends f ++ ends g) f g p u v in
    let e = some_append (λ q. IsAt q p) (ends f) (ends g) in (
      λ h. let m = a.0 h in ((m.0, λ k. m.2 (e.1 (inl k))), (m.1, λ k. m.2 (e.1 (inr k)))),
      λ h. a.1 (h.0.0, h.1.0, λ k. elim (e.0 k) [ inl i ↦ h.0.1 i | inr i ↦ h.1.1 i ]),
    )

pub inner_rule : PairRule shapes.Line shapes.Line BothInner common_inner
inner_rule = record {
  held_a = λ f g p u v h. line_held f p h.0.0;
  held_b = λ f g p u v h. line_held g p h.1.0;
  exact = inner_points;
  some = λ f g u v. each_pair_have (off_places (ends f ++ ends g)) (off_have_points (ends f ++ ends g)) (sides f) (sides g);
}

-- of two lists, the places that are in both
shared_points : (p : Point) (fs gs : List Place)
    → SomeOf (λ q. IsAt q p) (filter (has_end_at gs) fs) ↔ (SomeOf (λ q. IsAt q p) fs × SomeOf (λ q. IsAt q p) gs)
shared_points p [] gs = (λ h. absurd h, λ h. h.0)
shared_points p (q ∷ fs) gs = picked (shared_points p fs gs) (has_end_at gs q) refl
  where
    picked : (SomeOf (λ q. IsAt q p) (filter (has_end_at gs) fs) ↔ (SomeOf (λ q. IsAt q p) fs × SomeOf (λ q. IsAt q p) gs)) → (b : Bool)
        → has_end_at gs q ≡ b
        → SomeOf (λ q. IsAt q p) (cond b (q ∷ filter (has_end_at gs) fs) (filter (has_end_at gs) fs)) ↔
        ((IsAt q p ⊎ SomeOf (λ q. IsAt q p) fs) × SomeOf (λ q. IsAt q p) gs)
    picked rest true e = (
      λ h. elim h [ inl a ↦ (inl a, (end_test gs q p a).0 e) | inr i ↦ let m = rest.0 i in (inr m.0, m.1) ],
      λ h. elim h.0 [ inl a ↦ inl a | inr i ↦ inr (rest.1 (i, h.1)) ],
    )
    picked rest false e = (
      λ h. let m = rest.0 h in (inr m.0, m.1),
      λ h. elim h.0 [ inl a ↦ absurd (false≢true (sym e ∙ (end_test gs q p a).1 h.1)) | inr i ↦ rest.1 (i, h.1) ],
    )

but_ends_points : (f g : Feature) (p : Point) → IsFit shapes.Line f → IsFit shapes.Line g
    → InCells (common_but_ends f g) p ↔ BothNotEnds f g p
but_ends_points f g p u v =
    let a = off_pair_points (filter (has_end_at (ends g)) (ends f)) f g p u v in
    let e = shared_points p (ends f) (ends g) in (
      λ h. let m = a.0 h in (m.0, m.1, λ k. m.2 (e.1 k)),
      λ h. a.1 (h.0, h.1, λ k. h.2 (e.0 k)),
    )

pub but_ends_rule : PairRule shapes.Line shapes.Line BothNotEnds common_but_ends
but_ends_rule = record {
  held_a = λ f g p u v h. line_held f p h.0;
  held_b = λ f g p u v h. line_held g p h.1;
  exact = but_ends_points;
  some = λ f g u v. each_pair_have (off_places (filter (has_end_at (ends g)) (ends f)))
      (off_have_points (filter (has_end_at (ends g)) (ends f))) (sides f) (sides g);
}

-- ---- rule 19
some_pair_on : (p : Point) (ss : List Segment) → SomePair (Runs p) ss → SomeOf (λ s. OnSegment s p) ss
some_pair_on p [] h = absurd h
some_pair_on p (s ∷ ss) h =
    elim h [ inl i ↦ inl (some_any (Runs p s) (OnSegment s p) (λ t r. r.1) ss i) | inr i ↦ inr (some_pair_on p ss i) ]

pub overlay_rule : (k l : Kind) → AloneRule k l (λ f gs p. Overlay f p) own_stretches
overlay_rule k l = record {
  held = λ f gs p u h. line_held f p (some_pair_on p (sides f) h);
  local = λ f gs hs p u v w m e h. h;
  exact = λ f gs p u v o. each_later_points along (Runs p) p (λ s t i j. along_points s t p i j) (sides f) u.proper;
  some = λ f gs u v. each_later_have along along_have_points (sides f);
}

-- ---- rule 20
module _ (es : List Place) (p : Point) where
  N : Type 0
  N = ¬ (SomeOf (λ q. IsAt q p) es)

  row_off : (s : Segment) (ts : List Segment) → IsSegment s → Every IsSegment ts
      → InCells (flat_map (off_places es s) ts) p ↔ (OnSegment s p × SomeOf (λ t. OnSegment t p) ts × N)
  unfolding N
  row_off s ts g u =
      let a = row_points (off_places es) (λ s t. BothOn p s t × N) p (λ s t i j. off_points es s t p i j) s ts g u in
      let b = some_along p N s ts in
      (λ h. b.0 (a.0 h), λ h. a.1 (b.1 h))

  crossings_points : (s : Segment) (ss later : List Segment) → IsSegment s → Every IsSegment ss → Every IsSegment later
      → InCells (crossings_of es s ss later) p ↔ (OnSegment s p × MeetsLater p s ss later × N)
  unfolding N
  crossings_points s [] later g u v = row_off s later g v
  crossings_points s (t ∷ ts) later g u v =
      let a = some_append (λ c. InCell c p) (cond (overlap s t) (off_places es s t) []) (flat_map (off_places es s) (ts ++ later)) in
      let b = by_overlap s t p (overlap s t) refl g u.0 (off_places es s t) (BothOn p s t × N) (off_points es s t p g u.0) in
      let c = row_off s (ts ++ later) g ((all_append IsSegment ts later).1 (u.1, v)) in (
        λ h. elim (a.0 h) [
          | inl i ↦ let m = b.0 i in (m.1.0.0, inl (m.0, m.1.0.1), m.1.1)
          | inr i ↦ let m = c.0 i in (m.0, inr m.1, m.2)
        ],
        λ h. elim h.1 [
          | inl i ↦ a.1 (inl (b.1 (i.0, ((h.0, i.1), h.2))))
          | inr i ↦ a.1 (inr (c.1 (h.0, i, h.2)))
        ],
      )

  part_points : (ss later : List Segment) → Every IsSegment ss → Every IsSegment later
      → InCells (in_part es ss later) p ↔ (PartCrosses p ss later × N)
  unfolding N
  part_points [] later u v = (λ h. absurd h, λ h. h.0)
  part_points (s ∷ ss) later u v =
      let a = some_append (λ c. InCell c p) (crossings_of es s ss later) (in_part es ss later) in
      let b = crossings_points s ss later u.0 u.1 v in
      let c = part_points ss later u.1 v in (
        λ h. elim (a.0 h) [ inl i ↦ let m = b.0 i in (inl (m.0, m.1), m.2) | inr i ↦ let m = c.0 i in (inr m.0, m.1) ],
        λ h. elim h.0 [ inl i ↦ a.1 (inl (b.1 (i.0, i.1, h.1))) | inr i ↦ a.1 (inr (c.1 (i, h.1))) ],
      )

  crosses_points : (rings : List (List Place)) → Every IsSegment (flat_map path rings)
      → InCells (later_crossings es rings) p ↔ (Crosses p rings × N)
  unfolding N
  crosses_points [] u = (λ h. absurd h, λ h. h.0)
  crosses_points (ring ∷ rings) u =
      let w = (all_append IsSegment (path ring) (flat_map path rings)).0 u in
      let a = some_append (λ c. InCell c p) (in_part es (path ring) (flat_map path rings)) (later_crossings es rings) in
      let b = part_points (path ring) (flat_map path rings) w.0 w.1 in
      let c = crosses_points rings w.1 in (
        λ h. elim (a.0 h) [ inl i ↦ let m = b.0 i in (inl m.0, m.1) | inr i ↦ let m = c.0 i in (inr m.0, m.1) ],
        λ h. elim h.0 [ inl i ↦ a.1 (inl (b.1 (i, h.1))) | inr i ↦ a.1 (inr (c.1 (i, h.1))) ],
      )

part_on : (p : Point) (ss later : List Segment) → PartCrosses p ss later → SomeOf (λ s. OnSegment s p) ss
part_on p [] later h = absurd h
part_on p (s ∷ ss) later h = elim h [ inl i ↦ inl i.0 | inr i ↦ inr (part_on p ss later i) ]

crosses_on : (p : Point) (rings : List (List Place)) → Crosses p rings → SomeOf (λ s. OnSegment s p) (flat_map path rings)
crosses_on p [] h = absurd h
crosses_on p (ring ∷ rings) h =
    let e = some_append (λ s. OnSegment s p) (path ring) (flat_map path rings) in
    elim h [ inl i ↦ e.1 (inl (part_on p (path ring) (flat_map path rings) i)) | inr i ↦ e.1 (inr (crosses_on p rings i)) ]

line_sides : (f : Feature) → f.shape.kind ≡ shapes.Line → sides f ≡ flat_map path (rings_of f.shape)
line_sides f e = by_kind f.shape.kind (rings_of f.shape) e
  where
    by_kind : (k : Kind) (rings : List (List Place)) → k ≡ shapes.Line → segments_by k rings ≡ flat_map path rings
    by_kind k rings e = rw e refl

part_have : (es : List Place) (ss later : List Segment) → HavePoints (in_part es ss later)
part_have es [] later = tt
part_have es (s ∷ []) later = have_append (flat_map (off_places es s) later) [] (row_have (off_places es) (off_have_points es) s later) tt
part_have es (s ∷ t ∷ ts) later =
    have_append (cond (overlap s t) (off_places es s t) [] ++ flat_map (off_places es s) (ts ++ later)) (in_part es (t ∷ ts) later)
    (have_append (cond (overlap s t) (off_places es s t) []) (flat_map (off_places es s) (ts ++ later))
    (some_cond (overlap s t) (off_places es s t) (off_have_points es s t))
    (row_have (off_places es) (off_have_points es) s (ts ++ later)))
    (part_have es (t ∷ ts) later)

crosses_have : (es : List Place) (rings : List (List Place)) → HavePoints (later_crossings es rings)
crosses_have es [] = tt
crosses_have es (ring ∷ rings) =
    have_append (in_part es (path ring) (flat_map path rings)) (later_crossings es rings)
    (part_have es (path ring) (flat_map path rings)) (crosses_have es rings)

pub crossing_rule : (l : Kind) → AloneRule shapes.Line l (λ f gs p. Crossing f p) own_crossings
unfolding N
crossing_rule l = record {
  held = λ f gs p u h. line_held f p (rw (line_sides f u.kind) (crosses_on p (rings_of f.shape) h.0));
  local = λ f gs hs p u v w m e h. h;
  exact = λ f gs p u v o. crosses_points (ends f) p (rings_of f.shape) (rw (line_sides f u.kind) at u.proper);
  some = λ f gs u v. crosses_have (ends f) (rings_of f.shape);
}
