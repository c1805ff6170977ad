-- What is left of cells, carved by one list after another; and of a polygon's area, a polygon's boundary or a line.
use Rattle.std.proofs.Common.{◌≡◌, ◌↔◌, inl, inr, Bool, true, false, refl, List, [], ◌∷◌, map}
use Rattle.std.specs.Prelude.{flat_map, filter, cond}
use Rattle.plane_terms.specs.Lists.{Every, SomeOf}
use Rattle.plane_terms.specs.Point.{Point, point_at}
use Rattle.plane_terms.specs.Segment.{Segment, IsSegment, OnSegment, box_of}
use Rattle.plane_terms.specs.Cell.{Cell, InCell, InCells, HasPoint, HavePoints, on_segment, out_of_segment}
use Rattle.plane_terms.specs.Carve.{carve_of}
use Rattle.plane_terms.specs.Polygon.{IsInside, IsInClosure}
use Rattle.plane_terms.specs.declared.kind.Kind.{Kind}
use Rattle.plane_terms.specs.declared.kind.Kind.TheVariants as shapes
use Rattle.topology_terms.specs.Feature.{Feature, sides}
use Rattle.topology_terms.specs.Cells.{uncovered, inside, outside, out_of_segments, box_meets}
use Rattle.topology_terms.specs.Plans.{area_left, sides_left}
use Rattle.cell_laws.proofs.Lists.{all_append, some_append}
use Rattle.cell_laws.proofs.Meets.{carve_points, kept_have_points}
use Rattle.cell_laws.proofs.SegmentCells.{on_segment_points, out_of_segment_points}
use Rattle.cell_laws.proofs.Envelope.{box_holds}
use Rattle.cell_laws.proofs.OnLine.{on_lo}
use Rattle.column_laws.proofs.Exact.{inside_is_exact, outside_is_exact}
use Rattle.sound_laws.proofs.Meetings.{meets_test}
use Rattle.plane_terms.proofs.ListLemmas.{every_map}
use Rattle.rule_laws.proofs.Families.{IsFit}
use Rattle.rule_laws.proofs.Held.{line_held, closure_held}
use Rattle.rule_laws.proofs.None.{NoneRule, NoneThere}

-- ---- lists
pub some_flat : {A B : Type 0} (P : B → Type 0) (f : A → List B) (xs : List A) → SomeOf P (flat_map f xs) ↔ SomeOf (λ x. SomeOf P (f x)) xs
some_flat P f [] = (λ h. h, λ h. h)
some_flat P f (x ∷ xs) =
    let e = some_append P (f x) (flat_map f xs) in
    let k = some_flat P f xs in (
      λ h. elim (e.0 h) [ inl a ↦ inl a | inr b ↦ inr (k.0 b) ],
      λ h. elim h [ inl a ↦ e.1 (inl a) | inr b ↦ e.1 (inr (k.1 b)) ],
    )

pub every_flat : {A B : Type 0} (P : B → Type 0) (f : A → List B) (xs : List A) → Every P (flat_map f xs) ↔ Every (λ x. Every P (f x)) xs
every_flat P f [] = (λ h. h, λ h. h)
every_flat P f (x ∷ xs) =
    let e = all_append P (f x) (flat_map f xs) in
    let k = every_flat P f xs in
    (λ h. let m = e.0 h in (m.0, k.0 m.1), λ h. e.1 (h.0, k.1 h.1))

pub every_mapped : {A B : Type 0} (P : B → Type 0) (f : A → B) (xs : List A) → Every P (map {A = A} f xs) ↔ Every (λ x. P (f x)) xs
every_mapped P f [] = (λ h. h, λ h. h)
every_mapped P f (x ∷ xs) = let k = every_mapped P f xs in (λ h. (h.0, k.0 h.1), λ h. (h.0, k.1 h.1))

pub every_same : {A : Type 0} (U P Q : A → Type 0) → ((x : A) → U x → P x ↔ Q x) → (xs : List A) → Every U xs → Every P xs ↔ Every Q xs
every_same U P Q m [] u = (λ h. h, λ h. h)
every_same U P Q m (x ∷ xs) u =
    let a = m x u.0 in
    let k = every_same U P Q m xs u.1 in
    (λ h. (a.0 h.0, k.0 h.1), λ h. (a.1 h.0, k.1 h.1))

pub some_same_of : {A : Type 0} (U P Q : A → Type 0) → ((x : A) → U x → P x ↔ Q x) → (xs : List A) → Every U xs → SomeOf P xs ↔ SomeOf Q xs
some_same_of U P Q m [] u = (λ h. h, λ h. h)
some_same_of U P Q m (x ∷ xs) u =
    let a = m x u.0 in
    let k = some_same_of U P Q m xs u.1 in
    (λ h. elim h [ inl i ↦ inl (a.0 i) | inr i ↦ inr (k.0 i) ], λ h. elim h [ inl i ↦ inl (a.1 i) | inr i ↦ inr (k.1 i) ])

-- what is shared by all of a list comes out of it
pub some_out : {A : Type 0} (P : A → Type 0) (Q : Type 0) (xs : List A) → SomeOf (λ x. P x × Q) xs ↔ (SomeOf P xs × Q)
some_out P Q [] = (λ h. absurd h, λ h. h.0)
some_out P Q (x ∷ xs) =
    let k = some_out P Q xs in (
      λ h. elim h [ inl a ↦ (inl a.0, a.1) | inr b ↦ let m = k.0 b in (inr m.0, m.1) ],
      λ h. elim h.0 [ inl a ↦ inl (a, h.1) | inr b ↦ inr (k.1 (b, h.1)) ],
    )

-- none of a list, said of each and of the list
pub none_each : {A : Type 0} (P : A → Type 0) (xs : List A) → Every (λ x. ¬ (P x)) xs ↔ ¬ (SomeOf P xs)
none_each P [] = (λ h k. k, λ n. tt)
none_each P (x ∷ xs) =
    let k = none_each P xs in
    (λ h i. elim i [ inl a ↦ h.0 a | inr b ↦ k.0 h.1 b ], λ n. ((λ a. n (inl a)), k.1 (λ b. n (inr b))))

-- ---- carving in turn
pub uncovered_points : (cs : List Cell) (dss : List (List Cell)) (p : Point)
    → InCells (uncovered cs dss) p ↔ (InCells cs p × Every (λ ds. InCells ds p) dss)
uncovered_points cs [] p = (λ h. (h, tt), λ h. h.0)
uncovered_points cs (ds ∷ dss) p =
    let k = uncovered_points (carve_of cs ds) dss p in
    let m = carve_points cs ds p in (
      λ h. let a = k.0 h in let b = m.0 a.0 in (b.0, (b.1, a.1)),
      λ h. k.1 (m.1 (h.0, h.1.0), h.1.1),
    )

pub uncovered_have_points : (cs : List Cell) (dss : List (List Cell)) → HavePoints cs → HavePoints (uncovered cs dss)
uncovered_have_points cs [] h = h
uncovered_have_points cs (ds ∷ dss) h = uncovered_have_points (carve_of cs ds) dss (kept_have_points _)

-- ---- area
pub outside_points : (g : Feature) (p : Point) → IsFit shapes.Polygon g → InCells (outside g) p ↔ ¬ (IsInClosure (sides g) p)
outside_points g p u =
    let e = outside_is_exact (sides g) (u.simple u.kind) p in (
      λ h k. let o = e.0 h in elim k [ inl i ↦ o.even i.odd | inr b ↦ o.clear b ],
      λ n. e.1 (record { clear = λ b. n (inr b); even = λ o. n (inl (record { clear = λ b. n (inr b); odd = o })) }),
    )

area_points : (f : Feature) (gs : List Feature) (p : Point) → IsFit shapes.Polygon f → Every (IsFit shapes.Polygon) gs
    → InCells (area_left f gs) p ↔ NoneThere (λ f p. IsInside (sides f) p) (λ g p. IsInClosure (sides g) p) f gs p
area_points f gs p u v =
    let x = uncovered_points (inside f) (map {A = Feature} outside gs) p in
    let i = inside_is_exact (sides f) (u.simple u.kind) p in
    let m = every_mapped (λ ds. InCells ds p) outside gs in
    let o = every_same (IsFit shapes.Polygon) (λ g. InCells (outside g) p) (λ g. ¬ (IsInClosure (sides g) p))
    (λ g w. outside_points g p w) gs v in (
      λ h. let y = x.0 h in (i.0 y.0, o.0 (m.0 y.1)),
      λ h. x.1 (i.1 h.0, m.1 (o.1 h.1)),
    )

-- rules 4 and 5: inside the subject, and closed in none of those around it
pub area_rule : NoneRule shapes.Polygon shapes.Polygon (λ f p. IsInside (sides f) p) (λ g p. IsInClosure (sides g) p) area_left
area_rule = record {
  held_a = λ f p u h. closure_held f p u (inl h);
  held_b = λ g p u h. closure_held g p u h;
  exact = area_points;
  some = λ f gs u v. uncovered_have_points (inside f) (map {A = Feature} outside gs) (kept_have_points _);
}

-- ---- boundaries and lines
pub segment_has_point : (s : Segment) → IsSegment s → HasPoint (on_segment s)
segment_has_point s g = (point_at s.lo, (on_segment_points s (point_at s.lo) g).1 (on_lo s))

pub one_cell : (c : Cell) (p : Point) → InCells (c ∷ []) p ↔ InCell c p
one_cell c p = (λ h. elim h [ inl a ↦ a | inr b ↦ absurd b ], λ a. inl a)

boxes_share : (s t : Segment) (p : Point) → IsSegment s → IsSegment t → OnSegment s p → OnSegment t p → box_meets s t ≡ true
boxes_share s t p g h o k = meets_test (box_of s) (box_of t) (p, box_holds s p g o, box_holds t p h k)

-- of the segments that were not left out, and so of all
out_picked : (s t : Segment) (ts : List Segment) (p : Point) (b : Bool) → box_meets s t ≡ b → IsSegment s → IsSegment t → OnSegment s p
    → (Every (λ ds. InCells ds p) (map {A = Segment} out_of_segment (filter (box_meets s) ts)) ↔ Every (λ t. ¬ (OnSegment t p)) ts)
    → Every (λ ds. InCells ds p) (map {A = Segment} out_of_segment (cond b (t ∷ filter (box_meets s) ts) (filter (box_meets s) ts))) ↔
    (¬ (OnSegment t p) × Every (λ t. ¬ (OnSegment t p)) ts)
out_picked s t ts p true e g h o rest =
    let x = out_of_segment_points t p h in
    (λ k. (x.0 k.0, rest.0 k.1), λ k. (x.1 k.0, rest.1 k.1))
out_picked s t ts p false e g h o rest =
    (λ k. ((λ i. let m = boxes_share s t p g h o i in absurd cc), rest.0 k), λ k. rest.1 k.1)

pub out_points : (s : Segment) (ts : List Segment) (p : Point) → IsSegment s → Every IsSegment ts → OnSegment s p
    → Every (λ ds. InCells ds p) (out_of_segments s ts) ↔ Every (λ t. ¬ (OnSegment t p)) ts
out_points s [] p g u o = (λ h. h, λ h. h)
out_points s (t ∷ ts) p g u o = out_picked s t ts p (box_meets s t) refl g u.0 o (out_points s ts p g u.1 o)

module _ (k l : Kind) where
  side_points : (s : Segment) (gs : List Feature) (p : Point) → IsSegment s → Every (IsFit l) gs
      → InCells (uncovered (on_segment s ∷ []) (flat_map (λ (g : Feature). out_of_segments s (sides g)) gs)) p ↔
      (OnSegment s p × Every (λ (g : Feature). ¬ (SomeOf (λ t. OnSegment t p) (sides g))) gs)
  side_points s gs p g v =
      let x = uncovered_points (on_segment s ∷ []) (flat_map (λ (g : Feature). out_of_segments s (sides g)) gs) p in
      let c = one_cell (on_segment s) p in
      let on = on_segment_points s p g in
      let flat = every_flat (λ ds. InCells ds p) (λ (g : Feature). out_of_segments s (sides g)) gs in
      let each : OnSegment s p
      → Every (λ (g : Feature). Every (λ ds. InCells ds p) (out_of_segments s (sides g))) gs ↔ Every
      (λ (g : Feature). ¬ (SomeOf (λ t. OnSegment t p) (sides g))) gs =
      λ o. every_same (IsFit l) (λ (g : Feature). Every (λ ds. InCells ds p) (out_of_segments s (sides g)))
      (λ (g : Feature). ¬ (SomeOf (λ t. OnSegment t p) (sides g))) (λ h w.
      let a = out_points s (sides h) p g w.proper o in
      let b = none_each (λ t. OnSegment t p) (sides h) in
      (λ i. b.0 (a.0 i), λ i. a.1 (b.1 i))) gs v in (
        λ h. let y = x.0 h in let o = on.0 (c.0 y.0) in (o, (each o).0 (flat.0 y.1)),
        λ h. x.1 (c.1 (on.1 h.0), flat.1 ((each h.0).1 h.1)),
      )

  sides_points : (f : Feature) (gs : List Feature) (p : Point) → IsFit k f → Every (IsFit l) gs
      → InCells (sides_left f gs) p ↔ NoneThere (λ f p. SomeOf (λ s. OnSegment s p) (sides f))
      (λ g p. SomeOf (λ t. OnSegment t p) (sides g)) f gs p
  sides_points f gs p u v =
      let none : Type 0 = Every (λ (g : Feature). ¬ (SomeOf (λ t. OnSegment t p) (sides g))) gs in
      let left : Segment → List Cell = λ s. uncovered (on_segment s ∷ []) (flat_map (λ (g : Feature). out_of_segments s (sides g)) gs) in
      let flat = some_flat (λ c. InCell c p) left (sides f) in
      let each = some_same_of IsSegment (λ s. InCells (left s) p) (λ s. OnSegment s p × none) (λ s g. side_points s gs p g v)
      (sides f) u.proper in
      let out = some_out (λ s. OnSegment s p) none (sides f) in
      (λ h. out.0 (each.0 (flat.0 h)), λ h. flat.1 (each.1 (out.1 h)))

  -- rules 6, 7, 16 and 17: on a segment of the subject, and on none of those around it
  pub sides_rule : NoneRule k l (λ f p. SomeOf (λ s. OnSegment s p) (sides f)) (λ g p. SomeOf (λ t. OnSegment t p) (sides g)) sides_left
  sides_rule = record {
    held_a = λ f p u h. line_held f p h;
    held_b = λ g p u h. line_held g p h;
    exact = sides_points;
    some = λ f gs u v. (every_flat HasPoint
        (λ (s : Segment). uncovered (on_segment s ∷ []) (flat_map (λ (g : Feature). out_of_segments s (sides g)) gs)) (sides f)).1
        (every_map IsSegment (λ s.
        HavePoints (uncovered (on_segment s ∷ []) (flat_map (λ (g : Feature). out_of_segments s (sides g)) gs)))
        (λ s g. uncovered_have_points (on_segment s ∷ []) (flat_map (λ (g : Feature). out_of_segments s (sides g)) gs)
        (segment_has_point s g, tt)) (sides f) u.proper);
  }
