use Rattle.std.proofs.Common.{◌∙◌, ap, sym, subst, List, Vec, ◌++◌, flat_map, length, arith, ℕ, refl}
use Rattle.std.specs.Global.{Global}
use Rattle.plane_terms.specs.Lists.{Every, EveryPair}
use Rattle.plane_terms.specs.Point.{IsInReach}
use Rattle.plane_terms.specs.Rectangle.{Rectangle}
use Rattle.plane_terms.specs.Segment.{Segment, IsSegment}
use Rattle.plane_terms.specs.Shape.{closed_path, vertices_of, segments_of, envelope_of, AreSimple}
use Rattle.shape.specs.Given.{Ring, polygons_in, all_rings}
use Rattle.shape.specs.Kept.{IsClosing}
use Rattle.shape.specs.Counts.{IsFull}
use Rattle.plane_terms.specs.ShapeFaults.{IsPair, AreBad, IsFault}
use Rattle.shape.specs.Frames.{AreFrames}
use Rattle.shape.specs.Parts.{frames_in}
use Rattle.shape.specs.Form.{polygon_shape}
use Rattle.shape.specs.Pairs.{IsPairFault}
use Rattle.shape.proofs.Made.{in_parts, segments_count, polygon_drawn, full_flawless, pair_fault}
use Rattle.shape.proofs.Results.{err_from}
use Rattle.shape.proofs.polygon.polygon_of.Goals as goal

pub push_polygons-requires : goal.push_polygons-requires
push_polygons-requires c =
    let full =
    subst (λ (qs : List (Vec Ring Global)). IsFull (polygon_shape qs)) c.deref.ensures.value c.in_ok-check_polygon.ensures.full in
    subst (λ (qs : List (Vec Ring Global)). Every (Every IsClosing) (polygons_in qs)) (sym c.deref-3.ensures.value)
    (in_parts (polygons_in c.args.parts.items) (c.requires.closing full))

pub check_pairs-requires-clause-few : goal.check_pairs-requires-clause-few
check_pairs-requires-clause-few c =
    let full =
    subst (λ (qs : List (Vec Ring Global)). IsFull (polygon_shape qs)) c.deref.ensures.value c.in_ok-check_polygon.ensures.full in
    let segs =
    c.in_ok-push_polygons.ensures
    ∙ ap (λ (ss : List Segment). ss ++ flat_map closed_path (all_rings (polygons_in c.deref-3.result.now))) c.in_ok-segs.ensures
    ∙ ap (λ (qs : List (Vec Ring Global)). flat_map closed_path (all_rings (polygons_in qs))) c.deref-3.ensures.value in
    omega (
      arith,
      full.few,
      segments_count (all_rings (polygons_in c.args.parts.items)),
      ap (λ (ss : List Segment). length ss) (c.deref-5.ensures.value ∙ segs),
    )

pub returns-in_err-check_pairs-clause-refused : goal.returns-in_err-check_pairs-clause-refused
returns-in_err-check_pairs-clause-refused c =
    let full =
    subst (λ (qs : List (Vec Ring Global)). IsFull (polygon_shape qs)) c.deref.ensures.value c.in_ok-check_polygon.ensures.full in
    let segs =
    c.in_ok-push_polygons.ensures
    ∙ ap (λ (ss : List Segment). ss ++ flat_map closed_path (all_rings (polygons_in c.deref-3.result.now))) c.in_ok-segs.ensures
    ∙ ap (λ (qs : List (Vec Ring Global)). flat_map closed_path (all_rings (polygons_in qs))) c.deref-3.ensures.value in
    let fault = c.in_err-check_pairs.field-0.0 in
    let h : IsPairFault (segments_of (polygon_shape c.args.parts.items)) fault =
    subst (λ (ss : List Segment). IsPairFault ss fault) (c.deref-5.ensures.value ∙ segs) c.in_err-check_pairs.ensures.refused in
    err_from c.from_residual-in_err-check_pairs.result fault (λ e. IsFault (polygon_shape c.args.parts.items) e)
    c.from_residual-in_err-check_pairs.ensures.1 (pair_fault (polygon_shape c.args.parts.items) refl full fault h)

pub returns-clause-drawn : goal.returns-clause-drawn
returns-clause-drawn c =
    let ps = c.args.parts.items in
    let full =
    subst (λ (qs : List (Vec Ring Global)). IsFull (polygon_shape qs)) c.deref.ensures.value c.in_ok-check_polygon.ensures.full in
    let segs =
    c.in_ok-push_polygons.ensures
    ∙ ap (λ (ss : List Segment). ss ++ flat_map closed_path (all_rings (polygons_in c.deref-3.result.now))) c.in_ok-segs.ensures
    ∙ ap (λ (qs : List (Vec Ring Global)). flat_map closed_path (all_rings (polygons_in qs))) c.deref-3.ensures.value in
    let reach =
    subst (λ (qs : List (Vec Ring Global)). Every IsInReach (vertices_of (polygon_shape qs))) c.deref-8.ensures.value
    c.box_of_polygon-env.ensures.reach in
    let simple = subst (λ (ss : List Segment). EveryPair AreSimple ss) c.deref-5.ensures.value c.in_ok-check_pairs.ensures.simple in
    polygon_drawn ps c.push_polygons.new.segs.items c.box_of_polygon-env.result (frames_in c.in_ok-of.field-0) full (c.requires.closing full) reach segs simple
    (c.box_of_polygon-env.ensures.value ∙ ap (λ (qs : List (Vec Ring Global)). envelope_of (polygon_shape qs)) c.deref-8.ensures.value)
    (subst (Every IsSegment) c.deref-7.ensures.value c.segments_law.ensures)
    (subst (λ (rs : List Rectangle). AreFrames rs c.push_polygons.new.segs.items) (sym c.in_ok-of.ensures.frames)
    (subst (AreFrames c.in_ok-frames.frames.items) c.deref-4.ensures.value c.in_ok-frames.ensures))

pub returns-clause-flawless : goal.returns-clause-flawless
returns-clause-flawless c =
    let full =
    subst (λ (qs : List (Vec Ring Global)). IsFull (polygon_shape qs)) c.deref.ensures.value c.in_ok-check_polygon.ensures.full in
    let segs =
    c.in_ok-push_polygons.ensures
    ∙ ap (λ (ss : List Segment). ss ++ flat_map closed_path (all_rings (polygons_in c.deref-3.result.now))) c.in_ok-segs.ensures
    ∙ ap (λ (qs : List (Vec Ring Global)). flat_map closed_path (all_rings (polygons_in qs))) c.deref-3.ensures.value in
    full_flawless (polygon_shape c.args.parts.items) full
    (λ _. subst (λ (ss : List Segment). (i j : ℕ) → ¬ (IsPair AreBad ss i j)) (c.deref-5.ensures.value
    ∙ segs) c.in_ok-check_pairs.ensures.none)
