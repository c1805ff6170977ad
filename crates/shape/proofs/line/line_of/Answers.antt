use Rattle.std.proofs.Common.{◌∙◌, ap, sym, subst, List, ◌++◌, flat_map, length, arith}
use Rattle.plane_terms.specs.Lists.{Every}
use Rattle.plane_terms.specs.Point.{Place, IsInReach}
use Rattle.plane_terms.specs.Rectangle.{Rectangle}
use Rattle.plane_terms.specs.Segment.{Segment, IsSegment}
use Rattle.plane_terms.specs.Shape.{path, vertices_of, envelope_of}
use Rattle.shape.specs.Given.{Ring, rings_in, all_vertices}
use Rattle.shape.specs.Counts.{IsFull}
use Rattle.shape.specs.Form.{line_shape}
use Rattle.shape.specs.Frames.{AreFrames}
use Rattle.shape.specs.Parts.{frames_in}
use Rattle.shape.proofs.Filled.{line_vertices}
use Rattle.shape.proofs.Made.{line_drawn, line_flawless}
use Rattle.shape.proofs.line.line_of.Goals as goal

pub count_vertices-count-requires : goal.count_vertices-count-requires
count_vertices-count-requires c =
    let same = ap (λ (qs : List Ring). length (all_vertices (rings_in qs))) c.deref-2.ensures.value in
    omega (arith, c.requires.countable.vertices, ap (λ (vs : List Place). length vs) (line_vertices c.args.parts.items), same)

pub returns-clause-drawn : goal.returns-clause-drawn
returns-clause-drawn c =
    let ps = c.args.parts.items in
    let full = subst (λ (qs : List Ring). IsFull (line_shape qs)) c.deref.ensures.value c.in_ok-check_line.ensures.full in
    let reach =
    subst (λ (qs : List Ring). Every IsInReach (vertices_of (line_shape qs))) c.deref-6.ensures.value c.box_of_line-env.ensures.reach in
    let segs =
    c.in_ok-push_paths.ensures
    ∙ ap (λ (ss : List Segment). ss ++ flat_map path (rings_in c.deref-3.result.now)) c.in_ok-segs.ensures
    ∙ ap (λ (qs : List Ring). flat_map path (rings_in qs)) c.deref-3.ensures.value in
    line_drawn ps c.push_paths.new.segs.items c.box_of_line-env.result (frames_in c.in_ok-of.field-0) full c.requires.differ reach segs (c.box_of_line-env.ensures.value
    ∙ ap (λ (qs : List Ring). envelope_of (line_shape qs)) c.deref-6.ensures.value)
    (subst (Every IsSegment) c.deref-4.ensures.value c.segments_law.ensures)
    (subst (λ (rs : List Rectangle). AreFrames rs c.push_paths.new.segs.items) (sym c.in_ok-of.ensures.frames)
    (subst (AreFrames c.in_ok-frames.frames.items) c.deref-5.ensures.value c.in_ok-frames.ensures))

pub returns-clause-flawless : goal.returns-clause-flawless
returns-clause-flawless c =
    line_flawless c.args.parts.items
    (subst (λ (qs : List Ring). IsFull (line_shape qs)) c.deref.ensures.value c.in_ok-check_line.ensures.full)
