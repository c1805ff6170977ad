use Rattle.std.proofs.Common.{◌≡◌, ◌-◌, ◌∙◌, ap, take, length, arith}
use Rattle.std.specs.Prelude.{flat_map}
use Rattle.plane_terms.specs.Shape.{path, closed_path}
use Rattle.shape.specs.Given.{rings_in}
use Rattle.shape.proofs.Made.{closed_count}
use Rattle.rule_loops.proofs.Parts.{closed_taken, part_fits, own_taken, later_left, paths_more}
use Rattle.rule_loops.proofs.own.open_paths.Goals as goal

pub split_at-requires : goal.split_at-requires
split_at-requires c =
    let r = c.ring-item.result in
    let m : length (closed_path r.items) ≡ c.len.result = omega (arith, r.ok, closed_count r.items) in
    part_fits closed_path c.args.rings.now c.loop-ring.ring-index r c.loop-ring-test.true c.ring-item.is c.loop-ring.rest.now
    c.len.result c.loop-ring.invariant.rest m

pub loop-ring-preserved : goal.loop-ring-preserved
loop-ring-preserved c =
    let P = c.args.rings.now in
    let k = c.loop-ring.ring-index in
    let r = c.ring-item.result in
    let l = c.loop-ring-test.true in
    let e = c.ring-item.is in
    let rest = c.loop-ring.rest.now in
    let n = c.len.result in
    let m : length (closed_path r.items) ≡ n = omega (arith, r.ok, closed_count r.items) in
    let h = c.loop-ring.invariant.rest in
    let own = c.split_at.ensures.front ∙ own_taken closed_path P k r l e rest n h m in
    let i = c.saturating_sub.result in
    let less : i ≡ length r.items - 1 = omega (arith, r.ok) in
    let kept = c.split_at-in-loop-ring.ensures.front ∙ (ap (take i) own ∙ closed_taken r.items i less) in
    record {
      rest = c.split_at.ensures.back ∙ later_left closed_path P k r l e rest n h m;
      opened = paths_more P k r l e c.loop-ring.opened.items c.split_at-in-loop-ring.result.0.now c.push_segments.new.segments.items
          (flat_map path (rings_in P)) kept c.in_ok-push_segments.ensures c.loop-ring.invariant.opened;
    }
