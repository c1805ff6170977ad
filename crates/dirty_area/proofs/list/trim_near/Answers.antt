use Rattle.std.proofs.Common.{refl, ◌∙◌, get_or, arith}
use Rattle.dirty_area.specs.Blocks.{runs}
use Rattle.dirty_area.proofs.Indexes.{within_length}
use Rattle.dirty_area.proofs.Joins.{length_runs}
use Rattle.dirty_area.proofs.Sweeps.{place_meets}
use Rattle.dirty_area.proofs.Trims.{next_taken, all_taken}
use Rattle.dirty_area.proofs.list.trim_near.Goals as goal

pub trim-requires-clause-place : goal.trim-requires-clause-place
trim-requires-clause-place c =
    let bs = c.args.blocks.now.items in
    let p = get_or c.args.places.now c.loop-place.place-index 0 in
    let near = place_meets (runs bs) c.args.r.now c.args.places.now c.loop-place.place-index 0 c.loop-place-test.true c.requires.places in
    omega (arith, within_length (runs bs) p near.0 near.1, length_runs bs, c.loop-place.invariant.len)

pub loop-place-preserved : goal.loop-place-preserved
loop-place-preserved c =
    let h = c.loop-place.invariant in
    let bs = c.args.blocks.now.items in
    let cs = c.loop-place.blocks.items in
    let p = get_or c.args.places.now c.loop-place.place-index 0 in
    let near = place_meets (runs bs) c.args.r.now c.args.places.now c.loop-place.place-index 0 c.loop-place-test.true c.requires.places in
    record {
      taken = next_taken c.args.r.now (runs bs) c.args.places.now (runs cs) p
          (omega (arith, within_length (runs bs) p near.0 near.1, length_runs bs, length_runs cs, h.len)) c.loop-place.place-index (runs c.trim.new.blocks.items)
          c.loop-place-test.true refl h.taken c.trim.ensures.trimmed;
      room = λ n k. c.trim.ensures.room n (h.room n k);
      len = c.trim.ensures.len ∙ h.len;
      indexed = c.trim.ensures.indexed;
      number = c.trim.ensures.number;
    }

pub returns-clause-held : goal.returns-clause-held
returns-clause-held c = all_taken c.args.r.now (runs c.args.blocks.now.items) c.args.places.now c.loop-place.place-index (runs c.loop-place.blocks.items)
    (omega arith) c.requires.rects c.requires.places c.loop-place.invariant.taken
