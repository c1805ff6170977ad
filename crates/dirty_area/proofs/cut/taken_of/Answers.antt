use Rattle.std.proofs.Common.{◌≡◌, ◌≤◌, ◌<◌, ◌+◌, ◌++◌, sym, ap, ◌∙◌, subst, arith, drop, length, get_or}
use Rattle.std.proofs.lemmas.List.{get_or_default}
use Rattle.plane_terms.specs.Lists.{Every}
use Rattle.dirty_area.specs.declared.left.Change.{Change}
use Rattle.dirty_area.specs.Blocks.{runs, joined, all_rects}
use Rattle.dirty_area.specs.Cuts.{Left, between, patched}
use Rattle.dirty_area.specs.Parts.{IsDirt, IsPartway}
use Rattle.dirty_area.proofs.Indexes.{within_length}
use Rattle.dirty_area.proofs.Joins.{run_at, length_runs}
use Rattle.dirty_area.proofs.Runs.{begun}
use Rattle.dirty_area.proofs.Sweeps.{AreToCome, all_to_come, next_to_come, none_between, none_to_come, gone_beside, swept, place_meets, places_within}
use Rattle.dirty_area.proofs.cut.taken_of.Goals as goal

pub loop-place-init : goal.loop-place-init
loop-place-init c =
    let bs = c.args.blocks.now in
    let same = c.make_room.ensures in
    let few : c.make_room.new.self.next ≤ length bs = omega (arith, ap (λ (l : Left). l.next) same, c.new-dirt.ensures.next) in (
      ap (λ (l : Left). l.runs) same ∙ c.new-dirt.ensures.runs,
      ap (λ (l : Left). l.begun) same ∙ c.new-dirt.ensures.begun,
      few,
      rw (same, c.new-dirt.ensures.next) (all_to_come (runs bs) c.args.w.now c.args.places.now c.requires.meet),
      rw (same, c.new-dirt.ensures.next, c.new-dirt.ensures.left, c.in_ok-met.ensures.items, c.new-round.ensures)
          (begun (all_rects bs) c.args.w.now c.requires.dirt),
    )

pub count_at-requires : goal.count_at-requires
count_at-requires c =
    let bs = c.args.blocks.now in
    places_within (runs bs) (length bs) c.args.w.now c.args.places.now (sym (length_runs bs)) c.requires.meet

pub go_to-requires-clause-place : goal.go_to-requires-clause-place
go_to-requires-clause-place c =
    let bs = c.args.blocks.now in
    let m = place_meets (runs bs) c.args.w.now c.args.places.now c.loop-place.place-index 0 c.loop-place-test.true c.requires.meet in
    let l = within_length (runs bs) _ m.0 m.1 in
    rw c.loop-place.invariant.0 (omega (arith, l))

pub bounds-blocks-place : goal.bounds-blocks-place
bounds-blocks-place c =
    let bs = c.args.blocks.now in
    let m = place_meets (runs bs) c.args.w.now c.args.places.now c.loop-place.place-index 0 c.loop-place-test.true c.requires.meet in
    let l = within_length (runs bs) _ m.0 m.1 in
    omega (arith, l, length_runs bs)

pub cut_block-requires-clause-short : goal.cut_block-requires-clause-short
cut_block-requires-clause-short c =
    let bs = c.args.blocks.now in
    let m = place_meets (runs bs) c.args.w.now c.args.places.now c.loop-place.place-index 0 c.loop-place-test.true c.requires.meet in
    rw (c.go_to.ensures.next, c.go_to.ensures.runs, c.loop-place.invariant.0) (within_length (runs bs) _ m.0 m.1)

pub cut_block-requires-clause-rects : goal.cut_block-requires-clause-rects
cut_block-requires-clause-rects c =
    let bs = c.args.blocks.now in
    let m = place_meets (runs bs) c.args.w.now c.args.places.now c.loop-place.place-index 0 c.loop-place-test.true c.requires.meet in
    let l = within_length (runs bs) _ m.0 m.1 in
    rw (c.go_to.ensures.next, c.go_to.ensures.runs, c.loop-place.invariant.0)
    (c.rects.ensures ∙ sym (run_at bs _ c.index-blocks-place.result (omega (arith, l, length_runs bs)) c.index-blocks-place.is))

pub cut_block-requires-clause-partway : goal.cut_block-requires-clause-partway
cut_block-requires-clause-partway c =
    let xss = runs c.args.blocks.now in
    let w = c.args.w.now in
    let places = c.args.places.now in
    let i = c.loop-place.place-index in
    let p = get_or places i 0 in
    let l = c.loop-place.dirt in
    let h = c.loop-place.invariant in
    let is : p ≡ get_or places i p = get_or_default places i 0 p c.loop-place-test.true in
    let low : l.next ≤ p = h.3.later i 0 (omega arith) c.loop-place-test.true in
    let more : c.go_to.new.self.left ≡ l.left ++ between xss l.next p = rw h.0 at c.go_to.ensures.left in
    rw (c.go_to.ensures.next, c.go_to.ensures.runs, h.0) (gone_beside xss w l.next p l.left c.go_to.new.self.left c.loop-place.met.items
    c.loop-place.round low (none_between xss w places i l.next p c.requires.rising is h.3) more h.4)

pub loop-place-preserved : goal.loop-place-preserved
loop-place-preserved c =
    let bs = c.args.blocks.now in
    let xss = runs bs in
    let w = c.args.w.now in
    let places = c.args.places.now in
    let i = c.loop-place.place-index in
    let p = get_or places i 0 in
    let h = c.loop-place.invariant in
    let is : p ≡ get_or places i p = get_or_default places i 0 p c.loop-place-test.true in
    let m = place_meets xss w places i 0 c.loop-place-test.true c.requires.meet in
    let l = within_length xss p m.0 m.1 in
    let same = c.go_to.ensures.runs ∙ h.0 in
    let next : c.cut_block.new.dirt.next ≡ p + 1 = c.in_ok-cut_block.ensures.next ∙ ap (λ k. k + 1) c.go_to.ensures.next in
    let few : c.cut_block.new.dirt.next ≤ length bs = omega (arith, next, l, length_runs bs) in
    let part = rw (c.go_to.ensures.next, same) at c.in_ok-cut_block.ensures.partway in (
      c.cut_block.ensures.runs ∙ same,
      c.in_ok-cut_block.ensures.begun,
      few,
      subst (λ n. AreToCome xss w places (i + 1) n) (sym next) (next_to_come xss w places i c.loop-place.dirt.next p c.loop-place-test.true
          c.requires.rising is h.3),
      subst (λ n. IsPartway (joined xss) (joined (drop n xss)) w c.cut_block.new.dirt.left c.cut_block.new.met.items c.cut_block.new.round) (sym next)
          part,
    )

pub returns-clause-left : goal.returns-clause-left
returns-clause-left c =
    let bs = c.args.blocks.now in
    let xss = runs bs in
    let h = c.loop-place.invariant in
    let l = c.loop-place.dirt in
    let n = sym (length_runs bs) in
    let more : c.go_to-2.new.self.left ≡ l.left ++ between xss l.next (length bs) = rw h.0 at c.go_to-2.ensures.left in
    let end = swept xss c.args.w.now l.next (length bs) l.left c.go_to-2.new.self.left c.loop-place.met.items c.loop-place.round h.2 n
    (none_to_come xss c.args.w.now c.args.places.now c.loop-place.place-index l.next (omega arith) h.3) more h.4 in
    ap (λ yss. joined (patched yss c.into_changes.result.items)) (sym (c.go_to-2.ensures.runs ∙ h.0)) ∙ (c.into_changes.ensures.left ∙ end.0)

pub returns-clause-kept : goal.returns-clause-kept
returns-clause-kept c =
    let bs = c.args.blocks.now in
    let xss = runs bs in
    let h = c.loop-place.invariant in
    let l = c.loop-place.dirt in
    let n = sym (length_runs bs) in
    let more : c.go_to-2.new.self.left ≡ l.left ++ between xss l.next (length bs) = rw h.0 at c.go_to-2.ensures.left in
    let end = swept xss c.args.w.now l.next (length bs) l.left c.go_to-2.new.self.left c.loop-place.met.items c.loop-place.round h.2 n
    (none_to_come xss c.args.w.now c.args.places.now c.loop-place.place-index l.next (omega arith) h.3) more h.4 in
    subst IsDirt (sym (ap (λ yss. joined (patched yss c.into_changes.result.items)) (sym (c.go_to-2.ensures.runs ∙ h.0)) ∙ c.into_changes.ensures.left)) end.2

pub returns-clause-met : goal.returns-clause-met
returns-clause-met c =
    let bs = c.args.blocks.now in
    let xss = runs bs in
    let h = c.loop-place.invariant in
    let l = c.loop-place.dirt in
    let n = sym (length_runs bs) in
    let more : c.go_to-2.new.self.left ≡ l.left ++ between xss l.next (length bs) = rw h.0 at c.go_to-2.ensures.left in
    let end = swept xss c.args.w.now l.next (length bs) l.left c.go_to-2.new.self.left c.loop-place.met.items c.loop-place.round h.2 n
    (none_to_come xss c.args.w.now c.args.places.now c.loop-place.place-index l.next (omega arith) h.3) more h.4 in
    end.1

pub returns-clause-places : goal.returns-clause-places
returns-clause-places c =
    let bs = c.args.blocks.now in
    let same : length c.go_to-2.new.self.runs ≡ length bs = ap length (c.go_to-2.ensures.runs ∙ c.loop-place.invariant.0) ∙ length_runs bs in
    subst (λ k. Every (λ (h : Change). h.place < k) c.into_changes.result.items) same c.into_changes.ensures.places
