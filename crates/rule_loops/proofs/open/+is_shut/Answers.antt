use Rattle.std.proofs.Common.{◌≡◌, ◌∙◌, ◌≤◌, ◌<◌, ◌+◌, inl, inr, true, false, Some, arith, rules, refl, sym, subst, length, get_or, [], take, drop, List}
use Rattle.std.specs.Prelude.{slice_get, ◌&&◌, not}
use Rattle.std.proofs.lemmas.Bool.{OnTrue_at, cases_lt}
use Rattle.std.proofs.lemmas.Option.{slice_get_read}
use Rattle.plane_terms.specs.Cell.{Cell, InCell}
use Rattle.convex_cell.specs.Piece.{IsMarkOf}
use Rattle.rule_loops.proofs.Shut.{at_index, begins_within, restored, each_later, in_one}
use Rattle.rule_loops.proofs.OpenPieces.{shut_one, shut_more, shut_by, part_lasts, passed_wall, each_off_from}
use Rattle.rule_loops.specs.Rightward.{is_wall, AreOffWalls}
use Rattle.plane_terms.proofs.ListLemmas.{every_got}
use Rattle.rule_loops.proofs.open.+is_shut.Goals.{else-is_open-via-then-is_open+else-is_wall, else-is_open-via-else-is_open}
use Rattle.rule_loops.proofs.open.+is_shut.Goals as goal

pub loop-i-init : goal.loop-i-init
loop-i-init t c = record {
  same = refl;
  shut = λ j d l e n p m i. absurd (c.window-window.ensures.clear j d e (inl l) p m i);
}

pub loop-i-preserved-in_default-2 : goal.loop-i-preserved-in_default-2
loop-i-preserved-in_default-2 t c =
    let same = c.loop-i.invariant.same in
    let i = c.in-Some-next_near.i in
    let near = drop c.args.from c.args.near.now in
    let ds : List Cell = c.deref-outside.result.now in
    let shut = shut_more c.args.is_open near c.args.piece.now c.loop-i.piece ds c.loop-i.next i same c.loop-i.invariant.shut
    c.in-Some-next_near.ensures.clear in
    record {
      same = (rw c.in_default-2.is at (c.in_ok-mark.ensures.none)) ∙ same;
      shut = shut_one c.args.is_open near c.args.piece.now ds i shut (λ d e o p m n i. (rw c.in_default-2.is at (c.in_ok-mark.ensures.clear)) d e p
          (subst (λ (hs : Cell). InCell hs p) (sym same) m) n);
    }

pub widen-requires-clause-long : goal.widen-requires-clause-long
widen-requires-clause-long t c =
    let ds : List Cell = c.deref-outside.result.now in
    let within : c.in-Some-next_near.i < length ds = omega (arith, c.in-Some-next_near.ensures.before, c.window-window.ensures.fits) in
    let made = (rw c.in-Some-2.is at (c.in_ok-mark.ensures.some)) (get_or ds c.in-Some-next_near.i []) (at_index ds c.in-Some-next_near.i within) in
    let back : c.is_shut.new.piece ≡ c.narrow.new.self = c.in_ok-shut.ensures.same in
    rw (back, made.mark.long) (begins_within c.loop-i.piece c.narrow.new.self made.begins)

pub widen-requires-clause-mark : goal.widen-requires-clause-mark
widen-requires-clause-mark t c =
    let ds : List Cell = c.deref-outside.result.now in
    let within : c.in-Some-next_near.i < length ds = omega (arith, c.in-Some-next_near.ensures.before, c.window-window.ensures.fits) in
    let made = (rw c.in-Some-2.is at (c.in_ok-mark.ensures.some)) (get_or ds c.in-Some-next_near.i []) (at_index ds c.in-Some-next_near.i within) in
    let back : c.is_shut.new.piece ≡ c.narrow.new.self = c.in_ok-shut.ensures.same in
    subst (IsMarkOf c.in-Some-2.mark) (sym (restored c.loop-i.piece c.narrow.new.self c.is_shut.new.piece (take c.in-Some-2.mark.len c.is_shut.new.piece) c.in-Some-2.mark.len made.mark.long made.begins back refl)) made.mark

pub returns-then-not-shut-clause-same : goal.returns-then-not-shut-clause-same
returns-then-not-shut-clause-same t c =
    let ds : List Cell = c.deref-outside.result.now in
    let within : c.in-Some-next_near.i < length ds = omega (arith, c.in-Some-next_near.ensures.before, c.window-window.ensures.fits) in
    let made = (rw c.in-Some-2.is at (c.in_ok-mark.ensures.some)) (get_or ds c.in-Some-next_near.i []) (at_index ds c.in-Some-next_near.i within) in
    restored c.loop-i.piece c.narrow.new.self c.is_shut.new.piece c.widen.new.self c.in-Some-2.mark.len made.mark.long made.begins
    c.in_ok-shut.ensures.same c.widen.ensures
    ∙ c.loop-i.invariant.same

pub loop-i-preserved : goal.loop-i-preserved
loop-i-preserved t c =
    let ds : List Cell = c.deref-outside.result.now in
    let near = c.args.near.now in
    let i = c.in-Some-next_near.i in
    let same = c.loop-i.invariant.same in
    let within : i < length ds = omega (arith, c.in-Some-next_near.ensures.before, c.window-window.ensures.fits) in
    let narrowed = rw c.in-Some-2.is at (c.in_ok-mark.ensures.some) in
    let made = narrowed (get_or ds i []) (at_index ds i within) in
    let t : c.in_ok-shut.shut ≡ true = c.if-not-shut.false in
    let later : c.args.from ≤ c.in-Some.k + 1 = search rules in
    let shut = shut_more c.args.is_open (drop c.args.from near) c.args.piece.now c.loop-i.piece ds c.loop-i.next i same c.loop-i.invariant.shut
    c.in-Some-next_near.ensures.clear in
    record {
      same = restored c.loop-i.piece c.narrow.new.self c.is_shut.new.piece c.widen.new.self c.in-Some-2.mark.len made.mark.long made.begins
          c.in_ok-shut.ensures.same c.widen.ensures
          ∙ same;
      shut = shut_one c.args.is_open (drop c.args.from near) c.args.piece.now ds i shut (λ d e o p m n h.
          OnTrue_at t c.in_ok-shut.ensures.shut p (((narrowed d e).points p).1 (subst (λ (hs : Cell). InCell hs p) (sym same) m, n))
          (each_later near c.args.from (c.in-Some.k + 1) p later h));
    }

pub loop-i-preserved-then-is_wall : goal.loop-i-preserved-then-is_wall
loop-i-preserved-then-is_wall t c =
    let ds : List Cell = c.deref-outside.result.now in
    let near = drop c.args.from c.args.near.now in
    let i = c.in-Some-next_near.i in
    let shut = shut_more c.args.is_open near c.args.piece.now c.loop-i.piece ds c.loop-i.next i c.loop-i.invariant.same c.loop-i.invariant.shut
    c.in-Some-next_near.ensures.clear in
    record {
      same = c.loop-i.invariant.same;
      shut = shut_one c.args.is_open near c.args.piece.now ds i shut (λ d e n. absurd (passed_wall c.args.is_open c.is_wall.result ds i
          c.cell.result d (rw c.cells.ensures at c.cell.ensures) e c.if-is_open.true c.if-is_wall.true c.is_wall.ensures n));
    }

pub is_shut-requires : goal.is_shut-requires
is_shut-requires t c =
    let ds : List Cell = c.deref-outside.result.now in
    let near = c.args.near.now in
    let k = c.in-Some.k in
    let within : k < length near = search rules in
    let read : slice_get near k ≡ Some c.index-near-k.result =
    slice_get_read near (length near) k c.index-near-k.result refl within c.index-near-k.is in
    let same : c.index-near-k.result ≡ ds = sym (c.deref-outside.ensures ∙ c.nearby.view_is) in (
      search rules,
      (
        c.requires.off_walls,
        elim c.else-is_open.branch [
          | else-is_open-via-then-is_open+else-is_wall w ↦
              let d : Cell = w.cell.result in
              let at : slice_get ds c.in-Some-next_near.i ≡ Some d = rw w.cells.ensures at w.cell.ensures in
              let made = (rw c.in-Some-2.is at (c.in_ok-mark.ensures.some)) d at in
              let off : is_wall d ≡ false = sym w.is_wall.ensures ∙ w.if-is_wall.false in
              let stays : c.args.is_open ≡ (c.args.is_open && not (is_wall d)) = rw (w.if-is_open.true, off) refl in
              part_lasts near k ds c.in-Some-next_near.i d c.loop-i.piece c.narrow.new.self c.args.is_open c.args.is_open c.requires.off_walls
              (rw same at read) at stays (rw (c.loop-i.invariant.same) c.requires.is_open) made.points
          | else-is_open-via-else-is_open w ↦ rw (w.if-is_open.false) tt
        ],
      ),
    )

pub returns-clause-shut : goal.returns-clause-shut
returns-clause-shut t c =
    let near = c.args.near.now in
    let k = c.in-Some.k in
    let within : k < length near = search rules in
    let later : c.args.from ≤ k = search rules in
    let read : slice_get near k ≡ Some c.index-near-k.result =
    slice_get_read near (length near) k c.index-near-k.result refl within c.index-near-k.is in
    let same : c.index-near-k.result ≡ c.deref-outside.result.now = sym (c.deref-outside.ensures ∙ c.nearby.view_is) in
    let ds : List Cell = c.deref-outside.result.now in
    shut_by (drop c.args.from near) c.args.piece.now ds c.loop-i.next
    (λ p h. in_one near c.args.from k ds later (rw same at read) p h)
    (λ j d e a p m. elim (cases_lt j c.window-window.result.last) [
      | inl b ↦ c.in_default-next_near.ensures.none j d e a b p (subst (λ (hs : Cell). InCell hs p) (sym c.loop-i.invariant.same) m)
      | inr l ↦ c.window-window.ensures.clear j d e (inr l) p m
    ]) c.args.is_open
    (every_got AreOffWalls near k ds c.requires.off_walls (rw same at read)) c.requires.is_open
    (each_off_from near c.args.from c.requires.off_walls) c.loop-i.invariant.shut
