use Rattle.std.proofs.Common.{◌≡◌, ◌∙◌, ◌<◌, inl, inr, [], arith, rules, refl, sym, subst, length, get_or, List}
use Rattle.std.specs.Prelude.{IfOk}
use Rattle.std.specs.Bool.{OnTrue}
use Rattle.std.proofs.lemmas.Bool.{OnTrue_at, OnTrue_from, OnFalse_at, OnFalse_from, cases_lt}
use Rattle.std.proofs.lemmas.Result.{IfOk-weaker, on_ok_weaker}
use Rattle.plane_terms.specs.Cell.{Cell, InCell}
use Rattle.sound_check.specs.Off.{OffFrom, HasOff}
use Rattle.sound_check.proofs.Offs.{at_index, begins_within, restored, marked, clear_more, sooner, none_sooner, outside_at, part_off, part_none, parts_more, parts_all}
use Rattle.sound_check.proofs.off.+off.Goals as goal

-- ---- from a place of the list on
pub is_off_cells-returns-then-depth-eq0-clause-found : goal.is_off_cells-returns-then-depth-eq0-clause-found
is_off_cells-returns-then-depth-eq0-clause-found t c =
    subst (λ (ds : List Cell). IfOk c.is_off_by_carving.result (λ yes. OnTrue yes (HasOff ds c.args.from c.args.piece.now))) c.cells.ensures
    c.is_off_by_carving.ensures.found

pub is_off_cells-widen-requires-clause-long : goal.is_off_cells-widen-requires-clause-long
is_off_cells-widen-requires-clause-long t c =
    let ds : List Cell = c.args.others.now in
    let within : c.in-Some.i < length ds = omega (arith, c.in-Some.ensures.before, c.window-window.ensures.fits) in
    let made = (rw c.in-Some-2.is at (c.in_ok-mark.ensures.some)) (get_or ds c.in-Some.i []) (at_index ds c.in-Some.i within) in
    rw made.mark.long (begins_within c.loop-i.piece c.narrow.new.self made.begins)

pub is_off_cells-widen-requires-clause-mark : goal.is_off_cells-widen-requires-clause-mark
is_off_cells-widen-requires-clause-mark t c =
    let ds : List Cell = c.args.others.now in
    let within : c.in-Some.i < length ds = omega (arith, c.in-Some.ensures.before, c.window-window.ensures.fits) in
    let made = (rw c.in-Some-2.is at (c.in_ok-mark.ensures.some)) (get_or ds c.in-Some.i []) (at_index ds c.in-Some.i within) in
    marked c.in-Some-2.mark c.loop-i.piece (get_or ds c.in-Some.i []) c.narrow.new.self c.narrow.new.self made refl

pub is_off_cells-returns-in-Some-clause-found : goal.is_off_cells-returns-in-Some-clause-found
is_off_cells-returns-in-Some-clause-found t c =
    let ds : List Cell = c.args.others.now in
    let within : c.in-Some.i < length ds = omega (arith, c.in-Some.ensures.before, c.window-window.ensures.fits) in
    let made = (rw c.in-Some-2.is at (c.in_ok-mark.ensures.some)) (get_or ds c.in-Some.i []) (at_index ds c.in-Some.i within) in
    let back = restored c.loop-i.piece c.narrow.new.self c.narrow.new.self c.widen.new.self c.in-Some-2.mark.len made.mark.long made.begins refl c.widen.ensures in
    let clear = clear_more ds c.args.from c.loop-i.next c.in-Some.i c.args.piece.now c.loop-i.piece c.loop-i.invariant.same c.loop-i.invariant.clear c.in-Some.ensures.clear in
    IfOk-weaker c.is_off_beside.result _ _
    (λ yes h. OnTrue_from yes _ (λ t. sooner ds c.args.from c.in-Some.i c.args.piece.now c.widen.new.self (back ∙ c.loop-i.invariant.same) clear (OnTrue_at t h)))
    c.is_off_beside.ensures.found

pub is_off_cells-returns-in-Some-clause-none : goal.is_off_cells-returns-in-Some-clause-none
is_off_cells-returns-in-Some-clause-none t c =
    let ds : List Cell = c.args.others.now in
    let within : c.in-Some.i < length ds = omega (arith, c.in-Some.ensures.before, c.window-window.ensures.fits) in
    let made = (rw c.in-Some-2.is at (c.in_ok-mark.ensures.some)) (get_or ds c.in-Some.i []) (at_index ds c.in-Some.i within) in
    let back = restored c.loop-i.piece c.narrow.new.self c.narrow.new.self c.widen.new.self c.in-Some-2.mark.len made.mark.long made.begins refl c.widen.ensures in
    IfOk-weaker c.is_off_beside.result _ _
    (λ yes h. OnFalse_from yes _ (λ t. none_sooner ds c.args.from c.in-Some.i c.args.piece.now c.widen.new.self (back ∙ c.loop-i.invariant.same)
    (omega (arith, c.loop-i.invariant.start, c.in-Some.ensures.from)) (OnFalse_at t h)))
    c.is_off_beside.ensures.none

pub is_off_cells-returns-in-Some-clause-same : goal.is_off_cells-returns-in-Some-clause-same
is_off_cells-returns-in-Some-clause-same t c =
    let ds : List Cell = c.args.others.now in
    let within : c.in-Some.i < length ds = omega (arith, c.in-Some.ensures.before, c.window-window.ensures.fits) in
    let made = (rw c.in-Some-2.is at (c.in_ok-mark.ensures.some)) (get_or ds c.in-Some.i []) (at_index ds c.in-Some.i within) in
    let back = restored c.loop-i.piece c.narrow.new.self c.narrow.new.self c.widen.new.self c.in-Some-2.mark.len made.mark.long made.begins refl c.widen.ensures in
    on_ok_weaker c.is_off_beside.result (λ h. h ∙ (back ∙ c.loop-i.invariant.same)) c.is_off_beside.ensures.same

pub is_off_cells-returns-clause-found : goal.is_off_cells-returns-clause-found
is_off_cells-returns-clause-found t c =
    let s = c.requires.some in (
      s.0,
      s.1,
      λ j d e l n. elim (cases_lt j c.loop-i.next) [
        | inl b ↦ c.loop-i.invariant.clear j d e l b s.0 s.1 n
        | inr a ↦ elim (cases_lt j c.window-window.result.last) [
          | inl b ↦ c.in_default.ensures.none j d e a b s.0 (subst (λ (x : Cell). InCell x s.0) (sym c.loop-i.invariant.same) s.1) n
          | inr b ↦ c.window-window.ensures.clear j d e (inr b) s.0 s.1 n
        ]
      ],
    )

-- ---- beside one cell
pub is_off_beside-is_off_parts-requires : goal.is_off_beside-is_off_parts-requires
is_off_beside-is_off_parts-requires t c = (
  search rules,
  (
    c.requires.within,
    outside_at c.args.others.now c.args.i c.in_ok-of.field-0 c.in_ok-cells.cells c.cell.result (rw c.cells.ensures at c.cell.ensures) c.in_ok-of.ensures
        c.in_ok-cells.ensures.points,
  ),
)

pub is_off_parts-loop-k-preserved-in_default : goal.is_off_parts-loop-k-preserved-in_default
is_off_parts-loop-k-preserved-in_default t c =
    let es : List Cell = c.args.outside.now in
    let within : c.loop-k.k < length es = omega (arith, c.loop-k-test.true, c.len-k-end.ensures) in
    let at = at_index es c.loop-k.k within in
    record {
      same = (rw c.in_default.is at (c.in_ok-mark.ensures.none)) ∙ c.loop-k.invariant.same;
      none = parts_more es c.loop-k.k c.args.piece.now (get_or es c.loop-k.k []) (λ p. ¬ (OffFrom c.args.others.now c.args.i p)) at c.loop-k.invariant.none
          (λ p m n. absurd ((rw c.in_default.is at (c.in_ok-mark.ensures.clear)) (get_or es c.loop-k.k []) at p
          (subst (λ (x : Cell). InCell x p) (sym c.loop-k.invariant.same) m) n));
    }

pub is_off_parts-is_off_cells-requires : goal.is_off_parts-is_off_cells-requires
is_off_parts-is_off_cells-requires t c =
    let es : List Cell = c.args.outside.now in
    let within : c.loop-k.k < length es = omega (arith, c.loop-k-test.true, c.len-k-end.ensures) in
    let made = (rw c.in-Some.is at (c.in_ok-mark.ensures.some)) (get_or es c.loop-k.k []) (at_index es c.loop-k.k within) in
    (search rules, made.some)

pub is_off_parts-widen-requires-clause-long : goal.is_off_parts-widen-requires-clause-long
is_off_parts-widen-requires-clause-long t c =
    let es : List Cell = c.args.outside.now in
    let within : c.loop-k.k < length es = omega (arith, c.loop-k-test.true, c.len-k-end.ensures) in
    let made = (rw c.in-Some.is at (c.in_ok-mark.ensures.some)) (get_or es c.loop-k.k []) (at_index es c.loop-k.k within) in
    let back : c.is_off_cells.new.piece ≡ c.narrow.new.self = c.in_ok-found.ensures.same in
    rw (back, made.mark.long) (begins_within c.loop-k.piece c.narrow.new.self made.begins)

pub is_off_parts-widen-requires-clause-mark : goal.is_off_parts-widen-requires-clause-mark
is_off_parts-widen-requires-clause-mark t c =
    let es : List Cell = c.args.outside.now in
    let within : c.loop-k.k < length es = omega (arith, c.loop-k-test.true, c.len-k-end.ensures) in
    let made = (rw c.in-Some.is at (c.in_ok-mark.ensures.some)) (get_or es c.loop-k.k []) (at_index es c.loop-k.k within) in
    marked c.in-Some.mark c.loop-k.piece (get_or es c.loop-k.k []) c.narrow.new.self c.is_off_cells.new.piece made c.in_ok-found.ensures.same

pub is_off_parts-returns-then-found-clause-found : goal.is_off_parts-returns-then-found-clause-found
is_off_parts-returns-then-found-clause-found t c =
    let es : List Cell = c.args.outside.now in
    let within : c.loop-k.k < length es = omega (arith, c.loop-k-test.true, c.len-k-end.ensures) in
    let at = at_index es c.loop-k.k within in
    let made = (rw c.in-Some.is at (c.in_ok-mark.ensures.some)) (get_or es c.loop-k.k []) at in
    let off = part_off c.args.others.now es c.args.i c.loop-k.k c.loop-k.piece (get_or es c.loop-k.k []) c.narrow.new.self c.requires.outside at made.points
    (OnTrue_at c.if-found.true c.in_ok-found.ensures.found) in
    subst (HasOff c.args.others.now c.args.i) c.loop-k.invariant.same off

pub is_off_parts-returns-then-found-clause-same : goal.is_off_parts-returns-then-found-clause-same
is_off_parts-returns-then-found-clause-same t c =
    let es : List Cell = c.args.outside.now in
    let within : c.loop-k.k < length es = omega (arith, c.loop-k-test.true, c.len-k-end.ensures) in
    let made = (rw c.in-Some.is at (c.in_ok-mark.ensures.some)) (get_or es c.loop-k.k []) (at_index es c.loop-k.k within) in
    restored c.loop-k.piece c.narrow.new.self c.is_off_cells.new.piece c.widen.new.self c.in-Some.mark.len made.mark.long made.begins
    c.in_ok-found.ensures.same c.widen.ensures ∙ c.loop-k.invariant.same

pub is_off_parts-loop-k-preserved : goal.is_off_parts-loop-k-preserved
is_off_parts-loop-k-preserved t c =
    let es : List Cell = c.args.outside.now in
    let within : c.loop-k.k < length es = omega (arith, c.loop-k-test.true, c.len-k-end.ensures) in
    let at = at_index es c.loop-k.k within in
    let made = (rw c.in-Some.is at (c.in_ok-mark.ensures.some)) (get_or es c.loop-k.k []) at in
    record {
      same = restored c.loop-k.piece c.narrow.new.self c.is_off_cells.new.piece c.widen.new.self c.in-Some.mark.len made.mark.long made.begins
          c.in_ok-found.ensures.same c.widen.ensures ∙ c.loop-k.invariant.same;
      none = parts_more es c.loop-k.k c.args.piece.now (get_or es c.loop-k.k []) (λ p. ¬ (OffFrom c.args.others.now c.args.i p)) at c.loop-k.invariant.none
          (λ p m n. part_none c.args.others.now c.args.i c.loop-k.piece (get_or es c.loop-k.k []) c.narrow.new.self made.points
          (OnFalse_at c.if-found.false c.in_ok-found.ensures.none) p (subst (λ (x : Cell). InCell x p) (sym c.loop-k.invariant.same) m) n);
    }

pub is_off_parts-returns-clause-none : goal.is_off_parts-returns-clause-none
is_off_parts-returns-clause-none t c = parts_all c.args.others.now c.args.outside.now c.args.i c.loop-k.k c.args.piece.now c.requires.within
    (omega (arith, c.loop-k-test.false, c.len-k-end.ensures)) c.requires.outside c.loop-k.invariant.none
