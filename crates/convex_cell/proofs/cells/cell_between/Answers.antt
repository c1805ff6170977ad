use Rattle.std.proofs.Common.{ℕ, List, get_or, length, arith}
use Rattle.std.proofs.lemmas.List.{get_or_default}
use Rattle.convex_cell.proofs.Flats.{cell_read, cell_fits}
use Rattle.convex_cell.proofs.cells.cell_between.Goals as goal

pub offset_bounds-halves-from : goal.offset_bounds-halves-from
offset_bounds-halves-from c =
    let es : List ℕ = c.args.ends.now in
    let fits = cell_fits (length c.args.halves.now) 0 es c.args.i _ (get_or es c.args.i 0) c.requires.ends c.requires.within c.start_of-from.ensures
    (get_or_default es c.args.i 0 _ c.requires.within) in
    omega (arith, fits.0, fits.1)

pub slice_bounds-result-count : goal.slice_bounds-result-count
slice_bounds-result-count c =
    let es : List ℕ = c.args.ends.now in
    (cell_fits (length c.args.halves.now) 0 es c.args.i _ (get_or es c.args.i 0) c.requires.ends c.requires.within c.start_of-from.ensures
    (get_or_default es c.args.i 0 _ c.requires.within)).0

pub slice_bounds-result-start : goal.slice_bounds-result-start
slice_bounds-result-start c =
    let es : List ℕ = c.args.ends.now in
    (cell_fits (length c.args.halves.now) 0 es c.args.i _ (get_or es c.args.i 0) c.requires.ends c.requires.within c.start_of-from.ensures
    (get_or_default es c.args.i 0 _ c.requires.within)).0

pub slice_bounds-result-end : goal.slice_bounds-result-end
slice_bounds-result-end c =
    let es : List ℕ = c.args.ends.now in
    (cell_fits (length c.args.halves.now) 0 es c.args.i _ (get_or es c.args.i 0) c.requires.ends c.requires.within c.start_of-from.ensures
    (get_or_default es c.args.i 0 _ c.requires.within)).1

pub returns : goal.returns
returns c =
    let es : List ℕ = c.args.ends.now in
    cell_read c.args.halves.now 0 es c.args.i _ (get_or es c.args.i 0) c.requires.within c.start_of-from.ensures
    (get_or_default es c.args.i 0 _ c.requires.within)
