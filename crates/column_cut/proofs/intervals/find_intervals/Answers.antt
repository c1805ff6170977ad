use Rattle.std.proofs.Common.{◌≡◌, ◌≤◌, length, [], arith, ◌∙◌, ℤ, List, None, ap, map, sym, subst}
use Rattle.std.proofs.lemmas.Result.{on_ok_weaker}
use Rattle.std.specs.List.{filter}
use Rattle.plane_terms.specs.Segment.{Segment}
use Rattle.plane_terms.specs.Columns.{intervals, is_covered, ordinates}
use Rattle.column_laws.proofs.Walls.{ordinates-rising}
use Rattle.column_cut.specs.Covering.{is_upright}
use Rattle.column_cut.specs.Pieces.{stretch_cell}
use Rattle.column_cut.specs.Stretches.{stretches_of, AreStacked}
use Rattle.column_cut.specs.declared.intervals.Stretch.{Stretch}
use Rattle.column_cut.proofs.Stacks.{cells_of_stretches, stretches_are_stacked}
use Rattle.column_cut.proofs.Uprights.{stretches_few, covered_by_upright, stretches_same}
use Rattle.column_cut.proofs.intervals.find_intervals.Goals as goal

-- what is found from the upright segments and the ordinates is what all segments leave of the wall
found_of_all : (x : ℤ) (ss us : List Segment) (vs : List ℤ) (found : List Stretch) → us ≡ filter (is_upright x) ss → vs ≡ ordinates x ss
    → found ≡ stretches_of (is_covered x us) None vs → found ≡ stretches_of (is_covered x ss) None (ordinates x ss)
found_of_all x ss us vs found e f g =
    g ∙ ap (λ ts. stretches_of (is_covered x ts) None vs) e ∙ ap (λ ws. stretches_of (is_covered x (filter (is_upright x) ss)) None ws) f
    ∙ sym (stretches_same (is_covered x ss) (is_covered x (filter (is_upright x) ss)) (covered_by_upright x ss) None (ordinates x ss))

-- the same where there are no two ordinates: no stretch is asked about
found_of_few : (x : ℤ) (ss : List Segment) (vs : List ℤ) (found : List Stretch) → length vs ≤ 1 → vs ≡ ordinates x ss
    → found ≡ stretches_of (is_covered x []) None vs → found ≡ stretches_of (is_covered x ss) None (ordinates x ss)
found_of_few x ss vs found few f g =
    g ∙ stretches_few (is_covered x []) (is_covered x ss) vs few ∙ ap (λ ws. stretches_of (is_covered x ss) None ws) f

pub returns-then-len-le1-clause-cells : goal.returns-then-len-le1-clause-cells
returns-then-len-le1-clause-cells c =
    let x = c.args.x.now in
    let ss = c.args.segments.now in
    let found = c.find_between.new.stretches.items in
    let few : length c.deref.result.now ≤ 1 = rw c.deref.ensures.value (omega arith) in
    let are : found ≡ stretches_of (is_covered x []) None c.deref.result.now → found ≡ stretches_of (is_covered x ss) None (ordinates x ss)
    = found_of_few x ss c.deref.result.now found few (c.deref.ensures.value ∙ c.in_ok-find_ordinates.ensures) in
    on_ok_weaker c.find_between.result (λ e. ap (map stretch_cell) (are e) ∙ cells_of_stretches (is_covered x ss) None (ordinates x ss))
    c.find_between.ensures

pub returns-then-len-le1-clause-stacked : goal.returns-then-len-le1-clause-stacked
returns-then-len-le1-clause-stacked c =
    let x = c.args.x.now in
    let ss = c.args.segments.now in
    let found = c.find_between.new.stretches.items in
    let few : length c.deref.result.now ≤ 1 = rw c.deref.ensures.value (omega arith) in
    let are : found ≡ stretches_of (is_covered x []) None c.deref.result.now → found ≡ stretches_of (is_covered x ss) None (ordinates x ss)
    = found_of_few x ss c.deref.result.now found few (c.deref.ensures.value ∙ c.in_ok-find_ordinates.ensures) in
    on_ok_weaker c.find_between.result
    (λ e. subst AreStacked (sym (are e)) (stretches_are_stacked (is_covered x ss) (ordinates x ss) (ordinates-rising x ss)))
    c.find_between.ensures

pub returns-clause-cells : goal.returns-clause-cells
returns-clause-cells c =
    let x = c.args.x.now in
    let ss = c.args.segments.now in
    let cells : c.find_between-2.new.stretches.items ≡ stretches_of (is_covered x c.deref-2.result.now) None c.deref-3.result.now
    → map stretch_cell c.find_between-2.new.stretches.items ≡ intervals (is_covered x ss) None (ordinates x ss) = λ e. ap (map stretch_cell) (found_of_all x ss c.deref-2.result.now c.deref-3.result.now _
    (c.deref-2.ensures.value ∙ c.in_ok-find_upright.ensures) (c.deref-3.ensures.value ∙ c.in_ok-find_ordinates.ensures) e)
    ∙ cells_of_stretches (is_covered x ss) None (ordinates x ss) in
    on_ok_weaker c.find_between-2.result cells c.find_between-2.ensures

pub returns-clause-stacked : goal.returns-clause-stacked
returns-clause-stacked c =
    let x = c.args.x.now in
    let ss = c.args.segments.now in
    let stacked : c.find_between-2.new.stretches.items ≡ stretches_of (is_covered x c.deref-2.result.now) None c.deref-3.result.now
    → AreStacked c.find_between-2.new.stretches.items = λ e. subst AreStacked (sym (found_of_all x ss c.deref-2.result.now c.deref-3.result.now _
    (c.deref-2.ensures.value ∙ c.in_ok-find_upright.ensures) (c.deref-3.ensures.value ∙ c.in_ok-find_ordinates.ensures) e))
    (stretches_are_stacked (is_covered x ss) (ordinates x ss) (ordinates-rising x ss)) in
    on_ok_weaker c.find_between-2.result stacked c.find_between-2.ensures
