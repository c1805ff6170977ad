use Rattle.std.proofs.Common.{subst, Option, arith}
use Rattle.std.proofs.lemmas.Option.{slice_get_within}
use Rattle.shape.specs.declared.pairs.Pair.{Pair}
use Rattle.shape.specs.Pairs.{IsFirstBad}
use Rattle.shape.proofs.Bad.{all_simple}
use Rattle.shape.proofs.FirstPairs.{along_first, cross_first}
use Rattle.shape.proofs.pairs.check_pairs.Goals as goal

pub returns-in_default-clause-simple : goal.returns-in_default-clause-simple
returns-in_default-clause-simple c =
    all_simple c.args.segs.now c.segments_law.ensures
    (subst (λ (best : Option Pair). IsFirstBad c.args.segs.now best) c.in_default.is c.first_bad_pair.ensures)

pub bounds-segs-i : goal.bounds-segs-i
bounds-segs-i c =
    let f = subst (λ (best : Option Pair). IsFirstBad c.args.segs.now best) c.in-Some.is c.first_bad_pair.ensures in
    let l = slice_get_within c.args.segs.now c.in-Some.field-0.i f.pair.s f.pair.first in
    l

pub bounds-segs-j : goal.bounds-segs-j
bounds-segs-j c =
    let f = subst (λ (best : Option Pair). IsFirstBad c.args.segs.now best) c.in-Some.is c.first_bad_pair.ensures in
    let l = slice_get_within c.args.segs.now c.in-Some.field-0.j f.pair.t f.pair.second in
    l

pub offset_bounds-segs-i : goal.offset_bounds-segs-i
offset_bounds-segs-i c =
    let f = subst (λ (best : Option Pair). IsFirstBad c.args.segs.now best) c.in-Some.is c.first_bad_pair.ensures in
    let l = slice_get_within c.args.segs.now c.in-Some.field-0.i f.pair.s f.pair.first in
    omega arith

pub offset_bounds-segs-j : goal.offset_bounds-segs-j
offset_bounds-segs-j c =
    let f = subst (λ (best : Option Pair). IsFirstBad c.args.segs.now best) c.in-Some.is c.first_bad_pair.ensures in
    let l = slice_get_within c.args.segs.now c.in-Some.field-0.j f.pair.t f.pair.second in
    omega arith

pub overflow_cast-i : goal.overflow_cast-i
overflow_cast-i c =
    let f = subst (λ (best : Option Pair). IsFirstBad c.args.segs.now best) c.in-Some.is c.first_bad_pair.ensures in
    let l = slice_get_within c.args.segs.now c.in-Some.field-0.i f.pair.s f.pair.first in
    omega arith

pub overflow_cast-j : goal.overflow_cast-j
overflow_cast-j c =
    let f = subst (λ (best : Option Pair). IsFirstBad c.args.segs.now best) c.in-Some.is c.first_bad_pair.ensures in
    let l = slice_get_within c.args.segs.now c.in-Some.field-0.j f.pair.t f.pair.second in
    omega arith

pub returns-in-Along-clause-refused : goal.returns-in-Along-clause-refused
returns-in-Along-clause-refused c =
    let f = subst (λ (best : Option Pair). IsFirstBad c.args.segs.now best) c.in-Some.is c.first_bad_pair.ensures in
    along_first c.args.segs.now c.in-Some.field-0.i c.in-Some.field-0.j c.index-segs-i.result c.index-segs-j.result f c.index-segs-i.is
    c.index-segs-j.is (c.shares-share.ensures.along.0 c.in-Along.is)

pub returns-in_default-share : goal.returns-in_default-share
returns-in_default-share c =
    let f = subst (λ (best : Option Pair). IsFirstBad c.args.segs.now best) c.in-Some.is c.first_bad_pair.ensures in
    record {
      simple = tt;
      none = tt;
      refused =
          cross_first c.args.segs.now c.in-Some.field-0.i c.in-Some.field-0.j c.index-segs-i.result c.index-segs-j.result f
          c.index-segs-i.is c.index-segs-j.is (λ o. c.in_default-share.not-Along (c.shares-share.ensures.along.1 o));
    }
