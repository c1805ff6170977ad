use Rattle.plane_terms.specs.declared.share.Share.TheVariants.{Nothing, Along, Cross, Touch}
use Rattle.rule_loops.proofs.Tested.{overlap_told}
use Rattle.rule_loops.proofs.shared.is_overlap.Goals as goal

pub returns-in-Nothing-clause-value : goal.returns-in-Nothing-clause-value
returns-in-Nothing-clause-value c = overlap_told c.args.first.now c.args.second.now c.shares.result Nothing c.segment_law.ensures
    c.segment_law-2.ensures c.shares.ensures.along c.in-Nothing.is

pub returns-in-Along-clause-value : goal.returns-in-Along-clause-value
returns-in-Along-clause-value c = overlap_told c.args.first.now c.args.second.now c.shares.result Along c.segment_law.ensures
    c.segment_law-2.ensures c.shares.ensures.along c.in-Along.is

pub returns-in-Cross-clause-value : goal.returns-in-Cross-clause-value
returns-in-Cross-clause-value c = overlap_told c.args.first.now c.args.second.now c.shares.result Cross c.segment_law.ensures
    c.segment_law-2.ensures c.shares.ensures.along c.in-Cross.is

pub returns-in-Touch-clause-value : goal.returns-in-Touch-clause-value
returns-in-Touch-clause-value c = overlap_told c.args.first.now c.args.second.now c.shares.result Touch c.segment_law.ensures
    c.segment_law-2.ensures c.shares.ensures.along c.in-Touch.is

pub returns-in-Along-clause-shared : goal.returns-in-Along-clause-shared
returns-in-Along-clause-shared c = let o = c.shares.ensures.along.0 c.in-Along.is in (o.p, o.p_on_s, o.p_on_t)
