use Rattle.std.proofs.Common.{◌<◌, ◌≤◌, ◌∙◌, sym, length, arith}
use Rattle.std.proofs.lemmas.Bool.{false≢true}
use Rattle.std.proofs.lemmas.List.{take_all}
use Rattle.topology_terms.specs.Project.{InForce}
use Rattle.validation_laws.proofs.Judging.{subject_ascends}
use Rattle.validation.specs.Parted.{IsPartOf}
use Rattle.sound_check.proofs.Exact.{part_own}
use Rattle.sound_check.proofs.Pairs.{every_more, every_there}
use Rattle.project_check.specs.Subjects.{IsSoundFor}
use Rattle.project_check.proofs.Judged.{compared_at}
use Rattle.project_check.proofs.Seen.{paired_there, paired_length}
use Rattle.project_check.proofs.pair.first_rule.Goals as goal

pub is_sound_part-requires-clause-fresh : goal.is_sound_part-requires-clause-fresh
is_sound_part-requires-clause-fresh g c =
    let M = g.R.RuleSet.meaning in
    let F = c.args.features.now.features in
    let fresh = c.index.result.now in
    let short : c.loop-i.i < length c.in_ok-fresh.fresh.items = omega (arith, c.len-i-end.ensures, c.loop-i-test.true, c.in_ok-fresh.fresh.ok)
    in
    let there = paired_there (IsPartOf M F c.args.subject) c.args.in_force.now c.in_ok-fresh.fresh.items c.loop-i.i fresh
    c.in_ok-fresh.ensures.parts short c.index.ensures in
    subject_ascends M F there.x.number there.x.row c.args.subject fresh.entries there.holds.own

pub is_sound_part-requires-clause-own : goal.is_sound_part-requires-clause-own
is_sound_part-requires-clause-own g c =
    let M = g.R.RuleSet.meaning in
    let F = c.args.features.now.features in
    let fresh = c.index.result.now in
    let short : c.loop-i.i < length c.in_ok-fresh.fresh.items = omega (arith, c.len-i-end.ensures, c.loop-i-test.true, c.in_ok-fresh.fresh.ok)
    in
    let there = paired_there (IsPartOf M F c.args.subject) c.args.in_force.now c.in_ok-fresh.fresh.items c.loop-i.i fresh
    c.in_ok-fresh.ensures.parts short c.index.ensures in
    rw there.holds.rule (part_own M F there.x.row fresh.entries there.x.number c.args.subject there.holds.own)

pub returns-then-not-branch-clause-within : goal.returns-then-not-branch-clause-within
returns-then-not-branch-clause-within g c =
    let same = paired_length (IsPartOf g.R.RuleSet.meaning c.args.features.now.features c.args.subject) c.args.in_force.now c.in_ok-fresh.fresh.items
    c.in_ok-fresh.ensures.parts in
    omega (arith, same, c.len-i-end.ensures, c.loop-i-test.true, c.in_ok-fresh.fresh.ok)

pub returns-then-not-branch-clause-first : goal.returns-then-not-branch-clause-first
returns-then-not-branch-clause-first g c = λ p h.
    let M = g.R.RuleSet.meaning in
    let F = c.args.features.now.features in
    let a = c.args.subject in
    let fresh = c.index.result.now in
    let short : c.loop-i.i < length c.in_ok-fresh.fresh.items = omega (arith, c.len-i-end.ensures, c.loop-i-test.true, c.in_ok-fresh.fresh.ok)
    in
    let there = paired_there (IsPartOf M F a) c.args.in_force.now c.in_ok-fresh.fresh.items c.loop-i.i fresh
    c.in_ok-fresh.ensures.parts short c.index.ensures in
    let fits = every_there (λ (q : InForce). M.Fits q.row F) c.args.in_force.now c.loop-i.i there.x c.requires.fits there.within there.is in
    let told = compared_at M g.met.R.RuleSet.laws g.met.R.RuleSet.right p F c.args.dirt.now c.args.errors.now there.x a fresh
    c.envelope_of-envelope.result c.in_ok-is_sound_part.field-0 h c.requires.features fits there.holds c.envelope_of-envelope.ensures
    c.in_ok-is_sound_part.ensures in
    record {
      rule = there.x;
      within = there.within;
      is = there.is;
      fails = λ s. false≢true (sym c.if-not-branch.true ∙ told.1 s);
      before = c.loop-i.invariant p h;
    }

pub loop-i-preserved : goal.loop-i-preserved
loop-i-preserved g c = λ p h.
    let M = g.R.RuleSet.meaning in
    let F = c.args.features.now.features in
    let a = c.args.subject in
    let fresh = c.index.result.now in
    let short : c.loop-i.i < length c.in_ok-fresh.fresh.items = omega (arith, c.len-i-end.ensures, c.loop-i-test.true, c.in_ok-fresh.fresh.ok)
    in
    let there = paired_there (IsPartOf M F a) c.args.in_force.now c.in_ok-fresh.fresh.items c.loop-i.i fresh
    c.in_ok-fresh.ensures.parts short c.index.ensures in
    let fits = every_there (λ (q : InForce). M.Fits q.row F) c.args.in_force.now c.loop-i.i there.x c.requires.fits there.within there.is in
    let told = compared_at M g.met.R.RuleSet.laws g.met.R.RuleSet.right p F c.args.dirt.now c.args.errors.now there.x a fresh
    c.envelope_of-envelope.result c.in_ok-is_sound_part.field-0 h c.requires.features fits there.holds c.envelope_of-envelope.ensures
    c.in_ok-is_sound_part.ensures in
    every_more (IsSoundFor M p a) c.args.in_force.now c.loop-i.i there.x there.within there.is (c.loop-i.invariant p h)
    (told.0 c.if-not-branch.false)

pub returns-clause-first : goal.returns-clause-first
returns-clause-first g c = λ p h.
    let same = paired_length (IsPartOf g.R.RuleSet.meaning c.args.features.now.features c.args.subject) c.args.in_force.now c.in_ok-fresh.fresh.items
    c.in_ok-fresh.ensures.parts in
    let all : length c.args.in_force.now ≤ c.loop-i.i = omega (arith, same, c.len-i-end.ensures, c.loop-i-test.false, c.in_ok-fresh.fresh.ok) in
    rw (take_all c.loop-i.i c.args.in_force.now all) at (c.loop-i.invariant p h)
