use Rattle.std.proofs.Common.{◌<◌, ◌∙◌, refl, ap, length, take, get_or, arith}
use Rattle.std.proofs.lemmas.List.{take_all, get_or_default}
use Rattle.topology_terms.specs.Project.{InForce}
use Rattle.sound_check.proofs.Pairs.{every_there}
use Rattle.project_check.specs.Subjects.{IsBroken}
use Rattle.project_check.proofs.Sound.{other_sound}
use Rattle.project_check.proofs.Seen.{front_within, front_same, seen_more, seen_found, checked}
use Rattle.project_check.proofs.check.first_unsound.Goals as goal

pub loop-subject-preserved-in_default : goal.loop-subject-preserved-in_default
loop-subject-preserved-in_default g c = (
  c.loop-subject.invariant.0,
  λ p h is.
      let ns = c.args.subjects.now in
      let i = c.loop-subject.subject-index in
      let a = get_or ns i 0 in
      seen_more g.R.RuleSet.meaning p c.args.in_force.now ns i a c.loop-subject.left c.loop-subject.found c.loop-subject-test.true
      (get_or_default ns i 0 a c.loop-subject-test.true) (c.loop-subject.invariant.1 p h is)
      (rw c.in_default.is at (c.in_ok-place.ensures.first p h)),
)

pub bounds-in_force-place : goal.bounds-in_force-place
bounds-in_force-place g c = front_within c.args.in_force.now c.in-Some.place c.loop-subject.left
    (rw c.in-Some.is at c.in_ok-place.ensures.within)

pub loop-subject-preserved : goal.loop-subject-preserved
loop-subject-preserved g c =
    let rules = c.args.in_force.now in
    let left = c.loop-subject.left in
    let k = c.in-Some.place in
    let short : k < length (take left rules) = rw c.in-Some.is at c.in_ok-place.ensures.within in
    let there = front_within rules k left short in (
      omega (arith, there),
      λ p h is.
          let M = g.R.RuleSet.meaning in
          let L = g.met.R.RuleSet.laws in
          let F = c.args.features.now.features in
          let ns = c.args.subjects.now in
          let i = c.loop-subject.subject-index in
          let a = get_or ns i 0 in
          let broken : IsBroken M p (take left rules) a k = rw c.in-Some.is at (c.in_ok-place.ensures.first p h) in
          let same = front_same rules k left broken.rule c.index-in_force-place.result short broken.is c.index-in_force-place.is in
          let number = ap (λ (q : InForce). q.number) (c.rule.view_is ∙ same) in
          seen_found M p rules ns i a left c.loop-subject.found c.loop-subject-test.true
          (get_or_default ns i 0 a c.loop-subject-test.true) (c.loop-subject.invariant.1 p h is) k
          (record { rule = c.rule.inside.number; subject = a }) broken c.requires.rising
          (λ q e l n no. other_sound M L p F c.args.dirt.now c.args.errors.now ns q.number q.row h c.requires.all
          (every_there (λ (r : InForce). M.Fits r.row F) rules k q c.requires.fits l e) n no)
          number refl,
    )

pub returns : goal.returns
returns g c = λ p h is.
    let ns = c.args.subjects.now in
    checked g.R.RuleSet.meaning g.met.R.RuleSet.laws p c.args.features.now.features c.args.dirt.now c.args.errors.now c.args.in_force.now ns h
    c.requires.all c.loop-subject.left c.loop-subject.found is c.requires.rules c.requires.fits
    (rw (take_all c.loop-subject.subject-index ns c.loop-subject-test.false) at (c.loop-subject.invariant.1 p h is))
