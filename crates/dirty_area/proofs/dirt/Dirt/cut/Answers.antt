use Rattle.std.proofs.Common.{◌≡◌, ◌≤◌, ◌<◌, ℕ, length, Contains, sym, ap, ◌∙◌, subst}
use Rattle.std.specs.Prelude.{◌↔◌, IfSome, vec_items}
use Rattle.plane_terms.specs.Lists.{Every}
use Rattle.plane_terms.specs.Dirt.{Covers, cut_dirt}
use Rattle.sound_laws.proofs.Dirts.{cut_covers}
use Rattle.sound_laws.proofs.Pieces.{cut_only}
use Rattle.dirty_area.specs.declared.left.Change.{Change}
use Rattle.dirty_area.specs.Blocks.{IsNumber, runs, joined, all_rects}
use Rattle.dirty_area.specs.Cuts.{patched}
use Rattle.dirty_area.specs.Indexed.{IsIndexed, MeetsAt}
use Rattle.dirty_area.specs.Parts.{IsDirt}
use Rattle.dirty_area.proofs.dirt.Dirt.cut.Goals as goal

pub taken_of-requires-clause-meet : goal.taken_of-requires-clause-meet
taken_of-requires-clause-meet c =
    let w = c.args.window.now in
    subst (λ v. (k : ℕ) → Contains v k ↔ MeetsAt (runs c.deref-3.result.now) w k) (sym c.deref-4.ensures.value)
    (subst (λ bs. (k : ℕ) → Contains c.in_ok-places.places.items k ↔ MeetsAt (runs bs) w k) (c.deref-2.ensures.value ∙ sym c.deref-3.ensures.value)
    c.in_ok-places.ensures.meet)

pub invariant_of-result : goal.invariant_of-result
invariant_of-result c =
    let cs = c.in_ok-taken.taken.changes.items in
    let was = ap vec_items c.replace.ensures.value in
    let same : c.replace.result.items ≡ c.deref-3.result.now = was ∙ sym c.deref-3.ensures.value in (
      subst (λ bs. IsDirt (all_rects bs)) (sym was) c.self.invariant.0,
      subst (λ bs. IsDirt (joined (patched (runs bs) cs))) (sym same) c.in_ok-taken.ensures.kept,
      subst (λ bs. length bs ≤ 4294967295) (sym was) c.self.invariant.1,
      subst (λ bs. Every (λ (h : Change). h.place < length bs) cs) (sym same) c.in_ok-taken.ensures.places,
      rw c.replace-2.ensures.value (subst (λ bs. IfSome c.count_look.new.self (λ ps. IsIndexed (runs bs) ps))
          (c.deref.ensures.value ∙ sym was) c.count_look.ensures),
      rw c.replace-3.ensures.value (subst (λ bs. IsNumber bs c.self.inside.number) (sym was) c.self.invariant.3),
    )

pub returns-clause-stays : goal.returns-clause-stays
returns-clause-stays c =
    let cs = c.in_ok-taken.taken.changes.items in
    let w = c.args.window.now in
    let same : c.replace.result.items ≡ c.deref-3.result.now = ap vec_items c.replace.ensures.value ∙ sym c.deref-3.ensures.value in
    let left : joined (patched (runs c.replace.result.items) cs) ≡ cut_dirt c.args.self.now w =
    ap (λ bs. joined (patched (runs bs) cs)) same ∙ (c.in_ok-taken.ensures.left
    ∙ ap (λ d. cut_dirt d w) (ap all_rects c.deref-3.ensures.value ∙ c.self.view_is)) in
    λ p s n. subst (λ d. Covers d p) (sym left) (cut_covers c.args.self.now w p s n)

pub returns-clause-only : goal.returns-clause-only
returns-clause-only c =
    let cs = c.in_ok-taken.taken.changes.items in
    let w = c.args.window.now in
    let same : c.replace.result.items ≡ c.deref-3.result.now = ap vec_items c.replace.ensures.value ∙ sym c.deref-3.ensures.value in
    let left : joined (patched (runs c.replace.result.items) cs) ≡ cut_dirt c.args.self.now w =
    ap (λ bs. joined (patched (runs bs) cs)) same ∙ (c.in_ok-taken.ensures.left
    ∙ ap (λ d. cut_dirt d w) (ap all_rects c.deref-3.ensures.value ∙ c.self.view_is)) in
    λ p s. cut_only c.args.self.now w p (subst (λ d. Covers d p) left s)
