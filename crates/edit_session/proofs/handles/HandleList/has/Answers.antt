use Rattle.std.proofs.Common.{◌≡◌, true, ℕ, refl, sym, ◌∙◌, subst, eqb}
use Rattle.std.specs.List.{list_any}
use Rattle.std.specs.List.Sorted.{IsStrictlyIncreasing}
use Rattle.edit_session.specs.HandleLists.{HandleItems}
use Rattle.edit_session.proofs.HandleLists.{kept_any, kept_found, kept_rises}
use Rattle.edit_session.proofs.handles.HandleList.has.Goals as goal

pub is_found-requires : goal.is_found-requires
is_found-requires c = subst IsStrictlyIncreasing (sym c.deref-else-contains_key.ensures.value)
    (kept_rises c.self.inside.rising.items c.self.inside.others c.self.inside.items.items c.self.invariant.0)

pub returns-then-contains_key : goal.returns-then-contains_key
returns-then-contains_key c =
    let any = kept_any c.self.inside.rising.items c.self.inside.others c.self.inside.items.items c.args.handle c.self.invariant.0 in
    subst (λ (v : HandleItems). c.contains_key.result ≡ list_any (λ (h : ℕ). eqb h c.args.handle) v.items) c.self.view_is
    (c.if-contains_key.true ∙ sym (any ∙ rw (sym c.contains_key.ensures ∙ c.if-contains_key.true) refl))

pub returns-else-contains_key : goal.returns-else-contains_key
returns-else-contains_key c =
    let any = kept_any c.self.inside.rising.items c.self.inside.others c.self.inside.items.items c.args.handle c.self.invariant.0 in
    let found = rw c.deref-else-contains_key.ensures.value at c.is_found.ensures in
    subst (λ (v : HandleItems). c.is_found.result ≡ list_any (λ (h : ℕ). eqb h c.args.handle) v.items) c.self.view_is
    (found ∙ sym (any ∙ rw (sym c.contains_key.ensures ∙ c.if-contains_key.false) refl))

pub returns-then-is_at_its_distance : goal.returns-then-is_at_its_distance
returns-then-is_at_its_distance c =
    let there = rw (c.deref.ensures.value, c.if-is_at_its_distance.true) at c.is_at_its_distance.ensures in
    subst (λ (v : HandleItems). true ≡ list_any (λ (h : ℕ). eqb h c.args.handle) v.items) c.self.view_is
    (sym (kept_found c.self.inside.rising.items c.self.inside.others c.self.inside.items.items c.args.handle c.self.invariant.0 there))
