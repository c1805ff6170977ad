-- Edits that are done one after another leave what the plan says.
use Rattle.std.proofs.Common.{◌≡◌, ◌≢◌, ℕ, ◌+◌, ◌==◌, Bool, true, false, List, [], ◌∷◌, refl, sym, subst, ap, ◌∙◌, Option, Some, if◌then◌else◌}
use Rattle.topology_terms.specs.Feature.{Feature, feature_of, feature_at, IsSetAt}
use Rattle.topology_terms.specs.Project.{Project, IsOrdered}
use Rattle.topology_terms.specs.Changes.{reshaped}
use Rattle.session_terms.specs.Kept.{set_at}
use Rattle.sound_laws.proofs.FeatureLists.{same_handle, own_handle}
use Rattle.fix_terms.specs.Plans.{Edit}
use Rattle.fix_terms.specs.declared.edit.Edit.TheVariants.{Put, Add}
use Rattle.fix_terms.specs.Plans.{after_plan, AreDone, IsAfter}
use Rattle.fix_tools.proofs.After.{set_off, set_here}

-- the same look-up at each handle
set_same : (at on : ℕ → Option Feature) (h : ℕ) (x y : Option Feature) → x ≡ y → ((k : ℕ) → at k ≡ on k) → (k : ℕ)
    → set_at at h x k ≡ set_at on h y k
set_same at on h x y e s k = by (k == h)
  where
    by : (b : Bool) → (if b then x else at k) ≡ (if b then y else on k)
    by true = e
    by false = s k

after_same : (es : List Edit) (n m : ℕ) (at on : ℕ → Option Feature) → n ≡ m → ((k : ℕ) → at k ≡ on k) → (k : ℕ)
    → after_plan es n at k ≡ after_plan es m on k
after_same [] n m at on e s k = s k
after_same (Put h t ∷ es) n m at on e s k =
    after_same es n m (set_at at h (reshaped (at h) t)) (set_at on h (reshaped (on h) t)) e
    (set_same at on h (reshaped (at h) t) (reshaped (on h) t) (ap (λ (o : Option Feature). reshaped o t) (s h)) s) k
after_same (Add c u t ∷ es) n m at on e s k =
    ap (λ (j : ℕ). after_plan es (j + 1) (set_at at j (Some (feature_of j c u t))) k) e
    ∙ after_same es (m + 1) (m + 1) (set_at at m (Some (feature_of m c u t))) (set_at on m (Some (feature_of m c u t))) refl
    (set_same at on m (Some (feature_of m c u t)) (Some (feature_of m c u t)) refl s) k

-- what a set of one handle leaves
set_is : (F G : List Feature) (h : ℕ) (after : Option Feature) → IsSetAt h after F G → (k : ℕ) → feature_at G k ≡ set_at (feature_at F) h after k
set_is F G h after s k = by (k == h) refl
  where
    by : (b : Bool) → (k == h) ≡ b → feature_at G k ≡ set_at (feature_at F) h after k
    by true e =
        let same : k ≡ h = same_handle k h e in
        subst (λ (j : ℕ). feature_at G j ≡ set_at (feature_at F) h after j) (sym same) (s.here ∙ sym (set_here (feature_at F) h after))
    by false e = let other : k ≢ h = λ i. no (k == h) e (ap (λ (j : ℕ). j == h) i ∙ own h) in s.others k other ∙ sym (set_off (feature_at F) h k after other)
      where
        own : (h : ℕ) → (h == h) ≡ true
        own h = own_handle h

        no : (b : Bool) → b ≡ false → b ≡ true → ⊥
        no b u v = cc

pub done_each : (es : List Edit) (p q : Project) → AreDone es p q → (k : ℕ)
    → feature_at q.features k ≡ after_plan es p.next (feature_at p.features) k
done_each [] p q d k = ap (λ (r : Project). feature_at r.features k) d
done_each (Put h s ∷ es) p q d k =
    let m = d.0 in
    done_each es m q d.2 k
    ∙ after_same es m.next p.next (feature_at m.features) (set_at (feature_at p.features) h (reshaped (feature_at p.features h) s)) d.1.next
    (set_is p.features m.features h (reshaped (feature_at p.features h) s) d.1.edit.features) k
done_each (Add c u s ∷ es) p q d k =
    let m = d.0 in
    done_each es m q d.2 k
    ∙ after_same es m.next (p.next + 1) (feature_at m.features) (set_at (feature_at p.features) p.next (Some (feature_of p.next c u s))) d.1.next
    (set_is p.features m.features p.next (Some (feature_of p.next c u s)) d.1.edit.features) k

pub done_after : (es : List Edit) (p q : Project) → IsOrdered q → AreDone es p q → IsAfter es p.features p.next q.features
done_after es p q o d = record { ascending = o.features; each = done_each es p q d }
