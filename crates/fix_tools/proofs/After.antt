-- What plans leave.
use Rattle.std.proofs.Common.{◌≡◌, ◌≢◌, ℕ, ◌+◌, ◌==◌, Bool, true, false, List, [], ◌∷◌, refl, ap, ◌∙◌, Option, Some, if◌then◌else◌}
use Rattle.plane_terms.specs.Lists.{Every}
use Rattle.topology_terms.specs.Feature.{Feature, feature_of}
use Rattle.topology_terms.specs.Changes.{reshaped}
use Rattle.session_terms.specs.Kept.{set_at}
use Rattle.sound_laws.proofs.FeatureLists.{same_handle, own_handle}
use Rattle.fix_terms.specs.Plans.{Edit}
use Rattle.fix_terms.specs.declared.edit.Edit.TheVariants.{Put, Add}
use Rattle.fix_terms.specs.Plans.{after_plan, handles_of}

pub off : (k h : ℕ) → k ≢ h → (k == h) ≡ false
off k h n = by (k == h) refl
  where
    by : (b : Bool) → (k == h) ≡ b → (k == h) ≡ false
    by true e = absurd (n (same_handle k h e))
    by false e = e

pub set_off : (at : ℕ → Option Feature) (h k : ℕ) (x : Option Feature) → k ≢ h → set_at at h x k ≡ at k
set_off at h k x n = ap (λ b. if b then x else at k) (off k h n)

pub set_here : (at : ℕ → Option Feature) (h : ℕ) (x : Option Feature) → set_at at h x h ≡ x
set_here at h x = ap (λ b. if b then x else at h) (own_handle h)

-- a handle that the plan does not name keeps its feature
pub others_after : (es : List Edit) (n : ℕ) (at : ℕ → Option Feature) (k : ℕ) → Every (λ j. k ≢ j) (handles_of es n) → after_plan es n at k ≡ at k
others_after [] n at k h = refl
others_after (Put j s ∷ es) n at k h = others_after es n (set_at at j (reshaped (at j) s)) k h.1 ∙ set_off at j k (reshaped (at j) s) h.0
others_after (Add c t s ∷ es) n at k h =
    others_after es (n + 1) (set_at at n (Some (feature_of n c t s))) k h.1 ∙ set_off at n k (Some (feature_of n c t s)) h.0
