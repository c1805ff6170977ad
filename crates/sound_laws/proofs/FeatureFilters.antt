-- Lists of the features that pass a test.
use Rattle.std.proofs.Common.{◌≡◌, Bool, true, false, List, [], ◌∷◌, refl, cond}
use Rattle.std.specs.Prelude.{◌&&◌}
use Rattle.std.specs.List.{filter}
use Rattle.plane_terms.specs.Lists.{Every}
use Rattle.topology_terms.specs.Feature.{Feature}

-- ---- filters
pub same_pick : (b d : Bool) (f : Feature) (F G : List Feature) → b ≡ d → F ≡ G → cond b (f ∷ F) F ≡ cond d (f ∷ G) G
same_pick b d f F G e k = rw (e, k) refl

-- tests that agree on each feature keep the same
pub same_kept : (s t : Feature → Bool) (F : List Feature) → Every (λ (g : Feature). s g ≡ t g) F → filter s F ≡ filter t F
same_kept s t [] k = refl
same_kept s t (f ∷ F) k = same_pick (s f) (t f) f (filter s F) (filter t F) k.0 (same_kept s t F k.1)

-- so do tests that are one
pub filter_same : (s t : Feature → Bool) (F : List Feature) → ((g : Feature) → s g ≡ t g) → filter s F ≡ filter t F
filter_same s t F e = same_kept s t F (each F)
  where
    each : (G : List Feature) → Every (λ (g : Feature). s g ≡ t g) G
    each [] = tt
    each (g ∷ G) = (e g, each G)

-- of what passes one test, what passes another
pub kept_twice : (s t : Feature → Bool) (F : List Feature) → filter s (filter t F) ≡ filter (λ g. t g && s g) F
kept_twice s t [] = refl
kept_twice s t (f ∷ F) = both (t f) (kept_twice s t F)
  where
    both : (b : Bool) → filter s (filter t F) ≡ filter (λ g. t g && s g) F
        → filter s (cond b (f ∷ filter t F) (filter t F)) ≡ cond (b && s f) (f ∷ filter (λ g. t g && s g) F) (filter (λ g. t g && s g) F)
    both true e = same_pick (s f) (s f) f (filter s (filter t F)) (filter (λ g. t g && s g) F) refl e
    both false e = e
