-- A rule judges a subject by its view as it does by all features.
use Rattle.std.proofs.Common.{◌≡◌, ◌↔◌, ℕ, List, Option, Some, true, Bool, ◌∙◌, refl}
use Rattle.std.specs.List.{filter}
use Rattle.plane_terms.specs.Point.{Point}
use Rattle.plane_terms.specs.Rectangle.{RectHolds, RectsMeet, rects_meet}
use Rattle.topology_terms.specs.Feature.{Feature, feature_at, env, Agree, IsAscending}
use Rattle.topology_terms.specs.Broken.{Row}
use Rattle.topology_terms.specs.Meaning.{Meaning, Laws, Finding}
use Rattle.sound_laws.proofs.Planes.{corner, holds_corner}
use Rattle.sound_laws.proofs.Edits.{agree_back}
use Rattle.sound_laws.proofs.Meetings.{envelope_proper, meets_test, meets_from_test}
use Rattle.sound_laws.proofs.FeatureLists.{passing, of_filter, ascending_filter, feature_at-filter}
use Rattle.validation_laws.specs.Views.{IsView, ViewLaws}

near : (F V : List Feature) (f : Feature) → IsView F f V → Agree (λ g. RectsMeet (env f) (env g)) V F
near F V f v = record { forth = λ h g e m. (v.forth h g e).0; back = λ h g e m. v.back h g e m }

around : (F V : List Feature) (f : Feature) (p : Point) → IsView F f V → RectHolds (env f) p → Agree (λ g. RectHolds (env g) p) V F
around F V f p v k = record { forth = λ h g e m. (v.forth h g e).0; back = λ h g e m. v.back h g e (p, k, m) }

-- the subject is in its view
pub subject_seen : (F V : List Feature) (a : ℕ) (f : Feature) → feature_at F a ≡ Some f → IsView F f V → feature_at V a ≡ Some f
subject_seen F V a f e v = let held = holds_corner (env f) (envelope_proper f.shape) in v.back a f e (corner (env f), held, held)

pub in_envelope : (M : Meaning) → Laws M → (row : Row) (F : List Feature) (a b : ℕ) (f : Feature) (p : Point) → M.Fits row F
    → feature_at F a ≡ Some f → M.BrokenAt row F a b p → RectHolds (env f) p
in_envelope M L row F a b f p u e k =
    let y = L.inside row F a b p u k in
    let same : y.0 ≡ f = (let l = y.1 in cc) in
    rw same at y.2

-- what fits all features fits the view
pub view_fits : (M : Meaning) → ViewLaws M → (row : Row) (F V : List Feature) (f : Feature) → IsView F f V → M.Fits row F → M.Fits row V
view_fits M W row F V f v u = W.fits row F V v.ascending (λ h g e. (v.forth h g e).0) u

module _ (M : Meaning) (L : Laws M) (row : Row) (F V : List Feature) (a : ℕ) (f : Feature) (u : M.Fits row F) (w : M.Fits row V)
    (e : feature_at F a ≡ Some f) (v : IsView F f V) where
  -- broken at the same points, with the same partners
  pub view_at : (b : ℕ) (p : Point) → M.BrokenAt row V a b p ↔ M.BrokenAt row F a b p
  view_at b p = (
    (λ k. L.point row V F a b p w u (around F V f p v (in_envelope M L row V a b f p w (subject_seen F V a f e v) k)) k),
    (λ k. L.point row F V a b p u w (agree_back (λ g. RectHolds (env g) p) V F (around F V f p v (in_envelope M L row F a b f p u e k))) k),
  )

  -- broken as a whole
  pub view_whole : M.BrokenWhole row V a ↔ M.BrokenWhole row F a
  view_whole =
      let k = subject_seen F V a f e v in (
        (λ h. L.feature row V F a f w u k e (near F V f v) h),
        (λ h. L.feature row F V a f u w e k (agree_back (λ g. RectsMeet (env f) (env g)) V F (near F V f v)) h),
      )

  -- with the same findings
  pub view_cut : IsAscending F → (xs : List Finding) → M.IsCutting row V a xs → M.IsCutting row F a xs
  view_cut r xs h = L.cutting row V F a f v.ascending r w u (subject_seen F V a f e v) e (near F V f v) xs h

-- ---- a view that was looked for among all features
passes : (test : Feature → Bool) (o : Option Feature) (g : Feature) → o ≡ Some g → test g ≡ true → passing test o ≡ Some g
passes test o g e t = rw (e, t) refl

pub view_filtered : (F V : List Feature) (f : Feature) → IsAscending F → V ≡ filter (λ (g : Feature). rects_meet (env f) (env g)) F
    → IsView F f V
view_filtered F V f u e =
    let test : Feature → Bool = λ (g : Feature). rects_meet (env f) (env g) in
    record {
      forth = λ h g k.
          let y = of_filter test F h g u (rw e at k) in
          (y.0, meets_from_test (env f) (env g) (envelope_proper f.shape) (envelope_proper g.shape) y.1);
      back = λ h g k m. rw e (feature_at-filter test F h u ∙ passes test (feature_at F h) g k (meets_test (env f) (env g) m));
      ascending = rw e (ascending_filter test F u);
    }
