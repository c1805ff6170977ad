-- The verdict on the line of a feature, from what its shape's text reads as.
use Rattle.std.proofs.Common.{ℕ, ◌≡◌, ◌-◌, Bool, true, false, if◌then◌else◌, List, ◌∷◌, Some, None, Result, Ok, Err, refl, sym, ap, subst, ◌∙◌}
use Rattle.std.specs.Prelude.{IfSome, codes, bytes_eq}
use Rattle.std.proofs.lemmas.Slice.Eq.{bytes_eq-Decides}
use Rattle.plane_terms.specs.Shape.{Shape}
use Rattle.project_terms.specs.declared.stage.Stage.TheVariants as stage
use Rattle.project_terms.specs.Lines.{fields, natural}
use Rattle.project_terms.specs.Drafts.{Draft, is_open}
use Rattle.project_terms.specs.Verdicts.{Verdict, Written, FeatureForm, wkt_in, feature_of, feature_numbered}
use Rattle.project_terms.specs.Texts.{IsReading, IsLineVerdict, IsVerdict}
use Rattle.project_text.specs.Reading.{Gives, Says, IsFeatureVerdict}
use Rattle.project_text.specs.declared.fault.LineFault.{LineFault}
use Rattle.project_text.specs.declared.fault.LineFault.TheVariants as line

pub gives_map : {X : Type 0} (r : Result X LineFault) (P Q : Verdict → Type 0) (d : Draft) → ((v : Verdict) → P v → Q v) → Gives r P d
    → Gives r Q d
gives_map (Ok x) P Q d f h = f (Ok d) h
gives_map (Err (line.Wrong c)) P Q d f h = f (Err c) h
gives_map (Err line.NoMemory) P Q d f h = tt

pub feature_read : {X : Type 0} (r : Result X LineFault) (d new : Draft) (fs : List (List ℕ)) (f : FeatureForm) (s : Shape)
    → is_open stage.Features d ≡ true
    → feature_of d.typed fs ≡ Some f → IsReading f.wkt (Written s)
    → Says r (feature_numbered d f.own s (natural 1 (d.project.next - 1) f.handle)) new
    → Gives r (IsFeatureVerdict d fs) new
feature_read r d new fs f s may said reading h =
    gives_map r (λ v. v ≡ feature_numbered d f.own s (natural 1 (d.project.next - 1) f.handle)) (IsFeatureVerdict d fs) new
    (λ v e. (Written s, λ o. rw said reading, rw (may, said) e)) h

of_feature : (d : Draft) (fs : List (List ℕ)) (v : Verdict) → IsFeatureVerdict d fs v → IsLineVerdict d (codes "feature" ∷ fs) v
of_feature d fs v (r, read, e) = (r, looked (is_open stage.Features d) refl, e)
  where
    looked : (b : Bool) → is_open stage.Features d ≡ b → IfSome (if b then wkt_in (feature_of d.typed fs) else None) (λ t. IsReading t r)
    looked true o = read o
    looked false o = tt

pub feature_line : (d : Draft) (l w : List ℕ) (fs : List (List ℕ)) (v : Verdict) → fields l ≡ w ∷ fs → bytes_eq w (codes "feature") ≡ true
    → IsFeatureVerdict d fs v → IsVerdict d l v
feature_line d l w fs v cut is h =
    let same : w ≡ codes "feature" = (bytes_eq-Decides w (codes "feature")).0 is in
    subst (λ (gs : List (List ℕ)). IsLineVerdict d gs v) (sym (cut ∙ ap (λ (x : List ℕ). x ∷ fs) same)) (of_feature d fs v h)
