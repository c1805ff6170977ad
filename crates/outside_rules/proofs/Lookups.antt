-- The feature of a handle, as a loop over a list finds it.
use Rattle.std.proofs.Common.{◌≡◌, ℕ, true, false, ◌+◌, suc, ◌≤◌, List, ◌∷◌, Some, None, length, drop, sym, ◌∙◌, ap, add-one, drop-cons}
use Rattle.std.proofs.Math.ListN.{drop_of_length-le}
use Rattle.std.proofs.lemmas.Option.{slice_get_within, get_or_from_slice_get}
use Rattle.std.specs.Prelude.{◌==◌, slice_get}
use Rattle.topology_terms.specs.Feature.{Feature, feature_at}
use Rattle.sound_laws.proofs.FeatureLists.{at_handle, past_handle}

on : (F : List Feature) (i : ℕ) (f : Feature) → slice_get F i ≡ Some f → drop i F ≡ f ∷ drop (i + 1) F
on F i f e = drop-cons F i f (slice_get_within F i f e) ∙ (ap (λ y. y ∷ drop (suc i) F) (get_or_from_slice_get F i f f e)
    ∙ ap (λ n. f ∷ drop n F) (sym (add-one i)))

pub past : (F : List Feature) (i h : ℕ) (f : Feature) → slice_get F i ≡ Some f → feature_at (drop i F) h ≡ feature_at F h
    → (f.handle == h) ≡ false → feature_at (drop (i + 1) F) h ≡ feature_at F h
past F i h f e k t = sym (past_handle f (drop (i + 1) F) h t) ∙ (ap (λ G. feature_at G h) (sym (on F i f e)) ∙ k)

pub here : (F : List Feature) (i h : ℕ) (f : Feature) → slice_get F i ≡ Some f → feature_at (drop i F) h ≡ feature_at F h
    → (f.handle == h) ≡ true → feature_at F h ≡ Some f
here F i h f e k t = sym k ∙ (ap (λ G. feature_at G h) (on F i f e) ∙ at_handle f (drop (i + 1) F) h t)

pub nowhere : (F : List Feature) (i h : ℕ) → length F ≤ i → feature_at (drop i F) h ≡ feature_at F h → feature_at F h ≡ None
unfolding feature_at
nowhere F i h l k = sym k ∙ ap (λ G. feature_at G h) (drop_of_length-le F l)
