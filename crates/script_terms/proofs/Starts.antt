-- The empty project is sound and settled; so is the state that a run comes to, where each of its states is.
use Rattle.std.proofs.Common.{◌≡◌, ℕ, zero, suc, List, [], ◌∷◌, Option, Some, None, refl, subst}
use Rattle.std.specs.Prelude.{option_and_then, slice_get}
use Rattle.topology_terms.specs.Project.{Project, empty_project, rule_at}
use Rattle.topology_terms.specs.Settled.{IsSettled}
use Rattle.topology_terms.specs.Sound.{IsSound}
use Rattle.script_terms.specs.State.{State, OfAll, tree_of}
use Rattle.script_terms.specs.Headline.{Invariant, SoundHeadline}
use Rattle.plane_terms.specs.Lists.{Every}
use Rattle.version_terms.specs.Versions.{Tree, Version, all_of, default_name, place_of, project_in, root_of, version_at}
use Rattle.version_terms.specs.declared.place.Place.{Place}
use Rattle.version_terms.specs.declared.place.Place.TheVariants.{Current, Other}
use Rattle.script_terms.specs.Run.{Outcome, EachSound, EachInvariant, last_state}

pub empty_sound : IsSound empty_project
unfolding rule_at
empty_sound = record { each = λ r row e a. absurd cc }

pub empty_settled : IsSettled empty_project
unfolding rule_at
empty_settled = record { cut = λ r row e a f k n. absurd cc; frames = λ r row e a. absurd cc }

-- ---- the state that a run comes to
pub each_sound : (vs : List Version) → Every (λ (v : Version). SoundHeadline v.project) vs → Every (λ (v : Version). IsSound v.project) vs
each_sound [] h = tt
each_sound (v ∷ vs) h = (h.0.sound, each_sound vs h.1)

pub each_settled : (vs : List Version) → Every (λ (v : Version). Invariant v.project) vs → Every (λ (v : Version). IsSettled v.project) vs
each_settled [] h = tt
each_settled (v ∷ vs) h = (h.0.settled, each_settled vs h.1)

pub last_sound : (s : State) (os : List Outcome) → EachSound s os → OfAll IsSound (last_state s os)
last_sound s [] h = each_sound (all_of (tree_of s)) h
last_sound s (o ∷ os) h = last_sound o.after os h.1

pub last_settled : (s : State) (os : List Outcome) → EachInvariant s os → OfAll IsSettled (last_state s os)
last_settled s [] h = each_settled (all_of (tree_of s)) h
last_settled s (o ∷ os) h = last_settled o.after os h.1

-- ---- the version `default`
every_get : (P : Version → Type 0) (xs : List Version) (k : ℕ) (v : Version) → Every P xs → slice_get xs k ≡ Some v → P v
every_get P [] k v e g = cc
every_get P (x ∷ xs) zero v e g = (let s : x ≡ v = cc in subst P s e.0)
every_get P (x ∷ xs) (suc k) v e g = every_get P xs k v e.1 g

pub root_has : (P : Project → Type 0) (t : Tree) → P empty_project → Every (λ (v : Version). P v.project) (all_of t) → P (root_of t)
root_has P t e h = by (place_of t default_name)
  where
    at : (o : Option Version) (k : ℕ) → slice_get t.others k ≡ o → P (project_in o)
    at None k g = e
    at (Some v) k g = every_get (λ (w : Version). P w.project) t.others k v h.1 g

    by : (o : Option Place) → P (project_in (option_and_then (version_at t) o))
    by None = e
    by (Some Current) = h.0
    by (Some (Other k)) = at (slice_get t.others k) k refl

pub root_sound : (s : State) → OfAll IsSound s → IsSound (root_of (tree_of s))
root_sound s h = root_has IsSound (tree_of s) empty_sound h

pub root_settled : (s : State) → OfAll IsSettled s → IsSettled (root_of (tree_of s))
root_settled s h = root_has IsSettled (tree_of s) empty_settled h
