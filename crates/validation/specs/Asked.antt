-- What a validation asks the index of its features about, and how many steps the answers may take. Lengths are in grid units.
--
-- dirty_parts d w        what the window w has in common with each of the dirty rectangles d that meets it
-- places_of r            how many places of the grid lie in the rectangle
-- places_in rs           how many lie in these rectangles; one that lies in several counts as often
-- IsRound j rs           j is the least rectangle that holds all of rs
-- IsClose j rs           rs are more than 64, or fill half of j
-- AreAsked rs qs         to learn what meets one of rs, qs are asked about: rs themselves, or the least rectangle round them, if they are close
-- asked_steps s qs ps    the most steps of a question about each of qs in an index with the placed rectangles ps, whichever length s is
-- view_steps s q ps      the most steps to see what is near q: those of a question about it, and one to learn how far the whole reaches
-- viewed_steps s qs ps   the most steps to see what is near each of qs
-- judged_envelopes rules fs    the envelopes of those of the features fs that one of the rules judges
-- IsAskedOf rs ps m n    from the count m to n there are no more steps than to learn what of ps meets one of rs
-- IsAskedFor r rs fs m n the same, and to see what is near each of the features fs that one of the rules judges: of the rules and placed rectangles of r
use Rattle.std.specs.Prelude.{◌≡◌, ◌⊎◌, ◌<◌, ◌≤◌, ◌+◌, ◌*◌, ◌/◌, ℕ, ◌-ℤ◌, unsigned_abs, List, [], ◌∷◌, map, filter, length}
use Rattle.std.specs.List.{list_any, sum_by}
use Rattle.plane_terms.specs.Lists.{Every}
use Rattle.plane_terms.specs.Rectangle.{Rectangle, IsWithin, rects_meet, part_of}
use Rattle.topology_terms.specs.Feature.{Feature, env}
use Rattle.topology_terms.specs.Broken.{judged}
use Rattle.topology_terms.specs.Project.{InForce}
use Rattle.grid_index.specs.declared.placed.Placed.{Placed}
use Rattle.grid_index.specs.Steps.{most_steps}
use Rattle.validation.specs.Projects.{RuledFeatures}

abbrev pub dirty_parts : List Rectangle → Rectangle → List Rectangle
dirty_parts d w = map (λ (r : Rectangle). part_of r w) (filter (λ (r : Rectangle). rects_meet r w) d)

abbrev pub places_of : Rectangle → ℕ
places_of r = (unsigned_abs (r.x1 -ℤ r.x0) + 1) * (unsigned_abs (r.y1 -ℤ r.y0) + 1)

abbrev pub places_in : List Rectangle → ℕ
places_in rs = sum_by places_of rs

pub record IsRound (j : Rectangle) (rs : List Rectangle) : Type 0 where
  pub holds : Every (λ (r : Rectangle). IsWithin r j) rs
  pub least : (k : Rectangle) → Every (λ (r : Rectangle). IsWithin r k) rs → IsWithin j k

abbrev pub IsClose : Rectangle → List Rectangle → Type 0
IsClose j rs = (64 < length rs) ⊎ (places_of j / 2 ≤ places_in rs)

abbrev pub AreAsked : List Rectangle → List Rectangle → Type 0
AreAsked rs qs = (qs ≡ rs) ⊎ ((j : Rectangle) × IsRound j rs × IsClose j rs × (qs ≡ j ∷ []))

abbrev pub asked_steps : ℕ → List Rectangle → List Placed → ℕ
asked_steps s qs ps = sum_by (λ (q : Rectangle). most_steps s q ps) qs

abbrev pub view_steps : ℕ → Rectangle → List Placed → ℕ
view_steps s q ps = most_steps s q ps + 1

abbrev pub viewed_steps : ℕ → List Rectangle → List Placed → ℕ
viewed_steps s qs ps = sum_by (λ (q : Rectangle). view_steps s q ps) qs

abbrev pub judged_envelopes : List InForce → List Feature → List Rectangle
judged_envelopes rules fs = map env (filter (λ (f : Feature). list_any (λ (q : InForce). judged q.row f) rules) fs)

pub record IsAskedOf (rs : List Rectangle) (ps : List Placed) (m n : ℕ) : Type 0 where
  pub about : List Rectangle
  pub asked : AreAsked rs about
  pub steps : (s : ℕ) → n ≤ m + asked_steps s about ps

pub record IsAskedFor (r : RuledFeatures) (rs : List Rectangle) (fs : List Feature) (m n : ℕ) : Type 0 where
  pub about : List Rectangle
  pub asked : AreAsked rs about
  pub steps : (s : ℕ) → n ≤ m + (asked_steps s about r.placed + viewed_steps s (judged_envelopes r.in_force fs) r.placed)
