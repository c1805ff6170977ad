-- A validation, from its selection, its new entries, its replacement and its cut.
use Rattle.std.proofs.Common.{◌≡◌, ◌↔◌, ℕ, ◌≤◌, List, refl, sym, ap, ◌∙◌, subst, arith, Contains}
use Rattle.std.specs.List.{filter}
use Rattle.plane_terms.specs.Lists.{IsThose}
use Rattle.plane_terms.proofs.ListLemmas.{those_one}
use Rattle.plane_terms.specs.Rectangle.{Rectangle, rects_meet}
use Rattle.plane_terms.specs.Dirt.{cut_dirt}
use Rattle.topology_terms.specs.Feature.{Feature, IsAscending}
use Rattle.topology_terms.specs.Meaning.{Meaning}
use Rattle.topology_terms.specs.Entry.{Entry}
use Rattle.topology_terms.specs.Project.{Project, InForce, AreAscending}
use Rattle.topology_terms.specs.Changes.{IsSelected}
use Rattle.topology_terms.specs.Settled.{IsValidatedBy}
use Rattle.validation_laws.specs.Parts.{IsRising, IsJudging, live_of}
use Rattle.topology_terms.specs.Counts.{raised, judged_of}
use Rattle.validation_laws.specs.Replaced.{IsReplaced}
use Rattle.validation_laws.proofs.Validating.{validated_by_parts}
use Rattle.validation_laws.proofs.Counting.{live_those}
use Rattle.validation.specs.Projects.{RuledFeatures, HasParts, with_parts}

-- what a cut took of the dirt of a project
pub met_of : (p : Project) (d met : List Rectangle) (w : Rectangle) → p.dirt ≡ d → met ≡ filter (λ r. rects_meet r w) d
    → met ≡ filter (λ r. rects_meet r w) p.dirt
met_of p d met w h e = e ∙ ap (filter (λ r. rects_meet r w)) (sym h)

pub validated : (M : Meaning) (w : Rectangle) (p : Project) (r : RuledFeatures) (d new : List Rectangle)
    (es after fresh : List Entry) (selected : List ℕ)
    → HasParts p r d es → AreAscending r.in_force → IsRising selected → ((a : ℕ) → Contains selected a ↔ IsSelected p w a)
    → IsJudging M r.features r.in_force selected fresh → IsReplaced selected es fresh after → new ≡ cut_dirt d w
    → IsValidatedBy M w p (with_parts p new after)
validated M w p r d new es after fresh selected h v u chosen judging replaced cut =
    validated_by_parts M w p (with_parts p new after) selected fresh (rw h.rules v) u
    (record { classes = refl; rules = refl; features = refl; next = refl })
    (record { chosen = chosen; judging = rw (h.features, h.rules) judging; replaced = rw h.entries replaced; dirt = rw h.dirt cut })

pub selected_live : (w : Rectangle) (p : Project) (F : List Feature) (selected : List ℕ) → IsAscending F → IsRising selected
    → ((a : ℕ) → Contains selected a ↔ IsSelected p w a)
    → IsThose (λ (f : Feature). IsSelected p w f.handle) F (live_of F selected)
selected_live w p F selected u v chosen = live_those (λ a. IsSelected p w a) F selected u v chosen

-- no more are judged than are selected
pub judged_upto : (w : Rectangle) (p : Project) (rules : List InForce) (F : List Feature) (selected : List ℕ) (old done : ℕ) → IsAscending F
    → IsRising selected → ((a : ℕ) → Contains selected a ↔ IsSelected p w a)
    → done ≤ raised old (judged_of rules (live_of F selected)) → (fs : List Feature)
    → IsThose (λ (f : Feature). IsSelected p w f.handle) F fs → done ≤ raised old (judged_of rules fs)
judged_upto w p rules F selected old done u v chosen l fs those =
    let one = those_one (λ (f : Feature). IsSelected p w f.handle) F (live_of F selected) fs (selected_live w p F selected u v chosen) those
    in
    subst (λ gs. done ≤ raised old (judged_of rules gs)) one l

pub le_of_eq : (m n : ℕ) → m ≡ n → m ≤ n
le_of_eq m n e = omega arith
