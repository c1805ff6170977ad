-- Of a subject that is judged afresh and its stored entries: the test of the pair is that of the project.
use Rattle.std.proofs.Common.{◌≡◌, ◌↔◌, ℕ, Bool, IsTrue, List, Option, sym, subst}
use Rattle.std.specs.Option.{option_map}
use Rattle.plane_terms.specs.Rectangle.{Rectangle}
use Rattle.topology_terms.specs.Feature.{Feature, feature_at, env, IsAscending}
use Rattle.topology_terms.specs.Broken.{Row}
use Rattle.topology_terms.specs.Meaning.{Meaning, Laws, CutsRight}
use Rattle.topology_terms.specs.Entry.{Entry, entry_at}
use Rattle.topology_terms.specs.Project.{Project, InForce}
use Rattle.topology_terms.specs.Sound.{IsSoundAt}
use Rattle.validation_laws.specs.Parts.{IsSubjectPart}
use Rattle.validation.specs.Parted.{RulePart, IsPartOf}
use Rattle.sound_check.specs.Pairs.{IsSoundPair, AreExact}
use Rattle.sound_check.proofs.Exact.{part_exact, sound_at, sound_pair}
use Rattle.project_check.specs.Subjects.{HasLists, IsCompared, IsSoundFor}

pub pair_at : (M : Meaning) → Laws M → CutsRight M → (p : Project) (F : List Feature) (d : List Rectangle) (es : List Entry) (r : ℕ)
    (row : Row) (a : ℕ) (fresh stored : List Entry) (ok : Bool) → HasLists p F d es → IsAscending F → M.Fits row F
    → IsSubjectPart M F r row a fresh → ((b : ℕ) → entry_at stored r a b ≡ entry_at es r a b)
    → IsTrue ok ↔ IsSoundPair d (option_map env (feature_at F a)) fresh stored r a → IsTrue ok ↔ IsSoundAt M p r row a
pair_at M L C p F d es r row a fresh stored ok h u fits part same t =
    let exact : AreExact M p.features row fresh r a = subst (λ G. AreExact M G row fresh r a) (sym h.features)
    (part_exact M L C F row fresh r a u fits part) in
    let own : (b : ℕ) → entry_at stored r a b ≡ entry_at p.entries r a b = λ b.
    subst (λ xs. entry_at stored r a b ≡ entry_at xs r a b) (sym h.entries) (same b) in
    let pair : IsTrue ok ↔ IsSoundPair p.dirt (option_map env (feature_at p.features a)) fresh stored r a = rw (h.dirt, h.features) t in (
      λ k. sound_at M p row fresh stored r a exact own (pair.0 k),
      λ s. pair.1 (sound_pair M p row fresh stored r a exact own s),
    )

pub compared_at : (M : Meaning) → Laws M → CutsRight M → (p : Project) (F : List Feature) (d : List Rectangle) (es : List Entry) (q : InForce)
    (a : ℕ) (fresh : RulePart) (o : Option Rectangle) (ok : Bool) → HasLists p F d es → IsAscending F → M.Fits q.row F
    → IsPartOf M F a q fresh → o ≡ option_map env (feature_at F a) → IsCompared d o es fresh a ok → IsTrue ok ↔ IsSoundFor M p a q
compared_at M L C p F d es q a fresh o ok h u fits part e c = pair_at M L C p F d es q.number q.row a fresh.entries c.stored ok h u fits
    part.own (rw part.rule at c.same) (rw (part.rule, e) at c.told)
