-- The headline of a project of plain points, from its checks at the places and handles of the lists.
use Rattle.std.proofs.Common.{◌≡◌, ◌≢◌, ◌↔◌, inl, inr, IsTrue, MatchBool, ℕ, suc, ◌<◌, Bool, true, false, List, [], ◌∷◌, length, Some, None, arith, refl, sym, ap, ◌∙◌, subst}
use Rattle.std.specs.Prelude.{cond, ◌==◌}
use Rattle.std.specs.List.{All, Contains, HoldsAt, AllWithin}
use Rattle.std.proofs.lemmas.Bool.{false≢true}
use Rattle.std.proofs.lemmas.Int.{ints}
use Rattle.std.proofs.lemmas.List.Elements.{All-from_all_within, All-contains}
use Rattle.std.specs.Option.{option_map}
use Rattle.plane_terms.specs.Point.{Place, Point, IsAt, point_at}
use Rattle.plane_terms.specs.Rectangle.{Rectangle}
use Rattle.plane_terms.specs.Dirt.{Covers}
use Rattle.plane_terms.specs.Cell.{InCells, HavePoints}
use Rattle.topology_terms.specs.Feature.{Feature, feature_at, place}
use Rattle.topology_terms.specs.Broken.{Row, BrokenAt, BrokenWhole}
use Rattle.topology_terms.specs.Entry.{Entry, entry_at, has_key, HasCellsAt, IsAscending}
use Rattle.topology_terms.specs.Project.{Project, InForce, rule_at}
use Rattle.script_terms.specs.Headline.{Headline}
use Rattle.sound_laws.proofs.FeatureLists.{same_handle, at_handle, past_handle}
use Rattle.sound_laws.proofs.Lists.{at_key, past_key, entry_key}
use Rattle.cell_laws.proofs.Outside.{at_place_points}
use Rattle.sound_laws.proofs.Dirts.{bool_cases}
use Rattle.plain_topology.specs.Plain.{feature_of, features_of, entry_of, entries_of, row_of, SaysAt, Shows}
use Rattle.plain_topology.specs.declared.points.PlainPoint.{PlainPoint}
use Rattle.plain_topology.specs.declared.entries.PlainEntry.{PlainEntry}
use Rattle.plain_topology.proofs.PlaceFacts.{cells_points}
use Rattle.plain_topology.proofs.PointFacts.{broken_subject, broken_partner}

pub at_itself : (q : Place) → IsAt q (point_at q)
at_itself q = record { x = omega (arith, ints); y = omega (arith, ints) }

-- ---- what `all` answered
all_not : {A : Type 0} (P : A → Type 0) (xs : List A) (k : ℕ) → k < length xs → HoldsAt (λ x. ¬ (P x)) xs k → ¬ (All P xs)
all_not P [] k l h a = absurd (omega arith)
all_not P (x ∷ xs) k l h a = h x (a k x l)

pub all_is : {A : Type 0} (P : A → Type 0) (r : Bool) (xs : List A)
    → MatchBool r (AllWithin P xs 0 (length xs)) ((k : ℕ) × (k < length xs) × HoldsAt (λ x. ¬ (P x)) xs k) → IsTrue r ↔ All P xs
all_is P true xs h = ((λ _. All-from_all_within P xs h), (λ _. refl))
all_is P false xs h = ((λ t. absurd (false≢true t)), (λ s. absurd (all_not P xs h.0 h.1 h.2 s)))

-- what is false of each point at a place is not true of all
pub not_at : (q : Place) (T : Point → Type 0) → ((p : Point) → IsAt q p → IsTrue false ↔ T p) → ¬ ((p : Point) → IsAt q p → T p)
not_at q T h t = false≢true ((h (point_at q) (at_itself q)).1 (t (point_at q) (at_itself q)))

pub so_at : (q : Place) (T : Point → Type 0) → ((p : Point) → IsAt q p → IsTrue true ↔ T p) → (p : Point) → IsAt q p → T p
so_at q T h p i = (h p i).0 refl

-- ---- what is looked up is in the list
pub live_point : (ps : List PlainPoint) (h : ℕ) (f : Feature) → feature_at (features_of ps) h ≡ Some f
    → (x : PlainPoint) × Contains ps x × (feature_of x ≡ f) × (x.handle ≡ h)
unfolding feature_at
live_point [] h f e = cc
live_point (x ∷ ps) h f e = elim (bool_cases (x.handle == h)) [
  | inl t ↦ let l : Some (feature_of x) ≡ Some f = sym (at_handle (feature_of x) (features_of ps) h t)
      ∙ e in (x, (0, omega arith, refl), cc, same_handle x.handle h t)
  | inr t ↦ let y = live_point ps h f (sym (past_handle (feature_of x) (features_of ps) h t) ∙ e) in
      (y.0, (suc y.1.0, omega (arith, y.1.1), y.1.2), y.2, y.3)
]

pub live_entry : (es : List PlainEntry) (r a b : ℕ) (e : Entry) → entry_at (entries_of es) r a b ≡ Some e
    → (x : PlainEntry) × Contains es x × (entry_of x ≡ e)
unfolding entry_at
live_entry [] r a b e h = cc
live_entry (x ∷ es) r a b e h = elim (bool_cases (has_key (entry_of x) r a b)) [
  | inl t ↦ let l : Some (entry_of x) ≡ Some e = sym (at_key (entry_of x) (entries_of es) r a b t) ∙ h in (x, (0, omega arith, refl), cc)
  | inr t ↦ let y = live_entry es r a b e (sym (past_key (entry_of x) (entries_of es) r a b t) ∙ h) in
      (y.0, (suc y.1.0, omega (arith, y.1.1), y.1.2), y.2)
]

-- ---- the one rule
abbrev pub one_rule : ℕ → List InForce
one_rule class = record { number = 1; row = row_of class } ∷ []

picked : (b : Bool) (q : InForce) (found : Row) → option_map (λ (x : InForce). x.row) (cond b (Some q) None) ≡ Some found
    → (b ≡ true) × (found ≡ q.row)
picked true q found e = (refl, cc)
picked false q found e = cc

the_rule : (class r : ℕ) (row : Row) → rule_at (one_rule class) r ≡ Some row → (r ≡ 1) × (row ≡ row_of class)
unfolding rule_at
the_rule class r row e = let p = picked (1 == r) (record { number = 1; row = row_of class }) row e in (sym (same_handle 1 r p.0), p.1)

rule_1 : (class : ℕ) → rule_at (one_rule class) 1 ≡ Some (row_of class)
unfolding rule_at
rule_1 class = refl

not_whole : (class : ℕ) (F : List Feature) (a : ℕ) → ¬ (BrokenWhole (row_of class) F a)
unfolding BrokenWhole
not_whole class F a h = h

-- ---- the sentence on points
abbrev pub AtEntries : ℕ → List PlainPoint → List Rectangle → List PlainEntry → Type 0
AtEntries class ps d es =
    All (λ (e : PlainEntry). (p : Point) → IsAt e.place p
    → SaysAt d (entries_of es) (row_of class) (features_of ps) e.subject e.other p) es

abbrev pub AtPoints : ℕ → List PlainPoint → List Rectangle → List PlainEntry → Type 0
AtPoints class ps d es =
    All (λ (f : PlainPoint).
    All (λ (g : PlainPoint). (p : Point) → IsAt f.place p
    → SaysAt d (entries_of es) (row_of class) (features_of ps) f.handle g.handle p) ps) ps

told_is_broken : (class : ℕ) (ps : List PlainPoint) (d : List Rectangle) (es : List PlainEntry) → AtEntries class ps d es → (q : Point)
    → ¬ (Covers d q) → (a b : ℕ) → HasCellsAt (entries_of es) 1 a b q → BrokenAt (row_of class) (features_of ps) a b q
told_is_broken class ps d es all q n a b w =
    let x = live_entry es 1 a b w.0 w.1 in
    let key = entry_key (entries_of es) 1 a b w.0 w.1 in
    let P : Entry → Type 0 = λ z. InCells z.cells q in
    let i = (cells_points x.0.place q).0 (subst P (sym x.2) w.2) in
    let s : x.0.subject ≡ a = ap (λ (z : Entry). z.subject) x.2 ∙ key.1 in
    let o : x.0.other ≡ b = ap (λ (z : Entry). z.other) x.2 ∙ key.2 in
    let says = All-contains
    (λ (e : PlainEntry). (p : Point) → IsAt e.place p
    → SaysAt d (entries_of es) (row_of class) (features_of ps) e.subject e.other p) es x.0 all x.1 in
    let there : SaysAt d (entries_of es) (row_of class) (features_of ps) a b q = rw (s, o) at (says q i) in
    (there n).0 w

broken_is_told : (class : ℕ) (ps : List PlainPoint) (d : List Rectangle) (es : List PlainEntry) → AtPoints class ps d es → (q : Point)
    → ¬ (Covers d q) → (a b : ℕ) → BrokenAt (row_of class) (features_of ps) a b q → HasCellsAt (entries_of es) 1 a b q
broken_is_told class ps d es all q n a b h =
    let v = broken_subject class (features_of ps) a b q h in
    let w = broken_partner class (features_of ps) a b q h in
    let x = live_point ps a v.f v.live.live in
    let y = live_point ps b w.f w.live.live in
    let P : Feature → Type 0 = λ z. IsAt (place z) q in
    let i : IsAt x.0.place q = subst P (sym x.2) v.here in
    let Q : PlainPoint → PlainPoint → Type 0 = λ f g. (p : Point) → IsAt f.place p
    → SaysAt d (entries_of es) (row_of class) (features_of ps) f.handle g.handle p in
    let says = All-contains (Q x.0) ps y.0 (All-contains (λ f. All (Q f) ps) ps x.0 all x.1) y.1 in
    let there : SaysAt d (entries_of es) (row_of class) (features_of ps) a b q = rw (x.3, y.3) at (says q i) in
    (there n).1 h

-- ---- the project
abbrev plain : Project → ℕ → List PlainPoint → List Rectangle → List PlainEntry → Project
plain p class ps d es =
    record { classes = p.classes; rules = one_rule class; features = features_of ps; next = p.next; dirt = d; entries = entries_of es }

is_plain : (p : Project) (class : ℕ) (ps : List PlainPoint) (d : List Rectangle) (es : List PlainEntry) → Shows p class ps d es
    → p ≡ plain p class ps d es
is_plain p class ps d es s = λ i.
    record { classes = p.classes; rules = s.rules i; features = s.features i; next = p.next; dirt = s.dirt i; entries = s.entries i }

plain_headline : (p : Project) (class : ℕ) (ps : List PlainPoint) (d : List Rectangle) (es : List PlainEntry)
    → IsAscending (entries_of es) → AtEntries class ps d es → AtPoints class ps d es → Headline (plain p class ps d es)
plain_headline p class ps d es asc told kept = record {
  points = λ r row e q n a b.
      let u = the_rule class r row e in
      rw (u.0, u.1) (told_is_broken class ps d es told q n a b, broken_is_told class ps d es kept q n a b);
  features = λ r row e a f l n.
      let u = the_rule class r row e in (
        (λ w. let x = live_entry es r a 0 w.0 w.1 in absurd (false≢true (ap (λ (z : Entry). z.whole) x.2 ∙ w.2))),
        (λ h. absurd (not_whole class (features_of ps) a (rw u.1 at h))),
      );
  some = λ r a b e l w. let x = live_entry es r a b e l in
      let P : Entry → Type 0 = λ z. (z.cells ≢ []) × HavePoints z.cells in
      let q = x.0.place in
      subst P x.2 ((λ h. cc), ((point_at q, (at_place_points q (point_at q)).1 (at_itself q)), tt));
  whole = λ r a b e l w. let x = live_entry es r a b e l in absurd (false≢true (ap (λ (z : Entry). z.whole) x.2 ∙ w));
  ruled = λ r a b e l. let x = live_entry es r a b e l in let key = entry_key (entries_of es) r a b e l in
      let one : r ≡ 1 = sym key.0 ∙ sym (ap (λ (z : Entry). z.rule) x.2) in
      (row_of class, rw one (rule_1 class));
  by_key = asc;
}

pub headline_from_checks : (p : Project) (class : ℕ) (ps : List PlainPoint) (d : List Rectangle) (es : List PlainEntry)
    → Shows p class ps d es → IsAscending (entries_of es) → AtEntries class ps d es → AtPoints class ps d es → Headline p
headline_from_checks p class ps d es s asc told kept =
    let P : Project → Type 0 = Headline in
    subst P (sym (is_plain p class ps d es s)) (plain_headline p class ps d es asc told kept)

plain_of : (p : Project) (class : ℕ) (ps : List PlainPoint) (d : List Rectangle) (es : List PlainEntry) → Shows p class ps d es
    → Headline p → Headline (plain p class ps d es)
plain_of p class ps d es s h = let P : Project → Type 0 = Headline in subst P (is_plain p class ps d es s) h

pub ascending_from_headline : (p : Project) (class : ℕ) (ps : List PlainPoint) (d : List Rectangle) (es : List PlainEntry)
    → Shows p class ps d es → Headline p → IsAscending (entries_of es)
ascending_from_headline p class ps d es s h = (plain_of p class ps d es s h).by_key

pub entries_from_headline : (p : Project) (class : ℕ) (ps : List PlainPoint) (d : List Rectangle) (es : List PlainEntry)
    → Shows p class ps d es → Headline p → AtEntries class ps d es
entries_from_headline p class ps d es s h = λ k e l q i n. (plain_of p class ps d es s h).points 1 (row_of class) (rule_1 class) q n _ _

pub points_from_headline : (p : Project) (class : ℕ) (ps : List PlainPoint) (d : List Rectangle) (es : List PlainEntry)
    → Shows p class ps d es → Headline p → AtPoints class ps d es
points_from_headline p class ps d es s h = λ k f l m g j q i n.
    (plain_of p class ps d es s h).points 1 (row_of class) (rule_1 class) q n _ _
