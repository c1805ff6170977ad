-- With no dirt, the errors of a settled project are the list of those from scratch.
use Rattle.std.proofs.lemmas.List.{map-append}
use Rattle.std.proofs.Common.{◌≡◌, ℕ, ◌<◌, Bool, true, false, inl, inr, List, [], ◌∷◌, ◌++◌, map, Option, Some, None, refl, sym, ◌∙◌, ap, subst, Contains}
use Rattle.std.specs.Prelude.{flat_map, if◌then◌else◌}
use Rattle.plane_terms.specs.Lists.{Every, SomeOf, Paired}
use Rattle.plane_terms.specs.Cell.{Cell}
use Rattle.plane_terms.specs.Rectangle.{Rectangle, whole_grid}
use Rattle.plane_terms.proofs.ListLemmas.{every_map, IsAmong, among_at}
use Rattle.plane_terms.proofs.Truths.{there_or_not}
use Rattle.topology_terms.specs.Feature.{Feature, feature_at, by_handle, IsAscending}
use Rattle.topology_terms.specs.Broken.{Row, judged}
use Rattle.topology_terms.specs.Meaning.{Finding, Meaning, CutsRight, by_partner, finding_at}
use Rattle.topology_terms.specs.Plans.{Plan, WithEach, Alone, Whole, Later, Own, Second, Other, around, side_by, finding_of, pair_findings, whole_finding, plan_of, cut_by, cutting_of, IsCutting}
use Rattle.topology_terms.specs.Poster.{poster}
use Rattle.topology_terms.specs.Entry.{Entry, entry_at, by_key}
use Rattle.topology_terms.specs.Project.{Project, InForce, rule_at, by_number, AreAscending}
use Rattle.topology_terms.specs.Scratch.{unmarked, IsFromScratch}
use Rattle.topology_terms.specs.Settled.{IsSettled, AreAlike, AreCut}
use Rattle.sound_laws.proofs.Keyed.{numbers}
use Rattle.sound_laws.proofs.Keyed as keyed
use Rattle.sound_laws.proofs.FeatureLists.{handles}
use Rattle.sound_laws.proofs.Lists.{keys, entry_key, every_found}
use Rattle.sound_laws.proofs.RuleLists.{rule_numbers, rule_found}
use Rattle.sound_laws.proofs.Scratch.{settled_scratch, one_scratch}
use Rattle.rule_laws.proofs.Nears.{near_ascends, near_after_ascends}
use Rattle.validation_laws.specs.Parts.{IsRising, AreInOrder, IsJoined, IsNewEntry, IsSubjectPart, IsRulePart, IsJudging}
use Rattle.validation_laws.specs.Replaced.{IsNewOf}
use Rattle.validation_laws.proofs.Judging.{found_alike, judging_ascends, judging_fresh, judging_idle, judging_part}
use Rattle.topo_core.specs.Topologies.{IsTopology}
use Rattle.script_terms.specs.Scratch.{Found, found_of, found_under, IsFrameOf, AreFromScratch}

-- ---- findings stand in the order of their partners
first_above : (n : ℕ) (cells : Feature → List Cell) (gs : List Feature) → Every (λ (g : Feature). n < g.handle) gs
    → Every (λ (x : Finding). n < x.other) (pair_findings cells gs)
first_above n cells [] h = tt
first_above n cells (g ∷ gs) h = put (cells g) (first_above n cells gs h.1)
  where
    put : (cs : List Cell) → Every (λ (x : Finding). n < x.other) (pair_findings cells gs)
        → Every (λ (x : Finding). n < x.other) (finding_of g.handle cs ++ pair_findings cells gs)
    put [] k = k
    put (c ∷ cs) k = (h.0, k)

pairs_rise : (cells : Feature → List Cell) (gs : List Feature) → IsAscending gs → AreInOrder (pair_findings cells gs)
pairs_rise cells [] u = tt
pairs_rise cells (g ∷ gs) u = put (cells g) (pairs_rise cells gs u.1)
  where
    put : (cs : List Cell) → AreInOrder (pair_findings cells gs) → AreInOrder (finding_of g.handle cs ++ pair_findings cells gs)
    put [] k = k
    put (c ∷ cs) k = (first_above g.handle cells gs u.0, k)

one_rises : (b : ℕ) (cs : List Cell) → AreInOrder (finding_of b cs)
one_rises b [] = tt
one_rises b (c ∷ cs) = (tt, tt)

plan_rises : (plan : Plan) (row : Row) (F : List Feature) (f : Feature) → IsAscending F → AreInOrder (cut_by plan row F f)
plan_rises (WithEach Later cells) row F f u = pairs_rise (cells f) (around Later row F f) (near_after_ascends row.origin f F u)
plan_rises (WithEach Own cells) row F f u = pairs_rise (cells f) (around Own row F f) (near_ascends row.origin f F u)
plan_rises (WithEach Second cells) row F f u = pairs_rise (cells f) (around Second row F f) (near_ascends row.dest f F u)
plan_rises (WithEach Other cells) row F f u = pairs_rise (cells f) (around Other row F f) (near_ascends (side_by Other row f) f F u)
plan_rises (Alone who cells) row F f u = one_rises 0 (cells f (around who row F f))
plan_rises (Whole who test) row F f u = pick (test f (around who row F f))
  where
    pick : (t : Bool) → AreInOrder (if t then whole_finding else [])
    pick true = (tt, tt)
    pick false = tt

cutting_rises : (row : Row) (F : List Feature) (f : Feature) → IsAscending F → AreInOrder (cutting_of row F f)
cutting_rises row F f u = pick (judged row f)
  where
    pick : (t : Bool) → AreInOrder (if t then cut_by (plan_of row.kind) row F f else [])
    pick true = plan_rises (plan_of row.kind) row F f u
    pick false = tt

-- ---- the entry of a finding, with the frame that stands at its key
abbrev frame_in : Option Entry → Rectangle
frame_in None = whole_grid
frame_in (Some e) = e.frame

abbrev made : List Entry → ℕ → ℕ → Finding → Entry
made es r a x = record {
  rule = r;
  subject = a;
  other = x.other;
  whole = x.whole;
  marked = false;
  frame = frame_in (entry_at es r a x.other);
  cells = x.cells;
}

made_new : (f : Feature) (es : List Entry) (r a : ℕ) (x : Finding) (o : Option Entry) → entry_at es r a x.other ≡ o → AreAlike f (Some x) o
    → IsNewEntry r a f x (made es r a x)
made_new f es r a x None e h = absurd h
made_new f es r a x (Some d) e h = record {
  rule = refl;
  subject = refl;
  other = refl;
  unmarked = refl;
  found = record { whole = refl; cells = refl; frame = λ w. rw e (h.frame w); envelope = λ w. rw e (h.envelope w) };
}

all_made : (f : Feature) (es : List Entry) (r a : ℕ) (xs : List Finding) → Every (λ (x : Finding). IsNewEntry r a f x (made es r a x)) xs
    → Paired (IsNewEntry r a f) xs (map (made es r a) xs)
all_made f es r a [] h = tt
all_made f es r a (x ∷ xs) h = (h.0, all_made f es r a xs h.1)

abbrev found_as : ℕ → ℕ → Finding → Found
found_as r a x = (r, a, x)

made_found : (es : List Entry) (r a : ℕ) (xs : List Finding) → map found_of (map (made es r a) xs) ≡ map (found_as r a) xs
made_found es r a [] = refl
made_found es r a (x ∷ xs) = ap (λ t. found_as r a x ∷ t) (made_found es r a xs)

unmarked_found : (es : List Entry) → map found_of (map unmarked es) ≡ map found_of es
unmarked_found [] = refl
unmarked_found (e ∷ es) = ap (λ t. found_of e ∷ t) (unmarked_found es)

-- ---- handles
above_mapped : (n : ℕ) (F : List Feature) → Every (λ (g : Feature). n < g.handle) F → Every (λ m. n < m) (map (λ (g : Feature). g.handle) F)
above_mapped n [] h = tt
above_mapped n (g ∷ F) h = (h.0, above_mapped n F h.1)

handles_rise : (F : List Feature) → IsAscending F → IsRising (map (λ (g : Feature). g.handle) F)
handles_rise [] u = tt
handles_rise (g ∷ F) u = (above_mapped g.handle F u.0, handles_rise F u.1)

among_handles : (a : ℕ) (F : List Feature) → SomeOf (λ (g : Feature). a ≡ g.handle) F → IsAmong a (map (λ (g : Feature). g.handle) F)
among_handles a [] h = absurd h
among_handles a (g ∷ F) h = elim h [ inl e ↦ inl e | inr m ↦ inr (among_handles a F m) ]

among_back : (a : ℕ) (F : List Feature) → IsAmong a (map (λ (g : Feature). g.handle) F) → SomeOf (λ (g : Feature). a ≡ g.handle) F
among_back a [] h = absurd h
among_back a (g ∷ F) h = elim h [ inl e ↦ inl e | inr m ↦ inr (among_back a F m) ]

-- a handle of the list has its feature
live_handle : (F : List Feature) (a : ℕ) → IsAscending F → Contains (map (λ (g : Feature). g.handle) F) a
    → (f : Feature) × (feature_at F a ≡ Some f)
unfolding feature_at
live_handle F a u c =
    let m = among_back a F (among_at (map (λ (g : Feature). g.handle) F) c.0 a c.1 c.2) in
    let h = keyed.some_found by_handle handles (λ (g : Feature). a ≡ g.handle) F u m in
    (h.0, subst (λ (n : ℕ). feature_at F n ≡ Some h.0) (sym h.2) h.1)

among_live : (F : List Feature) (a : ℕ) (f : Feature) → feature_at F a ≡ Some f → IsAmong a (map (λ (g : Feature). g.handle) F)
unfolding feature_at
among_live F a f e = among_handles a F (keyed.found_some by_handle handles (λ (g : Feature). a ≡ g.handle) F a f e
    (sym (keyed.key_found by_handle handles F a f e)))

each_live : (F : List Feature) → IsAscending F → Every (λ (f : Feature). feature_at F f.handle ≡ Some f) F
unfolding feature_at
each_live F u = keyed.each_found by_handle handles (λ (f : Feature). feature_at F f.handle ≡ Some f) F u
    (λ h f e. subst (λ (n : ℕ). feature_at F n ≡ Some f) (sym (keyed.key_found by_handle handles F h f e)) e)

each_in_force : (rules : List InForce) → AreAscending rules → Every (λ (q : InForce). rule_at rules q.number ≡ Some q.row) rules
each_in_force rules u = keyed.each_found by_number rule_numbers (λ (q : InForce). rule_at rules q.number ≡ Some q.row) rules u
    (λ n q e. rw (keyed.key_found by_number rule_numbers rules n q e) (rule_found rules n q e))

-- one cutting of a subject
one_cutting : (row : Row) (F : List Feature) (a : ℕ) (xs ys : List Finding) → IsCutting row F a xs → IsCutting row F a ys → xs ≡ ys
unfolding IsCutting
one_cutting row F a xs ys h k =
    let same : h.0 ≡ k.0 = (let s = sym h.1 ∙ k.1 in cc) in
    h.2 ∙ (ap (cutting_of row F) same ∙ sym k.2)

-- the cuttings alone, for no features: what is said of those that fit is said of none
abbrev bare : Meaning
bare = record { Fits = λ row F. ⊥; BrokenAt = poster.BrokenAt; BrokenWhole = poster.BrokenWhole; IsCutting = poster.IsCutting }

bare_right : CutsRight bare
bare_right = record { right = λ row F a f u fit e xs h. absurd fit; one = one_cutting }

is_cutting : (F : List Feature) (row : Row) (a : ℕ) (f : Feature) → feature_at F a ≡ Some f → IsCutting row F a (cutting_of row F f)
unfolding IsCutting
is_cutting F row a f k = (f, k, refl)

-- the cutting of a subject, whose entries are known
known_cut : (F : List Feature) (row : Row) (a : ℕ) (f : Feature) (es : List Entry) (r : ℕ) → feature_at F a ≡ Some f
    → AreCut poster F row f es r a → (b : ℕ) → AreAlike f (finding_at (cutting_of row F f) b) (entry_at es r a b)
known_cut F row a f es r k z b =
    let same : z.0 ≡ cutting_of row F f = one_cutting row F a z.0 (cutting_of row F f) z.1 (is_cutting F row a f k) in
    subst (λ (xs : List Finding). AreAlike f (finding_at xs b) (entry_at es r a b)) same (z.2 b)

-- ---- what is cut of a project whose entries are those of the cuttings
module _ (p : Project) (rules : AreAscending p.rules) (features : IsAscending p.features)
    (cut : (r : ℕ) (row : Row) → rule_at p.rules r ≡ Some row → (a : ℕ) (f : Feature) → feature_at p.features a ≡ Some f
    → AreCut poster p.features row f p.entries r a) where
  abbrev selected : List ℕ
  selected = map (λ (g : Feature). g.handle) p.features

  abbrev part : InForce → Feature → List Entry
  part q f = map (made p.entries q.number f.handle) (cutting_of q.row p.features f)

  abbrev fresh : List Entry
  fresh = flat_map (λ (q : InForce). flat_map (part q) p.features) p.rules

  part_new : (q : InForce) (f : Feature) → rule_at p.rules q.number ≡ Some q.row → feature_at p.features f.handle ≡ Some f
      → Paired (IsNewEntry q.number f.handle f) (cutting_of q.row p.features f) (part q f)
  unfolding finding_at
  part_new q f e k =
      let xs = cutting_of q.row p.features f in
      let alike = known_cut p.features q.row f.handle f p.entries q.number k (cut q.number q.row e f.handle f k) in
      all_made f p.entries q.number f.handle xs (keyed.each_found by_partner (numbers (λ (x : Finding). x.other))
      (λ (x : Finding). IsNewEntry q.number f.handle f x (made p.entries q.number f.handle x)) xs (cutting_rises q.row p.features f features)
      (λ b x at.
      let own : x.other ≡ b = keyed.key_found by_partner (numbers (λ (x : Finding). x.other)) xs b x at in
      let there : AreAlike f (Some x) (entry_at p.entries q.number f.handle b) = subst
      (λ (o : Option Finding). AreAlike f o (entry_at p.entries q.number f.handle b)) at (alike b) in
      made_new f p.entries q.number f.handle x (entry_at p.entries q.number f.handle b)
      (ap (λ c. entry_at p.entries q.number f.handle c) own) there))

  part_is : (q : InForce) (f : Feature) → rule_at p.rules q.number ≡ Some q.row → feature_at p.features f.handle ≡ Some f
      → IsSubjectPart poster p.features q.number q.row f.handle (part q f)
  unfolding IsCutting
  part_is q f e k = record {
    live = λ g m.
        let same : f ≡ g = (let s = sym k ∙ m in cc) in (
          cutting_of q.row p.features f,
          (f, k, refl),
          cutting_rises q.row p.features f features,
          subst (λ (h : Feature). Paired (IsNewEntry q.number f.handle h) (cutting_of q.row p.features f) (part q f)) same
              (part_new q f e k),
        );
    dead = λ n. let s = sym k ∙ n in absurd cc;
  }

  features_joined : (q : InForce) → rule_at p.rules q.number ≡ Some q.row → (gs : List Feature)
      → Every (λ (f : Feature). feature_at p.features f.handle ≡ Some f) gs
      → IsJoined (IsSubjectPart poster p.features q.number q.row) (map (λ (g : Feature). g.handle) gs) (flat_map (part q) gs)
  features_joined q e [] h = refl
  features_joined q e (g ∷ gs) h = (part q g, (flat_map (part q) gs, (refl, part_is q g e h.0, features_joined q e gs h.1)))

  rules_joined : (qs : List InForce) → Every (λ (q : InForce). rule_at p.rules q.number ≡ Some q.row) qs
      → IsJoined (IsRulePart poster p.features selected) qs (flat_map (λ (q : InForce). flat_map (part q) p.features) qs)
  rules_joined [] h = refl
  rules_joined (q ∷ qs) h = (
    flat_map (part q) p.features,
    (
      flat_map (λ (q : InForce). flat_map (part q) p.features) qs,
      (refl, features_joined q h.0 p.features (each_live p.features features), rules_joined qs h.1),
    ),
  )

  judging : IsJudging poster p.features p.rules selected fresh
  judging = rules_joined p.rules (each_in_force p.rules rules)

  none_dead : (r a b : ℕ) → feature_at p.features a ≡ None → entry_at fresh r a b ≡ None
  none_dead r a b n = elim (there_or_not (entry_at fresh r a b)) [
    | inr k ↦ k
    | inl e ↦
        let new = every_found (IsNewOf selected) fresh r a b e.0 (judging_fresh poster p.features selected p.rules fresh judging) e.1 in
        let own = entry_key fresh r a b e.0 e.1 in
        let f = live_handle p.features a features (subst (λ (c : ℕ). Contains selected c) own.1 new.chosen) in
        let clash = sym f.1 ∙ n in
        absurd cc
  ]

  fresh_scratch : IsFromScratch bare p fresh
  fresh_scratch = record {
    ascending = judging_ascends poster p.features selected p.rules fresh rules (handles_rise p.features features) judging;
    bare = every_map (IsNewOf selected) (λ (e : Entry). e.marked ≡ false) (λ e n. n.unmarked) fresh
        (judging_fresh poster p.features selected p.rules fresh judging);
    anew = λ a. record {
      live = λ f k r row e.
          let j = judging_part poster p.features selected p.rules fresh r row a rules (handles_rise p.features features) judging e
          (among_live p.features a f k) in
          let l = j.1.live f k in
          (l.0, l.1, λ b. rw (j.2 b) (found_alike r a f l.0 j.0 l.3 b));
      dead = λ n r b. none_dead r a b n;
      idle = λ r n b. judging_idle poster p.features selected p.rules fresh r a b judging n;
    };
  }

  -- ---- what is found, in the same order
  part_found : (q : InForce) (gs : List Feature)
      → map found_of (flat_map (part q) gs) ≡ flat_map (λ (f : Feature). map (found_as q.number f.handle) (cutting_of q.row p.features f)) gs
  part_found q [] = refl
  part_found q (g ∷ gs) =
      map-append found_of (part q g) (flat_map (part q) gs)
      ∙ (ap (λ t. t ++ map found_of (flat_map (part q) gs)) (made_found p.entries q.number g.handle (cutting_of q.row p.features g))
      ∙ ap (λ t. map (found_as q.number g.handle) (cutting_of q.row p.features g) ++ t) (part_found q gs))

  all_found : (qs : List InForce)
      → map found_of (flat_map (λ (q : InForce). flat_map (part q) p.features) qs) ≡ flat_map (found_under p.features) qs
  all_found [] = refl
  all_found (q ∷ qs) =
      map-append found_of (flat_map (part q) p.features) (flat_map (λ (q : InForce). flat_map (part q) p.features) qs)
      ∙ (ap (λ t. t ++ map found_of (flat_map (λ (q : InForce). flat_map (part q) p.features) qs)) (part_found q p.features)
      ∙ ap (λ t. found_under p.features q ++ t) (all_found qs))

-- ---- a settled project with no dirt
-- the rules by their cuttings alone, whatever the features
abbrev by_cuttings : Meaning
by_cuttings = record {
  Fits = λ row F. Unit {0};
  BrokenAt = poster.BrokenAt;
  BrokenWhole = poster.BrokenWhole;
  IsCutting = poster.IsCutting;
}

kept_scratch : (p : Project) → IsTopology p → IsSettled p → p.dirt ≡ [] → IsFromScratch bare p (map unmarked p.entries)
kept_scratch p t k clean =
    let s = settled_scratch by_cuttings p (record { fits = λ n row e. tt; made = t.made }) (record { cut = k.cut; frames = k.frames })
    t.order clean in
    record { ascending = s.ascending; bare = s.bare; anew = s.anew }

frame_alike : (F : List Feature) (f : Feature) (a : ℕ) (o : Option Finding) (e : Entry) → feature_at F a ≡ Some f → e.subject ≡ a
    → AreAlike f o (Some e) → IsFrameOf F e
frame_alike F f a None e k own h = absurd h
frame_alike F f a (Some x) e k own h = record {
  cells = λ w. rw h.cells (h.frame (sym h.whole ∙ w));
  whole = λ w. (f, rw own k, h.envelope (sym h.whole ∙ w));
}

pub scratch : (p : Project) → IsTopology p → IsSettled p → p.dirt ≡ [] → AreFromScratch p p.entries
unfolding entry_at
scratch p t k clean =
    let cut : (r : ℕ) (row : Row) → rule_at p.rules r ≡ Some row → (a : ℕ) (f : Feature) → feature_at p.features a ≡ Some f
    → AreCut poster p.features row f p.entries r a = λ r row e a f live. k.cut r row e a f live (λ m. rw clean at m.1) in
    let same : map unmarked p.entries ≡ fresh p t.rules t.store.ascending cut = one_scratch bare bare_right p (map unmarked p.entries)
    (fresh p t.rules t.store.ascending cut) (kept_scratch p t k clean) (fresh_scratch p t.rules t.store.ascending cut) in
    record {
      listed = sym (unmarked_found p.entries) ∙ (ap (map found_of) same ∙ all_found p t.rules t.store.ascending cut p.rules);
      framed = keyed.each_found by_key keys (IsFrameOf p.features) p.entries t.order (λ j e at.
          let row = t.made.ruled j.0 j.1 j.2 e at in
          let own = entry_key p.entries j.0 j.1 j.2 e at in
          elim (k.frames j.0 row.0 row.1 j.1 j.2 e at) [
            | inl m ↦ absurd (rw clean at m.1)
            | inr y ↦
                let alike = known_cut p.features row.0 j.1 y.0 p.entries j.0 y.1 (cut j.0 row.0 row.1 j.1 y.0 y.1) j.2 in
                frame_alike p.features y.0 j.1 (finding_at (cutting_of row.0 p.features y.0) j.2) e y.1 own.1
                (subst (λ (o : Option Entry). AreAlike y.0 (finding_at (cutting_of row.0 p.features y.0) j.2) o) at alike)
          ]);
    }
