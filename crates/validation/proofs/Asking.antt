-- How many steps are taken at most, put together question by question.
use Rattle.std.proofs.Common.{◌≡◌, ◌↔◌, ℤ, pos, negsuc, ◌≤ℤ◌, inl, inr, ℕ, ◌<◌, ◌≤◌, ◌+◌, ◌*◌, Bool, true, false, cond, List, [], ◌∷◌, ◌++◌, map, refl, sym, ◌∙◌, ap, subst, arith, take, drop, length, get_or, Contains}
use Rattle.std.specs.Prelude.{◌-◌, ◌^◌, ◌-ℤ◌, min, unsigned_abs}
use Rattle.std.specs.List.{filter, list_any}
use Rattle.std.specs.List.Sorted.{IsPermutation}
use Rattle.std.specs.Option.{option_to_list}
use Rattle.std.proofs.lemmas.Bool.{cases_Bool}
use Rattle.std.proofs.Math.Nat.{mul-le-mul_left, mul-le-mul_right, min-eq_left}
use Rattle.std.proofs.lemmas.Int.{ints}
use Rattle.std.proofs.lemmas.List.{map-append, take-append-drop}
use Rattle.std.proofs.lemmas.List.Elements.{filter-append}
use Rattle.std.proofs.lemmas.List.Sorted.{IsPermutation-sym, length_permutation, sum_by-IsPermutation}
use Rattle.std.proofs.lemmas.List.Sums.{sum_by-cons, sum_by-append, sum_by_push, sum_by-take-le}
use Rattle.std.proofs.lemmas.Grind.{flat_map-append}
use Rattle.plane_terms.specs.Lists.{Every, IsThose}
use Rattle.plane_terms.proofs.ListLemmas.{those_one}
use Rattle.plane_terms.specs.Rectangle.{Rectangle, IsRectangle, IsWithin, IsProper, RectsMeet, rects_meet, part_of}
use Rattle.sound_laws.proofs.Meetings.{meets_test, meets_from_test}
use Rattle.topology_terms.specs.Feature.{Feature, feature_at, env, IsAscending}
use Rattle.topology_terms.specs.Broken.{judged}
use Rattle.topology_terms.specs.Project.{Project, InForce}
use Rattle.topology_terms.specs.Changes.{IsSelected}
use Rattle.validation_laws.specs.Parts.{IsRising, live_of}
use Rattle.grid_index.specs.declared.placed.Placed.{Placed}
use Rattle.grid_index.specs.Steps.{most_steps}
use Rattle.grid_plane.specs.Rectangles.{IsJoin}
use Rattle.validation.specs.Asked.{dirty_parts, places_of, places_in, IsRound, IsClose, asked_steps, view_steps, viewed_steps, judged_envelopes, IsAskedOf, IsAskedFor}
use Rattle.validation.specs.Projects.{RuledFeatures}
use Rattle.validation.specs.Parted.{RulePart, rules_of}
use Rattle.validation.proofs.Dirtied.{front_more, every_moved}
use Rattle.validation.proofs.Nearby.{live_more}
use Rattle.validation.proofs.Settled.{selected_live}
use Rattle.validation.proofs.Enough.{any_rule}

-- ---- the parts of the dirt
passed : (t : Bool) (w r : Rectangle) (d : List Rectangle) → rects_meet r w ≡ t
    → dirty_parts (r ∷ d) w ≡ cond t (part_of r w ∷ dirty_parts d w) (dirty_parts d w)
passed true w r d e = rw e refl
passed false w r d e = rw e refl

parts_joined : (d c : List Rectangle) (w : Rectangle) → dirty_parts (d ++ c) w ≡ dirty_parts d w ++ dirty_parts c w
parts_joined d c w =
    ap (map (λ (r : Rectangle). part_of r w)) (filter-append (λ (r : Rectangle). rects_meet r w) d c)
    ∙ map-append (λ (r : Rectangle). part_of r w) (filter (λ (r : Rectangle). rects_meet r w) d) (filter (λ (r : Rectangle). rects_meet r w) c)

pub part_more : (rs : List Rectangle) (w r m : Rectangle) (i : ℕ) (now new : List Rectangle) → i < length rs → r ≡ get_or rs i r
    → (m ≡ part_of r w) × RectsMeet r w → new ≡ now ++ m ∷ [] → now ≡ dirty_parts (take i rs) w → new ≡ dirty_parts (take (i + 1) rs) w
part_more rs w r m i now new l e part grown was =
    let one : dirty_parts (r ∷ []) w ≡ m ∷ [] = passed true w r [] (meets_test r w part.1) ∙ ap (λ x. x ∷ []) (sym part.0) in
    rw (front_more rs i r l e, parts_joined (take i rs) (r ∷ []) w, one, ← was) grown

pub part_same : (rs : List Rectangle) (w r : Rectangle) (i : ℕ) (now : List Rectangle) → i < length rs → r ≡ get_or rs i r
    → IsProper r → IsProper w → ¬ (RectsMeet r w) → now ≡ dirty_parts (take i rs) w → now ≡ dirty_parts (take (i + 1) rs) w
part_same rs w r i now l e u v apart was =
    let off : rects_meet r w ≡ false = elim (cases_Bool (rects_meet r w)) [ inl t ↦ absurd (apart (meets_from_test r w u v t)) | inr t ↦ t ] in
    let none : dirty_parts (r ∷ []) w ≡ [] = passed false w r [] off in
    rw (front_more rs i r l e, parts_joined (take i rs) (r ∷ []) w, none) (was ∙ sym (append_none (dirty_parts (take i rs) w)))
  where
    append_none : (xs : List Rectangle) → xs ++ [] ≡ xs
    append_none [] = refl
    append_none (x ∷ xs) = ap (λ ys. x ∷ ys) (append_none xs)

-- those that meet the window have the parts of all
pub parts_of_met : (d : List Rectangle) (w : Rectangle) → dirty_parts (filter (λ (r : Rectangle). rects_meet r w) d) w ≡ dirty_parts d w
parts_of_met [] w = refl
parts_of_met (r ∷ d) w = pick (rects_meet r w) refl (parts_of_met d w)
  where
    pick : (t : Bool) → rects_meet r w ≡ t → dirty_parts (filter (λ (x : Rectangle). rects_meet x w) d) w ≡ dirty_parts d w
        → dirty_parts (filter (λ (x : Rectangle). rects_meet x w) (r ∷ d)) w ≡ dirty_parts (r ∷ d) w
    pick true e rest = rw e (passed true w r (filter (λ (x : Rectangle). rects_meet x w) d) e ∙ ap (λ xs. part_of r w ∷ xs) rest)
    pick false e rest = rw e rest

-- ---- the least rectangle round some
pub round_more : (rs : List Rectangle) (r j k : Rectangle) → IsJoin k j r
    → ((t : Rectangle) → Every (λ (s : Rectangle). IsWithin s t) rs → IsWithin j t)
    → ((t : Rectangle) → Every (λ (s : Rectangle). IsWithin s t) rs → IsWithin r t)
    → (t : Rectangle) → Every (λ (s : Rectangle). IsWithin s t) rs → IsWithin k t
round_more rs r j k join least one t all = join.least t (least t all) (one t all)

-- ---- how many places lie in a rectangle of the grid
short : (a b : ℤ) → negsuc 4194303 ≤ℤ a → a ≤ℤ b → b ≤ℤ pos 4194304 → unsigned_abs (b -ℤ a) + 1 ≤ 8388609
short a b l m u = grind (arith, ints)

places_few : (r : Rectangle) → IsRectangle r → places_of r ≤ 70368760954881
places_few r i =
    let w = short r.x0 r.x1 i.on_grid.left i.proper.wide i.on_grid.right in
    let h = short r.y0 r.y1 i.on_grid.below i.proper.high i.on_grid.above in
    let first = mul-le-mul_left (unsigned_abs (r.x1 -ℤ r.x0) + 1) h in
    let second = mul-le-mul_right 8388609 w in
    omega (arith, first, second)

-- so their number is not cut off
pub places_exact : (r : Rectangle) (a b n : ℕ) → IsRectangle r → a ≡ unsigned_abs (r.x1 -ℤ r.x0) + 1 → b ≡ unsigned_abs (r.y1 -ℤ r.y0) + 1
    → n ≡ min (a * b) (2 ^ 64 - 1) → n ≡ places_of r
places_exact r a b n i e f h =
    let few : places_of r ≤ 2 ^ 64 - 1 = omega (arith, places_few r i) in
    rw (e, f) at h ∙ min-eq_left few

-- ---- in another order
round_moved : (j : Rectangle) (rs qs : List Rectangle) → IsPermutation rs qs → IsRound j qs → IsRound j rs
round_moved j rs qs m h = record {
  holds = every_moved (λ (r : Rectangle). IsWithin r j) qs rs (IsPermutation-sym rs qs m) h.holds;
  least = λ k all. h.least k (every_moved (λ (r : Rectangle). IsWithin r k) rs qs m all);
}

close_moved : (j : Rectangle) (rs qs : List Rectangle) → IsPermutation rs qs → IsClose j qs → IsClose j rs
close_moved j rs qs m h = elim h [
  | inl l ↦ inl (omega (arith, l, length_permutation rs qs m))
  | inr l ↦ inr (omega (arith, l, sum_by-IsPermutation places_of rs qs m))
]

pub asked_moved : (rs qs : List Rectangle) (ps : List Placed) (m n : ℕ) → IsPermutation rs qs → IsAskedOf qs ps m n → IsAskedOf rs ps m n
asked_moved rs qs ps m n moved h = elim h.asked [
  | inl e ↦ record {
    about = rs;
    asked = inl refl;
    steps = λ s. omega (
      arith,
      rw e at (h.steps s),
      sum_by-IsPermutation (λ (q : Rectangle). most_steps s q ps) rs qs moved,
    );
  }
  | inr k ↦ record {
    about = h.about;
    asked = inr (k.0, round_moved k.0 rs qs moved k.1, close_moved k.0 rs qs moved k.2, k.3);
    steps = h.steps;
  }
]

-- ---- one question, or none
pub one_asked : (s : ℕ) (q : Rectangle) (ps : List Placed) → asked_steps s (q ∷ []) ps ≡ most_steps s q ps
one_asked s q ps = omega (arith, sum_by-cons (λ (r : Rectangle). most_steps s r ps) q [])

pub asked_none : (rs : List Rectangle) (ps : List Placed) (m : ℕ) → IsAskedOf rs ps m m
asked_none rs ps m = record { about = rs; asked = inl refl; steps = λ s. omega arith }

pub asked_each : (rs : List Rectangle) (ps : List Placed) (m n : ℕ) → ((s : ℕ) → n ≤ m + asked_steps s rs ps) → IsAskedOf rs ps m n
asked_each rs ps m n h = record { about = rs; asked = inl refl; steps = h }

pub asked_once : (rs : List Rectangle) (j : Rectangle) (ps : List Placed) (m n : ℕ) → IsRound j rs → IsClose j rs
    → ((s : ℕ) → n ≤ m + most_steps s j ps) → IsAskedOf rs ps m n
asked_once rs j ps m n round close h = record {
  about = j ∷ [];
  asked = inr (j, round, close, refl);
  steps = λ s. omega (arith, h s, one_asked s j ps);
}

-- ---- one question more
pub places_more : (rs : List Rectangle) (i : ℕ) (r : Rectangle) → i < length rs → r ≡ get_or rs i r
    → places_in (take (i + 1) rs) ≡ places_in (take i rs) + places_of r
places_more rs i r l e = rw (front_more rs i r l e) (sum_by_push places_of (take i rs) r)

pub steps_more : (s : ℕ) (rs : List Rectangle) (ps : List Placed) (i : ℕ) (r : Rectangle) (m a b : ℕ) → i < length rs → r ≡ get_or rs i r
    → a ≤ m + asked_steps s (take i rs) ps → b ≤ a + most_steps s r ps → b ≤ m + asked_steps s (take (i + 1) rs) ps
steps_more s rs ps i r m a b l e was one =
    let f : Rectangle → ℕ = λ (q : Rectangle). most_steps s q ps in
    rw (front_more rs i r l e) (omega (arith, was, one, sum_by_push f (take i rs) r))

pub steps_within : (s : ℕ) (rs : List Rectangle) (ps : List Placed) (i m a : ℕ) → a ≤ m + asked_steps s (take i rs) ps
    → a ≤ m + asked_steps s rs ps
steps_within s rs ps i m a h = omega (arith, h, sum_by-take-le (λ (q : Rectangle). most_steps s q ps) rs i)

-- ---- of the features that are judged
one_viewed : (s : ℕ) (q : Rectangle) (ps : List Placed) → viewed_steps s (q ∷ []) ps ≡ view_steps s q ps
one_viewed s q ps = omega (arith, sum_by-cons (λ (r : Rectangle). view_steps s r ps) q [])

pub live_steps : (s : ℕ) (f : Feature) (parts : List RulePart) (ps : List Placed) (m n : ℕ)
    → list_any (λ (p : RulePart). judged p.rule.row f) parts ≡ true → n ≤ m + view_steps s (env f) ps
    → n ≤ m + viewed_steps s (judged_envelopes (rules_of parts) (f ∷ [])) ps
live_steps s f parts ps m n t h =
    let on : list_any (λ (q : InForce). judged q.row f) (rules_of parts) ≡ true = any_rule (λ (q : InForce). judged q.row f) parts ∙ t in
    rw on (omega (arith, h, one_viewed s (env f) ps))

judged_joined : (s : ℕ) (rules : List InForce) (fs gs : List Feature) (ps : List Placed)
    → viewed_steps s (judged_envelopes rules (fs ++ gs)) ps
    ≡ viewed_steps s (judged_envelopes rules fs) ps + viewed_steps s (judged_envelopes rules gs) ps
judged_joined s rules fs gs ps =
    let test : Feature → Bool = λ (f : Feature). list_any (λ (q : InForce). judged q.row f) rules in
    let split : judged_envelopes rules (fs ++ gs) ≡ judged_envelopes rules fs ++ judged_envelopes rules gs =
    ap (map env) (filter-append test fs gs) ∙ map-append env (filter test fs) (filter test gs) in
    rw split (sum_by-append (λ (q : Rectangle). view_steps s q ps) (judged_envelopes rules fs) (judged_envelopes rules gs))

pub subject_steps : (s : ℕ) (rules : List InForce) (F : List Feature) (selected : List ℕ) (ps : List Placed) (i a m was new : ℕ)
    → i < length selected → a ≡ get_or selected i a → was ≤ m + viewed_steps s (judged_envelopes rules (live_of F (take i selected))) ps
    → new ≤ was + viewed_steps s (judged_envelopes rules (option_to_list (feature_at F a))) ps
    → new ≤ m + viewed_steps s (judged_envelopes rules (live_of F (take (i + 1) selected))) ps
subject_steps s rules F selected ps i a m was new l e h k = rw (live_more F selected i a (feature_at F a) l e refl)
    (omega (arith, h, k, judged_joined s rules (live_of F (take i selected)) (option_to_list (feature_at F a)) ps))

pub subjects_within : (s : ℕ) (rules : List InForce) (F : List Feature) (selected : List ℕ) (ps : List Placed) (i m n : ℕ)
    → n ≤ m + viewed_steps s (judged_envelopes rules (live_of F (take i selected))) ps
    → n ≤ m + viewed_steps s (judged_envelopes rules (live_of F selected)) ps
subjects_within s rules F selected ps i m n h =
    let one : ℕ → List Feature = λ n. option_to_list (feature_at F n) in
    let whole : live_of F selected ≡ live_of F (take i selected) ++ live_of F (drop i selected) =
    ap (live_of F) (sym (take-append-drop i selected)) ∙ flat_map-append one (take i selected) (drop i selected) in
    rw whole (omega (arith, h, judged_joined s rules (live_of F (take i selected)) (live_of F (drop i selected)) ps))

-- ---- of a validation
pub asked_for : (r : RuledFeatures) (rs : List Rectangle) (fs : List Feature) (m n k : ℕ) → IsAskedOf rs r.placed m n
    → ((s : ℕ) → k ≤ n + viewed_steps s (judged_envelopes r.in_force fs) r.placed) → IsAskedFor r rs fs m k
asked_for r rs fs m n k h more = record {
  about = h.about;
  asked = h.asked;
  steps = λ s. omega (arith, h.steps s, more s);
}

pub asked_before : (r : RuledFeatures) (rs : List Rectangle) (fs : List Feature) (m n : ℕ) → IsAskedOf rs r.placed m n → IsAskedFor r rs fs m n
asked_before r rs fs m n h = asked_for r rs fs m n n h (λ s. omega arith)

-- the dirt that met the window has the parts of all
pub asked_met : (d met : List Rectangle) (w : Rectangle) (ps : List Placed) (m n : ℕ) → met ≡ filter (λ (r : Rectangle). rects_meet r w) d
    → IsAskedOf (dirty_parts met w) ps m n → IsAskedOf (dirty_parts d w) ps m n
asked_met d met w ps m n e h = subst (λ rs. IsAskedOf rs ps m n) (ap (λ c. dirty_parts c w) e ∙ parts_of_met d w) h

-- the features of the selected handles are the selected features
pub asked_selected : (r : RuledFeatures) (rs : List Rectangle) (w : Rectangle) (p : Project) (selected : List ℕ) (m n k : ℕ)
    → IsAscending r.features → IsRising selected → ((a : ℕ) → Contains selected a ↔ IsSelected p w a)
    → IsAskedOf rs r.placed m n
    → ((s : ℕ) → k ≤ n + viewed_steps s (judged_envelopes r.in_force (live_of r.features selected)) r.placed)
    → (fs : List Feature) → IsThose (λ (f : Feature). IsSelected p w f.handle) r.features fs → IsAskedFor r rs fs m k
asked_selected r rs w p selected m n k u v chosen h more fs those =
    let one = those_one (λ (f : Feature). IsSelected p w f.handle) r.features (live_of r.features selected) fs
    (selected_live w p r.features selected u v chosen) those in
    subst (λ gs. IsAskedFor r rs gs m k) one (asked_for r rs (live_of r.features selected) m n k h more)
