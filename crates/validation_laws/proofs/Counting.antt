-- The live features among selected handles, and how many of them rules judge.
use Rattle.std.proofs.Common.{◌≡◌, ◌≢◌, ◌↔◌, ◌⊎◌, inl, inr, ℕ, ◌<◌, ◌≤◌, ◌+◌, Bool, List, [], ◌∷◌, ◌++◌, Option, Some, None, refl, sym, ◌∙◌, ap, arith, drop, take, length, get_or, Contains}
use Rattle.std.specs.Option.{option_to_list}
use Rattle.std.specs.List.{sum_by}
use Rattle.std.proofs.lemmas.Bool.Decides.{eqb_tells}
use Rattle.std.proofs.lemmas.Bool.{eq-eqb, ne_eqb}
use Rattle.std.proofs.lemmas.List.{take_more, take-append-drop}
use Rattle.std.proofs.lemmas.List.Sums.{sum_by_more, sum_by-take-le}
use Rattle.std.proofs.lemmas.Grind.{flat_map-append}
use Rattle.plane_terms.specs.Lists.{Every, IsThose, how_many}
use Rattle.topology_terms.specs.Feature.{Feature, by_handle, feature_at, IsAscending}
use Rattle.topology_terms.specs.Broken.{Row, judged}
use Rattle.topology_terms.specs.Project.{InForce}
use Rattle.sound_laws.proofs.Keyed.{at_own, after_later}
use Rattle.sound_laws.proofs.FeatureLists.{handles, at_handle, past_handle, none_below, handle_of, same_features}
use Rattle.validation_laws.specs.Parts.{IsRising, live_of}
use Rattle.topology_terms.specs.Counts.{raised, judged_of}
use Rattle.validation_laws.proofs.Handles.{below_each, among, among_or_not}
use Rattle.plane_terms.proofs.ListLemmas.{every_map, IsAmong, contains_among, how_many_joined}

-- ---- counts that stop
pub raised_more : (n j k : ℕ) → raised (raised n j) k ≡ raised n (j + k)
raised_more n j k = omega arith

pub raised_none : (n : ℕ) → raised n 0 ≡ n
raised_none n = omega arith

-- ---- counts along a list
-- one subject more
pub judged_more : (row : Row) (F : List Feature) (selected : List ℕ) (i a before work new : ℕ) → i < length selected
    → a ≡ get_or selected i a
    → work ≡ raised before (how_many (judged row) (live_of F (take i selected)))
    → new ≡ raised work (how_many (judged row) (option_to_list (feature_at F a)))
    → new ≡ raised before (how_many (judged row) (live_of F (take (i + 1) selected)))
judged_more row F selected i a before work new l e h k =
    let test = judged row in
    let one : ℕ → List Feature = λ n. option_to_list (feature_at F n) in
    let more : take (i + 1) selected ≡ take i selected ++ a ∷ [] = take_more selected i a l ∙ ap (λ y. take i selected ++ y ∷ []) (sym e) in
    let split : live_of F (take i selected ++ a ∷ []) ≡ live_of F (take i selected) ++ live_of F (a ∷ []) =
    flat_map-append one (take i selected) (a ∷ []) in
    let alone : how_many test (live_of F (a ∷ [])) ≡ how_many test (one a) = how_many_joined test (one a) [] ∙ omega arith in
    let sum = how_many_joined test (live_of F (take i selected)) (live_of F (a ∷ [])) in
    rw (more, split, sum, alone) (k ∙ (ap (λ y. raised y (how_many test (one a))) h
    ∙ raised_more before (how_many test (live_of F (take i selected))) (how_many test (one a))))

-- one rule more
pub judged_rule_more : (fs : List Feature) (rules : List InForce) (i : ℕ) (rule : InForce) (before work new : ℕ) → i < length rules
    → rule ≡ get_or rules i rule
    → work ≡ raised before (judged_of (take i rules) fs) → new ≡ raised work (how_many (judged rule.row) fs)
    → new ≡ raised before (judged_of (take (i + 1) rules) fs)
judged_rule_more fs rules i rule before work new l e h k =
    let count : InForce → ℕ = λ (q : InForce). how_many (judged q.row) fs in
    let more : judged_of (take (i + 1) rules) fs ≡ judged_of (take i rules) fs + count rule = sum_by_more count rules i rule l
    ∙ ap (λ q. sum_by count (take i rules) + count q) (sym e) in
    rw more (k ∙ (ap (λ y. raised y (count rule)) h ∙ raised_more before (judged_of (take i rules) fs) (count rule)))

-- ---- where memory runs out on the way
pub raised_upto : (n j k : ℕ) → j ≤ k → raised n j ≤ raised n k
raised_upto n j k l = omega arith

pub not_raised : (n k : ℕ) → n ≤ raised n k
not_raised n k = omega arith

-- the subjects so far are no more than all
live_front : (test : Feature → Bool) (F : List Feature) (selected : List ℕ) (i : ℕ)
    → how_many test (live_of F (take i selected)) ≤ how_many test (live_of F selected)
live_front test F selected i =
    let one : ℕ → List Feature = λ n. option_to_list (feature_at F n) in
    let whole : live_of F selected ≡ live_of F (take i selected) ++ live_of F (drop i selected) =
    ap (live_of F) (sym (take-append-drop i selected)) ∙ flat_map-append one (take i selected) (drop i selected) in
    let sum = how_many_joined test (live_of F (take i selected)) (live_of F (drop i selected)) in
    rw (whole, sum) (omega arith)

-- at this subject
pub judged_within : (row : Row) (F : List Feature) (selected : List ℕ) (i a before work new : ℕ) → i < length selected
    → a ≡ get_or selected i a
    → work ≡ raised before (how_many (judged row) (live_of F (take i selected)))
    → new ≤ raised work (how_many (judged row) (option_to_list (feature_at F a)))
    → new ≤ raised before (how_many (judged row) (live_of F selected))
judged_within row F selected i a before work new l e h k =
    let more = judged_more row F selected i a before work (raised work (how_many (judged row) (option_to_list (feature_at F a)))) l e h refl
    in
    let upto = raised_upto before (how_many (judged row) (live_of F (take (i + 1) selected))) (how_many (judged row) (live_of F selected))
    (live_front (judged row) F selected (i + 1)) in
    omega (arith, k, more, upto)

-- under this rule
pub judged_rule_within : (fs : List Feature) (rules : List InForce) (i : ℕ) (rule : InForce) (before work new : ℕ) → i < length rules
    → rule ≡ get_or rules i rule
    → work ≡ raised before (judged_of (take i rules) fs) → new ≤ raised work (how_many (judged rule.row) fs)
    → new ≤ raised before (judged_of rules fs)
judged_rule_within fs rules i rule before work new l e h k =
    let more = judged_rule_more fs rules i rule before work (raised work (how_many (judged rule.row) fs)) l e h refl in
    let upto = raised_upto before (judged_of (take (i + 1) rules) fs) (judged_of rules fs)
    (sum_by-take-le (λ (q : InForce). how_many (judged q.row) fs) rules (i + 1)) in
    omega (arith, k, more, upto)

-- ---- the live features are those whose handle is selected
past_one : (o : Option Feature) (rest : List Feature) (h n : ℕ) → ((f : Feature) → o ≡ Some f → f.handle ≡ n) → n ≢ h
    → feature_at (option_to_list o ++ rest) h ≡ feature_at rest h
past_one None rest h n own d = refl
past_one (Some f) rest h n own d = past_handle f rest h (ne_eqb f.handle h (λ e. d (sym (own f refl) ∙ e)))

at_one : (o : Option Feature) (rest : List Feature) (n : ℕ) → ((f : Feature) → o ≡ Some f → f.handle ≡ n) → feature_at rest n ≡ None
    → feature_at (option_to_list o ++ rest) n ≡ o
at_one None rest n own e = e
at_one (Some f) rest n own e = at_handle f rest n (eq-eqb f.handle n (own f refl))

pub live_lacks : (F : List Feature) (selected : List ℕ) (h : ℕ) → ¬ (IsAmong h selected) → feature_at (live_of F selected) h ≡ None
unfolding feature_at
live_lacks F [] h d = refl
live_lacks F (n ∷ selected) h d = past_one (feature_at F n) (live_of F selected) h n (λ f e. handle_of F n f e) (λ e. d (inl (sym e)))
    ∙ live_lacks F selected h (λ k. d (inr k))

pub live_has : (F : List Feature) (selected : List ℕ) (h : ℕ) → IsRising selected → IsAmong h selected
    → feature_at (live_of F selected) h ≡ feature_at F h
live_has F [] h u k = absurd k
live_has F (n ∷ selected) h u k = elim k [
  | inl e ↦ rw e (at_one (feature_at F n) (live_of F selected) n (λ f q. handle_of F n f q)
      (live_lacks F selected n (λ m. let l = below_each n n selected u.0 m in absurd (omega arith))))
  | inr m ↦ past_one (feature_at F n) (live_of F selected) h n (λ f q. handle_of F n f q) (λ e. let l = below_each n h selected u.0 m
      in omega arith) ∙ live_has F selected h u.1 m
]

above_one : (o : Option Feature) (rest : List Feature) (m n : ℕ) → ((f : Feature) → o ≡ Some f → f.handle ≡ n) → m < n
    → Every (λ (g : Feature). m < g.handle) rest → Every (λ (g : Feature). m < g.handle) (option_to_list o ++ rest)
above_one None rest m n own l h = h
above_one (Some f) rest m n own l h = (let e = own f refl in omega arith, h)

live_above : (F : List Feature) (selected : List ℕ) (m : ℕ) → Every (λ (n : ℕ). m < n) selected
    → Every (λ (g : Feature). m < g.handle) (live_of F selected)
live_above F [] m u = tt
live_above F (n ∷ selected) m u = above_one (feature_at F n) (live_of F selected) m n (λ f e. handle_of F n f e) u.0
    (live_above F selected m u.1)

ascends_one : (o : Option Feature) (rest : List Feature) (n : ℕ) → ((f : Feature) → o ≡ Some f → f.handle ≡ n)
    → Every (λ (g : Feature). n < g.handle) rest → IsAscending rest → IsAscending (option_to_list o ++ rest)
ascends_one None rest n own h u = u
ascends_one (Some f) rest n own h u = (
  every_map (λ (g : Feature). n < g.handle) (λ (g : Feature). f.handle < g.handle) (λ g l. let e =
      own f refl in omega arith) rest h,
  u,
)

pub live_ascends : (F : List Feature) (selected : List ℕ) → IsRising selected → IsAscending (live_of F selected)
live_ascends F [] u = tt
live_ascends F (n ∷ selected) u = ascends_one (feature_at F n) (live_of F selected) n (λ f e. handle_of F n f e)
    (live_above F selected n u.0) (live_ascends F selected u.1)

-- ---- a list that has, of an ascending list, the features of some handles and no others
pub record HasThose (P : ℕ → Type 0) (F fs : List Feature) : Type 0 where
  pub ascending : IsAscending fs
  pub has : (h : ℕ) → P h → feature_at fs h ≡ feature_at F h
  pub lacks : (h : ℕ) → ¬ (P h) → feature_at fs h ≡ None

-- where the first handle is one of them, the first feature is the first of the list
first_those : (P : ℕ → Type 0) (f g : Feature) (F gs : List Feature) → IsAscending (f ∷ F) → ((h : ℕ) → P h ⊎ ¬ (P h)) → P f.handle
    → HasThose P (f ∷ F) (g ∷ gs) → g ≡ f
unfolding feature_at
first_those P f g F gs u known k t = elim (handles.compare g.handle f.handle) [
  | inl l ↦
      let here = at_own by_handle handles g gs in
      elim (known g.handle) [
        | inl m ↦
            let n = none_below g.handle (f ∷ F) (l, after_later by_handle handles g.handle f.handle F l u.0) in
            let x : Some g ≡ None = sym here ∙ (t.has g.handle m ∙ n) in
            cc
        | inr d ↦ let x : Some g ≡ None = sym here ∙ t.lacks g.handle d in cc
      ]
  | inr y ↦ elim y [
    | inl l ↦
        let n = none_below f.handle (g ∷ gs) (l, after_later by_handle handles f.handle g.handle gs l t.ascending.0) in
        let x : None ≡ Some f = sym n ∙ (t.has f.handle k ∙ at_own by_handle handles f F) in
        cc
    | inr e ↦
        let here = at_handle g gs f.handle (eq-eqb g.handle f.handle e) in
        let x : Some g ≡ Some f = sym here ∙ (t.has f.handle k ∙ at_own by_handle handles f F) in
        cc
  ]
]

rest_those : (P : ℕ → Type 0) (f : Feature) (F gs : List Feature) → IsAscending (f ∷ F) → HasThose P (f ∷ F) (f ∷ gs) → HasThose P F gs
rest_those P f F gs u t = record {
  ascending = t.ascending.1;
  has = λ h k. elim (eqb_tells f.handle h) [
    | inl e ↦ rw (← e.1) (none_below f.handle gs t.ascending.0 ∙ sym (none_below f.handle F u.0))
    | inr d ↦ sym (past_handle f gs h d.0) ∙ (t.has h k ∙ past_handle f F h d.0)
  ];
  lacks = λ h d. elim (eqb_tells f.handle h) [
    | inl e ↦ rw (← e.1) (none_below f.handle gs t.ascending.0)
    | inr n ↦ sym (past_handle f gs h n.0) ∙ t.lacks h d
  ];
}

those_past : (P : ℕ → Type 0) (f : Feature) (F fs : List Feature) → ¬ (P f.handle) → HasThose P (f ∷ F) fs → HasThose P F fs
those_past P f F fs d t = record {
  ascending = t.ascending;
  has = λ h k. t.has h k ∙ past_handle f F h (ne_eqb f.handle h (λ e. d (rw e k)));
  lacks = t.lacks;
}

none_first : (P : ℕ → Type 0) (f : Feature) (F : List Feature) → P f.handle → HasThose P (f ∷ F) [] → ⊥
unfolding feature_at
none_first P f F k t = let x : None ≡ Some f = t.has f.handle k ∙ at_own by_handle handles f F in cc

pub those_found : (P : ℕ → Type 0) → ((h : ℕ) → P h ⊎ ¬ (P h)) → (F fs : List Feature) → IsAscending F → HasThose P F fs
    → IsThose (λ (f : Feature). P f.handle) F fs
unfolding feature_at
those_found P known [] fs u t = same_features fs [] t.ascending tt (λ h. elim (known h) [ inl k ↦ t.has h k | inr d ↦ t.lacks h d ])
those_found P known (f ∷ F) [] u t = elim (known f.handle) [
  | inl k ↦ absurd (none_first P f F k t)
  | inr d ↦ inr (d, those_found P known F [] u.1 (those_past P f F [] d t))
]
those_found P known (f ∷ F) (g ∷ gs) u t = elim (known f.handle) [
  | inl k ↦
      let same = first_those P f g F gs u known k t in
      inl (k, (gs, ap (λ x. x ∷ gs) same, those_found P known F gs u.1 (rest_those P f F gs u (rw same at t))))
  | inr d ↦ inr (d, those_found P known F (g ∷ gs) u.1 (those_past P f F (g ∷ gs) d t))
]

pub live_those : (P : ℕ → Type 0) (F : List Feature) (selected : List ℕ) → IsAscending F → IsRising selected
    → ((a : ℕ) → Contains selected a ↔ P a) → IsThose (λ (f : Feature). P f.handle) F (live_of F selected)
live_those P F selected u v is = those_found P
    (λ h. elim (among_or_not h selected) [
      | inl m ↦ inl ((is h).0 (contains_among selected h m))
      | inr d ↦ inr
          (λ k. d (among h selected ((is h).1 k)))
    ])
    F (live_of F selected) u (record {
      ascending = live_ascends F selected v;
      has = λ h k. live_has F selected h v (among h selected ((is h).1 k));
      lacks = λ h d. live_lacks F selected h (λ m. d ((is h).0 (contains_among selected h m)));
    })
