-- New entries of several rules at once, put together subject by subject.
use Rattle.std.proofs.Common.{◌≡◌, ℕ, ◌<◌, ◌≤◌, ◌+◌, Bool, true, false, cond, List, [], ◌∷◌, ◌++◌, Some, None, map, refl, sym, ◌∙◌, ap, subst, arith, take, drop, length, set, get_or, append-nil}
use Rattle.std.specs.Prelude.{◌||◌}
use Rattle.std.specs.Option.{option_to_list}
use Rattle.std.specs.List.{list_any}
use Rattle.std.proofs.lemmas.List.{take_more, take_more_set, take_all, get_or-set_other, get_or-map, length-map, take-append-drop}
use Rattle.std.proofs.lemmas.List.Sums.{sum_by-cons}
use Rattle.std.proofs.lemmas.Grind.{flat_map-append}
use Rattle.plane_terms.specs.Lists.{Every, Paired, how_many}
use Rattle.plane_terms.proofs.ListLemmas.{how_many_joined}
use Rattle.topology_terms.specs.Feature.{Feature, feature_at}
use Rattle.topology_terms.specs.Broken.{judged}
use Rattle.topology_terms.specs.Meaning.{Meaning, Finding}
use Rattle.topology_terms.specs.Entry.{Entry}
use Rattle.topology_terms.specs.Project.{InForce}
use Rattle.topology_terms.specs.Counts.{raised, judged_of}
use Rattle.validation_laws.specs.Parts.{IsSubjectPart, IsJudging, live_of}
use Rattle.validation_laws.specs.Views.{ViewLaws}
use Rattle.validation_laws.proofs.Joining.{joined_more, paired_more}
use Rattle.validation_laws.proofs.Parts.{part_dead, part_idle}
use Rattle.validation_laws.proofs.Counting.{raised_more, raised_upto}
use Rattle.validation.specs.Parted.{RulePart, rules_of, entries_of, IsPartOf, IsGrown, AreGrown, IsDone}

-- ---- by what is shown
-- the rule finds there what it finds among all
pub record IsEnough (M : Meaning) (F V : List Feature) (f : Feature) (r : InForce) : Type 0 where
  pub subject : feature_at V f.handle ≡ Some f
  pub cut : (xs : List Finding) → M.IsCutting r.row V f.handle xs → M.IsCutting r.row F f.handle xs

module _ (M : Meaning) (F V : List Feature) (f : Feature) (e : feature_at F f.handle ≡ Some f) where
  part_seen : (r : InForce) (es : List Entry) → IsEnough M F V f r → IsSubjectPart M V r.number r.row f.handle es
      → IsSubjectPart M F r.number r.row f.handle es
  part_seen r es enough h = record {
    live = λ g k.
        let same : f ≡ g = (let l = e in cc) in
        let y = h.live f enough.subject in
        (y.0, enough.cut y.0 y.1, y.2, rw (← same) y.3);
    dead = λ n. absurd cc;
  }

  grown_seen : (p q : RulePart) → IsEnough M F V f p.rule → IsGrown M V f.handle p q → IsGrown M F f.handle p q
  grown_seen p q enough g = record {
    rule = g.rule;
    part = g.part;
    put = g.put;
    own = part_seen p.rule g.part enough g.own;
  }

  pub all_seen : (ps qs : List RulePart) → Every (IsEnough M F V f) (rules_of ps) → AreGrown M V f.handle ps qs → AreGrown M F f.handle ps qs
  all_seen [] [] enough g = tt
  all_seen [] (q ∷ qs) enough g = absurd g
  all_seen (p ∷ ps) [] enough g = absurd g
  all_seen (p ∷ ps) (q ∷ qs) enough g = (grown_seen p q enough.0 g.0, all_seen ps qs enough.1 g.1)

-- ---- where there is nothing to judge
pub neither : (a b : Bool) → (a || b) ≡ false → (a ≡ false) × (b ≡ false)
neither true b e = cc
neither false b e = (refl, e)

still : (M : Meaning) (F : List Feature) (a : ℕ) (p : RulePart) → IsSubjectPart M F p.rule.number p.rule.row a [] → IsGrown M F a p p
still M F a p h = record { rule = refl; part = []; put = sym (append-nil p.entries); own = h }

pub grown_dead : (M : Meaning) (F : List Feature) (a : ℕ) (ps : List RulePart) → feature_at F a ≡ None → AreGrown M F a ps ps
grown_dead M F a [] n = tt
grown_dead M F a (p ∷ ps) n = (still M F a p (part_dead M F p.rule.number p.rule.row a n), grown_dead M F a ps n)

pub grown_idle : (M : Meaning) → ViewLaws M → (F : List Feature) (f : Feature) (ps : List RulePart) → feature_at F f.handle ≡ Some f
    → list_any (λ (p : RulePart). judged p.rule.row f) ps ≡ false → AreGrown M F f.handle ps ps
grown_idle M W F f [] e t = tt
grown_idle M W F f (p ∷ ps) e t =
    let y = neither (judged p.rule.row f) (list_any (λ (q : RulePart). judged q.rule.row f) ps) t in
    (still M F f.handle p (part_idle M W F p.rule.number p.rule.row f.handle f e y.0), grown_idle M W F f ps e y.1)

passed : (b : Bool) (n m : ℕ) → b ≡ false → cond b n m ≡ m
passed true n m e = cc
passed false n m e = refl

count_on : (fs : List Feature) (r : InForce) (rules : List InForce) → judged_of (r ∷ rules) fs ≡ how_many (judged r.row) fs + judged_of rules fs
count_on fs r rules = sum_by-cons (λ (q : InForce). how_many (judged q.row) fs) r rules

pub judged_idle : (f : Feature) (ps : List RulePart) → list_any (λ (p : RulePart). judged p.rule.row f) ps ≡ false
    → judged_of (rules_of ps) (f ∷ []) ≡ 0
judged_idle f [] t = refl
judged_idle f (p ∷ ps) t =
    let y = neither (judged p.rule.row f) (list_any (λ (q : RulePart). judged q.rule.row f) ps) t in
    let here : how_many (judged p.rule.row) (f ∷ []) ≡ 0 = passed (judged p.rule.row f) 1 0 y.0 in
    omega (arith, count_on (f ∷ []) p.rule (rules_of ps), here, judged_idle f ps y.1)

pub judged_nothing : (rules : List InForce) → judged_of rules [] ≡ 0
judged_nothing [] = refl
judged_nothing (r ∷ rules) = rw (judged_nothing rules) refl

-- ---- one rule more
-- the parts before i have grown, and those from i on are as they were
pub record AreGrownUpto (M : Meaning) (F : List Feature) (a i : ℕ) (old now : List RulePart) : Type 0 where
  pub front : AreGrown M F a (take i old) (take i now)
  pub back : (k : ℕ) (d : RulePart) → i ≤ k → get_or now k d ≡ get_or old k d

pub grown_none : (M : Meaning) (F : List Feature) (a : ℕ) (ps : List RulePart) → AreGrownUpto M F a 0 ps ps
grown_none M F a ps = record { front = tt; back = λ k d l. refl }

pub grown_more : (M : Meaning) (F : List Feature) (a i : ℕ) (old now : List RulePart) (p q : RulePart) → i < length old → i < length now
    → p ≡ get_or now i p → IsGrown M F a p q → AreGrownUpto M F a i old now → AreGrownUpto M F a (i + 1) old (set now i q)
grown_more M F a i old now p q l m e g h =
    let was : p ≡ get_or old i p = e ∙ h.back i p (omega arith) in
    record {
      front = rw (take_more old i p l, take_more_set now i q m, ← was) (paired_more (IsGrown M F a) (take i old) (take i now) p q h.front g);
      back = λ k d n. get_or-set_other now i k q d (λ s. absurd (omega (arith, n, s))) ∙ h.back k d (omega (arith, n));
    }

pub grown_all : (M : Meaning) (F : List Feature) (a i : ℕ) (old now : List RulePart) → length old ≤ i → length now ≤ i
    → AreGrownUpto M F a i old now → AreGrown M F a old now
grown_all M F a i old now l m h =
    let x = take_all i old l in
    let y = take_all i now m in
    rw (x, y) at h.front

-- its rule, as it stands among the rules
pub rule_there : (M : Meaning) (F : List Feature) (a i : ℕ) (old now : List RulePart) (p : RulePart) → i < length old → p ≡ get_or now i p
    → AreGrownUpto M F a i old now → p.rule ≡ get_or (rules_of old) i p.rule
rule_there M F a i old now p l e h =
    ap (λ (x : RulePart). x.rule) (e ∙ h.back i p (omega arith)) ∙ sym (get_or-map (λ (x : RulePart). x.rule) old i p p.rule l)

pub length_rules : (ps : List RulePart) → length (rules_of ps) ≡ length ps
length_rules ps = length-map ps (λ (p : RulePart). p.rule)

-- ---- one subject more
pub rules_kept : (M : Meaning) (F : List Feature) (a : ℕ) (ps qs : List RulePart) → AreGrown M F a ps qs → rules_of qs ≡ rules_of ps
rules_kept M F a [] [] g = refl
rules_kept M F a [] (q ∷ qs) g = absurd g
rules_kept M F a (p ∷ ps) [] g = absurd g
rules_kept M F a (p ∷ ps) (q ∷ qs) g = rw (g.0.rule, rules_kept M F a ps qs g.1) refl

done_one : (M : Meaning) (F : List Feature) (selected : List ℕ) (i a : ℕ) (p q : RulePart) → i < length selected → a ≡ get_or selected i a
    → IsDone M F (take i selected) p → IsGrown M F a p q → IsDone M F (take (i + 1) selected) q
done_one M F selected i a p q l e h g =
    rw (g.rule, g.put, take_more selected i a l, ← e) (joined_more (IsSubjectPart M F p.rule.number p.rule.row) (take i selected) p.entries a
    g.part h g.own)

pub done_more : (M : Meaning) (F : List Feature) (selected : List ℕ) (i a : ℕ) (ps qs : List RulePart) → i < length selected
    → a ≡ get_or selected i a → Every (IsDone M F (take i selected)) ps → AreGrown M F a ps qs → Every (IsDone M F (take (i + 1) selected)) qs
done_more M F selected i a [] [] l e h g = tt
done_more M F selected i a [] (q ∷ qs) l e h g = absurd g
done_more M F selected i a (p ∷ ps) [] l e h g = absurd g
done_more M F selected i a (p ∷ ps) (q ∷ qs) l e h g = (
  done_one M F selected i a p q l e h.0 g.0,
  done_more M F selected i a ps qs l e h.1 g.1,
)

-- ---- how many are judged
judged_joined : (rules : List InForce) (fs gs : List Feature) → judged_of rules (fs ++ gs) ≡ judged_of rules fs + judged_of rules gs
judged_joined [] fs gs = refl
judged_joined (r ∷ rules) fs gs = omega (
  arith,
  count_on (fs ++ gs) r rules,
  count_on fs r rules,
  count_on gs r rules,
  how_many_joined (judged r.row) fs gs,
  judged_joined rules fs gs,
)

-- with one subject more
judged_front : (rules : List InForce) (F : List Feature) (selected : List ℕ) (i a : ℕ) → i < length selected → a ≡ get_or selected i a
    → judged_of rules (live_of F (take (i + 1) selected)) ≡ judged_of rules (live_of F (take i selected))
    + judged_of rules (option_to_list (feature_at F a))
judged_front rules F selected i a l e =
    let one : ℕ → List Feature = λ n. option_to_list (feature_at F n) in
    let more : take (i + 1) selected ≡ take i selected ++ a ∷ [] = take_more selected i a l ∙ ap (λ y. take i selected ++ y ∷ []) (sym e) in
    let split : live_of F (take i selected ++ a ∷ []) ≡ live_of F (take i selected) ++ live_of F (a ∷ []) =
    flat_map-append one (take i selected) (a ∷ []) in
    rw (more, split, append-nil (one a)) (judged_joined rules (live_of F (take i selected)) (one a))

pub judged_subject_more : (rules : List InForce) (F : List Feature) (selected : List ℕ) (i a before work new : ℕ) → i < length selected
    → a ≡ get_or selected i a → work ≡ raised before (judged_of rules (live_of F (take i selected)))
    → new ≡ raised work (judged_of rules (option_to_list (feature_at F a)))
    → new ≡ raised before (judged_of rules (live_of F (take (i + 1) selected)))
judged_subject_more rules F selected i a before work new l e h k =
    let here = judged_of rules (option_to_list (feature_at F a)) in
    rw (judged_front rules F selected i a l e) (k ∙ (ap (λ y. raised y here) h
    ∙ raised_more before (judged_of rules (live_of F (take i selected))) here))

-- the subjects so far are no more than all
judged_upto : (rules : List InForce) (F : List Feature) (selected : List ℕ) (i : ℕ)
    → judged_of rules (live_of F (take i selected)) ≤ judged_of rules (live_of F selected)
judged_upto rules F selected i =
    let one : ℕ → List Feature = λ n. option_to_list (feature_at F n) in
    let whole : live_of F selected ≡ live_of F (take i selected) ++ live_of F (drop i selected) =
    ap (live_of F) (sym (take-append-drop i selected)) ∙ flat_map-append one (take i selected) (drop i selected) in
    rw (whole, judged_joined rules (live_of F (take i selected)) (live_of F (drop i selected))) (omega arith)

pub judged_subject_within : (rules : List InForce) (F : List Feature) (selected : List ℕ) (i a before work new : ℕ) → i < length selected
    → a ≡ get_or selected i a → work ≡ raised before (judged_of rules (live_of F (take i selected)))
    → new ≤ raised work (judged_of rules (option_to_list (feature_at F a)))
    → new ≤ raised before (judged_of rules (live_of F selected))
judged_subject_within rules F selected i a before work new l e h k =
    let more = judged_subject_more rules F selected i a before work (raised work (judged_of rules (option_to_list (feature_at F a)))) l e h refl in
    let upto = raised_upto before (judged_of rules (live_of F (take (i + 1) selected))) (judged_of rules (live_of F selected))
    (judged_upto rules F selected (i + 1)) in
    omega (arith, k, more, upto)

-- ---- from no entry to those of all rules
abbrev pub empty_part : InForce → RulePart
empty_part r = record { rule = r; entries = [] }

pub rules_empty : (rules : List InForce) → rules_of (map empty_part rules) ≡ rules
rules_empty [] = refl
rules_empty (r ∷ rules) = ap (λ rs. r ∷ rs) (rules_empty rules)

pub done_empty : (M : Meaning) (F : List Feature) (rules : List InForce) → Every (IsDone M F []) (map empty_part rules)
done_empty M F [] = tt
done_empty M F (r ∷ rules) = (refl, done_empty M F rules)

pub judging_parts : (M : Meaning) (F : List Feature) (selected : List ℕ) (ps : List RulePart) → Every (IsDone M F selected) ps
    → IsJudging M F (rules_of ps) selected (entries_of ps)
judging_parts M F selected [] h = refl
judging_parts M F selected (p ∷ ps) h = (p.entries, (entries_of ps, (refl, h.0, judging_parts M F selected ps h.1)))

pub judging_none : (M : Meaning) (F : List Feature) (rules : List InForce) → IsJudging M F rules [] []
judging_none M F [] = refl
judging_none M F (r ∷ rules) = ([], ([], (refl, refl, judging_none M F rules)))

-- ---- of one subject
part_grown : (M : Meaning) (F : List Feature) (a : ℕ) (r : InForce) (p : RulePart) → IsGrown M F a (empty_part r) p → IsPartOf M F a r p
part_grown M F a r p g = record { rule = g.rule; own = subst (λ es. IsSubjectPart M F r.number r.row a es) (sym g.put) g.own }

pub parts_grown : (M : Meaning) (F : List Feature) (a : ℕ) (rules : List InForce) (ps : List RulePart)
    → AreGrown M F a (map empty_part rules) ps → Paired (IsPartOf M F a) rules ps
parts_grown M F a [] [] g = tt
parts_grown M F a [] (p ∷ ps) g = absurd g
parts_grown M F a (r ∷ rules) [] g = absurd g
parts_grown M F a (r ∷ rules) (p ∷ ps) g = (part_grown M F a r p g.0, parts_grown M F a rules ps g.1)
