-- What a subject is shown is enough for the rules, whether it lies near the subject or at its ends.
use Rattle.std.proofs.Common.{◌≡◌, ◌⊎◌, inl, inr, ℕ, ◌<◌, arith, Bool, true, false, List, [], ◌∷◌, length, Some, refl, subst, sym}
use Rattle.std.specs.Prelude.{not, nat_lt, ◌&&◌, slice_get}
use Rattle.std.specs.List.{list_any}
use Rattle.std.proofs.lemmas.Bool.{cases_Bool}
use Rattle.std.proofs.lemmas.Option.{get_or_from_slice_get}
use Rattle.std.proofs.lemmas.Bool.Decides.{nat_tests}
use Rattle.plane_terms.specs.Lists.{Every, how_many}
use Rattle.plane_terms.specs.Point.{Place, point_at}
use Rattle.plane_terms.specs.Rectangle.{RectHolds, RectsMeet}
use Rattle.plane_terms.proofs.ListLemmas.{every_map, every_of_all}
use Rattle.plane_terms.proofs.Truths.{both_parts}
use Rattle.topology_terms.specs.Feature.{Feature, feature_at, env, IsAscending}
use Rattle.topology_terms.specs.Together.{ends}
use Rattle.topology_terms.specs.Broken.{Row, judged}
use Rattle.topology_terms.specs.Meaning.{Meaning, Laws, CutsRight, Finding}
use Rattle.topology_terms.specs.Project.{InForce}
use Rattle.validation_laws.specs.Views.{IsView, IsShownAt, HoldsEnd, ViewLaws, looks_at_ends, counts_at, enough_of, has_enough, open_of}
use Rattle.validation_laws.proofs.Fewer.{fewer_pass}
use Rattle.validation_laws.proofs.Viewed.{subject_seen, view_cut, view_fits}
use Rattle.rule_laws.proofs.Enough.{counts_held, le_more}
use Rattle.validation.specs.Ends.{looks_beyond, shows_at_ends, lacks_at, AreAtEnds, AreShownAtEnds, IsShownFor}
use Rattle.validation.specs.Parted.{RulePart, rules_of}
use Rattle.validation.proofs.AtEnds.{AreShown, each_some}
use Rattle.validation.proofs.Parted.{IsEnough, neither}

-- ---- tests
off : (b : Bool) → not b ≡ true → b ≡ false
off true e = cc
off false e = refl

within_ends : (a b : Bool) → (a && not b) ≡ false → a ≡ true → b ≡ true
within_ends a true e t = refl
within_ends true false e t = cc
within_ends false false e t = cc

pub any_rule : (test : InForce → Bool) (ps : List RulePart) → list_any test (rules_of ps) ≡ list_any (λ (p : RulePart). test p.rule) ps
any_rule test [] = refl
any_rule test (p ∷ ps) = rw (any_rule test ps) refl

pub shows_at : (ps : List RulePart) (f : Feature) (n : ℕ) (b : Bool) → n ≡ length (ends f) → 0 < n
    → b ≡ list_any (λ (p : RulePart). looks_beyond f p.rule) ps → not b ≡ shows_at_ends (rules_of ps) f
shows_at ps f n b e l h =
    let some : nat_lt 0 (length (ends f)) ≡ true = rw (← e) (grind (arith, nat_tests)) in
    rw (some, any_rule (looks_beyond f) ps, ← h) refl

-- ---- a view of what is at the ends
-- an end is open, or each rule that judges the subject has enough there
module _ (rules : List InForce) (F V K : List Feature) (f : Feature) (u : IsAscending K) (v : IsAscending V)
    (known : (h : ℕ) (g : Feature) → feature_at K h ≡ Some g → HoldsEnd f g → feature_at V h ≡ Some g) where
  has_more : (row : Row) (q : Place) → ((g : Feature) → RectHolds (env g) (point_at q) → HoldsEnd f g) → has_enough row K q ≡ true
      → has_enough row V q ≡ true
  has_more row q m t =
      let test : Feature → Bool = λ (g : Feature). counts_at row g q in
      le_more (enough_of row.kind) (how_many test K) (how_many test V)
      (fewer_pass test K V u v (λ h g e w. known h g e (m g (counts_held row g q w)))) t

  shown_at : (q : Place) → ((g : Feature) → RectHolds (env g) (point_at q) → HoldsEnd f g) → (left : Bool)
      → left ≡ list_any (lacks_at f K q) rules → (left ≡ true → AreShown f F V q)
      → Every (λ (r : InForce). judged r.row f ≡ true → IsShownAt r.row F V q) rules
  shown_at q m true e all = every_of_all (λ (r : InForce). judged r.row f ≡ true → IsShownAt r.row F V q) (λ r j. inr (all refl)) rules
  shown_at q m false e all = closed rules (sym e)
    where
      closed : (some : List InForce) → list_any (lacks_at f K q) some ≡ false
          → Every (λ (r : InForce). judged r.row f ≡ true → IsShownAt r.row F V q) some
      closed [] n = tt
      closed (r ∷ some) n =
          let y = neither (lacks_at f K q r) (list_any (lacks_at f K q) some) n in
          (λ j. inl (has_more r.row q m (within_ends (judged r.row f) (has_enough r.row K q) y.0 j)), closed some y.1)

first_open : (P : Place → Type 0) (p q : Place) (a b : Bool) → Every P (open_of (p ∷ q ∷ []) a b) → a ≡ true → P p
first_open P p q true b all e = all.0
first_open P p q false b all e = cc

last_open : (P : Place → Type 0) (p q : Place) (a b : Bool) → Every P (open_of (p ∷ q ∷ []) a b) → b ≡ true → P q
last_open P p q a false all e = cc
last_open P p q true true all e = all.1.0
last_open P p q false true all e = all.0

both_ends : (P Q : InForce → Type 0) (C : InForce → Type 0) (rules : List InForce) → Every (λ r. C r → P r) rules → Every (λ r. C r → Q r) rules
    → Every (λ r. C r → (P r × (Q r × Unit {0}))) rules
both_ends P Q C [] x y = tt
both_ends P Q C (r ∷ rules) x y = ((λ c. (x.0 c, (y.0 c, tt))), both_ends P Q C rules x.1 y.1)

-- of a line of two ends
pub beside_shown : (rules : List InForce) (F V K : List Feature) (f : Feature) (a b : Bool) (p q : Place) → ends f ≡ p ∷ q ∷ [] → IsAscending K
    → a ≡ list_any (lacks_at f K p) rules → b ≡ list_any (lacks_at f K q) rules → AreAtEnds F f K (open_of (ends f) a b) V
    → AreShownAtEnds rules F f V
beside_shown rules F V K f a b p q two u x y v =
    let all = subst (λ qs. Every (AreShown f F V) (open_of qs a b)) two v.at_open in
    let held = subst (Every (λ s. (g : Feature) → RectHolds (env g) (point_at s) → HoldsEnd f g)) two
    (each_some (λ (s : Place) (g : Feature). RectHolds (env g) (point_at s)) (ends f)) in
    record {
      forth = v.forth;
      at_ends = subst (λ qs. Every (λ (r : InForce). judged r.row f ≡ true → Every (IsShownAt r.row F V) qs) rules) (sym two)
          (both_ends (λ r. IsShownAt r.row F V p) (λ r. IsShownAt r.row F V q) (λ r. judged r.row f ≡ true) rules
          (shown_at rules F V K f u v.ascending v.known p held.0 a x (first_open (AreShown f F V) p q a b all))
          (shown_at rules F V K f u v.ascending v.known q held.1.0 b y (last_open (AreShown f F V) p q a b all)));
      subject = v.subject;
      ascending = v.ascending;
    }

-- the two ends
pub two_of : (qs : List Place) (p q : Place) → length qs ≡ 2 → slice_get qs 0 ≡ Some p → slice_get qs 1 ≡ Some q → qs ≡ p ∷ q ∷ []
two_of [] p q l h k = cc
two_of (a ∷ []) p q l h k = cc
two_of (a ∷ (b ∷ (c ∷ qs))) p q l h k = absurd (omega (arith, l))
two_of (a ∷ (b ∷ [])) p q l h k =
    let x : a ≡ p = get_or_from_slice_get (a ∷ b ∷ []) 0 p p h in
    let y : b ≡ q = get_or_from_slice_get (a ∷ b ∷ []) 1 q q k in
    rw (x, y) refl

-- where all ends are open
pub open_shown : (rules : List InForce) (F V : List Feature) (f : Feature) → AreAtEnds F f [] (ends f) V → AreShownAtEnds rules F f V
open_shown rules F V f v = record {
  forth = v.forth;
  at_ends = every_of_all (λ (r : InForce). judged r.row f ≡ true → Every (IsShownAt r.row F V) (ends f))
      (λ r j. every_map (AreShown f F V) (IsShownAt r.row F V) (λ q k. inr k) (ends f) v.at_open) rules;
  subject = v.subject;
  ascending = v.ascending;
}

pub near_or_at_ends : (rules : List InForce) (F V : List Feature) (f : Feature) → shows_at_ends rules f ≡ true
    → IsView F f V ⊎ AreAtEnds F f [] (ends f) V → IsShownFor rules F f V
near_or_at_ends rules F V f t (inl v) = inl v
near_or_at_ends rules F V f t (inr v) = inr (t, open_shown rules F V f v)

-- ---- what is shown at the ends is enough
module _ (M : Meaning) (W : ViewLaws M) (C : CutsRight M) (F V : List Feature) (f : Feature) (u : IsAscending F)
    (e : feature_at F f.handle ≡ Some f)
    (forth : (h : ℕ) (g : Feature) → feature_at V h ≡ Some g → (feature_at F h ≡ Some g) × RectsMeet (env f) (env g))
    (seen : feature_at V f.handle ≡ Some f) (w : IsAscending V) where
  end_cut : (r : InForce) → looks_beyond f r ≡ false → (judged r.row f ≡ true → Every (IsShownAt r.row F V) (ends f)) → M.Fits r.row F
      → (xs : List Finding) → M.IsCutting r.row V f.handle xs → M.IsCutting r.row F f.handle xs
  end_cut r b v fits xs h = elim (cases_Bool (judged r.row f)) [
    | inl t ↦ W.ends r.row F V f.handle f (within_ends (judged r.row f) (looks_at_ends r.row.kind) b t) u fits
        (W.fits r.row F V w (λ k g i. (forth k g i).0) fits) e (record { forth = forth; at_ends = v t; subject = seen; ascending = w }) xs h
    | inr t ↦
        let none : xs ≡ [] = C.one r.row V f.handle xs [] h (W.idle r.row V f.handle f seen t) in
        subst (M.IsCutting r.row F f.handle) (sym none) (W.idle r.row F f.handle f e t)
  ]

  ends_enough : (rules : List InForce) → list_any (looks_beyond f) rules ≡ false
      → Every (λ (r : InForce). judged r.row f ≡ true → Every (IsShownAt r.row F V) (ends f)) rules
      → Every (λ (r : InForce). M.Fits r.row F) rules → Every (IsEnough M F V f) rules
  ends_enough [] b v fits = tt
  ends_enough (r ∷ rules) b v fits =
      let y = neither (looks_beyond f r) (list_any (looks_beyond f) rules) b in
      (record { subject = seen; cut = end_cut r y.0 v.0 fits.0 }, ends_enough rules y.1 v.1 fits.1)

-- ---- what is shown
module _ (M : Meaning) (L : Laws M) (W : ViewLaws M) (C : CutsRight M) (F V : List Feature) (f : Feature) (u : IsAscending F)
    (e : feature_at F f.handle ≡ Some f) where
  view_enough : IsView F f V → (rules : List InForce) → Every (λ (r : InForce). M.Fits r.row F) rules → Every (IsEnough M F V f) rules
  view_enough v [] fits = tt
  view_enough v (r ∷ rules) fits = (
    record {
      subject = subject_seen F V f.handle f e v;
      cut = λ xs h. view_cut M L r.row F V f.handle f fits.0 (view_fits M W r.row F V f v fits.0) e v u xs h;
    },
    view_enough v rules fits.1,
  )

  pub shown_enough : (rules : List InForce) → IsShownFor rules F f V → Every (λ (r : InForce). M.Fits r.row F) rules
      → Every (IsEnough M F V f) rules
  shown_enough rules (inl v) fits = view_enough v rules fits
  shown_enough rules (inr k) fits =
      let y = both_parts (nat_lt 0 (length (ends f))) (not (list_any (looks_beyond f) rules)) k.0 in
      ends_enough M W C F V f u e k.1.forth k.1.subject k.1.ascending rules (off (list_any (looks_beyond f) rules) y.1) k.1.at_ends fits

-- there is an end
pub shows_some : (rules : List InForce) (f : Feature) → shows_at_ends rules f ≡ true → 0 < length (ends f)
shows_some rules f t =
    let y = both_parts (nat_lt 0 (length (ends f))) (not (list_any (looks_beyond f) rules)) t in
    grind (arith, nat_tests)

-- the subject itself
pub shown_subject : (rules : List InForce) (F V : List Feature) (f : Feature) → feature_at F f.handle ≡ Some f → IsShownFor rules F f V
    → feature_at V f.handle ≡ Some f
shown_subject rules F V f e (inl v) = subject_seen F V f.handle f e v
shown_subject rules F V f e (inr k) = k.1.subject

-- it is a view of itself
pub shown_own : (rules : List InForce) (F V : List Feature) (f : Feature) → IsShownFor rules F f V → IsView V f V
shown_own rules F V f (inl v) = record { forth = λ h g e. (e, (v.forth h g e).1); back = λ h g e m. e; ascending = v.ascending }
shown_own rules F V f (inr k) = record { forth = λ h g e. (e, (k.1.forth h g e).1); back = λ h g e m. e; ascending = k.1.ascending }

-- and fits what all features fit
part_fits : (M : Meaning) → ViewLaws M → (F V : List Feature) → IsAscending V
    → ((h : ℕ) (g : Feature) → feature_at V h ≡ Some g → feature_at F h ≡ Some g) → (rules : List InForce)
    → Every (λ (r : InForce). M.Fits r.row F) rules → Every (λ (r : InForce). M.Fits r.row V) rules
part_fits M W F V u within [] fits = tt
part_fits M W F V u within (r ∷ rules) fits = (W.fits r.row F V u within fits.0, part_fits M W F V u within rules fits.1)

pub shown_fits : (M : Meaning) → ViewLaws M → (rules some : List InForce) (F V : List Feature) (f : Feature) → IsShownFor rules F f V
    → Every (λ (r : InForce). M.Fits r.row F) some → Every (λ (r : InForce). M.Fits r.row V) some
shown_fits M W rules some F V f (inl v) fits = part_fits M W F V v.ascending (λ h g e. (v.forth h g e).0) some fits
shown_fits M W rules some F V f (inr k) fits = part_fits M W F V k.1.ascending (λ h g e. (k.1.forth h g e).0) some fits
