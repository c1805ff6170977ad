-- Of a rule that looks at ends, what is cut among the features shown to it at the subject's ends is what is cut among all.
use Rattle.std.proofs.Common.{◌≡◌, ◌↔◌, inl, inr, ℕ, ◌≤ℤ◌, arith, Bool, true, false, refl, sym, ◌∙◌, List, [], ◌∷◌, Some}
use Rattle.std.specs.Prelude.{◌≢◌, ◌||◌, not}
use Rattle.std.specs.List.{filter, list_any}
use Rattle.std.proofs.lemmas.Int.{ints}
use Rattle.std.proofs.lemmas.List.Folds.{Any-from_list_any, list_any-from_Any}
use Rattle.std.proofs.lemmas.Bool.{false≢true}
use Rattle.plane_terms.specs.Lists.{Every, SomeOf}
use Rattle.plane_terms.specs.Point.{Place, same_place, point_at}
use Rattle.plane_terms.specs.Rectangle.{Rectangle, RectHolds, IsWithin, rect_at, is_within, rects_meet}
use Rattle.plane_terms.specs.Shape.{Shape, ends_of, envelope_of}
use Rattle.plane_terms.specs.declared.kind.Kind.{Kind}
use Rattle.plane_terms.specs.declared.kind.Kind.TheVariants as shapes
use Rattle.plane_terms.proofs.ListLemmas.{every_filter, every_map, among_at, every_among, every_of_all}
use Rattle.cell_laws.proofs.OnLine.{at_itself}
use Rattle.column_laws.proofs.Every.{every_both}
use Rattle.rule_words.specs.declared.rule_kind.RuleKind.{RuleKind}
use Rattle.rule_words.specs.declared.rule_kind.RuleKind.TheVariants as rule
use Rattle.topology_terms.specs.Feature.{Feature, Side, IsOf, feature_at, env, Agree, IsAscending}
use Rattle.topology_terms.specs.Together.{ends}
use Rattle.topology_terms.specs.Tests.{in_order_once}
use Rattle.topology_terms.specs.Plans.{near, own_ends, plan_of, cut_by, cutting_of, is_dangle, is_pseudo, none_at, is_point_at}
use Rattle.topology_terms.specs.Broken.{Row, Fits}
use Rattle.sound_laws.proofs.Planes.{within_Holds}
use Rattle.sound_laws.proofs.FeatureLists.{each_live}
use Rattle.validation_laws.specs.Views.{OpenEnds, open_ends, open_of, looks_at_ends, holds_any, HoldsEnd, has_enough, IsShownAt, IsEndView}
use Rattle.rule_laws.proofs.Nears.{near_ascends, near_of}
use Rattle.rule_laws.proofs.Envelopes.{LiesIn, ends_in}
use Rattle.rule_laws.proofs.Held.{at_held}
use Rattle.rule_laws.proofs.Families.{IsFit}
use Rattle.rule_laws.proofs.Around.{round, round_agree, round_near}
use Rattle.rule_laws.proofs.Tests.{any_some}
use Rattle.rule_laws.proofs.Spots.{dangle_around, pseudo_around, point_around}
use Rattle.rule_laws.proofs.Lawful.{row_of, fit_origin, fit_dest}
use Rattle.rule_laws.proofs.Enough.{enough_more, no_dangle, no_pseudo, not_bare}

-- ---- the ends of the subject
pub place_in : (r : Rectangle) (q : Place) → LiesIn r q → RectHolds r (point_at q)
place_in r q i = within_Holds (rect_at q) r i (point_at q) (at_held q (point_at q) (at_itself q))

-- the envelope of a line holds its ends
ends_held : (f : Feature) → Every (λ q. RectHolds (env f) (point_at q)) (ends f)
ends_held f = every_map (LiesIn (env f)) (λ q. RectHolds (env f) (point_at q)) (place_in (env f)) (ends f) (ends_in f.shape)

pub holds_own : (f : Feature) → ends f ≢ [] → HoldsEnd f f
holds_own f n = some_held (ends f) n (ends_held f)
  where
    some_held : (qs : List Place) → qs ≢ [] → Every (λ q. RectHolds (env f) (point_at q)) qs → SomeOf (λ q. RectHolds (env f) (point_at q)) qs
    some_held [] n u = absurd (n refl)
    some_held (q ∷ qs) n u = inl u.0

each_once : (P : Place → Type 0) (qs : List Place) → Every P qs → Every P (in_order_once qs)
each_once P [] u = tt
each_once P (q ∷ qs) u = (u.0, every_filter P (λ r. not (same_place q r)) (in_order_once qs) (each_once P qs u.1))

-- ---- rectangles round a place
place_wider : (q : Place) (r t : Rectangle) → IsWithin r t → is_within (rect_at q) r ≡ true → is_within (rect_at q) t ≡ true
place_wider q r t w e = grind (arith, ints)

place_meets : (q : Place) (r t : Rectangle) → IsWithin (rect_at q) r → is_within (rect_at q) t ≡ true → rects_meet r t ≡ true
place_meets q r t w e = grind (arith, ints)

pub in_from_test : (q : Place) (r : Rectangle) → is_within (rect_at q) r ≡ true → IsWithin (rect_at q) r
in_from_test q r e = record { left = grind (arith, ints); right = grind (arith, ints); below = grind (arith, ints); above = grind (arith, ints) }

pub in_test : (q : Place) (r : Rectangle) → RectHolds r (point_at q) → is_within (rect_at q) r ≡ true
in_test q r h = within (omega (arith, ints, h.left)) (omega (arith, ints, h.right)) (omega (arith, ints, h.below)) (omega (arith, ints, h.above))
  where
    within : r.x0 ≤ℤ q.x → q.x ≤ℤ r.x1 → r.y0 ≤ℤ q.y → q.y ≤ℤ r.y1 → is_within (rect_at q) r ≡ true
    within a b c d = grind (arith, ints)

-- ---- what the ends of a line touch
pub any_wider : (qs : List Place) (r t : Rectangle) → IsWithin r t → holds_any qs r ≡ true → holds_any qs t ≡ true
any_wider qs r t w e =
    let f = Any-from_list_any (λ (q : Place). is_within (rect_at q) r) qs e in
    list_any-from_Any (λ (q : Place). is_within (rect_at q) t) qs (f.0, f.1, f.2, f.3, place_wider f.1 r t w f.4)

pub ends_inside : (s : Shape) (r : Rectangle) → holds_any (ends_of s) r ≡ true → rects_meet (envelope_of s) r ≡ true
ends_inside s r e =
    let f = Any-from_list_any (λ (q : Place). is_within (rect_at q) r) (ends_of s) e in
    let i = every_among (LiesIn (envelope_of s)) (ends_of s) (ends_in s) f.1 (among_at (ends_of s) f.0 f.1 f.2 f.3) in
    place_meets f.1 (envelope_of s) r i f.4

-- what an open end of a line touches
pub open_any : (test : Place → Bool) (qs : List Place) (a b : Bool) → list_any test (open_of qs a b) ≡ true → list_any test qs ≡ true
open_any test [] a b t = t
open_any test (p ∷ []) a b t = t
open_any test (p ∷ (q ∷ (r ∷ qs))) a b t = t
open_any test (p ∷ (q ∷ [])) true true t = t
open_any test (p ∷ (q ∷ [])) true false t = by_first (test p) (test q) t
  where
    by_first : (a b : Bool) → (a || false) ≡ true → (a || (b || false)) ≡ true
    by_first a b t = grind arith
open_any test (p ∷ (q ∷ [])) false true t = by_last (test p) (test q) t
  where
    by_last : (a b : Bool) → (b || false) ≡ true → (a || (b || false)) ≡ true
    by_last a b t = grind arith
open_any test (p ∷ (q ∷ [])) false false t = cc

pub open_wider : (e : OpenEnds) (r t : Rectangle) → IsWithin r t → holds_any (open_ends e) r ≡ true → holds_any (open_ends e) t ≡ true
open_wider e r t w h = any_wider (open_ends e) r t w h

pub open_inside : (e : OpenEnds) (r : Rectangle) → holds_any (open_ends e) r ≡ true → rects_meet (envelope_of e.line) r ≡ true
open_inside e r t = ends_inside e.line r (open_any (λ (q : Place). is_within (rect_at q) r) (ends_of e.line) e.first e.last t)

pub any_held_test : (qs : List Place) (g : Feature) → (holds_any qs (env g) ≡ true) ↔ SomeOf (λ q. RectHolds (env g) (point_at q)) qs
any_held_test qs g =
    any_some (λ (q : Place). Unit {0}) (λ q. RectHolds (env g) (point_at q)) (λ (q : Place). is_within (rect_at q) (env g))
    (λ q u. ((λ e. place_in (env g) q (in_from_test q (env g) e)), in_test q (env g))) qs (every_of_all (λ (q : Place). Unit {0}) (λ q. tt) qs)

-- ---- a test that depends on the features round the place, and fails where enough are there, picks the same ends
filter_each : {A : Type 0} (t s : A → Bool) (xs : List A) → Every (λ x. t x ≡ s x) xs → filter t xs ≡ filter s xs
filter_each t s [] u = refl
filter_each t s (x ∷ xs) u = rw (u.0, filter_each t s xs u.1) refl

module _ (l : Kind) (bad : List Feature → Place → Bool)
    (local : (gs hs : List Feature) (q : Place) → Every (IsFit l) gs → Every (IsFit l) hs → round (point_at q) gs ≡ round (point_at q) hs
    → bad gs q ≡ bad hs q) (S : Side) (row : Row) (F V : List Feature) (f : Feature)
    (enough : (q : Place) → RectHolds (env f) (point_at q) → (G : List Feature) → has_enough row G q ≡ true → bad (near S f G) q ≡ false)
    (u : IsAscending F) (v : IsEndView row F f V) (fit : (b : ℕ) (g : Feature) → IsOf F S b g → IsFit l g) where
  near_fit : (G : List Feature) → IsAscending G → ((b : ℕ) (g : Feature) → IsOf G S b g → IsFit l g) → Every (IsFit l) (near S f G)
  near_fit G w m = each_live (IsFit l) (near S f G) (near_ascends S f G w) (λ b g i. m b g (near_of S f G b g w i))

  view_fit : (b : ℕ) (g : Feature) → IsOf V S b g → IsFit l g
  view_fit b g i = fit b g (record { live = (v.forth b g i.live).0; on_side = i.on_side })

  round_end : (q : Place) → RectHolds (env f) (point_at q)
      → ((h : ℕ) (g : Feature) → feature_at F h ≡ Some g → RectHolds (env g) (point_at q) → feature_at V h ≡ Some g)
      → round (point_at q) (near S f V) ≡ round (point_at q) (near S f F)
  round_end q k back =
      let p = point_at q in
      let agree : Agree (λ g. RectHolds (env g) p) V F = record { forth = λ h g e m. (v.forth h g e).0; back = back } in
      round_near S V f p k ∙ (round_agree S V F p v.ascending u agree ∙ sym (round_near S F f p k))

  same_at : (q : Place) → RectHolds (env f) (point_at q) → IsShownAt row F V q → bad (near S f V) q ≡ bad (near S f F) q
  same_at q k (inl t) = enough q k V t ∙ sym (enough q k F (enough_more row F V q v.ascending u (λ h g e. (v.forth h g e).0) t))
  same_at q k (inr back) =
      local (near S f V) (near S f F) q (near_fit V v.ascending view_fit) (near_fit F u fit) (round_end q k back)

  pub picked_same : filter (bad (near S f V)) (own_ends f) ≡ filter (bad (near S f F)) (own_ends f)
  picked_same =
      let each = every_both (λ q. RectHolds (env f) (point_at q)) (IsShownAt row F V) (ends f) (ends_held f) v.at_ends in
      filter_each (bad (near S f V)) (bad (near S f F)) (own_ends f)
      (each_once (λ q. bad (near S f V) q ≡ bad (near S f F) q) (ends f)
      (every_map (λ q. RectHolds (env f) (point_at q) × IsShownAt row F V q) (λ q. bad (near S f V) q ≡ bad (near S f F) q)
      (λ q k. same_at q k.0 k.1) (ends f) each))

-- ---- so do the rules that look at ends
pub cut_at_ends : (k : RuleKind) (A B : Side) (F V : List Feature) (f : Feature) → looks_at_ends k ≡ true → Fits (row_of k A B) F
    → IsEndView (row_of k A B) F f V → cut_by (plan_of k) (row_of k A B) V f ≡ cut_by (plan_of k) (row_of k A B) F f
cut_at_ends rule.LineMustNotHaveDangles A B F V f t u v =
    let row = row_of rule.LineMustNotHaveDangles A B in
    rw (picked_same shapes.Line is_dangle dangle_around A row F V f (no_dangle A B f) u.ascending v (fit_origin row F u)) refl
cut_at_ends rule.LineMustNotHavePseudoNodes A B F V f t u v =
    let row = row_of rule.LineMustNotHavePseudoNodes A B in
    rw (picked_same shapes.Line is_pseudo pseudo_around A row F V f (no_pseudo A B f) u.ascending v (fit_origin row F u)) refl
cut_at_ends rule.LineEndpointMustBeCoveredBy A B F V f t u v =
    let row = row_of rule.LineEndpointMustBeCoveredBy A B in
    rw (picked_same shapes.Point (none_at is_point_at) point_around B row F V f (not_bare A B f) u.ascending v
    (fit_dest row F shapes.Point refl u)) refl
cut_at_ends other A B F V f t u v = absurd (false≢true t)

pub cutting_at_ends : (row : Row) (F V : List Feature) (f : Feature) → looks_at_ends row.kind ≡ true → Fits row F → IsEndView row F f V
    → cutting_of row V f ≡ cutting_of row F f
cutting_at_ends row F V f t u v = rw (cut_at_ends row.kind row.origin row.dest F V f t u v) refl
