-- Where two lines of a class hold a point, no line dangles there; and so after a snap, nor at the end's old place.
use Rattle.std.proofs.Common.{◌≡◌, ◌≢◌, ℕ, suc, ◌+◌, ◌≤◌, ◌==◌, Bool, true, false, cond, not, List, [], ◌∷◌, ◌++◌, length, arith, refl, sym, subst, ap, ◌∙◌, Option, Some, None, inl, inr, length-append}
use Rattle.std.specs.Prelude.{slice_get, ◌&&◌, ◌||◌}
use Rattle.std.specs.List.{filter, list_any}
use Rattle.std.proofs.lemmas.Bool.{false≢true}
use Rattle.plane_terms.specs.Lists.{Every, SomeOf, IsThose, how_many}
use Rattle.plane_terms.specs.Point.{Place, Point, IsAt, same_place, point_at}
use Rattle.plane_terms.specs.Segment.{Segment, IsSegment, OnSegment}
use Rattle.plane_terms.specs.Shape.{IsShape, segments_of, ends_of}
use Rattle.plane_terms.specs.Line.{holds_place}
use Rattle.plane_terms.specs.declared.kind.Kind.TheVariants as kind
use Rattle.plane_terms.proofs.ListLemmas.{how_many_joined, every_filter, every_passing, every_map}
use Rattle.plane_terms.proofs.Truths.{both_parts, all_four}
use Rattle.rule_words.specs.declared.rule_kind.RuleKind.{RuleKind}
use Rattle.rule_words.specs.declared.rule_kind.RuleKind.TheVariants as rule
use Rattle.topology_terms.specs.Feature.{Feature, Side, IsOf, feature_at, sides, is_on_side, IsAscending}
use Rattle.topology_terms.specs.Together.{of_side, sides_all, ends}
use Rattle.topology_terms.specs.Tests.{holds_at, segments_at}
use Rattle.topology_terms.specs.Plans.{is_dangle}
use Rattle.topology_terms.specs.Broken.{Row, BrokenAt, broken_at}
use Rattle.topology_terms.specs.Changes.{reshaped}
use Rattle.feature_store.specs.Keeps.{HasSimpleSides}
use Rattle.cell_laws.proofs.OnLine.{at_itself}
use Rattle.cell_laws.proofs.AtPlaces.{same_is}
use Rattle.sound_laws.proofs.FeatureLists.{at_handle, past_handle, handle_of, own_handle, same_handle, each_live}
use Rattle.rule_laws.proofs.Nears.{side_test, side_from}
use Rattle.rule_laws.proofs.Tests.{place_from, place_test}
use Rattle.rule_laws.proofs.Counted.{count_test}
use Rattle.rule_laws.proofs.Uncovered.{every_flat}
use Rattle.fix_terms.specs.Plans.{IsAfter}
use Rattle.fix_terms.specs.Snap.{snapped, snapped_shape, is_for_dangles, dangles_at, holds_other, may_snap, HasSnapped}
use Rattle.fix_terms.specs.Plans.{Edit}
use Rattle.fix_tools.proofs.After.{set_off, set_here}
use Rattle.fix_tools.proofs.LineEnds.{replaced, snapped_ends, kind_of_ends, count_replaced, replaced_there, end_there, counted_at, held_counted, ends_held}

-- ---- how many there are at least

some_those : {A : Type 0} (P : A → Type 0) (xs ys : List A) → SomeOf P xs → IsThose P xs ys → 1 ≤ length ys
some_those P [] ys s t = absurd s
some_those P (x ∷ xs) ys s t = elim t [
  | inl a ↦ subst (λ (zs : List _). 1 ≤ length zs) (sym a.1.1) (omega arith)
  | inr b ↦ elim s [ inl p ↦ absurd (b.0 p) | inr q ↦ some_those P xs ys q b.1 ]
]

record Split {A : Type 0} (P : A → Type 0) (us vs ys : List A) : Type 0 where
  first : List A
  second : List A
  both : ys ≡ first ++ second
  of_first : IsThose P us first
  of_second : IsThose P vs second

split : {A : Type 0} (P : A → Type 0) (us vs ys : List A) → IsThose P (us ++ vs) ys → Split P us vs ys
split P [] vs ys t = record { first = []; second = ys; both = refl; of_first = refl; of_second = t }
split P (u ∷ us) vs ys t = elim t [
  | inl a ↦
      let r = split P us vs a.1.0 a.1.2 in record {
        first = u ∷ r.first;
        second = r.second;
        both = a.1.1 ∙ ap (λ (zs : List _). u ∷ zs) r.both;
        of_first = inl (a.0, (r.first, refl, r.of_first));
        of_second = r.of_second;
      }
  | inr b ↦
      let r = split P us vs ys b.1 in
      record { first = r.first; second = r.second; both = r.both; of_first = inr (b.0, r.of_first); of_second = r.of_second }
]

abbrev HasSome : (Segment → Type 0) → Feature → Type 0
HasSome P f = SomeOf P (sides f)

one_those : (P : Segment → Type 0) (gs : List Feature) (f : Feature) (ys : List Segment) → SomeOf (λ g. g ≡ f) gs → HasSome P f
    → IsThose P (sides_all gs) ys → 1 ≤ length ys
one_those P [] f ys s h t = absurd s
one_those P (g ∷ gs) f ys s h t =
    let r = split P (sides g) (sides_all gs) ys t in
    let n : length ys ≡ length r.first + length r.second = ap (λ (zs : List Segment). length zs) r.both ∙ length-append r.first r.second in
    elim s [
      | inl e ↦ let m = some_those P (sides g) r.first (subst (HasSome P) (sym e) h) r.of_first in omega (arith, m, n)
      | inr q ↦ let m = one_those P gs f r.second q h r.of_second in omega (arith, m, n)
    ]

two_those : (P : Segment → Type 0) (gs : List Feature) (f g : Feature) (ys : List Segment) → (f ≡ g → ⊥) → SomeOf (λ x. x ≡ f) gs
    → SomeOf (λ x. x ≡ g) gs → HasSome P f → HasSome P g → IsThose P (sides_all gs) ys → 2 ≤ length ys
two_those P [] f g ys n s t h k u = absurd s
two_those P (x ∷ xs) f g ys n s t h k u =
    let r = split P (sides x) (sides_all xs) ys u in
    let c : length ys ≡ length r.first + length r.second = ap (λ (zs : List Segment). length zs) r.both ∙ length-append r.first r.second in
    elim s [
      | inl e ↦ elim t [
        | inl i ↦ absurd (n (sym e ∙ i))
        | inr q ↦
            let a = some_those P (sides x) r.first (subst (HasSome P) (sym e) h) r.of_first in
            let b = one_those P xs g r.second q k r.of_second in
            omega (arith, a, b, c)
      ]
      | inr p ↦ elim t [
        | inl i ↦
            let a = some_those P (sides x) r.first (subst (HasSome P) (sym i) k) r.of_first in
            let b = one_those P xs f r.second p h r.of_second in
            omega (arith, a, b, c)
        | inr q ↦ let a = two_those P xs f g r.second n p q h k r.of_second in omega (arith, a, c)
      ]
    ]

-- ---- a live feature of the side is among those of the side

pub some_same : {x y : Feature} → Some x ≡ Some y → x ≡ y
some_same e = cc

among_more : (g : Feature) (gs : List Feature) (h : ℕ) (f : Feature) (b : Bool) → (g.handle == h) ≡ b → feature_at (g ∷ gs) h ≡ Some f
    → (feature_at gs h ≡ Some f → SomeOf (λ x. x ≡ f) gs) → SomeOf (λ x. x ≡ f) (g ∷ gs)
among_more g gs h f true i e more = inl (some_same (sym (at_handle g gs h i) ∙ e))
among_more g gs h f false i e more = inr (more (sym (past_handle g gs h i) ∙ e))

live_among : (F : List Feature) (h : ℕ) (f : Feature) → feature_at F h ≡ Some f → SomeOf (λ g. g ≡ f) F
unfolding feature_at
live_among [] h f e = absurd (cc)
live_among (g ∷ gs) h f e = among_more g gs h f (g.handle == h) refl e (live_among gs h f)

not_both : (b : Bool) → b ≡ true → b ≡ false → ⊥
not_both b u v = cc

kept_more : (test : Feature → Bool) (g : Feature) (gs kept : List Feature) (f : Feature) (b : Bool) → test g ≡ b → test f ≡ true
    → SomeOf (λ x. x ≡ f) (g ∷ gs) → (SomeOf (λ x. x ≡ f) gs → SomeOf (λ x. x ≡ f) kept) → SomeOf (λ x. x ≡ f) (cond b (g ∷ kept) kept)
kept_more test g gs kept f true e t s more = elim s [ inl i ↦ inl i | inr q ↦ inr (more q) ]
kept_more test g gs kept f false e t s more = elim s [ inl i ↦ absurd (not_both (test g) (ap test i ∙ t) e) | inr q ↦ more q ]

kept_among : (test : Feature → Bool) (F : List Feature) (f : Feature) → test f ≡ true → SomeOf (λ g. g ≡ f) F → SomeOf (λ g. g ≡ f) (filter test F)
kept_among test [] f t s = absurd s
kept_among test (g ∷ gs) f t s = kept_more test g gs (filter test gs) f (test g) refl t s (kept_among test gs f t)

pub of_among : (A : Side) (F : List Feature) (h : ℕ) (f : Feature) → IsOf F A h f → SomeOf (λ g. g ≡ f) (of_side A F)
of_among A F h f o = kept_among (is_on_side A) F f (side_test A f o.on_side) (live_among F h f o.live)

-- two lines of the class at a point: not one segment alone
pub no_dangle : (row : Row) (G : List Feature) (h k a b : ℕ) (f g : Feature) (p : Point) → row.kind ≡ rule.LineMustNotHaveDangles
    → IsOf G row.origin h f → IsOf G row.origin k g → h ≢ k → HasSome (λ t. OnSegment t p) f → HasSome (λ t. OnSegment t p) g
    → ¬ (BrokenAt row G a b p)
unfolding BrokenAt
no_dangle row G h k a b f g p e o i n x y = λ broken.
    let r = subst (λ (m : RuleKind). broken_at m row.origin row.dest G a b p) e broken in
    let apart : f ≡ g → ⊥ = λ s. n (sym (handle_of G h f o.live) ∙ ap (λ (z : Feature). z.handle) s ∙ handle_of G k g i.live) in
    let two = two_those (λ t. OnSegment t p) (of_side row.origin G) f g r.one_segment.0 apart (of_among row.origin G h f o)
    (of_among row.origin G k g i) x y r.one_segment.1 in
    omega (arith, two, r.one_segment.2)

-- ---- counting segments that pass a test
count_one : (test : Segment → Bool) (gs : List Feature) (f : Feature) → SomeOf (λ x. x ≡ f) gs
    → how_many test (sides f) ≤ how_many test (sides_all gs)
count_one test [] f s = absurd s
count_one test (g ∷ gs) f s =
    let c = how_many_joined test (sides g) (sides_all gs) in
    elim s [
      | inl e ↦ let a = ap (λ (x : Feature). how_many test (sides x)) e in omega (arith, a, c)
      | inr q ↦ let m = count_one test gs f q in omega (arith, m, c)
    ]

count_two : (test : Segment → Bool) (gs : List Feature) (f g : Feature) → (f ≡ g → ⊥) → SomeOf (λ x. x ≡ f) gs → SomeOf (λ x. x ≡ g) gs
    → how_many test (sides f) + how_many test (sides g) ≤ how_many test (sides_all gs)
count_two test [] f g n s t = absurd s
count_two test (x ∷ xs) f g n s t =
    let c = how_many_joined test (sides x) (sides_all xs) in
    elim s [
      | inl e ↦ elim t [
        | inl i ↦ absurd (n (sym e ∙ i))
        | inr q ↦
            let a = ap (λ (y : Feature). how_many test (sides y)) e in
            let m = count_one test xs g q in
            omega (arith, a, c, m)
      ]
      | inr p ↦ elim t [
        | inl i ↦
            let a = ap (λ (y : Feature). how_many test (sides y)) i in
            let m = count_one test xs f p in
            omega (arith, a, c, m)
        | inr q ↦ let m = count_two test xs f g n p q in omega (arith, c, m)
      ]
    ]

any_counted : (test : Segment → Bool) (ss : List Segment) → list_any test ss ≡ true → 1 ≤ how_many test ss
any_counted test [] t = absurd (false≢true t)
any_counted test (s ∷ ss) t = by (test s) t (any_counted test ss)
  where
    by : (b : Bool) → (b || list_any test ss) ≡ true → (list_any test ss ≡ true → 1 ≤ how_many test ss)
        → 1 ≤ cond b (suc (how_many test ss)) (how_many test ss)
    by true u more = omega arith
    by false u more = more u

-- ---- another line that holds the place
record Other (f : Feature) (gs : List Feature) (q : Place) : Type 0 where
  g : Feature
  among : SomeOf (λ x. x ≡ g) gs
  apart : (g.handle == f.handle) ≡ false
  holds : holds_at (sides g) q ≡ true

not_true : (b : Bool) → not b ≡ true → b ≡ false
not_true true e = sym e
not_true false e = refl

other_line : (f : Feature) (gs : List Feature) (q : Place) → holds_other f gs q ≡ true → Other f gs q
other_line f [] q t = absurd (false≢true t)
other_line f (g ∷ gs) q t = by (not (g.handle == f.handle) && holds_at (sides g) q) refl t (other_line f gs q)
  where
    by : (b : Bool) → (not (g.handle == f.handle) && holds_at (sides g) q) ≡ b → (b || holds_other f gs q) ≡ true
        → (holds_other f gs q ≡ true → Other f gs q) → Other f (g ∷ gs) q
    by true e u more =
        let k = both_parts (not (g.handle == f.handle)) (holds_at (sides g) q) e in
        record { g = g; among = inl refl; apart = not_true (g.handle == f.handle) k.0; holds = k.1 }
    by false e u more = let r = more u in record { g = r.g; among = inr r.among; apart = r.apart; holds = r.holds }

every_some : (P : Feature → Type 0) (gs : List Feature) (g : Feature) → Every P gs → SomeOf (λ x. x ≡ g) gs → P g
every_some P [] g u s = absurd s
every_some P (x ∷ xs) g u s = elim s [ inl e ↦ subst P e u.0 | inr q ↦ every_some P xs g u.1 q ]

pub found_at : (F : List Feature) → IsAscending F → Every (λ (g : Feature). feature_at F g.handle ≡ Some g) F
found_at F a =
    each_live (λ (g : Feature). feature_at F g.handle ≡ Some g) F a
    (λ h g l. subst (λ (k : ℕ). feature_at F k ≡ Some g) (sym (handle_of F h g l)) l)

-- ---- what allows a snap
dangles_kind : (k : RuleKind) → is_for_dangles k ≡ true → k ≡ rule.LineMustNotHaveDangles
dangles_kind rule.LineMustNotHaveDangles e = refl
dangles_kind other e = absurd (false≢true e)

record Dangling (gs : List Feature) (o : Option Place) : Type 0 where
  e : Place
  end : o ≡ Some e
  loose : is_dangle gs e ≡ true

dangling : (gs : List Feature) (o : Option Place) → dangles_at gs o ≡ true → Dangling gs o
dangling gs None t = absurd (false≢true t)
dangling gs (Some e) t = record { e = e; end = refl; loose = t }

pub record Snap (row : Row) (F : List Feature) (f : Feature) (i : ℕ) (to : Place) : Type 0 where
  pub ascending : IsAscending F
  pub live : feature_at F f.handle ≡ Some f
  pub proper : Every (λ (g : Feature). Every IsSegment (sides g)) F
  pub valid : IsShape f.shape
  pub made : IsShape (snapped_shape i to f.shape)
  pub may : may_snap row F f i to ≡ true

record Parts (row : Row) (F : List Feature) (f : Feature) (i : ℕ) (to : Place) : Type 0 where
  is_rule : row.kind ≡ rule.LineMustNotHaveDangles
  on_side : is_on_side row.origin f ≡ true
  end : Dangling (of_side row.origin F) (slice_get (ends f) i)
  other : Other f (of_side row.origin F) to

parts_of : (row : Row) (F : List Feature) (f : Feature) (i : ℕ) (to : Place) → may_snap row F f i to ≡ true → Parts row F f i to
parts_of row F f i to t =
    let k = all_four (is_for_dangles row.kind) (is_on_side row.origin f) (dangles_at (of_side row.origin F) (slice_get (ends f) i))
    (holds_other f (of_side row.origin F) to) t in record {
      is_rule = dangles_kind row.kind k.0;
      on_side = k.1;
      end = dangling (of_side row.origin F) (slice_get (ends f) i) k.2;
      other = other_line f (of_side row.origin F) to k.3;
    }

module _ (row : Row) (F : List Feature) (f : Feature) (i : ℕ) (to : Place) (s : Snap row F f i to) where
  p : Parts row F f i to
  p = parts_of row F f i to s.may

  abbrev e : Place
  e = p.end.e

  abbrev g : Feature
  g = p.other.g

  line : f.shape.kind ≡ kind.Line
  line = kind_of_ends f.shape i e p.end.end

  single : segments_at (of_side row.origin F) e ≡ 1
  single = same_handle (segments_at (of_side row.origin F) e) 1 p.end.loose

  among : SomeOf (λ x. x ≡ f) (of_side row.origin F)
  among = kept_among (is_on_side row.origin) F f p.on_side (live_among F f.handle f s.live)

  other_live : feature_at F g.handle ≡ Some g
  other_live =
      every_some (λ (x : Feature). feature_at F x.handle ≡ Some x) (of_side row.origin F) g
      (every_filter (λ (x : Feature). feature_at F x.handle ≡ Some x) (is_on_side row.origin) F (found_at F s.ascending)) p.other.among

  other_side : is_on_side row.origin g ≡ true
  other_side =
      every_some (λ (x : Feature). is_on_side row.origin x ≡ true) (of_side row.origin F) g
      (every_passing (λ (x : Feature). is_on_side row.origin x ≡ true) (is_on_side row.origin) (λ x t. t) F) p.other.among

  apart : f ≡ g → ⊥
  apart h = false≢true (sym p.other.apart ∙ (ap (λ (x : Feature). x.handle == f.handle) (sym h) ∙ own_handle f.handle))

  own_end : 1 ≤ how_many (same_place e) (ends f)
  own_end = counted_at e (point_at e) (ends f) (at_itself e) (end_there e i (ends f) (point_at e) p.end.end (at_itself e))

  few_ends : how_many (same_place e) (ends f) ≤ 1
  few_ends =
      let a = ends_held e f.shape s.valid line in
      let b = count_one (λ t. holds_place t e) (of_side row.origin F) f among in
      omega (arith, a, b, single)

  moves_off : same_place e to ≡ false
  moves_off = by (same_place e to) refl
    where
      by : (b : Bool) → same_place e to ≡ b → same_place e to ≡ false
      by false t = t
      by true t =
          let a = ends_held e f.shape s.valid line in
          let b = count_two (λ t. holds_place t e) (of_side row.origin F) f g apart among p.other.among in
          let c = any_counted (λ t. holds_place t e) (sides g)
          (subst (λ (q : Place). holds_at (sides g) q ≡ true) (sym (same_is e to t)) p.other.holds) in
          absurd (omega (arith, a, b, c, single, own_end))

  abbrev new : Feature
  new = record f { shape = snapped_shape i to f.shape }

  new_ends : ends_of (snapped_shape i to f.shape) ≡ replaced i to (ends f)
  new_ends = snapped_ends i to f.shape s.valid line

  none_left : how_many (same_place e) (ends_of (snapped_shape i to f.shape)) ≡ 0
  none_left =
      let a = ap (λ (vs : List Place). how_many (same_place e) vs) new_ends in
      let b = count_replaced e to i (ends f) p.end.end moves_off in
      omega (arith, a, b, few_ends)

  put_there : 1 ≤ how_many (λ t. holds_place t to) (segments_of (snapped_shape i to f.shape))
  put_there =
      let a = ap (λ (vs : List Place). how_many (same_place to) vs) new_ends in
      let b = replaced_there to p.end.e i (ends f) p.end.end in
      let c = ends_held to (snapped_shape i to f.shape) s.made refl in
      omega (arith, a, b, c)

  -- ---- after the plan
  module _ (n : ℕ) (G : List Feature) (after : IsAfter (snapped i to f) F n G) where
    abbrev put : Option Feature
    put = reshaped (feature_at F f.handle) (snapped_shape i to f.shape)

    here : feature_at G f.handle ≡ Some new
    here =
        after.each f.handle ∙ set_here (feature_at F) f.handle put
        ∙ ap (λ (o : Option Feature). reshaped o (snapped_shape i to f.shape)) s.live

    others : (k : ℕ) → k ≢ f.handle → feature_at G k ≡ feature_at F k
    others k d = after.each k ∙ set_off (feature_at F) f.handle k put d

    other_handle : g.handle ≢ f.handle
    other_handle h = false≢true (sym p.other.apart ∙ (ap (λ (k : ℕ). k == f.handle) h ∙ own_handle f.handle))

    new_of : IsOf G row.origin f.handle new
    new_of = let k = side_from row.origin f p.on_side in record { live = here; on_side = record { class = k.class; subtype = k.subtype } }

    other_of : IsOf G row.origin g.handle g
    other_of = record { live = others g.handle other_handle ∙ other_live; on_side = side_from row.origin g other_side }

    pub snap_broken : (v : Place) → slice_get (ends f) i ≡ Some v → (q : Point) → IsAt v q → BrokenAt row F f.handle 0 q
    unfolding BrokenAt
    snap_broken v h q a =
        let same : v ≡ e = some_place (sym h ∙ p.end.end) in
        let b = subst (λ (w : Place). IsAt w q) same a in
        let u = (every_flat IsSegment sides (of_side row.origin F)).1
        (every_filter (λ (x : Feature). Every IsSegment (sides x)) (is_on_side row.origin) F s.proper) in
        subst (λ (m : RuleKind). broken_at m row.origin row.dest F f.handle 0 q) (sym p.is_rule) (record {
          f = f;
          subject = record { live = s.live; on_side = side_from row.origin f p.on_side };
          alone = refl;
          end = end_there e i (ends f) q p.end.end b;
          one_segment = (count_test IsSegment (λ t. OnSegment t q) (λ t. holds_place t e)
              (λ t k. (place_from t e q b, place_test t e q k b)) (sides_all (of_side row.origin F)) 1 u).0 p.end.loose;
        })
      where
        some_place : {x y : Place} → Some x ≡ Some y → x ≡ y
        some_place k = cc

    pub snap_old : (v : Place) → slice_get (ends f) i ≡ Some v → (b : ℕ) (q : Point) → IsAt v q → ¬ (BrokenAt row G f.handle b q)
    unfolding BrokenAt
    snap_old v h b q a = λ broken.
        let r = subst (λ (m : RuleKind). broken_at m row.origin row.dest G f.handle b q) p.is_rule broken in
        let same : v ≡ e = some_place (sym h ∙ p.end.end) in
        let is : r.f ≡ new = some_same (sym r.subject.live ∙ here) in
        let m = counted_at e q (ends_of (snapped_shape i to f.shape)) (subst (λ (w : Place). IsAt w q) same a)
        (subst (λ (x : Feature). SomeOf (λ w. IsAt w q) (ends_of x.shape)) is r.end) in
        omega (arith, m, none_left)
      where
        some_place : {x y : Place} → Some x ≡ Some y → x ≡ y
        some_place k = cc

    pub snap_new : (a b : ℕ) (q : Point) → IsAt to q → ¬ (BrokenAt row G a b q)
    snap_new a b q at =
        no_dangle row G f.handle g.handle a b new g q p.is_rule new_of other_of (λ h. other_handle (sym h))
        (held_counted to q (segments_of (snapped_shape i to f.shape)) at put_there)
        (held_counted to q (sides g) at (any_counted (λ t. holds_place t to) (sides g) p.other.holds))

    pub snap_fixes : HasSnapped row f i to F G
    snap_fixes = record { broken = snap_broken; old_place = snap_old; new_place = snap_new; others = others }

-- the call's own facts, of the rule and the feature that it found
pub snap_holds : (row found : Row) (F V : List Feature) (f subject : Feature) (h i : ℕ) (to : Place) (n : ℕ) (es : List Edit) (G : List Feature)
    → Some found ≡ Some row → Some subject ≡ Some f → feature_at F h ≡ Some f → V ≡ F → may_snap found V subject i to ≡ true
    → (es ≡ snapped i to subject) × IsShape (snapped_shape i to subject.shape) → IsShape subject.shape → IsAscending F
    → Every HasSimpleSides F → IsAfter es F n G → HasSnapped row f i to F G
snap_holds row found F V f subject h i to n es G r l live v may made valid a u after =
    let same_row : found ≡ row = some_row r in
    let same : subject ≡ f = some_same l in
    let m = subst (λ (x : Row). may_snap x F f i to ≡ true) same_row
    (subst (λ (x : Feature). may_snap found F x i to ≡ true) same (subst (λ (W : List Feature). may_snap found W subject i to ≡ true) v may)) in
    let s : Snap row F f i to = record {
      ascending = a;
      live = subst (λ (k : ℕ). feature_at F k ≡ Some f) (sym (handle_of F h f live)) live;
      proper = every_map HasSimpleSides (λ (g : Feature). Every IsSegment (sides g)) (λ g k. k.proper) F u;
      valid = subst (λ (x : Feature). IsShape x.shape) same valid;
      made = subst (λ (x : Feature). IsShape (snapped_shape i to x.shape)) same made.1;
      may = m;
    } in
    snap_fixes row F f i to s n G (subst (λ (ds : List Edit). IsAfter ds F n G) (made.0 ∙ ap (λ (x : Feature). snapped i to x) same) after)
  where
    some_row : Some found ≡ Some row → found ≡ row
    some_row e = cc

pub snapped_line : (row : Row) (F : List Feature) (f : Feature) (i : ℕ) (to : Place) → may_snap row F f i to ≡ true → f.shape.kind ≡ kind.Line
snapped_line row F f i to t = let p = parts_of row F f i to t in kind_of_ends f.shape i p.end.e p.end.end
