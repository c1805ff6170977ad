-- Rectangles whose sides are sides of those that they hold, and nodes each of which holds something.
use Rattle.std.proofs.Common.{◌≡◌, ◌≢◌, ◌⊎◌, inl, inr, refl, sym, ap, ◌∙◌, subst, ℤ, Bool, true, false, ◌||◌, cond, List, [], ◌∷◌, Contains, Result, Ok, Err}
use Rattle.std.specs.Prelude.{int_lt, OnOk, OnErr}
use Rattle.std.specs.Int.{int_min, int_max}
use Rattle.std.specs.Ordering.{int_eq}
use Rattle.std.proofs.lemmas.Bool.{false≢true, or_parts}
use Rattle.std.proofs.lemmas.Bool.Decides.{Decides-int_eq}
use Rattle.plane_terms.specs.Rectangle.{Rectangle, join_of}
use Rattle.plane_terms.proofs.ListLemmas.{IsAmong, contains_among}
use Rattle.grid_index.specs.declared.placed.Placed.{Placed}
use Rattle.grid_index.specs.Near.{HoldsSame, Gains, Loses, is_placed}
use Rattle.grid_index.specs.Nodes.{IsAttained, IsSnug, touches_side}
use Rattle.grid_index.proofs.Adding.{contains_none}
use Rattle.grid_index.proofs.Members.{among, placed_is, is_placed_self}

-- ---- lists that hold something
pub contains_nothing : (ps : List Placed) → ((q : Placed) → Contains ps q → ⊥) → ps ≡ []
contains_nothing [] none = refl
contains_nothing (p ∷ ps) none = absurd (none p (contains_among (p ∷ ps) p (inl refl)))

pub filled_gained : (ps qs : List Placed) (p : Placed) → Gains ps qs p → qs ≢ []
filled_gained ps qs p gains e = contains_none p (subst (λ l. Contains l p) e ((gains p).1 (inr refl)))

pub filled_same : (ps qs : List Placed) → HoldsSame ps qs → ps ≢ [] → qs ≢ []
filled_same ps qs same some e = some (contains_nothing ps (λ q h. contains_none q (subst (λ l. Contains l q) e ((same q).1 h))))

pub filled_through : {T E : Type 0} (o : Result T E) (ps qs : List Placed) (p : Placed) → OnOk o (Gains ps qs p) → OnErr o (HoldsSame ps qs) → ps ≢ []
    → qs ≢ []
filled_through (Ok x) ps qs p ok err some = filled_gained ps qs p ok
filled_through (Err e) ps qs p ok err some = filled_same ps qs err some

pub empty_lost : (ps qs : List Placed) (p : Placed) → Loses ps qs p → ps ≡ [] → qs ≡ []
empty_lost ps qs p loses e = contains_nothing qs (λ q h. contains_none q (subst (λ l. Contains l q) e ((loses q).0 h).0))

-- ---- one side
attained_more : (f : Rectangle → ℤ) (r : Rectangle) (ps qs : List Placed) → ((q : Placed) → Contains ps q → Contains qs q) → IsAttained f r ps
    → IsAttained f r qs
attained_more f r ps qs more a = (a.0, more a.0 a.1, a.2)

attained_either : (f : Rectangle → ℤ) (r s j : Rectangle) (ps : List Placed) → (f j ≡ f r) ⊎ (f j ≡ f s) → IsAttained f r ps → IsAttained f s ps
    → IsAttained f j ps
attained_either f r s j ps either first second = elim either [
  | inl e ↦ (first.0, first.1, first.2 ∙ sym e)
  | inr e ↦ (second.0, second.1, second.2 ∙ sym e)
]

attained_left : (f : Rectangle → ℤ) (r : Rectangle) (p : Placed) (ps : List Placed) → int_eq (f r) (f p.rect) ≡ false → IsAttained f r (p ∷ ps)
    → IsAttained f r ps
attained_left f r p ps apart a = elim (among (p ∷ ps) a.0 a.1) [
  | inl e ↦ absurd (false≢true (sym apart ∙ (Decides-int_eq (f r) (f p.rect)).1 (sym a.2 ∙ ap (λ (q : Placed). f q.rect) e)))
  | inr k ↦ (a.0, contains_among ps a.0 k, a.2)
]

min_either : (x y : ℤ) → (int_min x y ≡ x) ⊎ (int_min x y ≡ y)
min_either x y = pick (int_lt y x)
  where
    pick : (b : Bool) → (cond b y x ≡ x) ⊎ (cond b y x ≡ y)
    pick true = inr refl
    pick false = inl refl

max_either : (x y : ℤ) → (int_max x y ≡ x) ⊎ (int_max x y ≡ y)
max_either x y = pick (int_lt y x)
  where
    pick : (b : Bool) → (cond b x y ≡ x) ⊎ (cond b x y ≡ y)
    pick true = inl refl
    pick false = inr refl

-- ---- all four
pub snug_more : (r : Rectangle) (ps qs : List Placed) → ((q : Placed) → Contains ps q → Contains qs q) → IsSnug r ps → IsSnug r qs
snug_more r ps qs more s = record {
  west = attained_more (λ t. t.x0) r ps qs more s.west;
  south = attained_more (λ t. t.y0) r ps qs more s.south;
  east = attained_more (λ t. t.x1) r ps qs more s.east;
  north = attained_more (λ t. t.y1) r ps qs more s.north;
}

pub snug_one : (p : Placed) (ps : List Placed) → Contains ps p → IsSnug p.rect ps
snug_one p ps h = record { west = (p, h, refl); south = (p, h, refl); east = (p, h, refl); north = (p, h, refl) }

pub snug_joined : (r s : Rectangle) (ps : List Placed) → IsSnug r ps → IsSnug s ps → IsSnug (join_of r s) ps
snug_joined r s ps first second = record {
  west = attained_either (λ t. t.x0) r s (join_of r s) ps (min_either r.x0 s.x0) first.west second.west;
  south = attained_either (λ t. t.y0) r s (join_of r s) ps (min_either r.y0 s.y0) first.south second.south;
  east = attained_either (λ t. t.x1) r s (join_of r s) ps (max_either r.x1 s.x1) first.east second.east;
  north = attained_either (λ t. t.y1) r s (join_of r s) ps (max_either r.y1 s.y1) first.north second.north;
}

-- one that touches no side goes
pub snug_left : (r : Rectangle) (p : Placed) (ps : List Placed) → touches_side r p.rect ≡ false → IsSnug r (p ∷ ps) → IsSnug r ps
snug_left r p ps apart s =
    let halves = or_parts (int_eq r.x0 p.rect.x0 || int_eq r.y0 p.rect.y0) (int_eq r.x1 p.rect.x1 || int_eq r.y1 p.rect.y1) apart in
    let least = or_parts (int_eq r.x0 p.rect.x0) (int_eq r.y0 p.rect.y0) halves.0 in
    let greatest = or_parts (int_eq r.x1 p.rect.x1) (int_eq r.y1 p.rect.y1) halves.1 in
    record {
      west = attained_left (λ t. t.x0) r p ps least.0 s.west;
      south = attained_left (λ t. t.y0) r p ps least.1 s.south;
      east = attained_left (λ t. t.x1) r p ps greatest.0 s.east;
      north = attained_left (λ t. t.y1) r p ps greatest.1 s.north;
    }

-- ---- where nothing may be held
pub snug_filled : (r : Rectangle) (ps : List Placed) → ps ≢ [] → (ps ≡ []) ⊎ IsSnug r ps → IsSnug r ps
snug_filled r ps some s = elim s [ inl e ↦ absurd (some e) | inr k ↦ k ]

pub snug_same : (r : Rectangle) (ps qs : List Placed) → HoldsSame ps qs → (ps ≡ []) ⊎ IsSnug r ps → (qs ≡ []) ⊎ IsSnug r qs
snug_same r ps qs same s = elim s [
  | inl e ↦ inl (contains_nothing qs (λ q h. contains_none q (subst (λ l. Contains l q) e ((same q).0 h))))
  | inr k ↦ inr (snug_more r ps qs (λ q h. (same q).1 h) k)
]

-- what is left, and what is gone
pub snug_lost : (r : Rectangle) (ps qs : List Placed) (p : Placed) → Loses ps qs p → (ps ≡ []) ⊎ IsSnug r ps → (qs ≡ []) ⊎ IsSnug r (p ∷ qs)
snug_lost r ps qs p loses s = elim s [
  | inl e ↦ inl (empty_lost ps qs p loses e)
  | inr k ↦ inr (snug_more r ps (p ∷ qs) (λ q h. contains_among (p ∷ qs) q (either q h (is_placed p q) refl)) k)
]
  where
    either : (q : Placed) → Contains ps q → (b : Bool) → is_placed p q ≡ b → (q ≡ p) ⊎ IsAmong q qs
    either q h true t = inl (placed_is p q t)
    either q h false t = inr (among qs q ((loses q).1 (h, λ e. false≢true (sym t ∙ subst (λ o. is_placed p o ≡ true) (sym e) (is_placed_self p)))))
